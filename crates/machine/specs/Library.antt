-- Document 01, "The one-copy order": the single library, fed with entries and "nothing from the engine's memory".
use Rattle.std.specs.Prelude.{cond, List, [], ◌∷◌, ℕ, ◌+◌}
use Rattle.carts.specs.Bytes.{zeros}
use Rattle.carts.specs.Cart.{copy_size}
use Rattle.carts.specs.Operation.{meets_all, act_all}
use Rattle.carts.specs.Transaction.{Transaction}
use Rattle.replication.specs.Request.{Request, found_in, shown_from}

-- "each with its operations or its request"
pub data Input : Type 0 where
  operations : Transaction → Input
  request : Request → Input

-- what a library says that stays as it is: "refusal 8"; for a read "found and the first .. bytes of output"
pub data Said : Type 0 where
  refused8 : Said
  shown : ℕ → List ℕ → Said

-- "for a commit the number; for a read the state, found and ..": the count that the commit made, or the count of the library that said so (02,
-- S-3: "answered by a library of that many commits")
pub data Reply : Type 0 where
  number : ℕ → Reply
  at : ℕ → Said → Reply

-- "The single library holds a count .. and 128 carts"
pub record Library : Type 0 where
  pub count : ℕ
  pub carts : List ℕ

abbrev pub library : ℕ → List ℕ → Library
library n copy = record { count = n; carts = copy }

-- "a count, at first 0, and 128 carts, at first empty"
unfoldable pub empty_library : Library
empty_library = library 0 (zeros copy_size)

-- "A commit: if every operation meets its cart in the right state there, after the ones before it, all act by the effect above, the count
-- rises by one, and the answer is the count. Otherwise nothing changes and the answer is refusal 8."
-- "A read: the answer is the count as its state, with found and carts by the rule above .. Nothing changes."
unfoldable pub serve : Library → Input → Reply × Library
serve l (operations ops) =
    let n = l.count + 1 in
    cond (meets_all l.carts ops) (number n, library n (act_all l.carts ops)) (at l.count refused8, l)
serve l (request q) = (at l.count (shown (found_in l.carts q) (shown_from l.carts q)), l)

-- "fed the entries in their order": the replies
unfoldable pub play : Library → List Input → List Reply
play l [] = []
play l (x ∷ xs) = let (reply, next) = serve l x in reply ∷ play next xs
