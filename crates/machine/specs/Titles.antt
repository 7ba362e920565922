-- Demand 2, "A title is kept whole or refused": the commits that write a title, the transactions that leave a cart as it is, and the reads that show
-- it.
use Rattle.std.specs.Prelude.{◌≡◌, Bool, true, not, List, [], ◌∷◌, ◌++◌, ℕ, length, eqb}
use Rattle.carts.specs.Bytes.{part, byte, within, every}
use Rattle.carts.specs.Cart.{cart_size, cart_count, title_size, title_at, cart_number, cart_at}
use Rattle.carts.specs.Operation.{writes_title, operations_of}
use Rattle.carts.specs.Transaction.{Transaction}
use Rattle.carts.specs.Title.{titled_in}

-- the title in a cart or an operation: "byte 1 title length"; "16–79 the title"
abbrev pub title_in : List ℕ → List ℕ
title_in s = byte s 1 ∷ part s title_at title_size

-- no operation of the transaction has cart number c
unfoldable pub spares : ℕ → Transaction → Bool
spares c t = every (λ op. not (eqb (cart_number op) c)) t

-- the bytes of a commit whose last operation on its cart is op, a new or a retitle
pub record Writes (bytes op : List ℕ) : Type 0 where
  pub before : Transaction
  pub later : Transaction
  pub operations : operations_of bytes ≡ before ++ (op ∷ later)
  pub last : spares (cart_number op) later ≡ true
  pub title : writes_title op ≡ true

-- "By title: .. the one cart if found is 1": of the copy's carts this one alone has the title, letter by letter, and output begins with it
pub record ShowsTheOne (title copy output : List ℕ) : Type 0 where
  pub cart : ℕ
  pub inside : within 1 cart_count cart ≡ true
  pub alone : titled_in title copy ≡ cart ∷ []
  pub shown : part output 0 cart_size ≡ cart_at copy cart
  pub size : byte (cart_at copy cart) 1 ≡ length title
  pub letters : part (cart_at copy cart) title_at (length title) ≡ title
