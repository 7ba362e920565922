-- WORKED EXAMPLES of the operation at fault and of refused commits in the order, by computation.
use mathlib.Core.Path.{◌≡◌, refl}
use mathlib.Core.Bool.{true, false}
use mathlib.Core.List.{List, [], ◌∷◌, ◌++◌}
use Prim.Native.Nat.{ℕ}
use Rattle.carts.specs.Bytes.{zeros, u16, u32, u16_bytes, within, all, every, any, all_zero, parts}
use Rattle.carts.specs.Cart.{cart_at, printable, title_form, has_title, no_title, has_audio, no_audio, held}
use Rattle.carts.specs.Operation.{operation_fields, operation_form, spaced, operations_of, made, meets_cart, effect, acted_on, meets, act, meets_all}
use Rattle.carts.proofs.Samples.{u32_bytes, operation, new_cart, withdraw_cart, news}
use Rattle.journal.specs.History.{entry_at, is_commit, rank_of, commit_kind, read_kind, refused_kind}
use Rattle.journal.specs.Progress.{entry_of}
use Rattle.journal.specs.declared.history.Entry.{Entry}
use Rattle.one_copy.specs.Fault.{allowed, first_fault}
use Rattle.std.specs.Prelude.{Some, None}
use Rattle.one_copy.specs.Replay.{plays}
use Rattle.one_copy.specs.Order.{of_rank, by_rank, ranks_of, ops_of, commits, copy_after, count_after, refusal_agrees, commit_agrees, is_same}

-- a short copy of eight empty carts: new 7 meets its cart on it, withdraw 8 does not, and withdraw 0 is out of form; whoever unfolds it unfolds all that
-- an operation is judged by
unfoldable none : List ℕ
unfolding zeros u16 u32 u16_bytes within all every any all_zero parts cart_at printable title_form has_title no_title has_audio no_audio held operation_fields operation_form spaced operations_of made meets_cart effect acted_on meets act meets_all u32_bytes operation new_cart withdraw_cart news
none = zeros 640

-- new 7 "News", and new 7 " News"
unfoldable plain_news : List ℕ
plain_news = new_cart 7 news 1 1

unfoldable spaced_news : List ℕ
spaced_news = new_cart 7 (32 ∷ news) 1 1

pub record Faults : Type 0 where
  by_space : first_fault none 16 (withdraw_cart 8 ++ spaced_news) 8 ≡ Some 2
  by_first_space : first_fault none 16 (spaced_news ++ (plain_news ++ spaced_news)) 8 ≡ Some 1
  no_space : first_fault none 16 (plain_news ++ withdraw_cart 8) 8 ≡ None
  by_form : first_fault none 6 (spaced_news ++ withdraw_cart 0) 8 ≡ Some 2
  by_state : first_fault none 8 (spaced_news ++ withdraw_cart 8) 8 ≡ Some 2
  by_state_in_turn : first_fault none 8 (plain_news ++ plain_news) 8 ≡ Some 2

pub faults : Faults
unfolding none plain_news spaced_news allowed first_fault
faults = record {
  by_space = refl;
  by_first_space = refl;
  no_space = refl;
  by_form = refl;
  by_state = refl;
  by_state_in_turn = refl;
}

-- a commit of one operation, in slot 0, that was refused with 8 at k commits
unfoldable refused_at : ℕ → Entry
refused_at k = record { kind = refused_kind; line = 9; session = 1; number = k; found = 0; first = 0; slots = 1 }

-- commit 1, a read at state 0, a commit refused with 8 at 1 commit, commit 2, and a read at state 1
unfoldable five : List Entry
five = entry_of commit_kind 5 1 1 0 ∷ entry_of read_kind 6 2 0 0 ∷ entry_of refused_kind 7 2 1 0 ∷ entry_of commit_kind 8 1 2 0 ∷ entry_of read_kind 9 2 1 0 ∷ []

-- the library's count decides as well as its carts; operations that it plays change it, so that the refusal is not its answer
pub record Refusals : Type 0 where
  at_its_count : is_same (withdraw_cart 8) (refused_at 2) none 2 ≡ true
  stays : copy_after (withdraw_cart 8) (refused_at 2) none 2 ≡ none
  at_another_count : is_same (withdraw_cart 8) (refused_at 2) none 3 ≡ false
  out_of_form : is_same (withdraw_cart 0) (refused_at 2) none 2 ≡ false
  played : is_same plain_news (refused_at 2) none 2 ≡ false
  counts : count_after plain_news (refused_at 2) none 2 ≡ 3
  order : by_rank (ranks_of five) 5 0 6 ≡ 1 ∷ 0 ∷ 2 ∷ 4 ∷ 3 ∷ []

pub refusals : Refusals
unfolding none plain_news refused_at five entry_at is_commit rank_of plays of_rank by_rank ops_of commits copy_after count_after refusal_agrees commit_agrees is_same
refusals = record {
  at_its_count = refl;
  stays = refl;
  at_another_count = refl;
  out_of_form = refl;
  played = refl;
  counts = refl;
  order = refl;
}
