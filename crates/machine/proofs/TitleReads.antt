-- A read by title that found 1 shows the one cart that has the title.
use Prim.Native.Nat.{ℕ, zero, suc, ◌+◌, ◌*◌, ◌-◌, ◌≤◌, ◌<◌}
use native.Mathlib.Omega.{arith}
use mathlib.Core.Path.{◌≡◌, refl, ap}
use mathlib.Core.Bool.{Bool, true, false, cond, ◌&&◌}
use mathlib.Core.List.{List, [], ◌∷◌, ◌++◌}
use lib.Dec.{eqb}
use lib.ListN.{length, take, drop}
use lib.Seq.{take_at}
use borrow.Author.Tests.{eqb-true}
use Rattle.carts.specs.Bytes.{part, byte, pairwise}
use Rattle.carts.specs.Cart.{copy_size, cart_at, held}
use Rattle.carts.specs.Transaction.{L}
use Rattle.carts.specs.Title.{same_letter, titled, titled_from, titled_in, the_one}
use Rattle.carts.proofs.TestLaws.{and_left, and_right, within_of, pairwise_eq}
use Rattle.carts.proofs.EachLaws.{next_part}
use Rattle.carts.proofs.CartLaws.{length_cart}
use Rattle.replication.specs.Answer.{answered}
use Rattle.replication.specs.Request.{by_title, found_in, shown_from}
use Rattle.replication.specs.Call as Call
use Rattle.machine.specs.Machine.{Machine, call}
use Rattle.machine.specs.Asked.{asked}
use Rattle.machine.specs.Titles.{ShowsTheOne}
use Rattle.machine.proofs.Libraries.{length_L}
use Rattle.machine.proofs.Sound.{Sound}
use Rattle.machine.proofs.Shown.{call_shows}

-- a list of one
the_one_law : (xs : List ℕ) → 1 ≡ length xs → (c : ℕ) × (xs ≡ c ∷ [])
the_one_law [] e = absurd (omega arith)
the_one_law (c ∷ []) e = (c, refl)
the_one_law (c ∷ d ∷ xs) e = absurd (omega arith)

-- of n carts, the first of them cart m, the one found has the title
one_titled : (title : List ℕ) (n m c : ℕ) (s : List ℕ) → titled_from title n m s ≡ c ∷ []
    → (m ≤ c) × (c < m + n) × (titled title (part s (80 * (c - m)) 80) ≡ true)
unfolding titled_from
one_titled title zero m c s e = let z : ◌≡◌ {A = ℕ} 0 1 = ap length e in absurd (omega arith)
one_titled title (suc n) m c s e = go (titled title (take 80 s)) refl e (one_titled title n (m + 1) c (drop 80 s))
  where
    go : (b : Bool) → titled title (take 80 s) ≡ b → let rest = titled_from title n (m + 1) (drop 80 s) in cond b (m ∷ rest) rest ≡ c ∷ []
        → (rest ≡ c ∷ [] → (m + 1 ≤ c) × (c < m + 1 + n) × (titled title (part (drop 80 s) (80 * (c - (m + 1))) 80) ≡ true))
        → (m ≤ c) × (c < m + suc n) × (titled title (part s (80 * (c - m)) 80) ≡ true)
    go true h e others =
        let same : m ≡ c = cc in
        let first : c - m ≡ 0 = omega arith in
        (omega arith, omega arith, rw first h)
    go false h e others =
        let (low, high, has) = others e in
        let later : c - m ≡ suc (c - (m + 1)) = omega arith in
        (omega arith, omega arith, rw (later, ← next_part 80 (c - (m + 1)) s) has)

-- it has the title's length and letters
has_title_law : (title cart : List ℕ) → titled title cart ≡ true → (byte cart 1 ≡ length title) × (part cart 16 (length title) ≡ title)
unfolding titled same_letter
has_title_law title cart e =
    let letters : Bool = pairwise eqb (part cart 16 (length title)) title in
    let h = and_right (held cart) (eqb (byte cart 1) (length title) && letters) e in
    (eqb-true _ _ (and_left (eqb (byte cart 1) (length title)) letters h), pairwise_eq _ _ (and_right (eqb (byte cart 1) (length title)) letters h))

-- and is what a copy shows
shows_one : (title copy output rest : List ℕ) → length copy ≡ copy_size → output ≡ the_one copy (titled_in title copy) ++ rest → (c : ℕ) × (titled_in title copy ≡ c ∷ [])
    → ShowsTheOne title copy output
unfolding the_one titled_in cart_at
shows_one title copy output rest l e (c, alone) =
    let (low, high, has) = one_titled title 128 1 c copy alone in
    let (size, letters) = has_title_law title (cart_at copy c) has in
    record {
      cart = c;
      inside = within_of 1 128 c low (omega arith);
      alone = alone;
      shown = rw (e, alone) (take_at (cart_at copy c) rest 80 (length_cart copy c l (omega arith)));
      size = size;
      letters = letters;
    }

pub title_read_law : (m : Machine) → Sound m → (x : Call.Call) (k : ℕ) (title : List ℕ) → (call m x).answer ≡ answered k 1 → asked m x ≡ by_title title
    → ShowsTheOne title (L m.log k) (call m x).output
unfolding found_in shown_from
title_read_law m f x k title answer q =
    let copy : List ℕ = L m.log k in
    let r = call_shows m f k 1 x answer in
    let count : 1 ≡ length (titled_in title copy) = rw q at r.count in
    let output : (call m x).output ≡ the_one copy (titled_in title copy) ++ r.rest = rw q at r.output in
    shows_one title copy _ _ (length_L m.log k f.formed) output (the_one_law (titled_in title copy) count)
