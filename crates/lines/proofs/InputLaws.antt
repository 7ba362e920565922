-- Laws of a transcript's bytes: what starts_with, contains and strip_suffix say of them.
use Prim.Native.Nat.{ℕ, suc, ◌+◌, ◌-◌, ◌<◌, ◌≤◌}
use mathlib.Core.Path.{◌≡◌, refl, ◌∙◌}
use mathlib.Core.Bool.{Bool, true, false, cond, not, ◌&&◌}
use mathlib.Core.List.{List, [], ◌∷◌}
use native.Mathlib.Omega.{arith}
use lib.Dec.{eqb}
use lib.ListN.{length, get_or, take, drop, drop_of_length-le}
use lib.Seq.{drop-cons, take_all}
use Rattle.std.proofs.Common.{nat_eq, inl, inr}
use Rattle.std.proofs.Math.Dec.{eqb-suc-suc}
use borrow.Author.Tests.{le-leb}
use Rattle.std.proofs.lemmas.Bool.Decides.{nat_tests, eqb_tells}
use Rattle.std.specs.Cmp.Lexicographic.{pointwise}
use Rattle.std.specs.List.{list_any}
use Rattle.std.specs.Prelude.{Option, Some, None}
use Rattle.std.specs.Option.{MatchOption, unwrap_or}
use denote.Ref.{Bor}
use Rattle.carts.specs.Bytes.{byte}
use Rattle.lines.specs.declared.text.Class.TheVariants.{Other}
use Rattle.lines.specs.Text.{run_length, run_end, part_in}
use Rattle.lines.specs.Input.{line_length}

-- two or three bytes at the start, none of them zero
swap : (a b : ℕ) → nat_eq a b ≡ eqb b a
swap a b = grind (arith, nat_tests)

below : (p : ℕ) → eqb 0 (suc p) ≡ false
below p = grind (arith, nat_tests)

and_one : (a : Bool) → a && false ≡ false
and_one true = refl
and_one false = refl

and_two : (a b : Bool) → a && (b && true) ≡ a && b
and_two true true = refl
and_two true false = refl
and_two false b = refl

and_three : (a b d : Bool) → a && (b && (d && true)) ≡ (a && b) && d
and_three true true true = refl
and_three true true false = refl
and_three true false d = refl
and_three false b d = refl

pub starts_two : (p q : ℕ) (s : List ℕ) → pointwise nat_eq (suc p ∷ suc q ∷ []) (take 2 s) ≡ eqb (byte s 0) (suc p) && eqb (byte s 1) (suc q)
starts_two p q [] = rw (below p)
starts_two p q (a ∷ []) = rw (below q, and_one (nat_eq (suc p) a), and_one (eqb a (suc p)))
starts_two p q (a ∷ b ∷ s) = rw (and_two (nat_eq (suc p) a) (nat_eq (suc q) b), swap (suc p) a, swap (suc q) b)

pub starts_three : (p q r : ℕ) (s : List ℕ) → pointwise nat_eq (suc p ∷ suc q ∷ suc r ∷ []) (take 3 s) ≡ (eqb (byte s 0) (suc p) && eqb (byte s 1) (suc q)) && eqb (byte s 2) (suc r)
starts_three p q r [] = rw (below p)
starts_three p q r (a ∷ []) = rw (below q, and_one (nat_eq (suc p) a), and_one (eqb a (suc p)))
starts_three p q r (a ∷ b ∷ []) = rw (below r, and_one (nat_eq (suc q) b), and_one (nat_eq (suc p) a), and_one (eqb a (suc p) && eqb b (suc q)))
starts_three p q r (a ∷ b ∷ d ∷ s) = rw (and_three (nat_eq (suc p) a) (nat_eq (suc q) b) (nat_eq (suc r) d), swap (suc p) a, swap (suc q) b, swap (suc r) d)

-- no zero byte
pub no_zero : (s : List ℕ) → not (list_any (λ y. nat_eq y 0) s) ≡ eqb (run_length (Other 0) s) (length s)
unfolding run_length
no_zero [] = refl
no_zero (x ∷ s) = let e = no_zero s in elim (eqb_tells x 0) [ inl h ↦ rw (h.0, below (length s)) | inr h ↦ rw (h.0, eqb-suc-suc) e ]

pub no_zero_run : (s : List ℕ) → not (list_any (λ y. nat_eq y 0) s) ≡ eqb (run_end s 0 (Other 0)) (length s)
no_zero_run s = let e : run_end s 0 (Other 0) ≡ run_length (Other 0) s = omega arith in rw e (no_zero s)

-- the return at the end
and_end : (a : Bool) → a && true ≡ a
and_end true = refl
and_end false = refl

pub ends_return : (s : List ℕ) → pointwise nat_eq (drop (length s - 1) s) (13 ∷ []) ≡ eqb (byte s (length s - 1)) 13
ends_return [] = refl
ends_return (x ∷ s) =
    let e : suc (length s) - 1 ≡ length s = omega arith in
    let h : length s < length (x ∷ s) = omega arith in
    rw (e, drop-cons (x ∷ s) (length s) 0, drop_of_length-le s {i = length s} (omega arith), and_end (eqb (get_or (x ∷ s) (length s) 0) 13))

part_front : (s : List ℕ) (n : ℕ) → n ≤ length s → part_in s 0 n ≡ take n s
part_front s n h = let l : 0 + n ≤ length s = omega arith in rw (le-leb (0 + n) (length s) l)

pub line_without : (s : List ℕ) → part_in s 0 (line_length s) ≡ cond (eqb (byte s (length s - 1)) 13) (take (length s - 1) s) s
unfolding line_length
line_without s =
    elim (eqb_tells (byte s (length s - 1)) 13) [
      | inl h ↦ rw h.0 (part_front s (length s - 1) (omega arith))
      | inr h ↦ rw h.0 (part_front s (length s) (omega arith) ∙ take_all (length s) s (omega arith))
    ]

pub returned : (s : Bor (List ℕ)) (r : Option (Bor (List ℕ))) →
    let ends = pointwise nat_eq (drop (length s.now - 1) s.now) (13 ∷ []) in
    MatchOption r (ends ≡ false) (λ x. (ends ≡ true) × (x.now ≡ take (length s.now - 1) s.now) × (length x.now + 1 ≡ length s.now)) →
    (unwrap_or r s).now ≡ part_in s.now 0 (line_length s.now)
returned s None h = rw (line_without s.now, ← ends_return s.now, h)
returned s (Some x) h = rw (line_without s.now, ← ends_return s.now, h.0) h.1
