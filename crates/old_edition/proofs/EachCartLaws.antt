-- Laws of carts converted one after the other.
use Prim.Native.Nat.{ℕ, zero, suc, ◌+◌, ◌-◌, ◌*◌, ◌≤◌, ◌<◌}
use mathlib.Core.Path.{◌≡◌, refl, sym, ap, ◌∙◌}
use mathlib.Core.Bool.{Bool, true, false}
use mathlib.Core.List.{List, [], ◌∷◌, ◌++◌, append_assoc, append-nil}
use native.Mathlib.Omega.{arith}
use native.Mathlib.Nat.{mul-suc, mul-zero}
use native.Mathlib.Numerals.{add-one}
use lib.ListN.{length, take, drop, get_or, length-append, length-drop, take-append-drop, drop_of_length-le}
use lib.Seq.{take_all, take_at, drop_at, length-take-le}
use Rattle.carts.specs.Bytes.{part, over, any}
use Rattle.carts.proofs.TestLaws.{any_at}
use Rattle.carts.proofs.EachLaws.{next_part}
use Rattle.carts.proofs.RecordLaws.{left_suc, drop_next}
use Rattle.old_edition.specs.Convert.{each_cart}

length_zero : (s : List ℕ) → length s ≡ 0 → s ≡ []
length_zero [] e = refl
length_zero (x ∷ s) e = absurd (omega arith)

-- no element passes the test that is looked for
pub any_none : {A : Type 0} (p : A → Bool) (l : List A) (d : A) → ((i : ℕ) → i < length l → p (get_or l i d) ≡ false) → any p l ≡ false
unfolding any
any_none p [] d f = refl
any_none p (x ∷ xs) d f = rw (f 0 (omega arith)) (any_none p xs d (λ i h. f (suc i) (omega arith)))

pub none_at : {A : Type 0} (p : A → Bool) (l : List A) (d : A) (i : ℕ) → any p l ≡ false → i < length l → p (get_or l i d) ≡ false
none_at p l d i e h = go (p (get_or l i d)) refl
  where
    go : (b : Bool) → p (get_or l i d) ≡ b → b ≡ false
    go true f = sym (any_at p l d i h f) ∙ e
    go false f = refl

-- the bytes up to the end of a part that was put in
take_put : (out : List ℕ) (at n : ℕ) (ys : List ℕ) → at ≤ length out → length ys ≡ n → take (at + n) (over out at n ys) ≡ take at out ++ ys
take_put out at n ys h e =
    let l : length (take at out ++ ys) ≡ at + n = rw (length-append, length-take-le at out h, e) in
    rw (← append_assoc (take at out) ys (drop n (drop at out))) (take_at (take at out ++ ys) (drop n (drop at out)) (at + n) l)

-- a chunk that an iterator over s gives after i others: it is the part at its place, what is left begins after it, and s has that much
pub record NextChunk (size i : ℕ) (s x later : List ℕ) : Type 0 where
  pub here : x ≡ take size (drop (size * i) s)
  pub left : later ≡ drop (size * (i + 1)) s
  pub room : size * i + size ≤ length s

pub next_chunk : (size i : ℕ) (s x later : List ℕ) {rest : List ℕ} → 0 < size → rest ≡ drop (size * i) s → rest ≡ x ++ later → length x ≡ size → NextChunk size i s x later
next_chunk size i s x later h place given l =
    let e : drop (size * i) s ≡ x ++ later = sym place ∙ given in
    let n : length s - size * i ≡ length x + length later = sym (length-drop (size * i) s) ∙ ap length e ∙ length-append x later in
    record {
      here = sym (ap (take size) e ∙ take_at x later size l);
      left = sym (sym (drop_next size i s) ∙ ap (drop size) e ∙ drop_at x later size l);
      room = omega arith;
    }

-- and where too little is left for one
pub chunks_end : (size i : ℕ) (s : List ℕ) {rest : List ℕ} → rest ≡ drop (size * i) s → length rest < size → length s < size * i + size
chunks_end size i s place h =
    let e : length s - size * i < size = rw (place, length-drop) at h in
    omega arith

-- a list, and others put in the place of what stands after it
pub put_ends : (ys r zs : List ℕ) (k : ℕ) → length ys ≡ k → over (ys ++ r) k (length (ys ++ r) - k) zs ≡ ys ++ zs
put_ends ys r zs k e =
    let n : length r ≤ length (ys ++ r) - k = rw length-append (omega arith) in
    rw (take_at ys r k e, drop_at ys r k e, drop_of_length-le r n, append-nil zs)

-- a turn of a loop that converts carts, and its end: i of n carts of `size` bytes are converted to `place` bytes each
module _ (f : List ℕ → List ℕ) (size place n i : ℕ) (s out : List ℕ) where
  each_cart_next : i < n → each_cart f size (n - i) (drop (size * i) s) ≡ f (take size (drop (size * i) s)) ++ each_cart f size (n - (i + 1)) (drop (size * (i + 1)) s)
  unfolding each_cart
  each_cart_next h = rw (left_suc n i h, ← drop_next size i s)

  pub put_more : (ys : List ℕ) {whole : List ℕ} → i < n → place * i ≤ length out → length ys ≡ place → ys ≡ f (take size (drop (size * i) s))
      → whole ≡ take (place * i) out ++ each_cart f size (n - i) (drop (size * i) s)
      → whole ≡ take (place * (i + 1)) (over out (place * i) place ys) ++ each_cart f size (n - (i + 1)) (drop (size * (i + 1)) s)
  put_more ys h room l e inv =
      let k : place * (i + 1) ≡ place * i + place = ap (λ j. place * j) (add-one i) ∙ mul-suc place i in
      inv
      ∙ ap (λ r. take (place * i) out ++ r) (each_cart_next h ∙ ap (λ y. y ++ each_cart f size (n - (i + 1)) (drop (size * (i + 1)) s)) (sym e))
      ∙ sym (append_assoc (take (place * i) out) ys (each_cart f size (n - (i + 1)) (drop (size * (i + 1)) s)))
      ∙ ap (λ r. r ++ each_cart f size (n - (i + 1)) (drop (size * (i + 1)) s)) (sym (ap (λ j. take j (over out (place * i) place ys)) k ∙ take_put out (place * i) place ys room l))

  pub put_done : {whole : List ℕ} → n ≤ i → length out ≤ place * i → whole ≡ take (place * i) out ++ each_cart f size (n - i) (drop (size * i) s) → out ≡ whole
  unfolding each_cart
  put_done h room inv = let z : n - i ≡ 0 = omega arith in sym (inv ∙ rw (z, take_all (place * i) out room) (append-nil out))

-- each of n carts of `size` bytes becomes one of `place` bytes: the length, a cart at its place, and the way back
module _ (f : List ℕ → List ℕ) (size place : ℕ) (sized : (x : List ℕ) → length x ≡ size → length (f x) ≡ place) where
  first_sized : (n : ℕ) (s : List ℕ) → length s ≡ size * suc n → length (f (take size s)) ≡ place
  first_sized n s l = sized (take size s) (length-take-le size s (rw (l, mul-suc) (omega arith)))

  rest_sized : (n : ℕ) (s : List ℕ) → length s ≡ size * suc n → length (drop size s) ≡ size * n
  rest_sized n s l = length-drop size s ∙ rw (l, mul-suc) (omega arith)

  pub length_each : (n : ℕ) (s : List ℕ) → length s ≡ size * n → length (each_cart f size n s) ≡ place * n
  unfolding each_cart
  length_each zero s l = sym (mul-zero place)
  length_each (suc n) s l =
      rw (length-append, first_sized n s l, length_each n (drop size s) (rest_sized n s l), mul-suc) (omega arith)

  pub part_each : (n : ℕ) (s : List ℕ) (i : ℕ) → length s ≡ size * n → i < n → part (each_cart f size n s) (place * i) place ≡ f (part s (size * i) size)
  unfolding each_cart
  part_each zero s i l h = let z : ⊥ = omega arith in absurd z
  part_each (suc n) s zero l h = rw (mul-zero, mul-zero) (take_at (f (take size s)) (each_cart f size n (drop size s)) place (first_sized n s l))
  part_each (suc n) s (suc i) l h =
      sym (next_part place i (f (take size s) ++ each_cart f size n (drop size s)))
      ∙ ap (λ r. part r (place * i) place) (drop_at (f (take size s)) (each_cart f size n (drop size s)) place (first_sized n s l))
      ∙ part_each n (drop size s) i (rest_sized n s l) (omega arith)
      ∙ ap f (next_part size i s)

  pub each_back : (g : List ℕ → List ℕ) (n : ℕ) (s : List ℕ) → length s ≡ size * n
      → ((i : ℕ) → i < n → g (f (part s (size * i) size)) ≡ part s (size * i) size) → each_cart g place n (each_cart f size n s) ≡ s
  unfolding each_cart
  each_back g zero s l back = sym (length_zero s (l ∙ mul-zero size))
  each_back g (suc n) s l back =
      let first : g (f (take size s)) ≡ take size s = rw (mul-zero size) at (back 0 (omega arith)) in
      let e : length (f (take size s)) ≡ place = first_sized n s l in
      let rest : each_cart g place n (each_cart f size n (drop size s)) ≡ drop size s = each_back g n (drop size s) (rest_sized n s l) (λ i h. rw (next_part size i s) (back (suc i) (omega arith))) in
      rw (take_at (f (take size s)) (each_cart f size n (drop size s)) place e, drop_at (f (take size s)) (each_cart f size n (drop size s)) place e, first, rest)
      (take-append-drop size s)
