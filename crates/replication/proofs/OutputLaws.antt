-- Laws of output: what a read by numbers and a read by title find in a copy and write, by the code's cases.
use Prim.Native.Nat.{ℕ, zero, suc, ◌+◌, ◌-◌, ◌*◌, ◌<◌, ◌≤◌}
use mathlib.Core.Path.{◌≡◌, refl, sym, ap, ap₂, ◌∙◌}
use mathlib.Core.Bool.{Bool, true, false, cond}
use mathlib.Core.List.{List, [], ◌∷◌, ◌++◌, append_assoc}
use native.Mathlib.Nat.{add-sub_cancel_left, sub-zero}
use native.Mathlib.Omega.{arith}
use lib.ListN.{length, take, drop, get_or, take-append-drop, length-append}
use lib.Seq.{length-take-le, take_at, drop_at, drop-drop}
use lib.Dec.{eqb}
use types.Run.{OneOf}
use denote.Enum.Declared.{tag_of}
use Rattle.carts.specs.Bytes.{zeros, part, over, byte, u16, u16s, within, every, all_zero}
use Rattle.carts.specs.Cart.{cart_at, held, title_form, printable}
use Rattle.carts.specs.Title.{shown_by_numbers, found_by_numbers, titled_in, the_one, search_answer, found_count}
use Rattle.carts.specs.declared.titles.Found.{Found}
use Rattle.carts.specs.declared.titles.Found.TheVariants.{One}
use Rattle.carts.specs.contracts.titles.Found.{the_type}
use Rattle.carts.proofs.TestLaws.{all_at, by_cond, within_low, within_high, every_at}
use Rattle.carts.proofs.TitleLaws.{found_length, found_one, found_other, not_one}
use Rattle.replication.specs.Request.{Request, nothing, by_numbers, by_title, numbers_in, request_of, numbers_form, request_fields, needed, found_in, shown_from}
use Rattle.replication.specs.Values.{waiting_value, session_value}
use Rattle.replication.specs.declared.session.Session.{Session}
use Rattle.replication.specs.declared.session.Waiting.{Waiting}
use Rattle.replication.specs.declared.session.Waiting.TheVariants.{Nothing, Numbers, Title}
use Rattle.replication.specs.contracts.session.Waiting as WaitingType
use Rattle.replication.proofs.RequestLaws.{u16_behind, numbers_next, length_u16s}

-- two parts side by side
pub over_beside : (s : List ℕ) (a n m : ℕ) (ys zs : List ℕ) → a + n ≤ length s → length ys ≡ n → over (over s a n ys) (a + n) m zs ≡ over s a (n + m) (ys ++ zs)
over_beside s a n m ys zs h e =
    let rest : List ℕ = drop n (drop a s) in
    let k : length (take a s ++ ys) ≡ a + n = simp (length-append, length-take-le a s (omega arith), e) in
    let front : take (a + n) (over s a n ys) ≡ take a s ++ ys = ap (take (a + n)) (sym (append_assoc (take a s) ys rest)) ∙ take_at (take a s ++ ys) rest (a + n) k in
    let back : drop (a + n) (over s a n ys) ≡ rest = ap (drop (a + n)) (sym (append_assoc (take a s) ys rest)) ∙ drop_at (take a s ++ ys) rest (a + n) k in
    rw (front, back, drop-drop m n (drop a s)) (simp append_assoc)

-- of n parts of 80 bytes, of which i have been written, the next is written
pub part_more : (out place rest : List ℕ) (n i : ℕ) → i < n → 80 * n ≤ length out → length place ≡ 80
    → over out (80 * i) (80 * (n - i)) (place ++ rest) ≡ over (over out (80 * i) (80 * i + 80 - 80 * i) place) (80 * (i + 1)) (80 * (n - (i + 1))) rest
part_more out place rest n i h l k =
    let next : 80 * (i + 1) ≡ 80 * i + 80 = omega arith in
    let size : 80 * (n - i) ≡ 80 + 80 * (n - (i + 1)) = omega arith in
    sym (rw (add-sub_cancel_left, next, size) (over_beside out (80 * i) 80 (80 * (n - (i + 1))) place rest (omega arith) k))

-- the numbers left of n, of which i have been passed
abbrev pub Left : List ℕ → ℕ → ℕ → List ℕ
Left x n i = u16s (n - i) (drop (2 * i) (drop 16 x))

-- the loop that shows carts by their numbers: its start, a turn, its end
all_left : (x : List ℕ) (n : ℕ) → n ≡ byte x 1 → numbers_in x ≡ Left x n 0
unfolding numbers_in
all_left x n e = let z : n - 0 ≡ byte x 1 = sub-zero n ∙ e in rw z

module _ (copy x : List ℕ) (n : ℕ) (e : n ≡ byte x 1) where
  pub found_start : found_by_numbers copy (numbers_in x) ≡ 0 + found_by_numbers copy (Left x n 0)
  found_start = let a = ap (found_by_numbers copy) (all_left x n e) in omega arith

  pub shown_start : (out : List ℕ) → over out 0 (80 * n) (shown_by_numbers copy (numbers_in x)) ≡ over out (80 * 0) (80 * (n - 0)) (shown_by_numbers copy (Left x n 0))
  shown_start out = ap₂ (λ m y. over out 0 (80 * m) (shown_by_numbers copy y)) (sym (sub-zero n)) (all_left x n e)

module _ (copy x : List ℕ) (n i : ℕ) where
  pub found_more : (found more : ℕ) {whole : ℕ} → i < n → whole ≡ found + found_by_numbers copy (Left x n i) → more ≡ cond (held (cart_at copy (u16 x (16 + 2 * i)))) 1 0
      → whole ≡ found + more + found_by_numbers copy (Left x n (i + 1))
  unfolding found_by_numbers
  found_more found more h inv e = let next = inv ∙ ap (λ l. found + found_by_numbers copy l) (numbers_next x n i h) in
      rw e (omega arith)

  pub shown_more : (out place : List ℕ) {whole : List ℕ} → i < n → 80 * n ≤ length out → length place ≡ 80 → whole ≡ over out (80 * i) (80 * (n - i)) (shown_by_numbers copy (Left x n i))
      → place ≡ cart_at copy (u16 x (16 + 2 * i)) → whole ≡ over (over out (80 * i) (80 * i + 80 - 80 * i) place) (80 * (i + 1)) (80 * (n - (i + 1))) (shown_by_numbers copy (Left x n (i + 1)))
  unfolding shown_by_numbers
  shown_more out place h l k inv e =
      let shown = shown_by_numbers copy (Left x n (i + 1)) in
      let now : shown_by_numbers copy (Left x n i) ≡ place ++ shown = ap (shown_by_numbers copy) (numbers_next x n i h) ∙ ap (λ y. y ++ shown) (sym e) in
      inv ∙ ap (over out (80 * i) (80 * (n - i))) now ∙ part_more out place shown n i h l k

  pub found_end : (found : ℕ) {whole : ℕ} → n ≤ i → whole ≡ found + found_by_numbers copy (Left x n i) → found ≡ whole
  unfolding found_by_numbers u16s
  found_end found h inv = let z : n - i ≡ 0 = omega arith in let e = rw z at inv in omega arith

  pub shown_end : (out : List ℕ) {whole : List ℕ} → n ≤ i → whole ≡ over out (80 * i) (80 * (n - i)) (shown_by_numbers copy (Left x n i)) → out ≡ whole
  unfolding shown_by_numbers u16s
  shown_end out h inv = let z : n - i ≡ 0 = omega arith in sym ((rw z at inv) ∙ take-append-drop (80 * i) out)

-- a cart that is held, or not, is one at most
pub one_at_most : (cart : List ℕ) (m : ℕ) → m ≡ cond (held cart) 1 0 → m ≤ 1
one_at_most cart m e = rw e (by_cond (λ k. k ≤ 1) (held cart) 1 0 (λ h. omega arith) (λ h. omega arith))

-- the numbers of a request of its form: how many, and each of them
u16s_at : (n : ℕ) (s : List ℕ) (i : ℕ) → i < n → get_or (u16s n s) i 0 ≡ u16 s (2 * i)
unfolding u16s
u16s_at zero s i h = let z : ⊥ = omega arith in absurd z
u16s_at (suc n) s zero h = refl
u16s_at (suc n) s (suc i) h = let e : 2 + 2 * i ≡ 2 * suc i = omega arith in u16s_at n (drop 2 s) i (omega arith) ∙ u16_behind s 2 (2 * i) ∙ ap (u16 s) e

module _ (x : List ℕ) (f : numbers_form x ≡ true) where
  number_tests : List Bool
  number_tests = within 1 32 (byte x 1) ∷ every (within 1 128) (numbers_in x) ∷ all_zero (drop (2 * byte x 1) (part x 16 64)) ∷ []

  pub few_numbers : byte x 1 ≤ 32
  unfolding numbers_form number_tests
  few_numbers = within_high 1 32 (byte x 1) (all_at 0 number_tests f)

  pub number_within : (i : ℕ) → i < byte x 1 → (1 ≤ u16 x (16 + 2 * i)) × (u16 x (16 + 2 * i) ≤ 128)
  unfolding numbers_form number_tests numbers_in
  number_within i h =
      let e = u16s_at (byte x 1) (drop 16 x) i h ∙ u16_behind x 16 (2 * i) in
      let l : i < length (numbers_in x) = rw (length_u16s (byte x 1) (drop 16 x)) h in
      let w : within 1 128 (u16 x (16 + 2 * i)) ≡ true = rw e at (every_at (within 1 128) (numbers_in x) 0 i (all_at 1 number_tests f) l) in
      (within_low 1 128 _ w, within_high 1 128 _ w)

-- a read by title: the search's answer is one cart, or not
module _ (copy title : List ℕ) (found : Found) (e : found ≡ search_answer (titled_in title copy)) where
  pub title_found : found_count found ≡ length (titled_in title copy)
  title_found = ap found_count e ∙ found_length (titled_in title copy)

  pub title_not_one : OneOf (1 ∷ 2 ∷ []) (tag_of the_type found) → zeros 80 ≡ the_one copy (titled_in title copy)
  title_not_one k = sym (found_other title copy (not_one (search_answer (titled_in title copy)) (rw e at k)))

  pub title_other : ((c : ℕ) → found ≡ One c → ⊥) → zeros 80 ≡ the_one copy (titled_in title copy)
  title_other f = sym (found_other title copy (λ c g. f c (e ∙ g)))

  module _ (c : ℕ) (g : found ≡ One c) where
    pub one_found : 1 ≡ length (titled_in title copy)
    one_found = ap found_count (sym g) ∙ title_found

    pub one_shown : cart_at copy c ≡ the_one copy (titled_in title copy)
    one_shown = sym (found_one title copy c (sym e ∙ g)).1

    pub one_within : (1 ≤ c) × (c ≤ 128)
    one_within = (found_one title copy c (sym e ∙ g)).0

-- what the code's case of a read says of its bytes
abbrev pub ByCase : Waiting → List ℕ → Type 0
ByCase Nothing x = request_of x ≡ nothing
ByCase (Numbers n) x = (request_of x ≡ by_numbers (numbers_in x)) × ((request_fields x ≡ numbers_form x) × (n ≡ byte x 1))
ByCase (Title n) x = (request_of x ≡ by_title (part x 16 n)) × (request_fields x ≡ title_form n (part x 16 64))

pub by_case : (x : List ℕ) (w : Waiting) → w ≡ waiting_value x → ByCase w x
unfolding waiting_value request_of request_fields
by_case x w e = rw e (go (eqb (byte x 0) 1) (eqb (byte x 0) 2) refl refl)
  where
    go : (a b : Bool) → eqb (byte x 0) 1 ≡ a → eqb (byte x 0) 2 ≡ b → ByCase (cond a (Numbers (byte x 1)) (cond b (Title (byte x 1)) Nothing)) x
    go true b p q = rw p (refl, (refl, refl))
    go false true p q = rw (p, q) (refl, refl)
    go false false p q = rw (p, q)

-- in an arm that binds nothing
pub case_nothing : (x : List ℕ) (w : Waiting) → w ≡ waiting_value x → OneOf (0 ∷ []) (tag_of WaitingType.the_type w) → ByCase Nothing x
case_nothing x Nothing e k = by_case x Nothing e
case_nothing x (Numbers n) e k = let z : ⊥ = omega arith in absurd z
case_nothing x (Title n) e k = let z : ⊥ = omega arith in absurd z

-- a title of its form
pub title_short : (n : ℕ) (t : List ℕ) → title_form n t ≡ true → n ≤ 64
unfolding title_form
title_short n t f = within_high 1 64 n (all_at 0 (within 1 64 n ∷ every printable (take n t) ∷ all_zero (drop n t) ∷ []) f)

-- found and output after a read
abbrev pub Shown : List ℕ → Request → List ℕ → ℕ → List ℕ → Type 0
Shown copy q out r new = (r ≡ found_in copy q) × (new ≡ over out 0 (needed q) (shown_from copy q))

module _ (copy x out : List ℕ) where
  pub shows_nothing : request_of x ≡ nothing → Shown copy (request_of x) out 0 out
  unfolding found_in needed shown_from
  shows_nothing e = rw e (refl, refl)

  pub room_for_numbers : request_of x ≡ by_numbers (numbers_in x) → needed (request_of x) ≤ length out → 80 * byte x 1 ≤ length out
  unfolding needed numbers_in
  room_for_numbers e h = rw (length_u16s (byte x 1) (drop 16 x)) at (rw e at h)

  pub room_for_title : (t : List ℕ) → request_of x ≡ by_title t → needed (request_of x) ≤ length out → 80 ≤ length out
  unfolding needed
  room_for_title t e h = rw e at h

  module _ (r : ℕ) (new : List ℕ) where
    pub shows_numbers : request_of x ≡ by_numbers (numbers_in x) → r ≡ found_by_numbers copy (numbers_in x) → new ≡ over out 0 (80 * byte x 1) (shown_by_numbers copy (numbers_in x)) → Shown copy (request_of x) out r new
    unfolding found_in needed shown_from numbers_in
    shows_numbers e f g = rw (e, length_u16s (byte x 1) (drop 16 x)) (f, g)

    pub shows_title : (n : ℕ) → request_of x ≡ by_title (part x 16 n) → r ≡ length (titled_in (take (16 + n - 16) (drop 16 x)) copy)
        → new ≡ over out 0 80 (the_one copy (titled_in (take (16 + n - 16) (drop 16 x)) copy)) → Shown copy (request_of x) out r new
    unfolding found_in needed shown_from
    shows_title n e f g = let k : 16 + n - 16 ≡ n = add-sub_cancel_left 16 n in rw e (rw k at f, rw k at g)

-- the case that the code makes of a request, and the copy that it is handed
pub value_waiting : (x : List ℕ) (v : Session) → v ≡ session_value x → v.waiting ≡ waiting_value x
unfolding session_value
value_waiting x v e = ap (λ (v : Session). v.waiting) e

pub shown_there : (copy there : List ℕ) (q : Request) (out : List ℕ) (r : ℕ) (new : List ℕ) → there ≡ copy → Shown there q out r new → Shown copy q out r new
shown_there copy there q out r new e h = rw e at h
