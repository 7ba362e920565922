-- Histories: which entries may follow one another, and what is true of all of them. No byte of a cart is looked at.
use Prim.Native.Nat.{ℕ, ◌+◌, ◌≤◌}
use native.Mathlib.Omega.{arith}
use mathlib.Core.Path.{◌≡◌, refl, sym, ◌∙◌, subst}
use mathlib.Core.Bool.{Bool, true, false, cond, false≢true}
use mathlib.Core.List.{List, [], ◌∷◌}
use lib.Dec.{eqb}
use lib.ListN.{length}
use borrow.Author.Tests.{eqb-true}
use Rattle.carts.specs.Operation.{meets_all, act_all}
use Rattle.machine.specs.Library.{Input, operations, Said, Reply, number, at, Library, library, serve}
use Rattle.machine.specs.OneCopy.{Entry, entry}
use Rattle.machine.proofs.Sort.{All, of, all_map, Rising}
use Rattle.machine.proofs.Chain.{rank_by, Consecutive}
use Rattle.machine.proofs.Updates.{put, put_case}

abbrev pub state_of : Reply → ℕ
state_of (number n) = n
state_of (at n v) = n

abbrev pub is_number : Reply → Bool
is_number (number n) = true
is_number (at n v) = false

-- the count that a library must have after an entry, and whether the entry raises it
abbrev pub state : Entry → ℕ
state e = state_of e.reply

abbrev pub raises : Entry → Bool
raises e = is_number e.reply

-- commit n at 2n, what the library of k commits says at 2k + 1
abbrev pub rank : Entry → ℕ
rank = rank_by state raises

abbrev pub is_of : ℕ → Entry → Bool
is_of s e = eqb s e.session

-- `History n L floor E`: after n commits, where the library of k commits has been L k, and where session s has seen the state `floor s`,
-- E may follow
pub data History : ℕ → (ℕ → List ℕ) → (ℕ → ℕ) → List Entry → Type 0 where
  ended : {n : ℕ} {L : ℕ → List ℕ} {floor : ℕ → ℕ} → History n L floor []
  made : {n : ℕ} {L : ℕ → List ℕ} {floor : ℕ → ℕ} {E : List Entry} (i s : ℕ) (ops : List (List ℕ))
      → meets_all (L n) ops ≡ true
      → History (n + 1) (put L (n + 1) (act_all (L n) ops)) (put floor s (n + 1)) E
      → History n L floor (entry i s (operations ops) (number (n + 1)) ∷ E)
  seen : {n : ℕ} {L : ℕ → List ℕ} {floor : ℕ → ℕ} {E : List Entry} (i s : ℕ) (x : Input) (k : ℕ) (v : Said)
      → serve (library k (L k)) x ≡ (at k v, library k (L k))
      → floor s ≤ k → k ≤ n
      → History n L (put floor s k) E
      → History n L floor (entry i s x (at k v) ∷ E)

-- the single library after n commits
abbrev pub after : (ℕ → List ℕ) → ℕ → Library
after L n = library n (L n)

-- what the single library does at an entry
abbrev pub Good : (ℕ → List ℕ) → Entry → Type 0
Good L e = cond (raises e)
    ((m : ℕ) → state e ≡ m + 1 → serve (after L m) e.input ≡ (e.reply, after L (m + 1)))
    (serve (after L (state e)) e.input ≡ (e.reply, after L (state e)))

made_good : (M L : ℕ → List ℕ) (n : ℕ) (ops : List (List ℕ))
    → M n ≡ L n → M (n + 1) ≡ act_all (L n) ops → meets_all (L n) ops ≡ true
    → (m : ℕ) → n + 1 ≡ m + 1 → serve (after M m) (operations ops) ≡ (number (n + 1), after M (m + 1))
unfolding serve
made_good M L n ops old new f m e =
    let p : n ≡ m = omega arith in
    subst (λ (m : ℕ). serve (after M m) (operations ops) ≡ (number (n + 1), after M (m + 1))) p (rw (new, old, f))

-- there are libraries M of all the commits, which go on from L, and by which each entry is answered rightly
pub good : {n : ℕ} {L : ℕ → List ℕ} {floor : ℕ → ℕ} {E : List Entry} → History n L floor E
    → (M : ℕ → List ℕ) × ((k : ℕ) → k ≤ n → M k ≡ L k) × All (Good M) E
good (ended {L = L}) = (L, (λ k u. refl), tt)
good (made {n = n} {L = L} i s ops f h) =
    let (M, same, g) = good h in
    let next : List ℕ = act_all (L n) ops in
    let old : (k : ℕ) → k ≤ n → M k ≡ L k = λ k u. same k (omega arith) ∙ put_case (λ v. v ≡ L k) L (n + 1) next k (λ e. absurd (omega arith)) (λ e. refl) in
    let new : M (n + 1) ≡ next = same (n + 1) (omega arith) ∙ put_case (λ v. v ≡ next) L (n + 1) next (n + 1) (λ e. refl) (λ e. absurd (e refl)) in
    (M, old, (made_good M L n ops (old n (omega arith)) new f, g))
good (seen {n = n} {L = L} i s x k y e u v h) =
    let (M, same, g) = good h in
    (M, same, (subst (λ (l : List ℕ). serve (library k l) x ≡ (at k y, library k l)) (sym (same k v)) e, g))

-- no session has seen more than n
abbrev pub Below : (ℕ → ℕ) → ℕ → Type 0
Below floor n = (s : ℕ) → floor s ≤ n

below_put : {floor : ℕ → ℕ} {n : ℕ} (s v m : ℕ) → Below floor n → n ≤ m → v ≤ m → Below (put floor s v) m
below_put {floor} s v m b u w j = put_case (λ x. x ≤ m) floor s v j (λ e. w) (λ e. omega (arith, b j))

-- the entry stands after what its session has seen
abbrev pub Above : (ℕ → ℕ) → Entry → Type 0
Above floor e = floor e.session + floor e.session + 1 ≤ rank e

above_put : (floor : ℕ → ℕ) (s v : ℕ) → floor s ≤ v → (e : Entry) → Above (put floor s v) e → Above floor e
above_put floor s v u e a =
    let k : floor e.session ≤ put floor s v e.session = put_case (λ x. floor e.session ≤ x) floor s v e.session (λ p. rw p u) (λ p. omega arith) in
    omega arith

pub above : {n : ℕ} {L : ℕ → List ℕ} {floor : ℕ → ℕ} {E : List Entry} → Below floor n → History n L floor E → All (Above floor) E
above b ended = tt
above b (made {n = n} {floor = floor} {E = E} i s ops f h) =
    (omega (arith, b s), all_map E (above_put floor s (n + 1) (omega (arith, b s))) (above (below_put s (n + 1) (n + 1) b (omega arith) (omega arith)) h))
above b (seen {n = n} {floor = floor} {E = E} i s x k y e u v h) =
    (omega arith, all_map E (above_put floor s k u) (above (below_put s k n b (omega arith) v) h))

raised : {n : ℕ} {L : ℕ → List ℕ} {floor : ℕ → ℕ} {E : List Entry} → History n L floor E → All (λ e. raises e ≡ true → n + 1 + (n + 1) ≤ rank e) E
raised ended = tt
raised (made {E = E} i s ops f h) = ((λ r. omega arith), all_map E (λ e k r. omega (arith, k r)) (raised h))
raised (seen i s x k y e u v h) = ((λ r. absurd (false≢true r)), raised h)

-- commits are numbered n + 1, n + 2, ..
pub consecutive : {n : ℕ} {L : ℕ → List ℕ} {floor : ℕ → ℕ} {E : List Entry} → History n L floor E → Consecutive state raises n (of raises E)
consecutive ended = tt
consecutive (made i s ops f h) = (refl, consecutive h)
consecutive (seen i s x k y e u v h) = consecutive h

-- no state is past the commits
pub reached : {n : ℕ} {L : ℕ → List ℕ} {floor : ℕ → ℕ} {E : List Entry} → History n L floor E → All (λ e. state e ≤ n + length (of raises E)) E
reached ended = tt
reached (made {E = E} i s ops f h) = (omega arith, all_map E (λ e k. omega arith) (reached h))
reached (seen {E = E} i s x k y e u v h) = (omega arith, reached h)

same_session : (floor : ℕ → ℕ) (s v j : ℕ) (e : Entry) → eqb j s ≡ true → is_of j e ≡ true → Above (put floor s v) e → v + v + 1 ≤ rank e
same_session floor s v j e p r a =
    let same : e.session ≡ s = sym (eqb-true j e.session r) ∙ eqb-true j s p in
    let q : put floor s v e.session ≡ v = put_case (λ x. x ≡ v) floor s v e.session (λ k. refl) (λ k. absurd (k same)) in
    omega arith

-- ranks rise within a session, and among the commits
pub sessions_rise : {n : ℕ} {L : ℕ → List ℕ} {floor : ℕ → ℕ} {E : List Entry} → Below floor n → History n L floor E → (j : ℕ) → Rising rank (is_of j) E
sessions_rise b ended j = tt
sessions_rise b (made {n = n} {floor = floor} {E = E} i s ops f h) j =
    let b' = below_put s (n + 1) (n + 1) b (omega arith) (omega arith) in
    ((λ p. all_map E (λ e a r. omega (arith, same_session floor s (n + 1) j e p r a)) (above b' h)), sessions_rise b' h j)
sessions_rise b (seen {n = n} {floor = floor} {E = E} i s x k y e u v h) j =
    let b' = below_put s k n b (omega arith) v in
    ((λ p. all_map E (λ e a r. same_session floor s k j e p r a) (above b' h)), sessions_rise b' h j)

pub raises_rise : {n : ℕ} {L : ℕ → List ℕ} {floor : ℕ → ℕ} {E : List Entry} → History n L floor E → Rising rank raises E
raises_rise ended = tt
raises_rise (made {E = E} i s ops f h) = ((λ p. all_map E (λ e k r. omega (arith, k r)) (raised h)), raises_rise h)
raises_rise (seen i s x k y e u v h) = ((λ p. absurd (false≢true p)), raises_rise h)
