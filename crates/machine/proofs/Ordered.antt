-- THEOREM A. Every history has a one-copy order: its entries by state, each commit before the reads and the refusals of its state, in the
-- history's own order where that leaves a choice.
use Prim.Native.Nat.{ℕ, ◌+◌, ◌≤◌}
use native.Mathlib.Omega.{arith}
use mathlib.Core.Path.{◌≡◌, refl, sym, ap, ◌∙◌, subst}
use mathlib.Core.Bool.{Bool, true, false, cond}
use mathlib.Core.List.{List, [], ◌∷◌, map}
use lib.Dec.{eqb}
use lib.ListN.{length}
use Rattle.machine.specs.Library.{Input, Reply, Library, library, serve, play}
use Rattle.machine.specs.OneCopy.{Entry, OneCopy, of_session}
use Rattle.machine.proofs.Sort.{All, of, all_map, sort, sort_perm, all_sort, sorted_sort, of_sort}
use Rattle.machine.proofs.Chain.{Chain, chain}
use Rattle.machine.proofs.History.{History, state, raises, rank, is_of, after, Good, good, Below, above, consecutive, reached, sessions_rise, raises_rise}

abbrev inputs : List Entry → List Input
inputs l = map (λ (e : Entry). e.input) l

abbrev replies : List Entry → List Reply
replies l = map (λ (e : Entry). e.reply) l

-- an order whose entries form a chain is played
played : (M : ℕ → List ℕ) (n : ℕ) (o : List Entry) → Chain state raises n o → All (Good M) o → play (after M n) (inputs o) ≡ replies o
unfolding play
played M n [] c g = refl
played M n (e ∷ o) c g = go (raises e) c g.0 (λ m d. played M m o d g.1)
  where
    next : (m : ℕ) → serve (after M n) e.input ≡ (e.reply, after M m) → play (after M m) (inputs o) ≡ replies o
        → play (after M n) (inputs (e ∷ o)) ≡ replies (e ∷ o)
    next m q t = ap (λ (r : Reply × Library). r.0 ∷ play r.1 (inputs o)) q ∙ ap (λ (l : List Reply). e.reply ∷ l) t

    go : (b : Bool) → cond b ((state e ≡ n + 1) × Chain state raises (n + 1) o) ((state e ≡ n) × Chain state raises n o)
        → cond b ((m : ℕ) → state e ≡ m + 1 → serve (after M m) e.input ≡ (e.reply, after M (m + 1)))
        (serve (after M (state e)) e.input ≡ (e.reply, after M (state e)))
        → ((m : ℕ) → Chain state raises m o → play (after M m) (inputs o) ≡ replies o) → play (after M n) (inputs (e ∷ o)) ≡ replies (e ∷ o)
    go true d k ih = next (n + 1) (k n d.0) (ih (n + 1) d.1)
    go false d k ih = next n (subst (λ (m : ℕ). serve (after M m) e.input ≡ (e.reply, after M m)) d.0 k) (ih n d.1)

of_session_law : (s : ℕ) (l : List Entry) → of_session s l ≡ of (is_of s) l
unfolding of_session
of_session_law s [] = refl
of_session_law s (e ∷ l) = ap (λ (r : List Entry). cond (eqb s e.session) (e ∷ r) r) (of_session_law s l)

pub ordered : {n : ℕ} {L : ℕ → List ℕ} {E : List Entry} → History n L (λ s. n) E → OneCopy (after L n) E (sort rank E)
ordered {n} {L} {E} h =
    let (M, same, g) = good h in
    let b : Below (λ s. n) n = λ s. omega arith in
    let c : Chain state raises n (sort rank E) = chain state raises n (sort rank E) (sorted_sort rank E)
    (rw (of_sort rank raises E (raises_rise h)) (consecutive h))
    (all_sort rank (λ e. n + n ≤ rank e) E (all_map E (λ e k. omega arith) (above b h)))
    (rw (of_sort rank raises E (raises_rise h)) (all_sort rank (λ e. state e ≤ n + length (of raises E)) E (reached h))) in
    record {
      once = sort_perm rank E;
      sessions = λ s. of_session_law s (sort rank E) ∙ of_sort rank (is_of s) E (sessions_rise b h s) ∙ sym (of_session_law s E);
      answers = subst (λ (l : List ℕ). play (library n l) (inputs (sort rank E)) ≡ replies (sort rank E)) (same n (omega arith))
          (played M n (sort rank E) c (all_sort rank (Good M) E g));
    }
