use Prim.Native.Nat.{ℕ, ◌+◌, ◌-◌}
use mathlib.Core.Path.{◌≡◌, refl, sym, ap, ◌∙◌}
use mathlib.Core.Bool.{Bool, ◌&&◌}
use mathlib.Core.List.{List}
use native.Mathlib.Omega.{arith}
use lib.Dec.{eqb}
use Rattle.carts.specs.Bytes.{pairwise}
use Rattle.carts.proofs.ScanLaws.{test_more}
use Rattle.edit_log.specs.declared.record.Record.{Record}
use Rattle.edit_log.proofs.WalkLaws.{walk_here, walk_later}
use Rattle.replication.specs.Log.{log_count}
use Rattle.replication.specs.Values.{are_level}
use Rattle.replication.proofs.LoadWalk.{usable_own, usable_rest, whole_next, whole_end}
use Rattle.replication.proofs.load.are_made.Goals as goal

pub loop-n-init : goal.loop-n-init
unfolding log_count
loop-n-init c = let chain = c.requires.chain in record { walks = chain.0; acts = chain.1; left = rw c.are_level-ok.ensures }

pub try_transaction-ok-requires : goal.try_transaction-ok-requires
try_transaction-ok-requires c = (c.loop-n.auto.copy ∙ c.requires.lengths.1.1.0, (c.requires.lengths.1.0, usable_own _ _ _ (omega arith) c.loop-n.invariant.acts))

pub at-r-requires : goal.at-r-requires
at-r-requires c = (c.requires.lengths.1.0, walk_here _ _ c.loop-n.r (λ z. omega arith) c.loop-n.invariant.walks)

pub loop-n-preserved : goal.loop-n-preserved
loop-n-preserved c = let g = c.args.system in
    let n = c.loop-n.n in
    let k = g.control.commits - n in
    let h : k ≡ 0 → ⊥ = λ z. omega arith in
    let less : g.control.commits - (n + 1) ≡ k - 1 = omega arith in
    let next = ap (λ (x : Record). x.next_transaction) c.at-r.ensures.0 in
    let e = c.try_transaction-ok.ensures in
    let met = test_more c.loop-n.ok _ _ c.loop-n.invariant.left (whole_next g.log.now k c.loop-n.r (omega arith) g.control g.library.now n c.loop-n.copy) (ap (λ (b : Bool). c.loop-n.ok && b) e.0) in
    let level = c.are_level-ok-in-loop-n.ensures ∙ ap (λ (z : List ℕ). are_level g.control g.library.now z (n + 1)) e.1 in
    record {
      walks = rw less (walk_later k g.log.now c.loop-n.r h c.loop-n.invariant.walks _ c.at-r.ensures.0);
      acts = rw (less, next) (usable_rest g.log.now k c.loop-n.r (omega arith) c.loop-n.invariant.acts);
      left = rw (less, next, e.1) (test_more (c.loop-n.ok && c.try_transaction-ok.result) _ _ met refl (ap (λ (b : Bool). (c.loop-n.ok && c.try_transaction-ok.result) && b) level));
    }

pub returns : goal.returns
returns c = let g = c.args.system in
    let same = c.are_equal.ensures ∙ ap (λ (x : List ℕ). pairwise eqb x c.loop-n.copy) c.copy_at.ensures.0 in
    sym (c.loop-n.invariant.left ∙ ap (λ (b : Bool). c.loop-n.ok && b) (whole_end g.control g.library.now g.log.now _ c.loop-n.n c.loop-n.r c.loop-n.copy (omega arith) ∙ sym same))
