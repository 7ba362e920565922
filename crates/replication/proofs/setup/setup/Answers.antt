use mathlib.Core.Path.{refl, ap, ◌∙◌}
use mathlib.Core.List.{List}
use Prim.Native.Nat.{ℕ}
use Rattle.carts.specs.Bytes.{zeros}
use Rattle.carts.proofs.RefusalLaws.{refuses}
use Rattle.replication.specs.Calls.{control_of}
use Rattle.replication.proofs.SetupLaws.{setup_refused, setup_known, setup_accepted}
use Rattle.replication.proofs.RowLaws.{lengths_are}
use Rattle.replication.proofs.setup.setup.Goals as goal

pub returns-in-Err : goal.returns-in-Err
unfolding zeros
returns-in-Err c = setup_refused _ _ _ _ c.in-Err.ensures (refuses _) _ c.new.ensures

pub make_fresh-requires : goal.make_fresh-requires
make_fresh-requires c = (lengths_are _ (setup_known _ _ _ _ c.in_default.ensures refl).0).1.0

pub numbers_of-requires : goal.numbers_of-requires
numbers_of-requires c = (setup_known _ _ _ _ c.in_default.ensures refl).1

pub returns : goal.returns
returns c =
    setup_accepted _ _ _ _ c.in_default.ensures refl _ _ _ _
    (c.new-2.ensures ∙ ap (λ (l : List ℕ). control_of c.args.studios l 1 512) c.numbers_of.ensures)
    c.clear.ensures c.make_fresh.ensures c.clear-2.ensures
