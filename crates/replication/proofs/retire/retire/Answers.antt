use mathlib.Core.Path.{refl, ap}
use native.Mathlib.Omega.{arith}
use Rattle.carts.proofs.RefusalLaws.{refuses}
use Rattle.edit_log.specs.declared.record.Record.{Record}
use Rattle.replication.proofs.RetireLaws.{retire_refused, retire_known, retire_accepted}
use Rattle.replication.proofs.retire.retire.Goals as goal

pub returns-in-Err : goal.returns-in-Err
returns-in-Err c = retire_refused _ _ _ c.in-Err.ensures (refuses _)

pub at-links-requires : goal.at-links-requires
at-links-requires c = let k = retire_known _ _ _ c.in_default.ensures refl in (k.log, (k.low, k.high))

pub apply_to_sixth-requires : goal.apply_to_sixth-requires
apply_to_sixth-requires c = let k = retire_known _ _ _ c.in_default.ensures refl in (k.library, (k.log, k.acts))

pub retire_transaction-freed-requires : goal.retire_transaction-freed-requires
retire_transaction-freed-requires c = let k = retire_known _ _ _ c.in_default.ensures refl in record { chain = (k.log, k.ends); links = (omega (arith, k.high), k.last) }

pub after_retire-left-requires : goal.after_retire-left-requires
after_retire-left-requires c = let k = retire_known _ _ _ c.in_default.ensures refl in (rw c.retire_transaction-freed.ensures.1 k.held, k.few)

pub returns : goal.returns
returns c =
    let r = c.retire_transaction-freed.ensures in
    retire_accepted _ _ _ c.in_default.ensures refl _ r.1 _ (ap (λ (x : Record). x.next_transaction) c.at-links.ensures.0) _ c.after_retire-left.ensures _ _
    c.apply_to_sixth.ensures r.0
