use Rattle.journal.specs.declared.progress.Outcome.TheVariants.{Waited, Refused}
use Rattle.journal.proofs.ProgressLaws.{read_entry_law, read_waits, read_refused, same_room}
use Rattle.journal.specs.Progress.{read_bytes}
use Rattle.lines.specs.Text.{part_in}
use Rattle.journal.specs.History.{kept_in}
use Rattle.std.proofs.Common.{◌+◌, ◌*◌, length, ap, Ok, ◌∙◌}
use Rattle.journal.proofs.progress.Progress.after_read.Goals as goal

pub returns-in-Ok-Answered : goal.returns-in-Ok-Answered
unfolding read_bytes
returns-in-Ok-Answered c = let a = c.args in
    let w = c.with_entry.ensures in (
      read_entry_law a.self a.res.control a.res.answer a.session a.block.now a.entries.now a.store.now _ _ (c.in-Ok-Answered.is ∙ ap (λ x. Ok x) (rw c.in-Ok-Answered.is at c.in-Ok-Answered.field-0-is)) c.entry_of-e.ensures
          (c.part_of-payload.ensures ∙ ap (λ k. part_in a.block.now 0 (80 + 80 * k)) c.places.ensures.0) w.0,
      w.1,
    )

pub returns-in-Ok-Waits : goal.returns-in-Ok-Waits
returns-in-Ok-Waits c = let a = c.args in (
  read_waits a.self a.res.control a.res.answer a.session a.block.now a.entries.now a.store.now _ (c.in-Ok-Waits.is ∙ ap (λ x. Ok x) (rw c.in-Ok-Waits.is at c.in-Ok-Waits.field-0-is))
      (c.keep_request.ensures ∙ ap (λ x. kept_in a.store.now a.session x) c.part_of.ensures) c.stepped.ensures,
  same_room a.self a.res.control Waited (length a.entries.now) c.requires c.stepped.ensures,
)

pub returns-in-Err : goal.returns-in-Err
returns-in-Err c = let a = c.args in (
  read_refused a.self a.res.control a.res.answer a.session a.block.now a.entries.now a.store.now _ c.in-Err.is c.stepped-in-Err.ensures,
  same_room a.self a.res.control Refused (length a.entries.now) c.requires c.stepped-in-Err.ensures,
)
