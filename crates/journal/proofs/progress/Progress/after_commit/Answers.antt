use Rattle.std.proofs.Common.{length, rules, ap, ◌∙◌, Err}
use Rattle.journal.specs.declared.progress.Outcome.TheVariants.{Refused}
use Rattle.journal.proofs.ProgressLaws.{commit_accepted, commit_told, commit_refused, same_room}
use Rattle.journal.proofs.progress.Progress.after_commit.Goals as goal

pub returns-in-Ok : goal.returns-in-Ok
returns-in-Ok c =
    let a = c.args in
    let w = c.with_entry.ensures in
    (commit_accepted a.self a.res.control a.res.answer a.session a.ops.now a.entries.now a.store.now _ c.in-Ok.is c.entry_of-e.ensures w.0, w.1)

pub returns-in-Err-WrongState : goal.returns-in-Err-WrongState
returns-in-Err-WrongState c =
    let a = c.args in
    let w = c.with_entry-in-Err-WrongState.ensures in
    (commit_told a.self a.res.control a.res.answer a.session a.ops.now a.entries.now a.store.now (c.in-Err-WrongState.is ∙ ap (λ x. Err x) (rw c.in-Err-WrongState.is at c.in-Err-WrongState.field-0-is)) c.entry_of-e-in-Err-WrongState.ensures w.0, w.1)

pub returns-in-Err : goal.returns-in-Err
returns-in-Err c =
    let a = c.args in (
      commit_refused a.self a.res.control a.res.answer a.session a.ops.now a.entries.now a.store.now _ c.in-Err.is (λ z. search rules) c.stepped.ensures,
      same_room a.self a.res.control Refused (length a.entries.now) c.requires c.stepped.ensures,
    )
