use Rattle.journal.proofs.ProgressLaws.{with_entry_law}
use Rattle.journal.proofs.progress.Progress.with_entry.Goals as goal

pub returns : goal.returns
returns c = with_entry_law c.args.self c.args.control c.args.outcome c.args.e c.args.payload.now c.args.entries.now c.args.store.now c.requires c.add-next.ensures c.stepped.ensures
