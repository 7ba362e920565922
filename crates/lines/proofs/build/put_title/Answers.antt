use Rattle.lines.proofs.BuildLaws.{title_kept}
use Rattle.lines.proofs.build.put_title.Goals as goal

pub returns : goal.returns
returns c = rw c.copy_from_slice.ensures.after (title_kept c.args.title.now c.args.field.now c.min-n.result c.min-n.ensures c.requires)
