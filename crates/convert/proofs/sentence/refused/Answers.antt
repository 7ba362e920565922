use mathlib.Core.Path.{sym, ap, ◌∙◌}
use Rattle.std.specs.Prelude.{Err}
use Rattle.convert.proofs.OutcomeLaws.{title_named}
use Rattle.convert.proofs.sentence.refused.Goals as goal

pub cart_at-requires : goal.cart_at-requires
cart_at-requires c = title_named c.args.input.now (sym c.requires ∙ ap (λ f. Err f) c.in-LongTitle.is)
