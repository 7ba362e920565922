use Rattle.std.proofs.Common.{◌≡◌, arith, ap, sym, ◌∙◌, Ok, Err}
use Rattle.lines.specs.Cursor.{Reading, Taken, taken, number_at}
use Rattle.lines.proofs.CursorLaws.{number_by_parts}
use Rattle.lines.proofs.TextLaws.{number_at_most}
use Rattle.lines.proofs.cursor.Cursor.number.Goals as goal

pub returns-in-Ok : goal.returns-in-Ok
returns-in-Ok c =
    let e : taken c.args.self.now c.run_end-end.result (Ok c.in-Ok.value) ≡ number_at c.args.self.now c.args.most =
    number_by_parts c.args.self.now c.self.inside.line.now c.args.most c.next_place-start.result c.run_end-end.result c.part_of.result.now _ (ap (λ (r : Reading). r.line) c.self.view_is) c.next_place-start.ensures c.run_end-end.ensures.0 c.part_of.ensures (sym c.in-Ok.is ∙ c.number_of.ensures) in
    record { value = ap (λ (t : Taken). t.value) e; cursor = c.move_to.ensures ∙ ap (λ (t : Taken). t.cursor) e; bound = number_at_most c.args.most c.in-Ok.value c.part_of.result.now (sym c.number_of.ensures ∙ c.in-Ok.is) }

pub returns-in-Err : goal.returns-in-Err
returns-in-Err c =
    let e : taken c.args.self.now c.run_end-end.result (Err c.in-Err.error) ≡ number_at c.args.self.now c.args.most =
    number_by_parts c.args.self.now c.self.inside.line.now c.args.most c.next_place-start.result c.run_end-end.result c.part_of.result.now _ (ap (λ (r : Reading). r.line) c.self.view_is) c.next_place-start.ensures c.run_end-end.ensures.0 c.part_of.ensures (sym c.in-Err.is ∙ c.number_of.ensures) in
    record { value = ap (λ (t : Taken). t.value) e; cursor = c.stop.ensures ∙ rw c.from.ensures (ap (λ (t : Taken). t.cursor) e); bound = omega arith }
