use Rattle.lines.proofs.BuildLaws.{operation_stored}
use Rattle.lines.proofs.build.put_operation.Goals as goal

pub returns : goal.returns
returns c = let a = c.args in
    rw (c.put_title.ensures, c.put_u32-2.ensures, c.put_u32.ensures, c.put_u16.ensures, c.clear.ensures, c.requires.0)
    (operation_stored a.kind a.cart a.audio a.milliseconds a.title.now)
