use mathlib.Core.List.{[], ◌∷◌}
use lib.Dec.{leb}
use Rattle.carts.specs.Bytes.{part, u16, all_zero}
use Rattle.replication.specs.Layout.{waiting_form}
use borrow.Author.Tests.{eq-eqb, ne_eqb}
use Rattle.replication.specs.Layout.{session_form_of}
use Rattle.replication.specs.Memory.{sequence_of}
use Rattle.carts.proofs.ScanLaws.{join_all_law}
use Rattle.replication.proofs.session.is_session.Goals as goal

pub returns-then-studio-eq0 : goal.returns-then-studio-eq0
unfolding session_form_of
returns-then-studio-eq0 c = simp (c.all_zero.ensures, eq-eqb _ _ c.if-studio-eq0.true)

pub returns : goal.returns
unfolding session_form_of sequence_of
returns c = let g = c.args in
    let x = g.x.now in
    rw (c.u16_at.ensures.0, c.all_zero-2.ensures, c.is_waiting_form.ensures, ne_eqb g.studio 0 c.if-studio-eq0.false)
    (join_all_law (leb (u16 x 2) g.commits) (all_zero (part x 4 12) ∷ waiting_form x ∷ []))
