use mathlib.Core.Path.{ap, ◌∙◌}
use mathlib.Core.Bool.{◌&&◌}
use native.Mathlib.Omega.{arith}
use Rattle.replication.specs.Memory.{session_at}
use Rattle.replication.specs.Layout.{session_form, session_form_of}
use Rattle.replication.proofs.LayoutLaws.{each_more_from_one, each_done_from_one}
use Rattle.replication.proofs.layout.are_sessions.Goals as goal

pub loop-s-preserved : goal.loop-s-preserved
unfolding session_form session_at
loop-s-preserved c = let g = c.args in
    let s = c.loop-s.s in
    let e = c.is_session-ok.ensures ∙ ap (session_form_of c.studio_of.result g.control.commits) c.session_at-own.ensures.0
    ∙ ap (λ i. session_form_of i g.control.commits (session_at g.sessions.now s)) c.studio_of.ensures in
    each_more_from_one (session_form g.control) 80 16 s g.sessions.now c.loop-s.ok c.loop-s.invariant (omega arith) (omega arith) (ap (λ b. c.loop-s.ok && b) e)

pub returns : goal.returns
returns c = each_done_from_one (session_form c.args.control) 80 16 c.loop-s.s c.args.sessions.now c.loop-s.ok c.loop-s.invariant (omega arith)
