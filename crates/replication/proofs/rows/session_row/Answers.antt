use mathlib.Core.Path.{sym, ◌∙◌}
use Rattle.replication.proofs.RowLaws.{session_low, session_high, session_unused, session_used}
use Rattle.replication.proofs.rows.session_row.Goals as goal

pub returns-then-session-lt1 : goal.returns-then-session-lt1
returns-then-session-lt1 c = session_low _ _ c.if-session-lt1.true

pub returns-then-session-gt-SESSIONS : goal.returns-then-session-gt-SESSIONS
returns-then-session-gt-SESSIONS c = session_high _ _ c.if-session-gt-SESSIONS.true

pub returns-then-studio_of-eq0 : goal.returns-then-studio_of-eq0
returns-then-studio_of-eq0 c = session_unused _ _ c.if-session-lt1.false c.if-session-gt-SESSIONS.false (sym c.studio_of.ensures ∙ c.if-studio_of-eq0.true)

pub returns : goal.returns
returns c = session_used _ _ c.if-session-lt1.false c.if-session-gt-SESSIONS.false (λ z. c.if-studio_of-eq0.false (c.studio_of.ensures ∙ z))
