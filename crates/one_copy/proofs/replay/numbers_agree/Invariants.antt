use Rattle.std.proofs.Common.{◌≡◌, ◌+◌, ◌-◌, ◌≤◌, ◌&&◌}
use Rattle.one_copy.specs.Replay.{places_agree, held_places}
use Rattle.one_copy.proofs.replay.numbers_agree.Given as goal

abbrev pub invariant-loop-i : goal.invariant-loop-i
invariant-loop-i l = record {
  few : l.held ≤ l.i;
  agree : places_agree l.copy l.request l.shown 0 l.n ≡ (l.ok && places_agree l.copy l.request l.shown l.i (l.n - l.i));
  held : held_places l.copy l.request 0 l.n ≡ l.held + held_places l.copy l.request l.i (l.n - l.i);
}
