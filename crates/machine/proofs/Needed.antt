-- 02, S-9: after every list of calls, from every sound machine, nobody needs what is retired.
use Prim.Native.Nat.{◌-◌}
use native.Mathlib.Omega.{arith}
use mathlib.Core.List.{List}
use Rattle.replication.specs.Call.{Call}
use Rattle.machine.specs.Machine.{Machine, Step, session_of, after_calls}
use Rattle.machine.specs.Retired.{Unneeded}
use Rattle.machine.proofs.Sound.{Sound}
use Rattle.machine.proofs.Kept.{after_sound}

pub sound_unneeded : (m : Machine) → Sound m → Unneeded m
sound_unneeded m f = record {
  studios = f.retired_le;
  waiting = λ s used w k low high. omega (arith, f.retired_le (session_of m s).studio used (f.placed (s - 1)));
}

pub after_unneeded : (H : List Call) (r : Step) → Sound r.next → Unneeded (after_calls r H).next
after_unneeded H r f = sound_unneeded _ (after_sound H r f)
