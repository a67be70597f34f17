-- Check 8 first; then, while the volumes so far pass, those from i on decide.
use mathlib.Core.Path.{◌≡◌}
use Prim.Native.Nat.{◌-◌}
use Rattle.volumes.specs.Volumes.{volumes_from}
use Rattle.volumes.proofs.check_volumes.Given as goal

abbrev pub invariant-loop-i : goal.invariant-loop-i
invariant-loop-i l = volumes_from l.section l.l l.start l.count 0 ≡ volumes_from l.section l.l l.start (l.count - l.i) l.i
