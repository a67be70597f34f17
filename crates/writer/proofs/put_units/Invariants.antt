-- The first i units are there after i turns.
use mathlib.Core.Path.{◌≡◌}
use lib.ListN.{take}
use Rattle.writer.specs.Private.{patch}
use Rattle.writer.specs.LaidOut.{unit_bytes}
use Rattle.writer.proofs.put_units.Given as goal

abbrev pub invariant-loop-i : goal.invariant-loop-i
invariant-loop-i l = l.output ≡ patch l.initial.output l.at (unit_bytes (take l.i l.units))
