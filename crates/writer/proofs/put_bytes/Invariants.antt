-- The first i bytes are there after i turns.
use mathlib.Core.Path.{◌≡◌}
use lib.ListN.{take}
use Rattle.writer.specs.Private.{patch}
use Rattle.writer.proofs.put_bytes.Given as goal

abbrev pub invariant-loop-i : goal.invariant-loop-i
invariant-loop-i l = l.output ≡ patch l.initial.output l.at (take l.i l.bytes)
