-- The units passed so far are not zero; one that is refuses the text, and after the last one a zero must stand.
use mathlib.Core.Path.{◌≡◌}
use mathlib.Core.Bool.{false}
use Prim.Native.Nat.{ℕ, ◌+◌, ◌*◌, ◌≤◌, ◌<◌}
use Rattle.little_endian.specs.Number.{zero_unit}
use Rattle.names.proofs.units_sound.Given as goal

abbrev pub invariant-loop-k : goal.invariant-loop-k
invariant-loop-k l = (l.k ≤ l.units) × ((j : ℕ) → j < l.k → zero_unit l.strings (l.at + 2 * j) ≡ false)
