-- After j turns the first j digits are written.
use mathlib.Core.Path.{◌≡◌}
use Prim.Native.Nat.{ℕ, ◌-◌, ◌/◌, ◌%◌, ◌^◌, ◌<◌}
use lib.ListN.{get_or}
use Rattle.digits.specs.Hex.{digit_of}
use Rattle.digits.proofs.fill_digits.Given as goal

abbrev pub invariant-loop-j : goal.invariant-loop-j
invariant-loop-j l = (k : ℕ) → k < l.j → get_or l.bytes k 0 ≡ digit_of (l.x / 16 ^ (l.width - 1 - k) % 16)
