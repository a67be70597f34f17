-- After k turns the first k bytes are digits, and the number is what they form; sixteen digits fit 64 bits.
use mathlib.Core.Path.{◌≡◌}
use Rattle.digits.specs.Hex.{hex_at}
use Rattle.digits.specs.Private.{Digits}
use Rattle.digits.proofs.number_of.Given as goal

abbrev pub invariant-loop-b : goal.invariant-loop-b
invariant-loop-b l = Digits l.digits 0 l.b-index × (l.x ≡ hex_at l.b-index l.digits 0)
