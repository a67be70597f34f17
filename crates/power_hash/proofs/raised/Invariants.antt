-- What is gathered and the square to the exponent left stand for the power.
use Rattle.std.proofs.Common.{◌*◌, ◌%◌, ◌^◌}
use Rattle.power_hash.proofs.Products.{Stands}
use Rattle.power_hash.proofs.raised.Given as goal

abbrev pub invariant-loop-q : goal.invariant-loop-q
invariant-loop-q l = Stands l.r l.b l.q (l.from * 37 ^ l.k % 2 ^ 32)

abbrev pub decreases-loop-q : goal.decreases-loop-q
decreases-loop-q l = l.q
