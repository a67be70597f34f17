-- An eight-number step equals eight plain steps, so after each turn the plain hash of the rest is that of the whole list.
use Rattle.std.proofs.Common.{◌≡◌, length, map}
use Rattle.path_hash.specs.Hash.{plain}
use Rattle.path_hash.proofs.carry_on.Given as goal

abbrev pub invariant-loop-stepped : goal.invariant-loop-stepped
invariant-loop-stepped g l = plain l.h (map g.T.Number.value l.rest) ≡ plain l.from (map g.T.Number.value l.numbers)

abbrev pub decreases-loop-stepped : goal.decreases-loop-stepped
decreases-loop-stepped g l = length l.rest
