-- No unit before k is zero: the search goes on from k.
use mathlib.Core.Path.{◌≡◌}
use Prim.Native.Nat.{◌+◌, ◌-◌, ◌*◌}
use Rattle.lists.specs.First.{first, first_from}
use Rattle.little_endian.specs.Number.{zero_unit}
use Rattle.little_endian.proofs.first_zero_unit.Given as goal

abbrev pub invariant-loop-k : goal.invariant-loop-k
invariant-loop-k l =
    first (λ j. zero_unit l.s (l.at + 2 * j)) l.count ≡ first_from (λ j. zero_unit l.s (l.at + 2 * j)) (l.count - l.k) l.k
