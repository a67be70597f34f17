-- After i turns the sum is that of the first i entries, each of which costs no more than the size.
use mathlib.Core.Path.{◌≡◌}
use Rattle.lists.specs.Count.{sum_below}
use Rattle.query.specs.Cost.{directory_cost}
use Rattle.query.proofs.costs.directories_cost.Given as goal

abbrev pub invariant-loop-i : goal.invariant-loop-i
invariant-loop-i l = (l.sum ≡ sum_below (directory_cost l.l l.section l.size) l.i)
