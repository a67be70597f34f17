-- The loop keeps the least number of the entries passed and the first entry that has it. None of them has 0: that would have ended it.
use Rattle.std.proofs.Common.{◌≡◌, ◌≤◌, false}
use Rattle.lists.specs.Count.{any_below}
use Rattle.path_search.specs.Private.{number_in, numbered_in}
use Rattle.path_search.proofs.Least.{Lowest}
use Rattle.path_search.proofs.search.Given as goal

abbrev pub invariant-loop-i : goal.invariant-loop-i
invariant-loop-i l =
    (l.i ≤ l.entries)
    × (any_below (numbered_in l.sought l.path l.l l.metrics l.strings 0) l.i ≡ false)
    × Lowest (number_in l.sought l.path l.l l.metrics l.strings) l.i l.least l.index
