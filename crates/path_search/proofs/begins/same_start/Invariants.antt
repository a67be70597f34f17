-- The bytes passed agree; the first that do not decide, eight at once or one.
use Rattle.std.proofs.Common.{◌-◌, ◌≤◌, length}
use Rattle.path_search.proofs.Same.{Agree}
use Rattle.path_search.proofs.begins.same_start.Given as goal

abbrev pub invariant-loop-i : goal.invariant-loop-i
invariant-loop-i l = (l.i ≤ length l.path) × Agree l.path l.name l.i

abbrev pub decreases-loop-i : goal.decreases-loop-i
decreases-loop-i l = length l.path - l.i

abbrev pub invariant-loop-k : goal.invariant-loop-k
invariant-loop-k l = Agree l.path l.name l.k
