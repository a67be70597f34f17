-- After i turns the pass stands as `Passing` says; it ends at an entry astray, or after the last entry.
use lib.ListN.{length}
use Rattle.trace.proofs.Passing.{Passing}
use Rattle.trace.proofs.store_predecessors.Given as goal

abbrev pub invariant-loop-i : goal.invariant-loop-i
invariant-loop-i g l = Passing (g.N.Nexts.indexes l.links) (length l.initial.buffer) l.buffer l.least l.ends l.forward l.i
