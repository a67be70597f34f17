-- Every entry that an earlier walk marked reaches an end, so it is on no cycle; a walk that comes back to its start has found one.
use mathlib.Core.Path.{◌≡◌}
use Rattle.std.specs.Prelude.{None}
use Rattle.trace.proofs.Marks.{unmarked, Seen, Walk}
use Rattle.trace.proofs.first_cyclic.Given as goal

abbrev pub invariant-loop-j : goal.invariant-loop-j
invariant-loop-j g l = (l.found ≡ None) × Walk (g.N.Nexts.indexes l.links) l.marks l.i l.j

abbrev pub decreases-loop-j : goal.decreases-loop-j
decreases-loop-j g l = unmarked (g.N.Nexts.indexes l.links) l.marks

abbrev pub invariant-entries : goal.invariant-entries
invariant-entries g l = (l.found ≡ None) × Seen (g.N.Nexts.indexes l.links) l.marks l.i
