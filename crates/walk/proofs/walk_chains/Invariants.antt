-- After h entries the chains of the heads below h are written, one behind the other.
use mathlib.Core.Path.{◌≡◌}
use Prim.Native.Nat.{◌≤◌}
use lib.ListN.{length}
use Rattle.trace.specs.Links.{nexts}
use Rattle.walk.specs.Walk.{blocks}
use Rattle.walk.specs.Private.{After, no_visits}
use Rattle.walk.proofs.Chain.{below}
use Rattle.walk.proofs.walk_chains.Given as goal

abbrev pub invariant-loop-h : goal.invariant-loop-h
invariant-loop-h l =
    (l.h ≤ l.entries)
    × (length l.order ≡ length l.initial.order)
    × After (blocks l.section 12 l.entries) (below (nexts l.section 12 l.entries) l.h) no_visits l.initial.order l.visits l.order
