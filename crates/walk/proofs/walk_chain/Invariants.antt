-- What has been written and what is left of the chain make up the whole of it, so there is room for each entry.
use Prim.Native.Nat.{◌-◌}
use lib.ListN.{length}
use Rattle.trace.specs.Links.{nexts}
use Rattle.walk.specs.Walk.{blocks, chain_of}
use Rattle.walk.proofs.AlongChain.{Going}
use Rattle.walk.proofs.walk_chain.Given as goal

abbrev pub invariant-loop-j : goal.invariant-loop-j
invariant-loop-j l = Going (nexts l.section 12 l.entries) (blocks l.section 12 l.entries) (chain_of (nexts l.section 12 l.entries) l.head) l.initial.order l.initial.steps l.initial.total l.order l.steps l.total l.j

abbrev pub decreases-loop-j : goal.decreases-loop-j
decreases-loop-j l = length l.initial.order - l.steps
