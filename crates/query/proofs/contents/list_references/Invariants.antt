-- After k turns the first k pairs stand in the list; the references from k on are to come.
use Prim.Native.Nat.{◌-◌}
use Rattle.lists.proofs.Pairs.{Laid}
use Rattle.volumes.specs.Volumes.{entry_at}
use Rattle.query.specs.Contents.{reference_pairs}
use Rattle.query.proofs.contents.list_references.Given as goal

abbrev pub invariant-loop-k : goal.invariant-loop-k
invariant-loop-k l =
    Laid (reference_pairs l.section (entry_at l.l l.i) l.count 0) l.initial.pairs l.k (reference_pairs l.section (entry_at l.l l.i) (l.count - l.k) l.k) l.pairs
