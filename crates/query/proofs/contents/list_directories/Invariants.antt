-- After k turns the first k pairs stand in the list; the strings from the cursor on give those that are to come.
use Prim.Native.Nat.{◌-◌}
use Rattle.lists.proofs.Pairs.{Laid}
use Rattle.query.specs.Contents.{directory_pairs}
use Rattle.query.proofs.contents.list_directories.Given as goal

abbrev pub invariant-loop-k : goal.invariant-loop-k
invariant-loop-k l = Laid (directory_pairs l.section l.base l.count l.at) l.initial.pairs l.k (directory_pairs l.section l.base (l.count - l.k) l.cursor.at) l.pairs
