-- After i turns the first i entries are there.
use Prim.Native.Nat.{◌/◌}
use lib.ListN.{length}
use Rattle.writer.specs.Private.{pair_bytes}
use Rattle.writer.proofs.Entries.{Laying}
use Rattle.writer.proofs.put_pairs.Given as goal

abbrev pub invariant-loop-i : goal.invariant-loop-i
invariant-loop-i l = Laying l.initial.output l.at (pair_bytes l.shape l.table) l.shape.size (length l.table / 2) l.output l.i
