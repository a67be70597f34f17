-- One entry more is laid behind those that are there.
use mathlib.Core.Path.{refl}
use Rattle.writer.proofs.Entries.{pair_size, laying_start, laying_step}
use Rattle.writer.proofs.put_pairs.Goals as goal

pub loop-i-init : goal.loop-i-init
loop-i-init c = laying_start (pair_size c.args.shape c.args.table.now) c.requires

pub loop-i-preserved : goal.loop-i-preserved
loop-i-preserved c = laying_step c.loop-i.invariant refl c.put_pair.ensures
