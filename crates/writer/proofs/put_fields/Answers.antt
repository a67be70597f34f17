use native.Mathlib.Omega.{arith}
use Rattle.writer.proofs.Entries.{putting_room, putting_step, putting_end}
use Rattle.writer.proofs.put_fields.Goals as goal

pub put_field-requires : goal.put_field-requires
put_field-requires c = putting_room c.loop-at.invariant (0, 0) (omega arith)

pub overflow_add-from : goal.overflow_add-from
overflow_add-from c = omega (arith, (putting_room c.loop-at.invariant (0, 0) (omega arith)).1)

pub loop-at-preserved : goal.loop-at-preserved
loop-at-preserved c = putting_step c.loop-at.invariant (0, 0) (omega arith) _ c.put_field.ensures

pub returns : goal.returns
returns c = putting_end c.loop-at.invariant (omega arith)
