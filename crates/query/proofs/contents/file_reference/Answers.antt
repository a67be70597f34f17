-- The column of the layout says whether there is a field; its two numbers stand at 0 and 6 of it.
use native.Mathlib.Omega.{arith}
use Rattle.layout.proofs.Laws.{entry_low}
use Rattle.query.proofs.Entries.{entry_references}
use Rattle.query.proofs.contents.file_reference.Goals as goal

pub overflow_add-at : goal.overflow_add-at
overflow_add-at c =
    let a = c.args in
    omega (arith, entry_low a.i a.l.metrics_entry (omega arith) (omega arith))

pub overflow_mul-at : goal.overflow_mul-at
overflow_mul-at c =
    let a = c.args in
    omega (arith, entry_low a.i a.l.metrics_entry (omega arith) (omega arith))

pub overflow_add-at-2 : goal.overflow_add-at-2
overflow_add-at-2 c =
    let a = c.args in
    omega (arith, entry_low a.i a.l.metrics_entry (omega arith) (omega arith))

pub returns : goal.returns
returns c = search entry_references
