-- No data fits; else it needs 8 bytes, must end within the section and hold its count: a law for each way out.
use native.Mathlib.Omega.{arith}
use Rattle.volumes.proofs.Laws.{references_none, references_small, references_past, references_inside}
use Rattle.volumes.proofs.Entry.references_fit.Goals as goal

pub returns-then-self-at : goal.returns-then-self-at
returns-then-self-at c = references_past _ _ (omega arith) (omega arith)

pub returns-then-size-lt8 : goal.returns-then-size-lt8
returns-then-size-lt8 c = references_small _ _ (λ z. c.if-size-eq0.false (omega arith)) (omega arith)

pub returns-then-size-eq0 : goal.returns-then-size-eq0
returns-then-size-eq0 c = references_none _ _ (omega arith)

pub returns : goal.returns
returns c = references_inside _ _ c.u32_at-size.ensures c.reference_count-count.ensures (omega arith) (omega arith)
