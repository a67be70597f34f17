-- The string's count, its units and its zero are looked for in turn, each only where the section still has its bytes.
use mathlib.Core.Path.{sym, ◌∙◌}
use Prim.Native.Nat.{◌+◌, ◌*◌}
use native.Mathlib.Omega.{arith}
use Rattle.lists.proofs.Answers.{answers}
use Rattle.volumes.specs.Volumes.{step_said}
use Rattle.volumes.proofs.Laws.{step_short, step_past, step_unended, step_next}
use Rattle.volumes.proofs.Cursor.step.Goals as goal

pub returns-then-section-at : goal.returns-then-section-at
returns-then-section-at c = answers step_said _ _ (step_short _ _ (omega arith))

pub returns-else-u16_at-eq0 : goal.returns-else-u16_at-eq0
returns-else-u16_at-eq0 c =
    let last = c.args.self.at + 2 + 2 * c.u16_at-units.result in
    answers step_said _ _ (step_unended _ _ last (omega arith) (omega arith) (λ z. c.if-u16_at-eq0.false (c.u16_at.ensures ∙ z)))

pub returns-then-section-lt2 : goal.returns-then-section-lt2
returns-then-section-lt2 c = answers step_said _ _ (step_short _ _ (omega arith))

pub returns-then-u16_at-eq0 : goal.returns-then-u16_at-eq0
returns-then-u16_at-eq0 c =
    let last = c.args.self.at + 2 + 2 * c.u16_at-units.result in
    answers step_said _ _ (step_next _ _ last (omega arith) (omega arith) (sym c.u16_at.ensures ∙ c.if-u16_at-eq0.true))

pub returns-then-section-last : goal.returns-then-section-last
returns-then-section-last c = answers step_said _ _ (step_past _ _ (omega arith) (omega arith))
