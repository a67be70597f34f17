use mathlib.Core.Path.{◌≡◌, sym, ap, ◌∙◌}
use Rattle.std.specs.Prelude.{Result, Err}
use Rattle.volumes.specs.declared.Cursor.{Cursor}
use Rattle.volumes.specs.declared.StepFault.{StepFault}
use Prim.Native.Nat.{ℕ}
use native.Mathlib.Omega.{arith}
use Rattle.incremental.specs.Decision.{decision_of}
use Rattle.volumes.specs.Volumes.{directory_checks, directories_at}
use Rattle.volumes.proofs.Laws.{directories_start, directories_step, directories_end}
use Rattle.volumes.proofs.Entry.check_directories.Goals as goal

fault_as : {f g : StepFault} → f ≡ g → ◌≡◌ {A = Result Cursor StepFault} (Err f) (Err g)
fault_as e = ap (λ (f : StepFault). Err f) e

pub returns-in-Err-Past : goal.returns-in-Err-Past
returns-in-Err-Past c =
    let w = c.loop in
    ap decision_of c.refused.ensures
    ∙ sym (w.invariant ∙ directories_step _ _ _ _ _ _ _ (omega arith) (sym c.step.ensures.answer ∙ c.in-Err-Past.is ∙ fault_as c.in-Err-Past.field-0-is))

pub loop-init : goal.loop-init
loop-init c =
    let a = c.args in
    let s = a.self.section.now in
    ap (λ (n : ℕ). directory_checks s a.i a.place n (directories_at s a.self.at)) (sym c.directory_count-count.ensures)
    ∙ ap (λ (x : ℕ). directory_checks s a.i a.place c.directory_count-count.result x) (sym c.directories_at.ensures) ∙ directories_start _ _ _ _ _

pub loop-preserved : goal.loop-preserved
loop-preserved c =
    let w = c.loop in
    w.invariant ∙ directories_step _ _ _ _ _ _ _ (omega arith) (sym c.step.ensures.answer ∙ c.in-Ok.is)

pub returns-in-Err-Unended : goal.returns-in-Err-Unended
returns-in-Err-Unended c =
    let w = c.loop in
    ap decision_of c.refused-in-Err-Unended.ensures
    ∙ sym (w.invariant ∙ directories_step _ _ _ _ _ _ _ (omega arith) (sym c.step.ensures.answer ∙ c.in-Err-Unended.is ∙ fault_as c.in-Err-Unended.field-0-is))

pub returns : goal.returns
returns c = sym (c.loop.invariant ∙ directories_end _ _ _ _ _ _ (omega arith))
