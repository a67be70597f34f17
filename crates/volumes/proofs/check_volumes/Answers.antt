use mathlib.Core.Path.{sym, ◌∙◌}
use native.Mathlib.Omega.{arith}
use Rattle.incremental.proofs.Decision.{exit_refusal}
use Rattle.volumes.proofs.Laws.{volumes_start, volumes_next, volumes_refused, volumes_end, volumes_crowded, volumes_room}
use Rattle.volumes.proofs.check_volumes.Goals as goal

pub returns-in_err-check : goal.returns-in_err-check
returns-in_err-check c = exit_refusal _ _ _ c.from_residual.ensures.1 (volumes_crowded _ c.args.l _ _ _ _ c.entries_fault.ensures c.in_err-check.ensures)

pub loop-i-init : goal.loop-i-init
loop-i-init c = volumes_start _ _ _ _

pub loop-i-preserved : goal.loop-i-preserved
loop-i-preserved c = c.loop-i.invariant ∙ volumes_next _ _ _ _ _ (omega arith) (sym c.in_ok-check_volume.ensures)

pub returns-in_err-check_volume : goal.returns-in_err-check_volume
returns-in_err-check_volume c =
    exit_refusal _ _ _ c.from_residual-in_err-check_volume.ensures.1
    (sym
    (volumes_room _ c.args.l _ _ _ _ c.entries_fault.ensures c.in_ok-check.ensures
    ∙ c.loop-i.invariant
    ∙ volumes_refused _ _ _ _ _ _ (omega arith) (sym c.in_err-check_volume.ensures)))

pub returns : goal.returns
returns c =
    sym
    (volumes_room _ c.args.l _ _ _ _ c.entries_fault.ensures c.in_ok-check.ensures
    ∙ c.loop-i.invariant
    ∙ volumes_end _ _ _ _ _ (omega arith))
