-- Checks 1 to 4, after them 21, and after that 5 and 6.
use Rattle.incremental.proofs.Plan.{exit_stop, then_stops, then_on}
use Rattle.head.specs.Checks.{start_plan, form_plan, open_plan}
use Rattle.head.proofs.checks.read_open.Goals as goal

pub returns-in_err-start : goal.returns-in_err-start
unfolding open_plan
returns-in_err-start c = exit_stop _ _ _ c.from_residual.ensures.1 (then_stops start_plan _ _ _ c.in_err-start.ensures)

pub returns-in_err-formed : goal.returns-in_err-formed
unfolding open_plan
returns-in_err-formed c =
    exit_stop _ _ _ c.from_residual-in_err-formed.ensures.1
    (then_on start_plan _ _ _ _ c.in_ok-start.ensures (then_stops (form_plan _) _ _ _ c.in_err-formed.ensures))

pub returns : goal.returns
unfolding open_plan
returns c = then_on start_plan _ _ _ _ c.in_ok-start.ensures (then_on (form_plan _) _ _ _ _ c.in_ok-formed.ensures c.check_sections.ensures)
