-- The plan of check 9, line by line.
use Rattle.incremental.proofs.Plan.{exit_wanted, exit_refused, reach_wants}
use Rattle.reader.proofs.Stages.{fits_refused, fits_pass}
use Rattle.reader.specs.Checks.{fits_plan}
use Rattle.reader.proofs.checks.check_fits.Goals as goal

pub returns-in_err-reach : goal.returns-in_err-reach
unfolding fits_plan
returns-in_err-reach c = exit_wanted _ _ _ _ c.from_residual.ensures.1 c.in_err-reach.ensures.1 (reach_wants _ _ _ c.in_err-reach.ensures.0)

pub returns-in_err-check : goal.returns-in_err-check
unfolding fits_plan
returns-in_err-check c =
    exit_refused _ _ _ c.from_residual-in_err-check.ensures.1
    (fits_refused c.args.o _ _ c.in_ok-reach.ensures.0 c.in_ok-reach.ensures.1 _ c.part_of-metrics.ensures.contents _ c.misfit_fault.ensures _ c.in_err-check.ensures)

pub returns : goal.returns
unfolding fits_plan
returns c =
    fits_pass c.args.o _ _ c.in_ok-reach.ensures.0 c.in_ok-reach.ensures.1 _ c.part_of-metrics.ensures.contents _ c.misfit_fault.ensures _ c.in_ok-check.ensures
