-- Checks 1 to 6, then the rest.
use Rattle.incremental.proofs.Plan.{then_stops, then_on}
use Rattle.head.specs.Checks.{open_plan}
use Rattle.head.proofs.Facts.{open_accepted}
use Rattle.reader.specs.Checks.{rest_plan, read_plan}
use Rattle.reader.proofs.Stages.{verdict_exit}
use Rattle.reader.proofs.checks.check_all.Goals as goal

pub returns-in_err-opening : goal.returns-in_err-opening
unfolding read_plan
returns-in_err-opening c = verdict_exit _ _ _ _ c.from_residual.ensures.1 (then_stops open_plan (rest_plan _) _ _ c.in_err-opening.ensures)

pub check_rest-requires : goal.check_rest-requires
check_rest-requires c = open_accepted _ _ c.in_ok-opening.ensures

pub returns : goal.returns
unfolding read_plan
returns c = then_on open_plan (rest_plan _) _ _ _ c.in_ok-opening.ensures c.check_rest.ensures
