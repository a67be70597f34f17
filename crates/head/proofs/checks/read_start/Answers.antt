-- Line by line the code is that of the plan.
use Rattle.head.proofs.Steps.{steps, version_read, size_laid, start_laid}
use Rattle.incremental.proofs.Plan.{exit_wanted, exit_refused, reach_on, reach_wants, check_on, given_on, given_refused}
use Rattle.head.specs.Checks.{start_plan}
use Rattle.head.proofs.checks.read_start.Goals as goal

pub returns-in_err-reach-2 : goal.returns-in_err-reach-2
unfolding start_plan
returns-in_err-reach-2 c = search (steps, c.in_err-reach-2.ensures.0, c.in_err-reach-2.ensures.1, c.in_ok-reach.ensures.0, c.in_ok-reach.ensures.1, c.in_ok-version.ensures) depth 24

pub returns-in_err-check : goal.returns-in_err-check
unfolding start_plan
returns-in_err-check c =
    exit_refused _ _ _ c.from_residual-in_err-check.ensures.1 (search (steps, c.in_err-check.ensures, c.in_ok-reach.ensures.0, c.in_ok-reach.ensures.1, c.in_ok-version.ensures, c.in_ok-reach-2.ensures.0, c.in_ok-reach-2.ensures.1) depth 24 fits 20000)

pub returns-in_err-reach-3 : goal.returns-in_err-reach-3
unfolding start_plan
returns-in_err-reach-3 c = search (steps, c.in_err-reach-3.ensures.0, c.in_err-reach-3.ensures.1, c.in_ok-reach.ensures.0, c.in_ok-reach.ensures.1, c.in_ok-version.ensures, c.in_ok-reach-2.ensures.0, c.in_ok-reach-2.ensures.1, c.in_ok-check.ensures) depth 24

pub returns-in_err-check-2 : goal.returns-in_err-check-2
unfolding start_plan
returns-in_err-check-2 c =
    exit_refused _ _ _ c.from_residual-in_err-check-2.ensures.1 (search (steps, c.in_err-check-2.ensures, c.in_ok-reach.ensures.0, c.in_ok-reach.ensures.1, c.in_ok-version.ensures, c.in_ok-reach-2.ensures.0, c.in_ok-reach-2.ensures.1, c.in_ok-check.ensures, c.in_ok-reach-3.ensures.0, c.in_ok-reach-3.ensures.1) depth 24 fits 20000)

pub returns-in_err-reach-4 : goal.returns-in_err-reach-4
unfolding start_plan
returns-in_err-reach-4 c =
    exit_wanted _ _ _ _ c.from_residual-in_err-reach-4.ensures.1 c.in_err-reach-4.ensures.1
    (reach_on 4 _ _ c.in_ok-reach.field-0.now _ c.in_ok-reach.ensures.0 c.in_ok-reach.ensures.1
    (given_on 1 0 _ _ _ c.ok.result c.in_ok-version.version _ c.in_ok-version.ensures
    (version_read _ _ _ _ c.try_from.ensures.0 c.ok.ensures.value c.u32_at-number.ensures)
    (reach_on 8 _ _ c.in_ok-reach-2.field-0.now _ c.in_ok-reach-2.ensures.0 c.in_ok-reach-2.ensures.1
    (check_on 2 _ _ _ _ _ _ c.in_ok-check.ensures c.signature_fault.ensures
    (reach_on 16 _ _ c.in_ok-reach-3.field-0.now _ c.in_ok-reach-3.ensures.0 c.in_ok-reach-3.ensures.1
    (check_on 3 _ _ _ _ _ _ c.in_ok-check-2.ensures (size_laid _ _ _ _ c.size_fault.ensures c.of-layout.ensures)
    (reach_wants 76 _ _ c.in_err-reach-4.ensures.0)))))))

pub returns-in_err-name_units : goal.returns-in_err-name_units
unfolding start_plan
returns-in_err-name_units c =
    exit_refused _ _ _ c.from_residual-in_err-name_units.ensures.1
    (reach_on 4 _ _ c.in_ok-reach.field-0.now _ c.in_ok-reach.ensures.0 c.in_ok-reach.ensures.1
    (given_on 1 0 _ _ _ c.ok.result c.in_ok-version.version _ c.in_ok-version.ensures
    (version_read _ _ _ _ c.try_from.ensures.0 c.ok.ensures.value c.u32_at-number.ensures)
    (reach_on 8 _ _ c.in_ok-reach-2.field-0.now _ c.in_ok-reach-2.ensures.0 c.in_ok-reach-2.ensures.1
    (check_on 2 _ _ _ _ _ _ c.in_ok-check.ensures c.signature_fault.ensures
    (reach_on 16 _ _ c.in_ok-reach-3.field-0.now _ c.in_ok-reach-3.ensures.0 c.in_ok-reach-3.ensures.1
    (check_on 3 _ _ _ _ _ _ c.in_ok-check-2.ensures (size_laid _ _ _ _ c.size_fault.ensures c.of-layout.ensures)
    (reach_on 76 _ _ c.in_ok-reach-4.field-0.now _ c.in_ok-reach-4.ensures.0 c.in_ok-reach-4.ensures.1
    (given_refused 4 16 _ _ _ _ _ c.in_err-name_units.ensures c.name_end-end.ensures))))))))

pub returns : goal.returns
unfolding start_plan
returns c =
    reach_on 4 _ _ c.in_ok-reach.field-0.now _ c.in_ok-reach.ensures.0 c.in_ok-reach.ensures.1
    (given_on 1 0 _ _ _ c.ok.result c.in_ok-version.version _ c.in_ok-version.ensures
    (version_read _ _ _ _ c.try_from.ensures.0 c.ok.ensures.value c.u32_at-number.ensures)
    (reach_on 8 _ _ c.in_ok-reach-2.field-0.now _ c.in_ok-reach-2.ensures.0 c.in_ok-reach-2.ensures.1
    (check_on 2 _ _ _ _ _ _ c.in_ok-check.ensures c.signature_fault.ensures
    (reach_on 16 _ _ c.in_ok-reach-3.field-0.now _ c.in_ok-reach-3.ensures.0 c.in_ok-reach-3.ensures.1
    (check_on 3 _ _ _ _ _ _ c.in_ok-check-2.ensures (size_laid _ _ _ _ c.size_fault.ensures c.of-layout.ensures)
    (reach_on 76 _ _ c.in_ok-reach-4.field-0.now _ c.in_ok-reach-4.ensures.0 c.in_ok-reach-4.ensures.1
    (given_on 4 16 _ _ _ _ _ _ c.in_ok-name_units.ensures c.name_end-end.ensures
    (start_laid _ _ _ _ c.of-layout.ensures))))))))
