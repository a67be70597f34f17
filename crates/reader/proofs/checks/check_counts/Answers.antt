-- The plan of checks 7 and 8, line by line.
use mathlib.Core.Path.{refl}
use Rattle.incremental.proofs.Plan.{exit_wanted, exit_refused, reach_wants, reach_on, check_on, check_refused, decide_it}
use Rattle.reader.specs.Checks.{counts_plan}
use Rattle.reader.proofs.Stages.{places_at}
use Rattle.reader.proofs.checks.check_counts.Goals as goal

pub returns-in_err-reach : goal.returns-in_err-reach
unfolding counts_plan
returns-in_err-reach c = exit_wanted _ _ _ _ c.from_residual.ensures.1 c.in_err-reach.ensures.1 (reach_wants _ _ _ c.in_err-reach.ensures.0)

pub returns-in_err-check : goal.returns-in_err-check
unfolding counts_plan
returns-in_err-check c =
    exit_refused _ _ _ c.from_residual-in_err-check.ensures.1
    (reach_on _ _ _ _ _ c.in_ok-reach.ensures.0 c.in_ok-reach.ensures.1
    (check_refused 7 _ _ _ _ _ c.in_err-check.ensures (places_at _ _ _ _ c.places_fault.ensures c.link_count.ensures)))

pub returns-in_err-check-2 : goal.returns-in_err-check-2
unfolding counts_plan
returns-in_err-check-2 c =
    exit_refused _ _ _ c.from_residual-in_err-check-2.ensures.1
    (reach_on _ _ _ _ _ c.in_ok-reach.ensures.0 c.in_ok-reach.ensures.1
    (check_on 7 _ _ _ _ _ _ c.in_ok-check.ensures (places_at _ _ _ _ c.places_fault.ensures c.link_count.ensures)
    (check_refused 8 _ _ _ _ _ c.in_err-check-2.ensures c.entries_fault.ensures)))

pub returns : goal.returns
unfolding counts_plan
returns c =
    reach_on _ _ _ _ _ c.in_ok-reach.ensures.0 c.in_ok-reach.ensures.1
    (check_on 7 _ _ _ _ _ _ c.in_ok-check.ensures (places_at _ _ _ _ c.places_fault.ensures c.link_count.ensures)
    (check_on 8 _ _ _ _ _ _ c.in_ok-check-2.ensures c.entries_fault.ensures (decide_it _ _ _ refl)))
