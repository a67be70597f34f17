-- Each way out is that of the stage that was called last; those before it passed.
use mathlib.Core.Path.{refl, sym}
use lib.ListN.{length-take}
use native.Mathlib.Omega.{arith}
use Rattle.incremental.proofs.Plan.{then_on, then_stops, reach_on}
use Rattle.reader.specs.Checks.{counts_plan, fits_plan, texts_plan, trace_plan, volumes_plan, rest_plan}
use Rattle.reader.proofs.Stages.{verdict_exit, trace_stops, counts_met, given_record}
use Rattle.reader.proofs.checks.check_rest.Goals as goal

pub returns-in_err-check_counts : goal.returns-in_err-check_counts
unfolding rest_plan
returns-in_err-check_counts c =
    verdict_exit _ _ _ _ c.from_residual.ensures.1 (then_stops (counts_plan _ _) _ _ _ c.in_err-check_counts.ensures)

pub returns-in_err-check_fits : goal.returns-in_err-check_fits
unfolding rest_plan
returns-in_err-check_fits c =
    verdict_exit _ _ _ _ c.from_residual-in_err-check_fits.ensures.1
    (then_on (counts_plan _ _) _ _ _ _ c.in_ok-check_counts.ensures
    (then_stops (fits_plan _) _ _ _ c.in_err-check_fits.ensures))

pub returns-in_err-check_texts : goal.returns-in_err-check_texts
unfolding rest_plan
returns-in_err-check_texts c =
    verdict_exit _ _ _ _ c.from_residual-in_err-check_texts.ensures.1
    (then_on (counts_plan _ _) _ _ _ _ c.in_ok-check_counts.ensures
    (then_on (fits_plan _) _ _ _ _ c.in_ok-check_fits.ensures
    (then_stops (texts_plan _) _ _ _ c.in_err-check_texts.ensures)))

pub check_trace-requires : goal.check_trace-requires
check_trace-requires c = (counts_met _ _ _ _ c.in_ok-check_counts.ensures).0

pub returns-in_err-chains : goal.returns-in_err-chains
unfolding rest_plan
returns-in_err-chains c =
    verdict_exit _ _ _ _ c.from_residual-in_err-chains.ensures.1
    (then_on (counts_plan _ _) _ _ _ _ c.in_ok-check_counts.ensures
    (then_on (fits_plan _) _ _ _ _ c.in_ok-check_fits.ensures
    (then_on (texts_plan _) _ _ _ _ c.in_ok-check_texts.ensures
    (then_stops (trace_plan _) _ _ _ (trace_stops _ _ _ _ c.in_err-chains.ensures)))))

pub check_volumes-requires : goal.check_volumes-requires
check_volumes-requires c = (c.requires, (counts_met _ _ _ _ c.in_ok-check_counts.ensures).1)

pub returns-in_err-check_volumes : goal.returns-in_err-check_volumes
unfolding rest_plan
returns-in_err-check_volumes c =
    let t = c.in_ok-chains.ensures.passed _ refl in
    verdict_exit _ _ _ _ c.from_residual-in_err-check_volumes.ensures.1
    (then_on (counts_plan _ _) _ _ _ _ c.in_ok-check_counts.ensures
    (then_on (fits_plan _) _ _ _ _ c.in_ok-check_fits.ensures
    (then_on (texts_plan _) _ _ _ _ c.in_ok-check_texts.ensures
    (then_on (trace_plan _) _ _ _ _ (sym t.1)
    (then_stops (volumes_plan _) _ _ _ c.in_err-check_volumes.ensures)))))

pub slice_bounds-record_of-end : goal.slice_bounds-record_of-end
slice_bounds-record_of-end c = simp length-take (omega (arith, c.requires.whole))

pub returns : goal.returns
unfolding rest_plan
returns c =
    let t = c.in_ok-chains.ensures.passed _ refl in
    then_on (counts_plan _ _) _ _ _ _ c.in_ok-check_counts.ensures
    (then_on (fits_plan _) _ _ _ _ c.in_ok-check_fits.ensures
    (then_on (texts_plan _) _ _ _ _ c.in_ok-check_texts.ensures
    (then_on (trace_plan _) _ _ _ _ (sym t.1)
    (then_on (volumes_plan _) _ _ _ _ c.in_ok-check_volumes.ensures
    (reach_on _ _ _ _ _ c.requires.whole refl (given_record _ _ _ _ _ _ _ _ c.record_of.ensures t.2 t.3))))))
