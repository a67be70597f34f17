-- Check 7 says whether there is a place for each entry; where there is, checks 11 to 13 run on a filled buffer.
use mathlib.Core.Path.{sym}
use Rattle.trace.proofs.Answers.{answer_few, answer_chains}
use Rattle.trace.proofs.check_links.Goals as goal

pub returns-in_err-check : goal.returns-in_err-check
returns-in_err-check g c =
    answer_few _ _ _ _ (sym c.count.ensures) _ _ c.places_fault.ensures _ _ c.from_residual.ensures.1 c.in_err-check.ensures c.fill.ensures

pub returns-in-Ok : goal.returns-in-Ok
returns-in-Ok g c =
    answer_chains _ _ _ _ (sym c.count.ensures) _ _ c.places_fault.ensures _ c.in_ok-check.ensures _ (rw c.fill.auto.places at c.in-Ok.ensures)
