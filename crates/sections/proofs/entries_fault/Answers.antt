-- The product does not wrap, so the test is the rule's.
use Rattle.sections.proofs.Cases.{faults}
use Rattle.sections.proofs.entries_fault.Goals as goal

pub returns : goal.returns
returns c = search faults

pub returns-then-size-count : goal.returns-then-size-count
returns-then-size-count c = search faults
