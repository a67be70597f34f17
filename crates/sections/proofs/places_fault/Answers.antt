-- Either way out is a case of the definition.
use Rattle.sections.proofs.Cases.{faults}
use Rattle.sections.proofs.places_fault.Goals as goal

pub returns-then-places-count : goal.returns-then-places-count
returns-then-places-count c = search faults

pub returns : goal.returns
returns c = search faults
