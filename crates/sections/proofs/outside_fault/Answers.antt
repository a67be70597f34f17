-- The four sections are tested in order, so the first that lies outside gives the fault, as in the definition.
use Rattle.sections.proofs.Cases.{picks, by_sections}
use Rattle.sections.proofs.outside_fault.Goals as goal

pub returns-then-is_outside-2 : goal.returns-then-is_outside-2
returns-then-is_outside-2 c = by_sections _ _ _ (search picks depth 9)

pub returns-then-is_outside-3 : goal.returns-then-is_outside-3
returns-then-is_outside-3 c = by_sections _ _ _ (search picks depth 9)

pub returns : goal.returns
returns c = by_sections _ _ _ (search picks depth 9)

pub returns-then-is_outside : goal.returns-then-is_outside
returns-then-is_outside c = by_sections _ _ _ (search picks depth 9)

pub returns-then-is_outside-4 : goal.returns-then-is_outside-4
returns-then-is_outside-4 c = by_sections _ _ _ (search picks depth 9)
