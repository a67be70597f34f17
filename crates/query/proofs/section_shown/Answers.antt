-- The tests in the definition's order; each way out has the first that fails.
use Rattle.query.proofs.Volumes.{sections}
use Rattle.query.proofs.section_shown.Goals as goal

pub returns-then-is_some : goal.returns-then-is_some
returns-then-is_some c = search sections

pub returns-then-s-i : goal.returns-then-s-i
returns-then-s-i c = search sections

pub returns : goal.returns
returns c = search sections
