-- The bytes at the place that is shown.
use Rattle.query.proofs.Parts.{shown_parts}
use Rattle.query.proofs.entry_name.Goals as goal

pub returns : goal.returns
returns c = search shown_parts
