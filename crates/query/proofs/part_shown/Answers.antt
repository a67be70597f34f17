-- The part taken has the offset and length of the answer; both are 0 where there is none.
use Rattle.query.proofs.Parts.{shown_parts}
use Rattle.query.proofs.part_shown.Goals as goal

pub returns : goal.returns
returns c = search shown_parts
