-- The part taken has the offset and length of the volume's answer; where no volume is shown both are 0.
use Rattle.query.proofs.Parts.{shown_parts}
use Rattle.query.proofs.volume_path.Goals as goal

pub returns : goal.returns
returns c = search shown_parts
