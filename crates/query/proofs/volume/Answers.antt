-- A file that opens is asked; one that is refused or too short for checks 1 to 6 shows nothing.
use Rattle.query.proofs.Asked.{asking}
use Rattle.query.proofs.volume.Goals as goal

pub returns-in_err-opening : goal.returns-in_err-opening
returns-in_err-opening c = search (asking, c.in_err-opening.was)

pub volume_in-requires : goal.volume_in-requires
volume_in-requires c = search (asking, c.in_ok-opening.was)

pub returns : goal.returns
returns c = search (asking, c.in_ok-opening.was)
