-- A file that opens is asked for its lists; of one that is refused or too short for checks 1 to 6 nothing is listed.
use Rattle.lists.proofs.Pairs.{none_listed}
use Rattle.head.proofs.Facts.{open_met}
use Rattle.query.proofs.Asked.{open_listed, none_open}
use Rattle.query.proofs.contents.references.Goals as goal

pub returns-in-Ok : goal.returns-in-Ok
returns-in-Ok c = search open_listed

pub references_in-requires : goal.references_in-requires
references_in-requires c = search open_met

pub returns-in-Err : goal.returns-in-Err
returns-in-Err c = search (none_open, none_listed)
