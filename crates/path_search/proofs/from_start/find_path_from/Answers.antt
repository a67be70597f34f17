-- A file that opens is searched; one that is refused or too short for checks 1 to 6 has no path to find.
use Rattle.head.proofs.Facts.{open_met}
use Rattle.query.proofs.Asked.{asked_ok, asked_err}
use Rattle.path_search.proofs.from_start.find_path_from.Goals as goal

pub returns-in-Ok : goal.returns-in-Ok
returns-in-Ok c = search asked_ok

pub path_from_in-requires : goal.path_from_in-requires
path_from_in-requires c = search open_met

pub returns-in-Err : goal.returns-in-Err
returns-in-Err c = search asked_err
