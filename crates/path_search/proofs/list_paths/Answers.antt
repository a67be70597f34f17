-- A file that opens is searched; one that is refused or too short for checks 1 to 6 has no path to find.
use Rattle.lists.proofs.Pairs.{none_listed}
use Rattle.head.proofs.Facts.{open_met}
use Rattle.query.proofs.Asked.{open_listed, none_open}
use Rattle.path_search.proofs.list_paths.Goals as goal

pub returns-in-Ok : goal.returns-in-Ok
returns-in-Ok c = search open_listed

pub paths_in-requires : goal.paths_in-requires
paths_in-requires c = search open_met

pub returns-in-Err : goal.returns-in-Err
returns-in-Err c = search (none_open, none_listed)
