-- A file that opens is asked; one that is refused or too short for checks 1 to 6 shows nothing.
use Rattle.head.proofs.Facts.{open_met}
use Rattle.query.proofs.Asked.{asked_ok, asked_err}
use Rattle.query.proofs.entry_place.Goals as goal

pub returns-in-Ok : goal.returns-in-Ok
returns-in-Ok c = search asked_ok

pub entry_in-requires : goal.entry_in-requires
entry_in-requires c = search open_met

pub returns-in-Err : goal.returns-in-Err
returns-in-Err c = search asked_err
