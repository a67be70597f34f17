-- What is accepted is held against its declared size: 16 where it is shorter, 17 where longer; a wanted length is 16 too.
use Rattle.head.proofs.Facts.{open_met}
use Rattle.reader.proofs.Readers.{whole_refused, head_stopped, rest_stopped, file_short, file_long, file_exact}
use Rattle.reader.proofs.checks.check_whole.Goals as goal

pub returns-in-Err : goal.returns-in-Err
returns-in-Err c = whole_refused _ _ _ _ _ c.whole_stop.ensures (head_stopped _ _ _ _ c.read_open.ensures c.in-Err.is)

pub check_rest-requires : goal.check_rest-requires
check_rest-requires c = open_met _ _ _ c.read_open.ensures c.in-Ok.is

pub returns-in-Err-check_rest : goal.returns-in-Err-check_rest
returns-in-Err-check_rest c =
    whole_refused _ _ _ _ _ c.whole_stop-in-Err-check_rest.ensures
    (rest_stopped _ _ _ _ c.read_open.ensures c.in-Ok.is _ _ c.check_rest.ensures _ c.in-Err-check_rest.is)

pub returns-then-file-size : goal.returns-then-file-size
returns-then-file-size c = whole_refused _ _ _ _ _ c.wrong_length.ensures (file_short _ _ _ _ c.read_open.ensures c.in-Ok.is _ _ c.check_rest.ensures _ c.in-Ok-check_rest.is c.if-file-size.true)

pub returns-then-size-file : goal.returns-then-size-file
returns-then-size-file c =
    whole_refused _ _ _ _ _ c.wrong_length-then-size-file.ensures
    (file_long _ _ _ _ c.read_open.ensures c.in-Ok.is _ _ c.check_rest.ensures _ c.in-Ok-check_rest.is c.if-file-size.false c.if-size-file.true)

pub returns : goal.returns
returns c = file_exact _ _ _ _ c.read_open.ensures c.in-Ok.is _ _ c.check_rest.ensures _ c.in-Ok-check_rest.is c.if-file-size.false c.if-size-file.false
