-- The reply says what the call answered.
use Rattle.hivesaddle.proofs.Output.{year_says}
use Rattle.hivesaddle.proofs.recordings.hs_year_table.Goals as goal

pub returns : goal.returns
returns c =
    let a = c.year_rows-answer.ensures in
    record { said = rw (c.year_reply.ensures, year_says _ _ _ _ _ _ a) at c.put_reply.ensures; placed = a.rows }
