-- The reply says what the call answered.
use Rattle.hivesaddle.proofs.catalogue_lines.hs_catalogue_read.Goals as goal

pub returns : goal.returns
returns c =
    rw (c.line_reply.ensures, c.read_line.ensures) at c.put_reply.ensures
