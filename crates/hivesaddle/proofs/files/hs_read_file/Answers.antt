-- The reply says what the call answered.
use Rattle.hivesaddle.proofs.files.hs_read_file.Goals as goal

pub returns : goal.returns
returns c =
    let a = c.read_file-v.ensures in
    record { said = rw (c.full_reply-reply.ensures, a.verdict) at c.put_reply.ensures; places = a.buffer }
