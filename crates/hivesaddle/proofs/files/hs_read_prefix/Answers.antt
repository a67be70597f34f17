-- The reply says what the call answered.
use Rattle.hivesaddle.proofs.files.hs_read_prefix.Goals as goal

pub returns : goal.returns
returns c =
    let a = c.read_prefix-v.ensures in
    record { said = rw (c.verdict_reply.ensures, a.verdict) at c.put_reply.ensures; places = a.buffer }
