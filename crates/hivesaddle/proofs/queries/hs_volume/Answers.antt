-- The reply says what the call answered.
use Rattle.hivesaddle.proofs.queries.hs_volume.Goals as goal

pub returns : goal.returns
returns c =
    rw (c.volume_reply.ensures, c.volume.ensures.answer) at c.put_reply.ensures
