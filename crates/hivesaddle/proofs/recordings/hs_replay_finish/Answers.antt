-- The reply says what the call answered.
use Rattle.hivesaddle.proofs.recordings.hs_replay_finish.Goals as goal

pub returns : goal.returns
returns c =
    let a = c.finish-ended.ensures in
    record { said = rw (c.replay_reply.ensures, a.says) at c.put_reply.ensures; given = a.given; working = a.working }
