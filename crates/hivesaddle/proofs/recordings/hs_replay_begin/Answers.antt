-- The reply says what the call answered.
use Rattle.hivesaddle.proofs.recordings.hs_replay_begin.Goals as goal

pub returns : goal.returns
returns c =
    let a = c.begin-begun.ensures in
    record { said = rw (c.new.ensures, a.says) at c.put_reply.ensures; given = a.given; working = a.working }
