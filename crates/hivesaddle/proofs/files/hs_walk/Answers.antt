-- The reply says what the call answered.
use Rattle.hivesaddle.proofs.files.hs_walk.Goals as goal

pub returns : goal.returns
returns c =
    let a = c.walk-answer.ensures in
    record { said = rw (c.walk_reply.ensures, a.answer) at c.put_reply.ensures; placed = a.placed; places = a.held }
