-- The reply says what the call answered.
use Rattle.hivesaddle.proofs.queries.hs_find_path.Goals as goal

pub returns : goal.returns
returns c =
    rw (c.path_reply.ensures, c.find_path.ensures.answer) at c.put_reply.ensures
