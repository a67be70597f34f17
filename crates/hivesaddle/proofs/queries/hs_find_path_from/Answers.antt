-- The reply says what the call answered.
use Rattle.hivesaddle.proofs.queries.hs_find_path_from.Goals as goal

pub returns : goal.returns
returns c =
    rw (c.path_reply.ensures, c.find_path_from.ensures.answer) at c.put_reply.ensures
