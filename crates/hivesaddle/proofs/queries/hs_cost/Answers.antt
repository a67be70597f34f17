-- The reply says what the call answered.
use Rattle.hivesaddle.proofs.queries.hs_cost.Goals as goal

pub returns : goal.returns
returns c =
    rw (c.cost_reply.ensures, c.cost.ensures.answer) at c.put_reply.ensures
