-- The reply says what the call answered.
use Rattle.hivesaddle.proofs.queries.hs_reference.Goals as goal

pub returns : goal.returns
returns c =
    rw (c.reference_reply.ensures, c.reference-answer.ensures.answer) at c.put_reply.ensures
