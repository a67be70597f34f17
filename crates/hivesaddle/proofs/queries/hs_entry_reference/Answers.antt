-- The reply says what the call answered.
use Rattle.hivesaddle.proofs.queries.hs_entry_reference.Goals as goal

pub returns : goal.returns
returns c =
    rw (c.entry_reference_reply.ensures, c.entry_reference.ensures.answer) at c.put_reply.ensures
