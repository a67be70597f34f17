-- The reply says what the call answered.
use Rattle.hivesaddle.proofs.queries.hs_entry_name.Goals as goal

pub returns : goal.returns
returns c =
    rw (c.place_reply.ensures, c.entry_place.ensures.answer) at c.put_reply.ensures
