-- The reply says what the call answered.
use Rattle.hivesaddle.proofs.queries.hs_places.Goals as goal

pub returns : goal.returns
returns c =
    rw (c.places_reply.ensures, c.places.ensures.answer) at c.put_reply.ensures
