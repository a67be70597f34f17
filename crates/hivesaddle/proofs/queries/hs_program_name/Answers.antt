-- The reply says what the call answered.
use Rattle.hivesaddle.proofs.queries.hs_program_name.Goals as goal

pub returns : goal.returns
returns c =
    rw (c.place_reply.ensures, c.program_place.ensures.answer) at c.put_reply.ensures
