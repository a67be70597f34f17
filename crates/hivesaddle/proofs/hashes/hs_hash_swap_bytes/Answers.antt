-- The reply says what the call answered.
use Rattle.std.proofs.lemmas.List.{map-id}
use Rattle.hivesaddle.proofs.hashes.hs_hash_swap_bytes.Goals as goal

pub returns : goal.returns
returns c =
    rw (c.swap_reply.ensures, c.hash_swap-text_answer.ensures.answer, map-id c.args.old.now, map-id c.args.start.now) at c.put_reply.ensures
