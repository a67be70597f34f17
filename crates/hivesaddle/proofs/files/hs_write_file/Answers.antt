-- The reply says what the call answered.
use Rattle.hivesaddle.proofs.files.hs_write_file.Goals as goal

pub returns : goal.returns
returns c =
    let a = c.write_file-v.ensures in
    record {
      said = record { said = rw (c.full_reply.ensures, a.reads.verdict) at c.put_reply.ensures; places = a.reads.buffer };
      placed = a.placed;
    }
