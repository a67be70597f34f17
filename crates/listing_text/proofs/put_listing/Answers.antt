-- The case of the verdict decides which text is put.
use mathlib.Core.Path.{ap}
use native.Mathlib.Omega.{arith}
use Rattle.reader.specs.Verdict.{verdict_in}
use Rattle.listing_text.proofs.Bounds.{accepted_units}
use Rattle.listing_text.proofs.Lines.{listing_long, listing_accepted, listing_refused}
use Rattle.listing_text.proofs.put_listing.Goals as goal

pub returns-then-file-gt-FILE_LIMIT-clause-listed : goal.returns-then-file-gt-FILE_LIMIT-clause-listed
returns-then-file-gt-FILE_LIMIT-clause-listed c = rw (← listing_long _ _ c.if-file-gt-FILE_LIMIT.true) c.put_all.ensures

pub put_accepted-requires : goal.put_accepted-requires
put_accepted-requires c = omega (arith, accepted_units _ _ _ _ _ (λ i. (c.type_inv.file i).fits) c.read_file.ensures (ap verdict_in c.in-Ok.is))

pub returns-in-Ok-clause-listed : goal.returns-in-Ok-clause-listed
returns-in-Ok-clause-listed c =
    rw (← listing_accepted _ _ c.if-file-gt-FILE_LIMIT.false _ _ _ c.read_file.ensures _ (ap verdict_in c.in-Ok.is)) c.put_accepted.ensures

pub returns-in-Err-clause-listed : goal.returns-in-Err-clause-listed
returns-in-Err-clause-listed c =
    rw (← listing_refused _ _ c.if-file-gt-FILE_LIMIT.false _ _ _ c.read_file.ensures _ (ap verdict_in c.in-Err.is)) c.put_refused.ensures
