-- Each field is read at its offset.
use Rattle.reader.specs.Checks.{record_of}
use Rattle.reader.proofs.verdict.record_of.Goals as goal

pub returns : goal.returns
unfolding record_of
returns c = cc
