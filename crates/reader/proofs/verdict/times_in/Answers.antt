-- Each of the eight is one call.
use Rattle.reader.proofs.verdict.times_in.Goals as goal

pub returns : goal.returns
returns c = cc
