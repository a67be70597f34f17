-- Each field is read at the offset that the definition gives it; 32-bit numbers and a low entry wrap no sum.
use Rattle.volumes.specs.Volumes.{reference_of}
use Rattle.volumes.proofs.reference_at.Goals as goal

pub returns : goal.returns
unfolding reference_of
returns c = cc
