-- Each field is read, at its offset or by a function whose contract is the definition's own; `cc` joins them.
use Rattle.volumes.specs.Volumes.{volume_of}
use Rattle.volumes.proofs.volume_at.Goals as goal

pub returns : goal.returns
unfolding volume_of
returns c = cc
