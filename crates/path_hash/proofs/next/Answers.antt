-- 37 times 32 bits, and 32 bits more, fit 64.
use Rattle.std.proofs.Common.{rules}
use Rattle.path_hash.specs.Hash.{step}
use Rattle.path_hash.proofs.next.Goals as goal

pub returns : goal.returns
unfolding step
returns c = search rules
