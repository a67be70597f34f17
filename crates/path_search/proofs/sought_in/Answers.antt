-- The stored hash is read, and the rest is given.
use Rattle.path_search.proofs.sought_in.Goals as goal

pub returns : goal.returns
returns c = rw c.u32_at.ensures
