-- A path of no units fits anywhere; any other must end within the section, and 32-bit numbers wrap no sum.
use native.Mathlib.Omega.{arith}
use Rattle.volumes.proofs.Laws.{path_none, path_some}
use Rattle.volumes.proofs.Entry.path_fits.Goals as goal

pub returns-then-count-eq0 : goal.returns-then-count-eq0
returns-then-count-eq0 c = path_none _ _ (omega arith)

pub returns : goal.returns
returns c = path_some _ _ c.u32_at-at.ensures c.u32_at-count.ensures c.if-count-eq0.false
