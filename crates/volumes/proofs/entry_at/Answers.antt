-- A 32-bit index times a 16-bit size wraps nowhere.
use mathlib.Core.Path.{refl}
use native.Mathlib.Omega.{arith}
use Rattle.layout.proofs.Laws.{entry_low}
use Rattle.volumes.proofs.entry_at.Goals as goal

pub overflow_mul-result : goal.overflow_mul-result
overflow_mul-result c = let a = c.args in omega (arith, entry_low a.i a.l.volume_entry (omega arith) (omega arith))

pub returns : goal.returns
returns c = let a = c.args in (refl, entry_low a.i a.l.volume_entry (omega arith) (omega arith))
