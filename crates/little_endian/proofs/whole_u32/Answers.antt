-- Four bytes are two halves of two bytes each, and the upper half counts 65536 times: `le_split` at two.
use native.Mathlib.Omega.{arith}
use Rattle.little_endian.proofs.Number.{le_split}
use Rattle.little_endian.proofs.whole_u32.Goals as goal

pub returns : goal.returns
returns c = let a = c.args in omega (arith, le_split 2 2 a.s.now a.at)
