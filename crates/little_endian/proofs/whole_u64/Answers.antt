-- Eight bytes are two halves of four bytes each, and the upper half counts 2^32 times: `le_split` at four.
use native.Mathlib.Omega.{arith}
use Rattle.little_endian.proofs.Number.{le_split}
use Rattle.little_endian.proofs.whole_u64.Goals as goal

pub returns : goal.returns
returns c = let a = c.args in omega (arith, le_split 4 4 a.s.now a.at)
