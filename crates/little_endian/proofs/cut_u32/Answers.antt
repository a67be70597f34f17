-- Bytes past the end count as zero; a number cut short is that of its two halves, each of which may be cut.
use mathlib.Core.Path.{sym}
use native.Mathlib.Omega.{arith}
use Rattle.little_endian.proofs.Number.{le_split, le_past}
use Rattle.little_endian.proofs.cut_u32.Goals as goal

pub returns-then-s-at : goal.returns-then-s-at
returns-then-s-at c = let a = c.args in sym (le_past 4 a.s.now a.at c.if-s-at.true)

pub returns : goal.returns
returns c = let a = c.args in omega (arith, le_split 2 2 a.s.now a.at)
