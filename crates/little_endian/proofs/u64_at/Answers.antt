-- Bytes past the end count as zero; a number cut short is that of its two halves, each of which may be cut.
use mathlib.Core.Path.{sym}
use native.Mathlib.Omega.{arith}
use Rattle.little_endian.proofs.Number.{le_split, le_past}
use Rattle.little_endian.proofs.u64_at.Goals as goal

pub returns-then-s-at : goal.returns-then-s-at
returns-then-s-at c = let a = c.args in sym (le_past 8 a.s.now a.at c.if-s-at.true)

pub returns-then-s-at-lt8 : goal.returns-then-s-at-lt8
returns-then-s-at-lt8 c = let a = c.args in omega (arith, le_split 4 4 a.s.now a.at)
