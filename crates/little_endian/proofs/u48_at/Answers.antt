-- Six bytes are four low ones and two high ones; past the end all of them count as zero.
use mathlib.Core.Path.{sym}
use native.Mathlib.Omega.{arith}
use Rattle.little_endian.proofs.Number.{le_split, le_past}
use Rattle.little_endian.proofs.u48_at.Goals as goal

pub returns-then-s-at : goal.returns-then-s-at
returns-then-s-at c = let a = c.args in sym (le_past 6 a.s.now a.at c.if-s-at.true)

pub returns : goal.returns
returns c = let a = c.args in omega (arith, le_split 4 2 a.s.now a.at)
