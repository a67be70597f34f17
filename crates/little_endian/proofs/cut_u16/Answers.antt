-- Bytes past the end count as zero: one that is there gives itself.
use Prim.Native.Nat.{◌+◌}
use mathlib.Core.Path.{sym}
use native.Mathlib.Omega.{arith}
use Rattle.little_endian.specs.Number.{le}
use Rattle.little_endian.proofs.Number.{le_past}
use Rattle.little_endian.proofs.cut_u16.Goals as goal

pub returns-then-at-s : goal.returns-then-at-s
unfolding le
returns-then-at-s c = let a = c.args in omega (arith, le_past 1 a.s.now (a.at + 1) c.requires)

pub returns-else-at-s : goal.returns-else-at-s
returns-else-at-s c = let a = c.args in sym (le_past 2 a.s.now a.at c.if-at-s.false)
