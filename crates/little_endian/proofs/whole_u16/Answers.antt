-- Two bytes that are there: the second counts 256 times, and a byte is below 256, so 16 bits hold the sum.
use Rattle.little_endian.specs.Number.{le}
use borrow.Author.Rules.{rules}
use Rattle.little_endian.proofs.whole_u16.Goals as goal

pub returns : goal.returns
unfolding le
returns c = search rules
