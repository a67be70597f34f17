-- The lines before `at` are all of n digits; what comes after them is left.
use Rattle.std.specs.Slice.Iter.{chunks_rest, chunks_size}
use Rattle.lines.proofs.Leading.{Left}
use Rattle.lines.proofs.leading_bytes.Given as goal

abbrev pub invariant-loop-line : goal.invariant-loop-line
invariant-loop-line l = Left l.digits l.bytes (chunks_size l.line-iterator) (chunks_rest l.line-iterator) l.at
