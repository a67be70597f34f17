-- The blocks that are left hold the line feeds that n lacks.
use mathlib.Core.Path.{◌≡◌}
use Prim.Native.Nat.{◌+◌}
use Rattle.std.specs.List.{count_by}
use Rattle.std.specs.Slice.Iter.{chunks_rest, chunks_size}
use Rattle.lines.specs.Private.{is_feed}
use Rattle.lines.proofs.count_feeds.Given as goal

abbrev pub invariant-loop-block : goal.invariant-loop-block
invariant-loop-block l =
    (chunks_size l.block-iterator ≡ 192) × (l.n + count_by is_feed (chunks_rest l.block-iterator) ≡ count_by is_feed l.bytes)
