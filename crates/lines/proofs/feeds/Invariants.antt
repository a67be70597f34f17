-- After k turns n is the number of line feeds among the first k bytes.
use mathlib.Core.Path.{◌≡◌}
use Prim.Native.Nat.{◌≤◌}
use lib.ListN.{take}
use Rattle.std.specs.List.{count_by}
use Rattle.lines.specs.Private.{is_feed}
use Rattle.lines.proofs.feeds.Given as goal

abbrev pub invariant-loop-b : goal.invariant-loop-b
invariant-loop-b l = (l.n ≤ l.b-index) × (l.n ≡ count_by is_feed (take l.b-index l.bytes))
