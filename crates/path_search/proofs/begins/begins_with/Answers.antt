-- Where nothing follows the path, and where there is no room for a unit behind it. What a unit there decides is found by `behinds`.
use Rattle.std.proofs.Common.{arith}
use Rattle.path_search.proofs.Same.{begins_whole, begins_short}
use Rattle.path_search.proofs.begins.begins_with.Goals as goal

pub returns-then-name-end : goal.returns-then-name-end
returns-then-name-end c = begins_whole _ _ c.if-name-end.true c.same_start.ensures

pub returns-then-name-lt2 : goal.returns-then-name-lt2
returns-then-name-lt2 c = begins_short _ _ c.if-name-end.false (omega arith)

pub returns-then-name-end-2 : goal.returns-then-name-end-2
returns-then-name-end-2 c = begins_short _ _ c.if-name-end.false (omega arith)
