-- The name stands at a fixed offset with the length that the first checks found; where they fail nothing is shown.
use native.Mathlib.Omega.{arith}
use Rattle.head.proofs.Rules.{name_law}
use Rattle.head.proofs.Facts.{start_met}
use Rattle.head.specs.Checks.{start_plan}
use Rattle.query.proofs.Asked.{asking, was_ok}
use Rattle.query.proofs.program_place.Goals as goal

pub returns-in_err-start : goal.returns-in_err-start
returns-in_err-start c = search (asking, c.in_err-start.was)

pub overflow_mul-result : goal.overflow_mul-result
overflow_mul-result c =
    omega (arith, (name_law _ _ (start_met _ _ _ c.read_start.ensures (was_ok start_plan _ _ _ c.read_start.ensures c.ok.ensures.value _ c.in_ok-start.was)).ended).short)

pub returns : goal.returns
returns c = search (asking, c.in_ok-start.was)
