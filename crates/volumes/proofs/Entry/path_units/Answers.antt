-- The search gives the first zero unit, which is the number of units before it; where it finds none all count.
use mathlib.Core.Path.{◌∙◌}
use Rattle.volumes.proofs.Laws.{units_are}
use Rattle.volumes.proofs.Entry.path_units.Goals as goal

pub returns : goal.returns
returns c = c.unwrap_or.ensures ∙ units_are _ _ _ c.u32_at-start.ensures c.u32_at-count.ensures c.first_zero_unit.ensures
