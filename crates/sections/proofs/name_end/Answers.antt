-- The search looks at as many units as lie whole in the bytes.
use Rattle.sections.proofs.Name.{name_searched}
use Rattle.sections.proofs.name_end.Goals as goal

pub returns : goal.returns
returns c = name_searched _ _ _ c.name_units_in-units.ensures c.first_zero_unit.ensures
