-- The version that was looked up decides.
use mathlib.Core.Path.{sym, ◌∙◌}
use Rattle.catalogue.proofs.Line.{form_known, form_unknown}
use Rattle.catalogue.proofs.can_form.Goals as goal

pub returns-in-Ok : goal.returns-in-Ok
returns-in-Ok c = c.size_in_range.ensures ∙ sym (form_known _ _ _ c.try_from.ensures.0 _ c.in-Ok.is)

pub returns-in-Err : goal.returns-in-Err
returns-in-Err c = sym (form_unknown _ _ _ c.try_from.ensures.0 _ c.in-Err.is)
