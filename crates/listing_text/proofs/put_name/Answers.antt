use mathlib.Core.Path.{ap, ◌∙◌}
use Rattle.listing_text.specs.Listing.{shown_unit}
use Rattle.listing_text.proofs.Lines.{name_none, name_next}
use Rattle.listing_text.proofs.put_name.Goals as goal

pub loop-k-init : goal.loop-k-init
loop-k-init c = name_none _ _

pub loop-k-preserved : goal.loop-k-preserved
loop-k-preserved c =
    name_next _ _ _ (c.shown_unit.ensures ∙ ap shown_unit c.u16_at-unit.ensures) c.loop-k.invariant c.put.ensures
