-- The four bytes that are cut out are those of the field.
use Rattle.walk.proofs.AlongChain.{cut_number}
use Rattle.walk.proofs.field_at.Goals as goal

pub returns : goal.returns
returns c = cut_number _ _ _ c.u32_at.ensures
