-- The first number, a blank and the second, one after the other.
use Rattle.listing_text.proofs.Lines.{pair_of}
use Rattle.listing_text.proofs.put_pair.Goals as goal

pub returns : goal.returns
returns c = pair_of _ _ _ _ _ _ c.put_decimal.ensures c.put.ensures c.put_decimal-2.ensures
