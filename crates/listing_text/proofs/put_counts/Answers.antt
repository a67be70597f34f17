-- Four lines, one after the other.
use Rattle.listing_text.proofs.Lines.{counts_of}
use Rattle.listing_text.proofs.put_counts.Goals as goal

pub returns : goal.returns
returns c = counts_of _ c.put_count.ensures c.put_count-2.ensures c.put_count-3.ensures c.put_count-4.ensures
