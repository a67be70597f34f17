-- After k turns the first k units have been put.
use Rattle.text.specs.Put.{Puts}
use Rattle.listing_text.specs.Listing.{shown_name}
use Rattle.listing_text.proofs.put_name.Given as goal

abbrev pub invariant-loop-k : goal.invariant-loop-k
invariant-loop-k l = Puts l.initial.text (shown_name l.file l.k) l.text
