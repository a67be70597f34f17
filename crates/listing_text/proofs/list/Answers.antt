-- What stands in the text stands in the output, since the text lies in it from its start to its end.
use Rattle.std.proofs.Common.{arith}
use Rattle.listing_text.proofs.Lines.{listed}
use Rattle.listing_text.proofs.list.Goals as goal

pub returns : goal.returns
returns c =
    let begun = c.new-text.ensures in
    let put = c.put_listing.ensures in
    let same = put.listed.buffer in
    let all = listed _ c.args.predecessors.now (λ i. (c.type_inv.file i).fits) _ _ _ _ begun.bytes begun.position put.listed put.places in
    let buffer = begun.buffer in
    grind (arith, all, same, buffer)
