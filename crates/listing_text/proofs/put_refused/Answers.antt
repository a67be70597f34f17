use Rattle.std.proofs.Common.{rules}
use mathlib.Core.List.{◌++◌, ◌∷◌}
use Rattle.text.specs.Decimal.{decimal}
use Rattle.text.specs.Put.{Puts}
use Rattle.listing_text.proofs.Lines.{line_of}
use Rattle.listing_text.specs.Listing.{refused_text}
use Rattle.listing_text.proofs.put_refused.Goals as goal

pub returns : goal.returns
unfolding refused_text
returns c =
    let h = c.put_line.ensures in
    let said : Puts h.0 (decimal c.args.number ++ (32 ∷ decimal c.args.index)) h.1 = search rules in
    line_of h.2 said h.4
