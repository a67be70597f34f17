use Rattle.std.proofs.Common.{rules}
use Rattle.text.specs.Decimal.{decimal}
use Rattle.text.specs.Put.{Puts}
use Rattle.listing_text.proofs.Lines.{line_of}
use Rattle.listing_text.proofs.put_count.Goals as goal

pub returns : goal.returns
returns c =
    let h = c.put_line.ensures in
    let said : Puts h.0 (decimal c.args.n) h.1 = search rules in
    line_of h.2 said h.4
