-- Eight lines, one after the other.
use Rattle.std.proofs.Common.{rules}
use Rattle.digits.specs.Hex.{hex_digits}
use Rattle.text.specs.Put.{Puts}
use Rattle.listing_text.specs.Listing.{shown_name, path_text}
use Rattle.listing_text.proofs.Lines.{line_of, accepted_of}
use Rattle.listing_text.proofs.put_accepted.Goals as goal

pub returns : goal.returns
returns c =
    let a = c.args.a in
    let file = c.args.file.now in
    let name = c.put_line.ensures in
    let hash = c.put_line-2.ensures in
    let path = c.put_line-3.ensures in
    let found = c.find_path-path.ensures.answer in
    let n : Puts name.0 (shown_name file a.name_units) name.1 = search rules in
    let h : Puts hash.0 (hex_digits 8 a.stored_hash) hash.1 = search rules in
    let p : Puts path.0 (path_text c.find_path-path.result) path.1 = search rules in
    accepted_of a file c.put_count.ensures (line_of name.2 n name.4) (line_of hash.2 h hash.4) c.put_counts.ensures
    (line_of path.2 (rw found at p) path.4)
