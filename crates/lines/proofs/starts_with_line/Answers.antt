use mathlib.Core.Path.{sym, ◌∙◌}
use borrow.Author.Tests.{eqb-true}
use Rattle.std.proofs.lemmas.Slice.{between_from_start}
use Rattle.lines.proofs.Lines.{ends_known}
use Rattle.lines.proofs.starts_with_line.Goals as goal

pub returns-then-end-eq10 : goal.returns-then-end-eq10
returns-then-end-eq10 c =
    let l = c.in-Some.ensures.lookup.0 in
    let s = c.args.bytes.now in
    λ z.
    ends_known s c.args.width _ _ l.1 (sym (between_from_start s c.args.width) ∙ sym l.2 ∙ c.in-Some-split_last.ensures.cases.0) c.if-end-eq10.true
    (sym c.feeds.ensures ∙ eqb-true _ 0 z)
