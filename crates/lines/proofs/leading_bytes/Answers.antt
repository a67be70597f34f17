-- The next chunk is a line or shows where they stop; with no chunk left all bytes are passed.
use mathlib.Core.Path.{sym, ◌∙◌}
use Rattle.lines.proofs.Leading.{none_leading, left_none, left_stop, left_more}
use Rattle.lines.proofs.leading_bytes.Goals as goal

pub returns-then-bytes-digits : goal.returns-then-bytes-digits
returns-then-bytes-digits c = none_leading _ _ c.if-bytes-digits.true

pub returns : goal.returns
returns c = left_none _ _ _ _ _ c.loop-line.invariant c.in-None.ensures.steps.1.0

pub returns-then-not-is_line : goal.returns-then-not-is_line
returns-then-not-is_line c =
    let h = c.in-Some.ensures.steps.1 in
    left_stop _ _ _ _ _ c.loop-line.invariant _ _ h.0 h.1 (sym c.is_line.ensures ∙ c.if-not-is_line.true)

pub loop-line-preserved : goal.loop-line-preserved
loop-line-preserved c =
    let h = c.in-Some.ensures.steps in
    left_more _ _ _ _ _ c.loop-line.invariant _ _ h.1.0 h.1.1 _ h.0 (sym c.is_line.ensures ∙ c.if-not-is_line.false)
