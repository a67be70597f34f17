-- The length, the line feed and the digits decide.
use mathlib.Core.Path.{◌≡◌, ◌∙◌}
use mathlib.Core.Bool.{false}
use native.Mathlib.Omega.{arith}
use lib.ListN.{length}
use Rattle.lines.specs.Lines.{is_line}
use Rattle.lines.proofs.Lines.{line_none, line_short, line_other, line_full}
use Rattle.lines.proofs.is_line.Goals as goal

pub returns-in_default : goal.returns-in_default
returns-in_default c = line_none _ _ c.in_default.ensures.cases

pub returns-then-number-digits : goal.returns-then-number-digits
returns-then-number-digits c =
    let n = c.args.digits in
    let s = c.args.line.now in
    let t = c.in-Some.number.now in
    let b = c.in-Some.end.now in
    let q = c.in-Some.ensures.cases.0 in
    let short : (length t ≡ n → ⊥) → false ≡ is_line n s = line_short n s t b q in
    let other : length t ≡ n → (b ≡ 10 → ⊥) → false ≡ is_line n s = line_other n s t b q in
    grind (arith, short, other)

pub returns : goal.returns
returns c = c.are_digits.ensures ∙ line_full _ _ _ _ c.in-Some.ensures.cases.0 (omega arith) (omega arith)
