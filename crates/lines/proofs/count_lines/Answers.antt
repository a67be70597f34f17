use native.Mathlib.Omega.{arith}
use Rattle.lines.proofs.Lines.{none_of_none, count_last}
use Rattle.lines.proofs.count_lines.Goals as goal

pub returns-in-Some : goal.returns-in-Some
returns-in-Some c =
    rw c.in-Some.ensures.cases.0 (omega (arith, c.count_feeds.ensures, count_last c.in-Some.before.now c.in-Some.field-0-0.now))

pub returns-in-None : goal.returns-in-None
returns-in-None c = none_of_none c.args.bytes.now c.in-None.ensures.cases
