-- Each branch is one of the definition's cases.
use borrow.Author.Tests.{eq-eqb, ne_eqb}
use Rattle.reader.proofs.checks.volumes_required.Goals as goal

pub returns : goal.returns
returns c = rw (ne_eqb _ _ c.if-o-eq0.false)

pub returns-then-o-eq0 : goal.returns-then-o-eq0
returns-then-o-eq0 c = rw (eq-eqb _ _ c.if-o-eq0.true)
