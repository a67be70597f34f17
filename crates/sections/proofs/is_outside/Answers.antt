-- Each way out is a case of the definition's tests.
use Rattle.lists.proofs.Tests.{tests}
use Rattle.sections.specs.Fields.{outside}
use Rattle.sections.proofs.is_outside.Goals as goal

pub returns-then-s-h : goal.returns-then-s-h
unfolding outside
returns-then-s-h c = search tests

pub returns-then-s-eq0 : goal.returns-then-s-eq0
unfolding outside
returns-then-s-eq0 c = search tests

pub returns : goal.returns
unfolding outside
returns c = search tests
