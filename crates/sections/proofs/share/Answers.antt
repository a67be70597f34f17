-- Each way out is a case of the definition's tests.
use Rattle.lists.proofs.Tests.{tests}
use Rattle.sections.specs.Fields.{shares}
use Rattle.sections.proofs.share.Goals as goal

pub returns-then-t-s : goal.returns-then-t-s
unfolding shares
returns-then-t-s c = search tests

pub returns-then-s-eq0 : goal.returns-then-s-eq0
unfolding shares
returns-then-s-eq0 c = search tests

pub returns-then-t-eq0 : goal.returns-then-t-eq0
unfolding shares
returns-then-t-eq0 c = search tests

pub returns : goal.returns
unfolding shares
returns c = search tests
