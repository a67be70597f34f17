-- To the empty path every name belongs; else it has to begin with the path.
use Rattle.path_search.proofs.Same.{belongs-none, belongs-some}
use Rattle.path_search.proofs.begins.belongs.Goals as goal

pub returns-then-path-eq0 : goal.returns-then-path-eq0
returns-then-path-eq0 c = belongs-none _ _ c.if-path-eq0.true

pub returns : goal.returns
returns c = belongs-some _ _ c.if-path-eq0.false c.begins_with.ensures
