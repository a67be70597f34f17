-- Only version 17 has an end step.
use Rattle.path_search.proofs.NameNumber.{end_by}
use Rattle.path_search.proofs.hash_end.Goals as goal

pub returns-in-V17 : goal.returns-in-V17
returns-in-V17 c = search end_by
