-- Every name belongs to the empty path, and its hash starts where the version's does.
use Rattle.std.proofs.Common.{arith}
use Rattle.path_search.proofs.Laws.{stored_low, path_given}
use Rattle.path_search.proofs.path_in.Goals as goal

pub returns : goal.returns
returns c =
    path_given c.args.o c.args.file.now c.requires (omega arith)
    (stored_low _ (λ k. (c.type_inv.file k).fits)) c.part.ensures.contents c.hash_start.ensures c.search_in.ensures
