-- The same sections, and all pairs of them.
use Rattle.std.proofs.Common.{arith}
use Rattle.head.proofs.Facts.{open_sound}
use Rattle.path_search.proofs.Laws.{metrics_low, stored_low, pairs-given}
use Rattle.path_search.proofs.paths_in.Goals as goal

pub returns : goal.returns
returns c =
    pairs-given c.args.o c.args.file.now c.requires (omega arith)
    (stored_low _ (λ k. (c.type_inv.file k).fits)) c.part.ensures.contents c.hash_start.ensures
    c.part_of-metrics.ensures.contents c.part_of-strings.ensures.contents c.sought_in-sought.ensures c.list_in.ensures

pub list_in-requires : goal.list_in-requires
list_in-requires c =
    (metrics_low c.args.o _ c.requires c.part_of-metrics.ensures.contents, open_sound _ c.args.o c.requires)
