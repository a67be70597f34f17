-- The sections of an opening are looked through.
use Rattle.head.proofs.Facts.{open_sound}
use Rattle.path_search.proofs.Laws.{metrics_low, sections_given}
use Rattle.path_search.proofs.search_in.Goals as goal

pub search-requires : goal.search-requires
search-requires c =
    (metrics_low c.args.o _ c.requires c.part_of-metrics.ensures.contents, open_sound _ c.args.o c.requires)

pub returns : goal.returns
returns c =
    let a = c.args in
    sections_given a.o a.file.now a.path.now a.from
    c.part_of-metrics.ensures.contents c.part_of-strings.ensures.contents c.sought_in.ensures c.search.ensures
