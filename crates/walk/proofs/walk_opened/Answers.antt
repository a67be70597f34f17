-- 23 where the list does not fit; else the walk over the chains gives all.
use native.Mathlib.Omega.{arith}
use Rattle.walk.proofs.File.{walks_short, walk_fits_at, section_whole, walks_all_at}
use Rattle.walk.proofs.walk_opened.Goals as goal

pub walk_chains-requires : goal.walk_chains-requires
walk_chains-requires c =
    let links = c.link_count-entries.ensures in
    let bytes = c.part_of-section.ensures.contents in
    (walk_fits_at _ _ _ c.requires _ _ _ bytes links (omega arith), section_whole _ _ _ c.requires _ _ bytes links)

pub returns-then-order-entries : goal.returns-then-order-entries
returns-then-order-entries c =
    walks_short _ _ _ c.requires _ _ _ (omega (arith, c.link_count-entries.ensures)) c.refuse.ensures c.fill.ensures

pub returns : goal.returns
returns c =
    walks_all_at _ _ _ c.requires _ _ _ _ _ c.part_of-section.ensures.contents c.link_count-entries.ensures (omega arith)
    c.walk_chains.ensures
