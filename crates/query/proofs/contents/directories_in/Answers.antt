-- Where the volume's checks pass its directories are listed; else there are none, and the list stays.
use native.Mathlib.Omega.{arith}
use Rattle.query.proofs.Volumes.{section_met, section_low}
use Rattle.query.proofs.Listed.{contents}
use Rattle.query.proofs.contents.directories_in.Goals as goal

pub overflow_cast-i : goal.overflow_cast-i
overflow_cast-i c =
    omega (arith, (section_met _ _ _ _ c.section_shown.ensures c.if-not-section_shown.false).below, c.well_formed.1.0)

pub returns-then-not-section_shown : goal.returns-then-not-section_shown
returns-then-not-section_shown c = search contents

pub list_directories-requires : goal.list_directories-requires
list_directories-requires c =
    section_low c.args.o _ c.args.i c.requires c.part_of-section.ensures.contents
    (section_met _ _ _ _ c.section_shown.ensures c.if-not-section_shown.false)

pub overflow_cast-i-2 : goal.overflow_cast-i-2
overflow_cast-i-2 c =
    omega (arith, (section_met _ _ _ _ c.section_shown.ensures c.if-not-section_shown.false).below, c.well_formed.1.0)

pub returns : goal.returns
returns c = search contents
