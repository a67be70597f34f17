-- A part of the section is a part of the file; where the volume is not shown it is the empty part at the start.
use native.Mathlib.Omega.{arith}
use Rattle.query.proofs.Volumes.{section_met, path_of_section, path_hidden, path_shown}
use Rattle.query.proofs.path_in.Goals as goal

pub returns-then-not-section_shown : goal.returns-then-not-section_shown
returns-then-not-section_shown c = search path_hidden

pub overflow_mul-v : goal.overflow_mul-v
overflow_mul-v c =
    omega (arith, path_of_section _ _ _ _ c.section_shown.ensures c.if-not-section_shown.false c.volume_at-v.ensures)

pub returns : goal.returns
returns c = search path_shown

pub overflow_cast-i : goal.overflow_cast-i
overflow_cast-i c =
    omega (arith, (section_met _ _ _ _ c.section_shown.ensures c.if-not-section_shown.false).below, c.well_formed.1.0)
