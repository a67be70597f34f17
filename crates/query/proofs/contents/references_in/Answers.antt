-- Where the volume's checks pass its references are listed; else there are none, and the list stays.
use native.Mathlib.Omega.{arith}
use Rattle.query.proofs.Volumes.{section_met}
use Rattle.query.proofs.Listed.{contents}
use Rattle.query.proofs.contents.references_in.Goals as goal

pub returns-then-not-section_shown : goal.returns-then-not-section_shown
returns-then-not-section_shown c = search contents

pub overflow_cast-i-2 : goal.overflow_cast-i-2
overflow_cast-i-2 c =
    omega (arith, (section_met _ _ _ _ c.section_shown.ensures c.if-not-section_shown.false).below, c.well_formed.1.0)

pub returns : goal.returns
returns c = search contents

pub overflow_cast-i : goal.overflow_cast-i
overflow_cast-i c =
    omega (arith, (section_met _ _ _ _ c.section_shown.ensures c.if-not-section_shown.false).below, c.well_formed.1.0)
