-- The volume is not shown, or k is past its count of references, or reference k is read: a law for each.
use native.Mathlib.Omega.{arith}
use Rattle.query.proofs.Volumes.{volumes_asked, section_met}
use Rattle.query.proofs.reference_in.Goals as goal

pub returns-then-v-k : goal.returns-then-v-k
returns-then-v-k c = search volumes_asked

pub overflow_cast-i : goal.overflow_cast-i
overflow_cast-i c =
    omega (arith, (section_met _ _ _ _ c.section_shown.ensures c.if-not-section_shown.false).below, c.well_formed.1.0)

pub returns-then-not-section_shown : goal.returns-then-not-section_shown
returns-then-not-section_shown c = search volumes_asked

pub overflow_cast-i-2 : goal.overflow_cast-i-2
overflow_cast-i-2 c =
    omega (arith, (section_met _ _ _ _ c.section_shown.ensures c.if-not-section_shown.false).below, c.well_formed.1.0)

pub returns : goal.returns
returns c = search volumes_asked
