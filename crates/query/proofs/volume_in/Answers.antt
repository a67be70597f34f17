-- Where the volume's checks pass its facts are read, with the path as a place of the file; else it is not shown.
use Prim.Native.Nat.{◌+◌, ◌*◌, ◌≤◌}
use Rattle.layout.specs.Versions.{size_limit}
use native.Mathlib.Omega.{arith}
use Rattle.query.proofs.Volumes.{volumes_asked, section_met, path_low}
use Rattle.query.proofs.volume_in.Goals as goal

pub overflow_add-result : goal.overflow_add-result
overflow_add-result c =
    let o = c.args.o in
    let v = c.volume_at-v.result in
    let h : o.head.volumes.at + v.path + 2 * v.units ≤ size_limit = search (path_low, section_met) in
    omega arith

pub overflow_cast-i : goal.overflow_cast-i
overflow_cast-i c =
    omega (arith, (section_met _ _ _ _ c.section_shown.ensures c.if-not-section_shown.false).below, c.well_formed.1.0)

pub returns-then-not-section_shown : goal.returns-then-not-section_shown
returns-then-not-section_shown c = search volumes_asked

pub overflow_mul-result : goal.overflow_mul-result
overflow_mul-result c =
    let o = c.args.o in
    let v = c.volume_at-v.result in
    let h : o.head.volumes.at + v.path + 2 * v.units ≤ size_limit = search (path_low, section_met) in
    omega arith

pub returns : goal.returns
returns c = search volumes_asked
