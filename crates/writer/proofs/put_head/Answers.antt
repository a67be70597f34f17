-- Three numbers, the name, the fields behind it, and zeros.
use mathlib.Core.Path.{◌≡◌, ◌∙◌}
use mathlib.Core.List.{[]}
use Prim.Native.Nat.{◌≤◌}
use native.Mathlib.Omega.{arith}
use lib.ListN.{length, take, length-take}
use Rattle.writer.proofs.Bytes.{length-units}
use Rattle.writer.proofs.Stores.{four_laid}
use Rattle.writer.proofs.FilePieces.{name_fits, head_same}
use Rattle.writer.proofs.HeadPieces.{first_ordered, first_long, behind_long, head_pieces}
use Rattle.writer.proofs.put_head.Goals as goal

pub put_fields-requires : goal.put_fields-requires
put_fields-requires c =
    let w = c.args.draft in
    first_ordered w.layout w.ready.writable w.plan w.contents c.from.result [] (omega arith) _ c.requires

pub slice_bounds-put_units-end : goal.slice_bounds-put_units-end
slice_bounds-put_units-end c = let w = c.args.draft in omega (arith, length-take w.units w.contents.name.now, name_fits w.version w.layout w.contents w.plan w.units w.ready)

pub returns : goal.returns
returns c =
    let w = c.args.draft in
    let f = w.ready.writable in
    let us = take w.units w.contents.name.now in
    let few : length us ≡ w.units = length-take w.units w.contents.name.now ∙ omega (arith, name_fits w.version w.layout w.contents w.plan w.units w.ready) in
    let at_most : length us ≤ 30 = omega (arith, name_fits w.version w.layout w.contents w.plan w.units w.ready) in
    let x = first_long w.layout f w.plan w.contents c.from.result us at_most in
    let y = length-units us in
    let z = rw few at (behind_long w.layout f w.plan w.contents c.from.result us at_most) in
    let whole = rw few at (head_pieces w.layout f w.plan w.contents c.from.result us at_most) in
    four_laid _ _ _ _ _ _ _ _ _ _ _ _ _ _ c.put_fields.ensures c.put_units.ensures c.put_behind.ensures c.put_zeros.ensures
    (omega (arith, x)) (omega (arith, y)) (omega (arith, z, f.run_time, f.run_count_lem)) (whole ∙ head_same w.version w.layout w.contents w.plan w.units w.ready _ c.from.ensures)
