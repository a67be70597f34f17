-- One unit more is laid behind those that are there.
use mathlib.Core.Path.{◌≡◌, ap, ◌∙◌}
use Prim.Native.Nat.{◌+◌, ◌*◌}
use native.Mathlib.Omega.{arith}
use lib.ListN.{length, get_or, take, length-take}
use Rattle.writer.specs.LaidOut.{unit_bytes}
use Rattle.writer.specs.Private.{patch}
use Rattle.writer.proofs.Bytes.{length-units}
use Rattle.writer.proofs.Stores.{patch-none, then_laid, low_bytes, units_more}
use Rattle.writer.proofs.put_units.Goals as goal

pub loop-i-init : goal.loop-i-init
unfolding unit_bytes
loop-i-init c = patch-none _ _

pub loop-i-preserved : goal.loop-i-preserved
loop-i-preserved c =
    let us = c.args.units.now in
    let i = c.loop-i.i in
    let at = c.args.at + 2 * i in
    let size : length (unit_bytes (take i us)) ≡ 2 * i = length-units (take i us) ∙ omega (arith, length-take i us) in
    then_laid _ _ _ _ _ _ _ at c.loop-i.invariant (c.put_bytes.ensures ∙ ap (patch _ at) (c.to_le_bytes.ensures ∙ low_bytes 2 (get_or us i 0)))
    (omega (arith, size))
    (units_more us i (omega arith))
