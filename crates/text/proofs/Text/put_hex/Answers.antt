use native.Mathlib.Omega.{arith}
use mathlib.Core.Path.{◌≡◌}
use Prim.Native.Nat.{suc, ◌-◌}
use Rattle.text.proofs.Growth.{hex_next, hex_end}
use Rattle.text.proofs.Text.put_hex.Goals as goal

pub loop-place-preserved : goal.loop-place-preserved
loop-place-preserved c =
    let e : suc (c.loop-place.place - 1) ≡ c.loop-place.place = omega arith in
    hex_next _ _ _ _ _ (c.loop-place.place - 1) _ (omega arith) c.hex_digit.ensures (rw e c.loop-place.invariant) c.put.ensures

pub returns : goal.returns
returns c = hex_end _ _ _ _ _ (omega arith) c.loop-place.invariant
