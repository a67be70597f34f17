-- All digits but those of the places that are left have been put.
use Prim.Native.Nat.{◌-◌}
use lib.ListN.{take}
use Rattle.digits.specs.Hex.{hex_digits}
use Rattle.text.specs.Put.{Puts}
use Rattle.text.proofs.Text.put_hex.Given as goal

abbrev pub invariant-loop-place : goal.invariant-loop-place
invariant-loop-place l = Puts l.initial.self (take (l.width - l.place) (hex_digits l.width l.x)) l.self
