-- Eight units without a zero leave the rest to decide, a zero among them decides at once; fewer than eight go one by one.
use mathlib.Core.Path.{◌≡◌}
use Prim.Native.Nat.{◌+◌, ◌*◌, ◌-◌}
use Rattle.names.specs.Private.{sound_text}
use Rattle.names.proofs.text_sound.Given as goal

abbrev pub invariant-loop-e : goal.invariant-loop-e
invariant-loop-e l = sound_text l.strings (l.at + 16 * l.e) (l.units - 8 * l.e) ≡ sound_text l.strings l.at l.units
