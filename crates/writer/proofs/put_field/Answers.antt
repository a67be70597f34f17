-- Zeros, and the number behind them.
use mathlib.Core.Path.{refl, ap, ◌∙◌}
use Prim.Native.Nat.{ℕ, ◌-◌}
use native.Mathlib.Omega.{arith}
use lib.ListN.{length-replicate}
use Rattle.writer.specs.Private.{patch}
use Rattle.writer.proofs.Stores.{then_laid, low_bytes}
use Rattle.writer.proofs.put_field.Goals as goal

pub returns : goal.returns
returns c =
    let n = length-replicate {A = ℕ} (c.args.at - c.args.from) 0 in
    then_laid _ _ _ _ _ _ _ _ c.put_zeros.ensures (c.put_bytes.ensures ∙ ap (patch _ c.args.at) (c.to_le_bytes.ensures ∙ low_bytes 4 c.args.n))
    (omega (arith, n, c.requires.0)) refl
