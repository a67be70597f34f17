use native.Mathlib.Omega.{arith}
use Prim.Native.Nat.{ℕ, ◌-◌}
use mathlib.Core.Path.{◌≡◌, sym, ap, ◌∙◌}
use lib.ListN.{length, take, drop, replicate, length-take, length-drop, length-replicate}
use Rattle.std.proofs.Common.{rules}
use Rattle.writer.proofs.Stores.{part_put}
use Rattle.writer.proofs.put_zeros.Goals as goal

pub returns : goal.returns
returns c =
    let n = length-replicate {A = ℕ} (c.args.to - c.args.from) 0 in
    let k : length (take (c.args.to - c.args.from) (drop c.args.from c.args.output.now)) ≡ c.args.to - c.args.from =
    omega (arith, length-take {A = ℕ}, length-drop {A = ℕ}, c.requires) in
    part_put _ _ _ _ _ (c.fill.ensures.after (λ y k. search rules) ∙ ap (λ (j : ℕ). replicate j 0) k) (sym n) (omega (arith, n, c.requires))
