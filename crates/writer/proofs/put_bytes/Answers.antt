-- One byte more is laid behind those that are there.
use mathlib.Core.Path.{ap, ◌∙◌}
use Prim.Native.Nat.{◌+◌}
use native.Mathlib.Omega.{arith}
use lib.ListN.{length-take}
use lib.Seq.{take_all}
use Rattle.writer.specs.Private.{patch}
use Rattle.writer.proofs.Stores.{patch-none, patch_one, then_laid, laid_long, bytes_more}
use Rattle.writer.proofs.put_bytes.Goals as goal

pub loop-i-init : goal.loop-i-init
loop-i-init c = patch-none _ _

pub bounds-output-at : goal.bounds-output-at
bounds-output-at c = omega (arith, laid_long _ _ _ _ c.loop-i.invariant)

pub loop-i-preserved : goal.loop-i-preserved
loop-i-preserved c =
    let n = length-take c.loop-i.i c.args.bytes.now in
    then_laid _ _ _ _ _ _ _ (c.args.at + c.loop-i.i) c.loop-i.invariant (patch_one _ _ _) (omega (arith, n))
    (bytes_more c.args.bytes.now c.loop-i.i (omega arith))

pub returns : goal.returns
returns c = c.loop-i.invariant ∙ ap (patch c.args.output.now c.args.at) (take_all c.loop-i.i c.args.bytes.now (omega arith))
