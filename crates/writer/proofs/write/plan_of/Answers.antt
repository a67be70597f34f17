-- A part that is longer than the limit makes a file that is.
use native.Mathlib.Omega.{arith}
use Rattle.writer.specs.Writes.{description_of}
use Rattle.writer.proofs.Planning.{many_parts, plan_large}
use Rattle.writer.proofs.write.plan_of.Goals as goal

pub returns-then-limit-max : goal.returns-then-limit-max
returns-then-limit-max c =
    let d = description_of c.args.contents in
    plan_large _ c.requires d (many_parts _ c.requires d _ (omega arith))
