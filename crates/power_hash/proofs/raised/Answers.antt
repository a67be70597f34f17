use Rattle.std.proofs.Common.{rules, refl}
use Rattle.power_hash.proofs.Products.{stands_start, stands_odd, stands_even, stands_done}
use Rattle.power_hash.proofs.raised.Goals as goal
use Rattle.power_hash.proofs.raised.Goals.{then-q-eq1, else-q-eq1}

pub returns : goal.returns
returns c = stands_done c.loop-q.r c.loop-q.b c.loop-q.q _ c.loop-q.invariant c.loop-q-test.false

pub loop-q-init : goal.loop-q-init
loop-q-init c = stands_start c.args.from 37 c.args.k (search rules)

pub loop-q-preserved : goal.loop-q-preserved
loop-q-preserved c =
    elim c.if-q-eq1.branch [
      | then-q-eq1 w ↦ stands_odd c.loop-q.r c.loop-q.b c.loop-q.q _ _ _ c.loop-q.invariant w.if-q-eq1.true w.r-is refl
      | else-q-eq1 w ↦ stands_even c.loop-q.r c.loop-q.b c.loop-q.q _ _ _ c.loop-q.invariant w.if-q-eq1.false w.r-is refl
    ]
