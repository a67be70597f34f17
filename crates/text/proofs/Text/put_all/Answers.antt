use Rattle.text.proofs.Growth.{puts_next}
use Rattle.text.proofs.Text.put_all.Goals as goal

pub loop-b-preserved : goal.loop-b-preserved
loop-b-preserved c = puts_next _ _ _ _ _ c.loop-b-test.true c.loop-b.invariant c.put.ensures
