use Rattle.trace.proofs.Answers.{links_walked}
use Rattle.trace.proofs.check_entries.Goals as goal

pub returns : goal.returns
returns g c = links_walked _ _ _ c.in_ok-pass.ensures _ _ _ c.store_predecessors.auto.buffer c.in_ok-check_cycles.ensures
