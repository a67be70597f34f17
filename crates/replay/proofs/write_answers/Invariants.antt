-- Each turn writes at least one answer's line.
use Rattle.std.proofs.Common.{◌-◌}
use Rattle.replay.proofs.write_answers.Given as goal

abbrev pub decreases-loop-next : goal.decreases-loop-next
decreases-loop-next g l = l.starts - l.next
