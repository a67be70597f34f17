-- What waits lies in the buffer.
use Rattle.std.proofs.Common.{◌≤◌}
use Rattle.replay.proofs.take_input.Given as goal

abbrev pub invariant-loop : goal.invariant-loop
invariant-loop g l = l.input.kept ≤ 4096
