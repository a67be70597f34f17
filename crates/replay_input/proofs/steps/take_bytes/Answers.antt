-- By whether more starts may come.
use Rattle.replay_input.proofs.Taking.{bytes_starting, bytes_recording}
use Rattle.std.proofs.Common.{rules}
use Rattle.replay_input.proofs.steps.take_bytes.Goals as goal

pub returns-then-stage : goal.returns-then-stage
returns-then-stage c = search (rules, bytes_starting)

pub returns : goal.returns
returns c = search (rules, bytes_recording)
