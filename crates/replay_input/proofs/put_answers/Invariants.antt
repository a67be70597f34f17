-- Some lines have been put; the next is put only where all of it fits.
use Rattle.std.proofs.Common.{◌≤◌, max}
use Rattle.replay_input.proofs.Text.{Putting}
use Rattle.replay_input.proofs.put_answers.Given as goal

abbrev pub invariant-loop-next : goal.invariant-loop-next
invariant-loop-next l = (l.next ≤ max l.from l.starts) × Putting l.answers l.starts l.from l.initial.out l.next l.bytes l.out
