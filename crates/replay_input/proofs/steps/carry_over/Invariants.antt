-- The first k bytes have been carried.
use Rattle.std.proofs.Common.{◌≡◌, ◌-◌, ◌≤◌}
use Rattle.replay_input.proofs.Carrying.{moved_up}
use Rattle.replay_input.proofs.steps.carry_over.Given as goal

abbrev pub invariant-loop-k : goal.invariant-loop-k
invariant-loop-k l = (l.k ≤ l.end - l.used) × (l.buffer ≡ moved_up l.initial.buffer l.used l.k)
