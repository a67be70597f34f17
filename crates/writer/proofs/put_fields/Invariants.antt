-- What is put and what is left make up the whole.
use Rattle.writer.proofs.Entries.{Putting}
use Rattle.writer.proofs.put_fields.Given as goal

abbrev pub invariant-loop-at : goal.invariant-loop-at
invariant-loop-at l = Putting l.initial.output l.fields l.start l.output l.from l.at-index
