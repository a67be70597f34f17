-- The offset and length are the entry's own, and a name is shown exactly where the test of soundness passes.
use Rattle.query.proofs.Entries.{names}
use Rattle.query.proofs.name_shown.Goals as goal

pub returns-else-name_sound : goal.returns-else-name_sound
returns-else-name_sound c = search names

pub returns-then-name_sound : goal.returns-then-name_sound
returns-then-name_sound c = search names
