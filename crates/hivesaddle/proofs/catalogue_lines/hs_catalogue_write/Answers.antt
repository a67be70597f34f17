-- The writer's own contract speaks of the output; only its answer is left to turn into 0 or 19, case by case.
use mathlib.Core.Path.{ap}
use Rattle.catalogue.specs.Line.{written_number}
use Rattle.hivesaddle.proofs.Output.{writing_is}
use Rattle.hivesaddle.proofs.catalogue_lines.hs_catalogue_write.Goals as goal

pub returns-in-Err : goal.returns-in-Err
returns-in-Err c = writing_is _ _ _ _ _ c.write_line.ensures (ap written_number c.in-Err.is)

pub returns-in-Ok : goal.returns-in-Ok
returns-in-Ok c = writing_is _ _ _ _ _ c.write_line.ensures (ap written_number c.in-Ok.is)
