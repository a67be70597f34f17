-- The checks give the verdict; an accepted file keeps its table, and else the buffer is filled.
use mathlib.Core.Path.{ap, ◌∙◌}
use Rattle.lists.specs.Filled.{filled}
use Rattle.reader.proofs.Readers.{opened_kept, opened_filled}
use Rattle.reader.proofs.checks.read_opened.Goals as goal

pub returns-in-Ok : goal.returns-in-Ok
returns-in-Ok c = opened_kept _ _ _ _ _ c.check_whole.ensures c.in-Ok.is

pub returns-in-Err : goal.returns-in-Err
returns-in-Err c = opened_filled _ _ _ _ _ _ c.check_whole.ensures c.in-Err.is (c.fill.ensures ∙ ap filled c.check_whole.auto.predecessors)
