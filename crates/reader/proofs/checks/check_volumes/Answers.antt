-- The plan of checks 14 and 15; a call gives its required length, and 8 has passed.
use mathlib.Core.Path.{refl}
use Rattle.std.specs.Prelude.{Ok}
use Rattle.incremental.proofs.Plan.{exit_wanted, exit_refused}
use Rattle.reader.proofs.Stages.{volumes_short, volumes_answer}
use Rattle.reader.proofs.checks.check_volumes.Goals as goal

pub returns-in_err-reach : goal.returns-in_err-reach
returns-in_err-reach c = exit_wanted _ _ _ _ c.from_residual.ensures.1 c.in_err-reach.ensures.1 (volumes_short c.args.o _ _ c.volumes_required.ensures c.in_err-reach.ensures.0)

pub returns-in_err-check_volumes : goal.returns-in_err-check_volumes
returns-in_err-check_volumes c =
    volumes_answer c.args.o _ _ c.volumes_required.ensures c.requires.0 c.requires.1 _ c.in_ok-reach.ensures.0 c.in_ok-reach.ensures.1 _ c.part_of-volumes.ensures.contents _ _ c.in_err-check_volumes.ensures (exit_refused _ _ _ c.from_residual-in_err-check_volumes.ensures.1 refl)

pub returns : goal.returns
returns c = volumes_answer c.args.o _ _ c.volumes_required.ensures c.requires.0 c.requires.1 _ c.in_ok-reach.ensures.0 c.in_ok-reach.ensures.1 _ c.part_of-volumes.ensures.contents (Ok tt) _ c.in_ok-check_volumes.ensures refl
