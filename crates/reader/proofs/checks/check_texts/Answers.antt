-- The plan of check 10, line by line; a call gives its required length.
use Rattle.incremental.proofs.Plan.{exit_wanted, exit_refused}
use Rattle.reader.proofs.Stages.{texts_short, texts_refused, texts_pass}
use Rattle.reader.proofs.checks.check_texts.Goals as goal

pub returns-in_err-known : goal.returns-in_err-known
returns-in_err-known c = exit_wanted _ _ _ _ c.from_residual.ensures.1 c.in_err-known.ensures.1 (texts_short c.args.o _ _ c.names_required.ensures c.in_err-known.ensures.0)

pub returns-in_err-check : goal.returns-in_err-check
returns-in_err-check c =
    exit_refused _ _ _ c.from_residual-in_err-check.ensures.1
    (texts_refused c.args.o _ _ c.names_required.ensures _ c.in_ok-known.ensures.0 c.in_ok-known.ensures.1 _ _ c.part_of-metrics.ensures.contents
    c.part_of-strings.ensures.contents _ c.unsound_fault.ensures _ c.in_err-check.ensures)

pub returns : goal.returns
returns c =
    texts_pass c.args.o _ _ c.names_required.ensures _ c.in_ok-known.ensures.0 c.in_ok-known.ensures.1 _ _ c.part_of-metrics.ensures.contents
    c.part_of-strings.ensures.contents _ c.unsound_fault.ensures _ c.in_ok-check.ensures
