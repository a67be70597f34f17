-- What check_links decides on the section is what the plan's lines decide, and it leaves the table.
use Rattle.reader.proofs.Stages.{trace_short, trace_refused, trace_passed, trace_exit}
use mathlib.Core.Path.{refl}
use Rattle.reader.proofs.checks.check_trace.Goals as goal

pub returns-in_err-reach : goal.returns-in_err-reach
returns-in_err-reach c =
    trace_exit _ _ _ _ _ _ c.from_residual.ensures.1 c.in_err-reach.ensures.1
    (trace_short c.args.o _ _ _ c.trace_required.ensures _ c.in_err-reach.ensures.0)

pub returns-in_err-chains : goal.returns-in_err-chains
returns-in_err-chains c =
    trace_exit _ _ _ _ _ _ c.from_residual-in_err-chains.ensures.1 refl
    (trace_refused c.args.o _ _ _ c.trace_required.ensures _ c.in_ok-reach.ensures.0 c.in_ok-reach.ensures.1 _ c.part_of-entries.ensures.contents _ c.link_count.ensures c.requires _ _ c.in_err-chains.ensures)

pub returns : goal.returns
returns c =
    trace_passed c.args.o _ _ _ c.trace_required.ensures _ c.in_ok-reach.ensures.0 c.in_ok-reach.ensures.1 _ c.part_of-entries.ensures.contents _ c.link_count.ensures c.requires _ _ c.in_ok-chains.ensures
