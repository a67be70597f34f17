-- The starts are stored, and what comes behind them is the recording's beginning where it does not wait.
use Rattle.std.proofs.Common.{sym, arith, length-take-le, rules}
use Rattle.replay_input.proofs.Taking.{begin_used, taken_fit, starts_room, starts_begin}
use Rattle.replay_input.proofs.steps.take_starting.Goals as goal

pub returns : goal.returns
returns c = search (rules, starts_begin)

pub overflow_sub-bytes : goal.overflow_sub-bytes
overflow_sub-bytes c = omega (arith, (taken_fit _ c.args.stage.starts _ _ _ _ _ c.take_starts-k.ensures).0)

pub overflow_add-result : goal.overflow_add-result
overflow_add-result c =
    let f = taken_fit _ c.args.stage.starts _ _ _ _ _ c.take_starts-k.ensures in
    omega (arith, f.0, begin_used _ _ _ _ _ _ _ _ _ c.begin_recording-fed.ensures, c.well_formed)

pub overflow_mul-at : goal.overflow_mul-at
overflow_mul-at c = omega (arith, (taken_fit _ c.args.stage.starts _ _ _ _ _ c.take_starts-k.ensures).0)

pub overflow_add-starts : goal.overflow_add-starts
overflow_add-starts c = omega (arith, (taken_fit _ c.args.stage.starts _ _ _ _ _ c.take_starts-k.ensures).1)

pub slice_bounds-begin_recording-end-2 : goal.slice_bounds-begin_recording-end-2
slice_bounds-begin_recording-end-2 c = (starts_room _ c.args.stage.starts _ _ _ _ _ c.take_starts-k.ensures c.requires).timed

pub slice_bounds-begin_recording-end-3 : goal.slice_bounds-begin_recording-end-3
slice_bounds-begin_recording-end-3 c = sym (length-take-le _ _ (starts_room _ c.args.stage.starts _ _ _ _ _ c.take_starts-k.ensures c.requires).timed)

pub slice_bounds-begin_recording-end-4 : goal.slice_bounds-begin_recording-end-4
slice_bounds-begin_recording-end-4 c = (starts_room _ c.args.stage.starts _ _ _ _ _ c.take_starts-k.ensures c.requires).boarded

pub slice_bounds-begin_recording-end-5 : goal.slice_bounds-begin_recording-end-5
slice_bounds-begin_recording-end-5 c = sym (length-take-le _ _ (starts_room _ c.args.stage.starts _ _ _ _ _ c.take_starts-k.ensures c.requires).boarded)
