-- The bytes at hand are those that waited and those that came; what is not used is carried to the front.
use Rattle.std.proofs.Common.{◌≡◌, length, take, sym, arith, length-take-le, rules}
use Rattle.replay_input.proofs.Taking.{fitting-fits, bytes_used, step_takes}
use Rattle.replay_input.proofs.steps.take_step.Goals as goal

pub slice_bounds-take_bytes-end-2 : goal.slice_bounds-take_bytes-end-2
slice_bounds-take_bytes-end-2 c = sym (length-take-le _ _ (omega (arith, c.min-upto.ensures)))

pub returns : goal.returns
returns c = search (rules, step_takes)

pub take_bytes-took-requires : goal.take_bytes-took-requires
take_bytes-took-requires c = search (rules, fitting-fits)

pub carry_over-kept-requires : goal.carry_over-kept-requires
carry_over-kept-requires c =
    let n = c.min-upto in
    let s = c.args in
    let e : length (take n.result s.buffer.now) ≡ n.result = length-take-le _ _ (omega (arith, n.ensures)) in
    let u = bytes_used c.fitting-stage.result (take n.result s.buffer.now) s.times.now s.boards.now s.work.now s.answers.now in
    (omega (arith, c.take_bytes-took.ensures.used, u.0), omega (arith, n.ensures))
