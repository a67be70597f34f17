use Rattle.std.proofs.Common.{◌≡◌, ◌-◌, refl, arith}
use Rattle.replay_input.proofs.Carrying.{carried_size, carried_step}
use Rattle.replay_input.proofs.steps.carry_over.Goals as goal

pub loop-k-preserved : goal.loop-k-preserved
loop-k-preserved c = (
  omega (arith, c.loop-k-test.true),
  carried_step c.args.buffer.now c.args.used c.loop-k.k (omega (arith, c.requires.0, c.requires.1, c.loop-k-test.true)) _ c.loop-k.invariant.1,
)

pub returns : goal.returns
returns c =
    let e : c.loop-k.k ≡ c.args.end - c.args.used = omega (arith, c.loop-k.invariant.0, c.loop-k-test.false) in
    (refl, rw e at c.loop-k.invariant.1)

pub shape_of-buffer : goal.shape_of-buffer
shape_of-buffer c = carried_size c.args.buffer.now c.args.used c.loop-k.k _ (omega arith) c.loop-k.invariant.1

pub bounds-buffer-used : goal.bounds-buffer-used
bounds-buffer-used c = omega (arith, carried_size c.args.buffer.now c.args.used c.loop-k.k _ (omega arith) c.loop-k.invariant.1)

pub bounds-buffer-k : goal.bounds-buffer-k
bounds-buffer-k c = omega (arith, carried_size c.args.buffer.now c.args.used c.loop-k.k _ (omega arith) c.loop-k.invariant.1)
