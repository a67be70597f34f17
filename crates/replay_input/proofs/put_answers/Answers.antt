use Rattle.std.proofs.Common.{◌≡◌, arith, rules}
use Rattle.replay_input.proofs.Text.{putting_start, putting_size, putting_step, putting_full, putting_all}
use Rattle.replay_input.proofs.put_answers.Goals as goal

pub returns-then-out-bytes : goal.returns-then-out-bytes
returns-then-out-bytes c = putting_full _ _ _ _ _ _ _ c.loop-next.invariant.1 c.loop-next-test.true
    (omega (arith, c.if-out-bytes.true, c.line_size.ensures))

pub loop-next-init : goal.loop-next-init
loop-next-init c = (omega arith, putting_start _ _ _ _)

pub returns : goal.returns
returns c = let p = c.loop-next.invariant.1 in
    let e : c.max.result ≡ c.loop-next.next = omega (arith, p.next_is, c.loop-next.invariant.0) in
    rw e (putting_all _ _ _ _ _ _ _ p c.loop-next-test.false)

pub shape_of-out : goal.shape_of-out
shape_of-out c = search (rules, putting_size)

pub loop-next-preserved : goal.loop-next-preserved
loop-next-preserved c = (
  omega (arith, c.loop-next-test.true),
  putting_step _ _ _ _ _ _ _ c.loop-next.invariant.1 c.loop-next-test.true (omega (arith, c.if-out-bytes.false, c.line_size.ensures)) _ _
      c.put_answer-bytes.ensures,
)

pub shape_of-out-then-out-bytes : goal.shape_of-out-then-out-bytes
shape_of-out-then-out-bytes c = search (rules, putting_size)

pub overflow_sub-out : goal.overflow_sub-out
overflow_sub-out c = let p = c.loop-next.invariant.1 in omega (arith, p.within, putting_size _ _ _ _ _ _ _ p)
