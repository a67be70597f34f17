use Rattle.std.proofs.Common.{arith}
use Rattle.path_search.proofs.Least.{lowest_start, lowest_less, lowest-same, lowest-end, lowest_at, lowest-none, none_zero, more_zero}
use Rattle.path_search.proofs.Laws.{metric_some, few_entries}
use Rattle.path_search.proofs.search.Goals as goal
use Rattle.path_search.proofs.search.Goals.{then-n-least, else-n-least}

pub returns : goal.returns
returns c =
    let w = c.loop-i in
    let all = lowest-end _ _ w.i _ _ w.invariant.2 w.invariant.0 c.loop-i-test.false in
    lowest-none _ _ w.least w.index all c.if-least-lt-NO_NUMBER.false

pub returns-then-least-lt-NO_NUMBER : goal.returns-then-least-lt-NO_NUMBER
returns-then-least-lt-NO_NUMBER c =
    let w = c.loop-i in
    let all = lowest-end _ _ w.i _ _ w.invariant.2 w.invariant.0 c.loop-i-test.false in
    lowest_at _ _ _ _ all c.if-least-lt-NO_NUMBER.true

pub loop-i-preserved : goal.loop-i-preserved
loop-i-preserved c =
    let w = c.loop-i in
    let low = w.invariant.2 in
    let number = c.entry_number-n.ensures in
    let none = more_zero _ _ _ _ _ w.i w.invariant.1 number (λ e. omega (arith, e)) in
    elim c.if-n-least.branch [
      | then-n-least z ↦
          (omega arith, none, rw (z.least-is, z.index-is) (lowest_less _ _ _ _ _ low number z.if-n-least.true))
      | else-n-least z ↦
          (omega arith, none, rw (z.least-is, z.index-is) (lowest-same _ _ _ _ _ low number z.if-n-least.false))
    ]

pub loop-i-init : goal.loop-i-init
loop-i-init c = (omega arith, none_zero _ _ _ _ _, lowest_start _)

pub nonzero_div-entries : goal.nonzero_div-entries
nonzero_div-entries c = metric_some _ c.requires.1

pub overflow_cast-i : goal.overflow_cast-i
overflow_cast-i c = omega (arith, few_entries c.args.l c.args.metrics.now c.requires.0)
