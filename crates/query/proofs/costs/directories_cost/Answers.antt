use mathlib.Core.Path.{◌≡◌, sym, ap, ◌∙◌}
use Prim.Native.Nat.{ℕ}
use native.Mathlib.Omega.{arith}
use Rattle.lists.specs.Count.{sum_below}
use Rattle.lists.proofs.Sum.{sum-zero}
use Rattle.query.specs.Cost.{directory_cost}
use Rattle.query.proofs.Sums.{directories_most, sum_next}
use Rattle.query.proofs.costs.directories_cost.Goals as goal

pub loop-i-preserved : goal.loop-i-preserved
loop-i-preserved c =
    let a = c.args in
    omega (arith, c.loop-i.invariant, sum_next (directory_cost a.l a.section.now a.size) c.loop-i.i, c.directory_count.ensures, c.min.ensures)

pub overflow_add-sum : goal.overflow_add-sum
overflow_add-sum c =
    let a = c.args in
    omega (arith, c.requires, c.loop-i.invariant, directories_most a.l a.section.now a.size c.loop-i.i c.requires)

pub loop-i-init : goal.loop-i-init
loop-i-init c = sym (sum-zero _)

pub returns : goal.returns
returns c =
    let a = c.args in
    let e : c.loop-i.i ≡ a.entries = omega arith in
    c.loop-i.invariant ∙ ap (λ (n : ℕ). sum_below (directory_cost a.l a.section.now a.size) n) e
