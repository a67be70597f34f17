use mathlib.Core.Path.{◌≡◌, sym, ap, ◌∙◌}
use Prim.Native.Nat.{ℕ}
use native.Mathlib.Omega.{arith}
use Rattle.lists.specs.Count.{sum_below}
use Rattle.lists.proofs.Sum.{sum-zero}
use Rattle.query.specs.Cost.{name_cost}
use Rattle.query.proofs.Sums.{names_most, name_counts, name_passed, sum_next}
use Rattle.query.proofs.costs.names_cost.Goals as goal
use Rattle.query.proofs.costs.names_cost.Goals.{then-name_fits, else-name_fits}

pub loop-i-init : goal.loop-i-init
loop-i-init c = sym (sum-zero _)

pub loop-i-preserved : goal.loop-i-preserved
loop-i-preserved c =
    let a = c.args in
    let f = name_cost a.l a.metrics.now a.size in
    let i = c.loop-i.i in
    elim c.if-name_fits.branch [
      | then-name_fits w ↦
          omega (
            arith,
            c.loop-i.invariant,
            sum_next f i,
            name_counts a.l a.metrics.now a.size i c.name_at-at.ensures c.name_units-units.ensures c.name_fits.ensures w.if-name_fits.true,
          )
      | else-name_fits w ↦
          omega (
            arith,
            c.loop-i.invariant,
            sum_next f i,
            name_passed a.l a.metrics.now a.size i c.name_at-at.ensures c.name_units-units.ensures c.name_fits.ensures w.if-name_fits.false,
          )
    ]

pub overflow_add-sum-then-name_fits : goal.overflow_add-sum-then-name_fits
overflow_add-sum-then-name_fits c =
    let a = c.args in
    omega (arith, c.loop-i.invariant, names_most a.l a.metrics.now a.size c.loop-i.i c.requires)

pub returns : goal.returns
returns c =
    let a = c.args in
    let e : c.loop-i.i ≡ a.entries = omega arith in
    c.loop-i.invariant ∙ ap (λ (n : ℕ). sum_below (name_cost a.l a.metrics.now a.size) n) e
