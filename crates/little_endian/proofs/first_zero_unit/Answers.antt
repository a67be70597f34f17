use mathlib.Core.Path.{◌∙◌, sym}
use native.Mathlib.Omega.{arith}
use borrow.Author.Tests.{eq-eqb, ne_eqb}
use Rattle.lists.proofs.First.{first_start, first_hit, first_miss, first-none}
use Rattle.little_endian.proofs.first_zero_unit.Goals as goal

pub loop-k-init : goal.loop-k-init
loop-k-init c = first_start _ _

pub returns-then-u16_at-eq0 : goal.returns-then-u16_at-eq0
returns-then-u16_at-eq0 c = sym (c.loop-k.invariant ∙ first_hit _ _ _ (omega arith) (eq-eqb _ _ (sym c.u16_at.ensures ∙ c.if-u16_at-eq0.true)))

pub loop-k-preserved : goal.loop-k-preserved
loop-k-preserved c = c.loop-k.invariant ∙ first_miss _ _ _ (omega arith) (ne_eqb _ _ (λ e. c.if-u16_at-eq0.false (c.u16_at.ensures ∙ e)))

pub returns : goal.returns
returns c = sym (c.loop-k.invariant ∙ first-none _ _ _ (omega arith))
