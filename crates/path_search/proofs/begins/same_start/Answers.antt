use Rattle.std.proofs.Common.{sym, ◌∙◌, arith, below_more}
use Rattle.path_search.proofs.Same.{agree_eight, agree_all, differ_one, differ_eight}
use Rattle.path_search.proofs.begins.same_start.Goals as goal

pub returns : goal.returns
returns c = sym (agree_all c.args.path.now c.args.name.now _ c.requires c.loop-k-test.false c.loop-k.invariant)

pub returns-then-path-k : goal.returns-then-path-k
returns-then-path-k c =
    let a = c.args in
    sym (differ_one a.path.now a.name.now c.loop-k.k (omega arith) c.if-path-k.true)

pub loop-k-init : goal.loop-k-init
loop-k-init c = c.loop-i.invariant.1

pub loop-k-preserved : goal.loop-k-preserved
loop-k-preserved c = below_more _ _ c.loop-k.invariant c.if-path-k.false

pub loop-i-preserved : goal.loop-i-preserved
loop-i-preserved c = (
  omega arith,
  agree_eight _ _ c.loop-i.i (λ k. (c.type_inv.path k).fits) (λ k. (c.type_inv.name k).fits) c.loop-i.invariant.1
      (sym c.u64_at.ensures ∙ c.if-u64_at.false ∙ c.u64_at-in-loop-i.ensures),
)

pub loop-i-init : goal.loop-i-init
loop-i-init c = (omega arith, λ k l. absurd (omega arith))

pub returns-then-u64_at : goal.returns-then-u64_at
returns-then-u64_at c =
    sym (differ_eight _ _ c.loop-i.i (omega arith) (λ e. c.if-u64_at.true (c.u64_at.ensures ∙ e ∙ sym c.u64_at-in-loop-i.ensures)))
