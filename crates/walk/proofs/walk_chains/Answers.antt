-- The table tells whether an entry is a head, and the chain of a head is written behind the others.
use mathlib.Core.Path.{◌≡◌, refl, ap, ◌∙◌}
use Prim.Native.Nat.{◌<◌}
use native.Mathlib.Omega.{arith}
use lib.ListN.{length}
use Rattle.trace.specs.Links.{nexts}
use Rattle.trace.proofs.Steps.{length-nexts}
use Rattle.walk.proofs.Visiting.{none_yet, visit_head, visit_other, head_yes, head_no, chain_fits}
use Rattle.walk.proofs.Written.{length-written}
use Rattle.walk.proofs.walk_chains.Goals.{then-predecessors-h, else-predecessors-h}
use Rattle.walk.proofs.walk_chains.Goals as goal

pub loop-h-init : goal.loop-h-init
loop-h-init c = (omega arith, refl, none_yet _ _ _)

pub bounds-predecessors-h : goal.bounds-predecessors-h
bounds-predecessors-h c = omega (arith, length-nexts c.args.section.now 12 c.args.entries, c.requires.0.places)

pub walk_chain-visits-requires : goal.walk_chain-visits-requires
walk_chain-visits-requires c =
    let s = nexts c.args.section.now 12 c.args.entries in
    let n = length-nexts c.args.section.now 12 c.args.entries in
    let p = c.requires.0 in
    let v = c.loop-h.invariant in
    let inside : c.loop-h.h < length s = omega (arith, n) in
    let e = head_yes s _ _ c.loop-h.h p inside 0 _ refl c.if-predecessors-h.true in
    (chain_fits s _ _ c.loop-h.h p inside _ _ _ _ e v.1 v.2, c.requires.1)

pub loop-h-preserved : goal.loop-h-preserved
loop-h-preserved c =
    let s = nexts c.args.section.now 12 c.args.entries in
    let n = length-nexts c.args.section.now 12 c.args.entries in
    let p = c.requires.0 in
    let v = c.loop-h.invariant in
    let inside : c.loop-h.h < length s = omega (arith, n) in (
      omega arith,
      elim c.if-predecessors-h.branch [
        | then-predecessors-h w ↦ ap length (w.order-is ∙ w.walk_chain-visits.ensures.placed) ∙ length-written _ _ _ ∙ v.1
        | else-predecessors-h w ↦ ap length w.order-is ∙ v.1
      ],
      elim c.if-predecessors-h.branch [
        | then-predecessors-h w ↦
            rw (w.order-is, w.visits-is)
            (visit_head s _ _ c.loop-h.h _ _ v.2 _ _ (head_yes s _ _ c.loop-h.h p inside 0 _ refl w.if-predecessors-h.true) w.walk_chain-visits.ensures)
        | else-predecessors-h w ↦
            rw (w.order-is, w.visits-is)
            (visit_other s _ _ c.loop-h.h _ _ v.2 (head_no s _ _ c.loop-h.h p inside 0 _ refl w.if-predecessors-h.false))
      ],
    )

pub returns : goal.returns
returns c =
    let s = nexts c.args.section.now 12 c.args.entries in
    let e : c.loop-h.h ≡ length s = omega (arith, length-nexts c.args.section.now 12 c.args.entries, c.loop-h.invariant.0) in
    rw e at c.loop-h.invariant.2
