use mathlib.Core.Path.{◌≡◌, sym, ap, ◌∙◌}
use mathlib.Core.List.{[], ◌∷◌}
use Prim.Native.Nat.{◌+◌, ◌-◌}
use native.Mathlib.Nat.{sub-zero}
use native.Mathlib.Omega.{arith}
use lib.ListN.{length-set}
use Rattle.lists.proofs.Pairs.{laid_start, laid_size, laid_more, laid_all, laid_full}
use Rattle.volumes.specs.declared.Reference.{Reference}
use Rattle.volumes.specs.Volumes.{entry_at}
use Rattle.query.specs.Contents.{reference_pairs}
use Rattle.query.proofs.Listed.{references_step, references_end}
use Rattle.query.proofs.contents.list_references.Goals as goal

pub shape_of-pairs : goal.shape_of-pairs
shape_of-pairs c = laid_size _ _ c.loop-k.invariant

pub shape_of-pairs-then-room-at : goal.shape_of-pairs-then-room-at
shape_of-pairs-then-room-at c = laid_size _ _ c.loop-k.invariant

pub bounds-pairs-at-in-loop-k : goal.bounds-pairs-at-in-loop-k
bounds-pairs-at-in-loop-k c = simp length-set (omega (arith, laid_size _ _ c.loop-k.invariant))

pub loop-k-preserved : goal.loop-k-preserved
loop-k-preserved c =
    let a = c.args in
    let at = entry_at a.l a.i in
    let k = c.loop-k.k in
    let later = reference_pairs a.section.now at (a.count - (k + 1)) (k + 1) in
    let r = c.reference_at-r.result in
    let e : reference_pairs a.section.now at (a.count - k) k ≡ r.index ∷ r.sequence ∷ later =
    references_step a.section.now at a.count k (omega arith)
    ∙ ap (λ (x : Reference). x.index ∷ x.sequence ∷ later) (sym c.reference_at-r.ensures) in
    laid_more _ _ e (omega arith) c.loop-k.invariant

pub loop-k-init : goal.loop-k-init
loop-k-init c = rw sub-zero (laid_start _ _)

pub bounds-pairs-at : goal.bounds-pairs-at
bounds-pairs-at c = omega (arith, laid_size _ _ c.loop-k.invariant)

pub returns-then-room-at : goal.returns-then-room-at
returns-then-room-at c = laid_full _ _ (omega arith) c.loop-k.invariant

pub returns : goal.returns
returns c =
    let a = c.args in
    let e : reference_pairs a.section.now (entry_at a.l a.i) (a.count - c.loop-k.k) c.loop-k.k ≡ [] = references_end _ _ _ _ (omega arith) in
    laid_all _ _ e c.loop-k.invariant
