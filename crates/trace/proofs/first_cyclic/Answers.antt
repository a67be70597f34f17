-- A walk is at an entry with no mark, and reads its next index there; the laws of `Walk` say the rest.
use mathlib.Core.Logic.{◌⊎◌, inl, inr, ⊎_elim}
use mathlib.Core.Path.{◌≡◌, refl, sym, ◌∙◌}
use Prim.Native.Nat.{ℕ, ◌≤◌, ◌<◌}
use native.Mathlib.Omega.{arith}
use lib.ListN.{length}
use Rattle.lists.proofs.First.{first_is_at, first_is_nothing}
use Rattle.trace.specs.Links.{end, after, cyclic}
use Rattle.trace.proofs.Marks.{seen_none, seen_before, walk_start, walk_step, walk_found, walk_end, fewer}
use Rattle.trace.proofs.first_cyclic.Goals.{else-loop-j-test, then-loop-j-test+then-marks-at}
use Rattle.trace.proofs.first_cyclic.Goals as goal

-- the walk is at an entry where it is not at the end
entry : (j n : ℕ) → (j ≡ end) ⊎ (j < n) → (j ≡ end → ⊥) → j < n
entry j n o ne = ⊎_elim (λ e. absurd (ne e)) (λ l. l) o

pub entries-init : goal.entries-init
entries-init g c =
    let n = c.count-i-end in
    let s = g.N.Nexts.indexes c.args.links in
    (refl, rw c.fill.ensures (seen_none s (omega (arith, n.ensures, n.type_inv)) _ c.requires.0.room))

pub loop-j-init : goal.loop-j-init
loop-j-init g c =
    let n = c.count-i-end in
    let v = c.entries.invariant in
    (v.0, walk_start _ (omega (arith, n.ensures, n.type_inv)) _ _ v.1 (omega (arith, n.ensures)))

pub loop-j-smaller : goal.loop-j-smaller
loop-j-smaller g c =
    let n = c.count-i-end in
    let s = g.N.Nexts.indexes c.args.links in
    let small : length s ≤ end = omega (arith, n.ensures, n.type_inv) in
    let w = c.loop-j in
    let l = entry w.j _ w.invariant.1.at c.loop-j-test.true in
    omega (arith, fewer s small w.marks c.entries.i w.j w.invariant.1 l c.if-marks-at.false)

pub loop-j-preserved : goal.loop-j-preserved
loop-j-preserved g c =
    let n = c.count-i-end in
    let w = c.loop-j in
    let l = entry w.j _ w.invariant.1.at c.loop-j-test.true in
    let e : c.next-j.result ≡ after (g.N.Nexts.indexes c.args.links) w.j = rw c.next-j.ensures (g.met.N.Nexts.agrees _ _ l) in
    let q = c.requires in (
      w.invariant.0,
      rw e
          (walk_step _ (omega (arith, n.ensures, n.type_inv)) w.marks c.entries.i w.j w.invariant.1 l c.if-marks-at.false q.0.sound q.1
          (λ z. c.if-j-i.false (e ∙ z))),
    )

pub entries-preserved : goal.entries-preserved
entries-preserved g c =
    let n = c.count-i-end in
    let w = c.loop-j in
    let v = w.invariant.1 in (
      w.invariant.0,
      walk_end _ (omega (arith, n.ensures, n.type_inv)) w.marks c.entries.i w.j v
          (elim c.loop-j-test.branch [
            | else-loop-j-test w ↦ inl w.loop-j-test.false
            | then-loop-j-test+then-marks-at w ↦ inr (entry c.loop-j.j _ v.at w.loop-j-test.true, w.if-marks-at.true)
          ]),
    )

pub returns-then-j-i : goal.returns-then-j-i
returns-then-j-i g c =
    let n = c.count-i-end in
    let s = g.N.Nexts.indexes c.args.links in
    let small : length s ≤ end = omega (arith, n.ensures, n.type_inv) in
    let w = c.loop-j in
    let l = entry w.j _ w.invariant.1.at c.loop-j-test.true in
    let e : c.next-j.result ≡ after s w.j = rw c.next-j.ensures (g.met.N.Nexts.agrees _ _ l) in
    let found = walk_found s small w.marks c.entries.i w.j w.invariant.1 l c.if-marks-at.false (rw c.if-j-i.true at (sym e)) in
    sym (first_is_at (cyclic s) (length s) c.entries.i (omega (arith, n.ensures)) found
    (seen_before s small c.entries.marks c.entries.i (omega (arith, n.ensures)) c.entries.invariant.1))

pub returns-after-entries : goal.returns-after-entries
returns-after-entries g c =
    let n = c.count-i-end in
    let s = g.N.Nexts.indexes c.args.links in
    let small : length s ≤ end = omega (arith, n.ensures, n.type_inv) in
    let v = c.entries.invariant in
    v.0
    ∙ sym (first_is_nothing (cyclic s) (length s)
    (λ k l. seen_before s small c.entries.marks c.entries.i (omega (arith, n.ensures)) v.1 k (omega (arith, n.ensures))))
