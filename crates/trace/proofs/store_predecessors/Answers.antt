-- What a turn reads is the next index of its entry; the laws of `Passing` say the rest.
use mathlib.Core.Logic.{inl, inr}
use mathlib.Core.Path.{sym, ◌∙◌}
use native.Mathlib.Omega.{arith}
use Rattle.trace.proofs.Passing.{passing_none, passing_length, passing_astray, passing_more, passing_shared, passing_clear}
use Rattle.trace.proofs.store_predecessors.Goals.{then-next, else-next+else-entries-next}
use Rattle.trace.proofs.store_predecessors.Goals as goal

pub loop-i-init : goal.loop-i-init
loop-i-init g c = passing_none _ _ _ _ (sym c.count-entries.ensures) c.requires.clear

pub returns-then-entries-next : goal.returns-then-entries-next
returns-then-entries-next g c =
    let n = c.count-entries in
    passing_astray c.loop-i.invariant c.next-next.result (omega (arith, n.ensures)) (c.next-next.ensures ∙ g.met.N.Nexts.agrees _ _ (omega (arith, n.ensures))) c.loop-i.buffer
    (omega (arith, n.ensures, n.type_inv)) c.if-next.false (omega (arith, n.ensures))

pub loop-i-preserved : goal.loop-i-preserved
loop-i-preserved g c =
    let n = c.count-entries in
    passing_more c.loop-i.invariant c.next-next.result (omega (arith, n.ensures)) (c.next-next.ensures ∙ g.met.N.Nexts.agrees _ _ (omega (arith, n.ensures))) _ _ _
    (omega (arith, n.ensures, n.type_inv)) c.requires.room c.store_predecessor-least.ensures
    (elim c.if-next.branch [
      | then-next w ↦ inl (w.if-next.true, w.ends-is)
      | else-next+else-entries-next w ↦ inr (omega (arith, n.ensures, w.if-entries-next.false), w.ends-is)
    ])

pub store_predecessor-least-requires : goal.store_predecessor-least-requires
store_predecessor-least-requires g c =
    let n = c.count-entries.ensures in
    let l = passing_length c.loop-i.invariant in
    elim c.if-next.branch [
      | then-next w ↦ inl w.if-next.true
      | else-next+else-entries-next w ↦ inr (omega (arith, n, w.if-entries-next.false, l, c.requires.room))
    ]

pub returns-then-least-entries : goal.returns-then-least-entries
returns-then-least-entries g c =
    let n = c.count-entries in
    passing_shared c.loop-i.invariant (omega (arith, n.ensures, n.type_inv)) (omega (arith, n.ensures)) (omega (arith, n.ensures))

pub returns : goal.returns
returns g c =
    let n = c.count-entries in
    passing_clear c.loop-i.invariant (omega (arith, n.ensures, n.type_inv)) (omega (arith, n.ensures)) (omega (arith, n.ensures))
