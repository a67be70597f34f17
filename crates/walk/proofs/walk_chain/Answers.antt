-- What is read at an entry are its next index and its block count; the laws of `Going` say the rest.
use mathlib.Core.List.{List}
use Prim.Native.Nat.{ℕ, ◌+◌, ◌<◌}
use native.Mathlib.Omega.{arith}
use lib.ListN.{length}
use Rattle.trace.specs.Links.{nexts}
use Rattle.trace.proofs.Steps.{length-nexts}
use Rattle.walk.specs.declared.Visits.{Visits}
use Rattle.walk.specs.Walk.{chain_of}
use Rattle.walk.specs.Private.{ChainFits}
use Rattle.walk.proofs.AlongChain.{next_is, block_is, Going, going_start, going_room, going_step, going_end}
use Rattle.walk.proofs.walk_chain.Goals as goal

-- an entry is left, so there is room for it
room : (section : List ℕ) (entries head : ℕ) (v : Visits) (places : ℕ) → ChainFits (nexts section 12 entries) head v places
    → (counts before : List ℕ) (total : ℕ) (order : List ℕ) (steps sum j : ℕ)
    → Going (nexts section 12 entries) counts (chain_of (nexts section 12 entries) head) before v.steps total order steps sum j
    → j < entries → steps < v.steps + length (chain_of (nexts section 12 entries) head)
room section entries head v places f counts before total order steps sum j g l =
    going_room _ _ _ _ _ _ f.small _ _ _ _ g (omega (arith, length-nexts section 12 entries))

pub loop-j-init : goal.loop-j-init
loop-j-init c = going_start _ _ _ _ _ c.requires.0

pub loop-j-preserved : goal.loop-j-preserved
loop-j-preserved c =
    let a = c.args in
    let p = c.requires.0 in
    going_step _ _ _ _ _ _ p.small _ _ _ _ c.loop-j.invariant p.sound (omega (arith, length-nexts a.section.now 12 a.entries)) _ _ (omega arith)
    (block_is a.section.now 12 a.entries c.loop-j.j _ (omega arith) c.field_at.ensures)
    (next_is a.section.now 12 a.entries c.loop-j.j _ (omega arith) c.field_at-j.ensures)

pub loop-j-smaller : goal.loop-j-smaller
loop-j-smaller c =
    let l = room _ _ _ _ _ c.requires.0 _ _ _ _ _ _ _ c.loop-j.invariant c.loop-j-test.true in
    omega (arith, l, c.requires.0.fits)

pub bounds-order-steps : goal.bounds-order-steps
bounds-order-steps c =
    let l = room _ _ _ _ _ c.requires.0 _ _ _ _ _ _ _ c.loop-j.invariant c.loop-j-test.true in
    omega (arith, l, c.requires.0.fits, c.loop-j.invariant.long)

pub overflow_add-steps : goal.overflow_add-steps
overflow_add-steps c =
    let p = c.requires.0 in
    let l = room _ _ _ _ _ p _ _ _ _ _ _ _ c.loop-j.invariant c.loop-j-test.true in
    omega (arith, l, p.short, p.small)

pub overflow_add-total : goal.overflow_add-total
overflow_add-total c =
    let p = c.requires.0 in
    let l = room _ _ _ _ _ p _ _ _ _ _ _ _ c.loop-j.invariant c.loop-j-test.true in
    omega (arith, l, p.short, p.small, c.loop-j.invariant.low)

pub returns : goal.returns
returns c =
    let n = length-nexts c.args.section.now 12 c.args.entries in
    let e = going_end _ _ _ _ _ _ c.requires.0.small _ _ _ _ c.loop-j.invariant (omega (arith, n)) in
    record { steps = e.0; total = e.1; placed = e.2; low = c.loop-j.invariant.low }
