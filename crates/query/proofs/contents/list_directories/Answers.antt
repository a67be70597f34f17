use mathlib.Core.Path.{◌≡◌, sym, ap, ◌∙◌}
use mathlib.Core.List.{[], ◌∷◌}
use Prim.Native.Nat.{ℕ, ◌+◌, ◌-◌}
use native.Mathlib.Nat.{sub-zero}
use native.Mathlib.Omega.{arith}
use lib.ListN.{length-set}
use Rattle.lists.proofs.Pairs.{laid_start, laid_size, laid_more, laid_all, laid_full}
use Rattle.volumes.proofs.SoundVolume.{step_is}
use Rattle.query.specs.Contents.{directory_pairs}
use Rattle.query.proofs.Listed.{directories_step, directories_end}
use Rattle.query.proofs.contents.list_directories.Goals as goal
use Rattle.std.specs.Prelude.{Err, Ok}

pub shape_of-pairs : goal.shape_of-pairs
shape_of-pairs c = laid_size _ _ c.loop-k.invariant

pub overflow_add-pairs : goal.overflow_add-pairs
overflow_add-pairs c =
    omega (arith, c.requires, (step_is _ _ _ (sym c.step.ensures.answer ∙ c.in-Ok.is)).0.inside)

pub overflow_add-pairs-in-Ok : goal.overflow_add-pairs-in-Ok
overflow_add-pairs-in-Ok c =
    omega (arith, c.requires, (step_is _ _ _ (sym c.step.ensures.answer ∙ c.in-Ok.is)).0.inside)

pub returns-in-Err : goal.returns-in-Err
returns-in-Err c =
    let a = c.args in
    let f = c.in-Err.field-0 in
    let rest = directory_pairs a.section.now a.base (a.count - c.loop-k.k) c.loop-k.cursor.at in
    let e : rest ≡ [] = directories_step _ _ _ _ _ (Err f) (omega arith) (sym c.step.ensures.answer ∙ c.in-Err.is) in
    laid_all _ _ e c.loop-k.invariant

pub returns-then-room-i : goal.returns-then-room-i
returns-then-room-i c = laid_full _ _ (omega arith) c.loop-k.invariant

pub shape_of-pairs-then-room-i : goal.shape_of-pairs-then-room-i
shape_of-pairs-then-room-i c = laid_size _ _ c.loop-k.invariant

pub bounds-pairs-i : goal.bounds-pairs-i
bounds-pairs-i c = omega (arith, laid_size _ _ c.loop-k.invariant)

pub bounds-pairs-i-in-Ok : goal.bounds-pairs-i-in-Ok
bounds-pairs-i-in-Ok c = simp length-set (omega (arith, laid_size _ _ c.loop-k.invariant))

pub overflow_cast-pairs : goal.overflow_cast-pairs
overflow_cast-pairs c =
    omega (arith, c.requires, (step_is _ _ _ (sym c.step.ensures.answer ∙ c.in-Ok.is)).0.inside)

pub loop-k-preserved : goal.loop-k-preserved
loop-k-preserved c =
    let a = c.args in
    let s = a.section.now in
    let here = c.loop-k.cursor.at in
    let next = c.in-Ok.next in
    let later = directory_pairs s a.base (a.count - (c.loop-k.k + 1)) next.at in
    let e : directory_pairs s a.base (a.count - c.loop-k.k) here ≡ (a.base + here + 2) ∷ c.u16_at.result ∷ later =
    directories_step s a.base a.count c.loop-k.k here (Ok next) (omega arith)
    (sym c.step.ensures.answer ∙ c.in-Ok.is)
    ∙ ap (λ (n : ℕ). (a.base + here + 2) ∷ n ∷ later) (sym c.u16_at.ensures) in
    laid_more _ _ e (omega arith) c.loop-k.invariant

pub loop-k-init : goal.loop-k-init
loop-k-init c = rw sub-zero (laid_start _ _)

pub shape_of-pairs-in-Err : goal.shape_of-pairs-in-Err
shape_of-pairs-in-Err c = laid_size _ _ c.loop-k.invariant

pub returns : goal.returns
returns c =
    let a = c.args in
    let e : directory_pairs a.section.now a.base (a.count - c.loop-k.k) c.loop-k.cursor.at ≡ [] = directories_end _ _ _ _ _ (omega arith) in
    laid_all _ _ e c.loop-k.invariant
