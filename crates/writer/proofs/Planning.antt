-- A plan within the limit: what its lengths add up to, and where its sections meet.
use mathlib.Core.Path.{◌≡◌, refl, sym, ap, ◌∙◌}
use mathlib.Core.Bool.{Bool, true, false, not}
use mathlib.Core.List.{List, [], ◌∷◌}
use Prim.Native.Nat.{ℕ, zero, suc, ◌+◌, ◌*◌, ◌≤◌, ◌<◌, max, min}
use native.Mathlib.Nat.{mul-one, mul-le-mul_left}
use native.Mathlib.Omega.{arith}
use borrow.Author.Tests.{lt-ltb, ltb-true, ltb-false, eq-eqb, ne_eqb}
use lib.Dec.{eqb, ltb}
use lib.ListN.{length, take, drop, length-take, take-append-drop}
use lib.Seq.{take-take, take-append_seam, take_all}
use Rattle.std.specs.List.{prefix_len}
use Rattle.lists.specs.Count.{pick}
use Rattle.lists.proofs.Tests.{by_test}
use Rattle.layout.specs.Versions.{metrics_entry, trace_entry, size_limit}
use Rattle.layout.specs.declared.Layout.{Layout}
use Rattle.writer.specs.LaidOut.{Description, before_zero, pairs, laid_size}
use Rattle.writer.specs.Plans.{Writable, plan_for, planned}
use Rattle.writer.specs.Private.{carried_units}
use Rattle.std.specs.Prelude.{None, Some}

-- ---- the plan
module _ (l : Layout) (w : Writable l) (d : Description) where
  at_least : (a e : ℕ) → 1 ≤ e → a ≤ a * e
  at_least a e h = let z : a * 1 ≤ a * e = mul-le-mul_left a h in omega (arith, mul-one a)

  -- the longest of its parts is not longer than the file
  pub many_parts : (n : ℕ) → n < max (max (max (pairs d.metrics) (pairs d.trace)) (length d.strings)) (length d.volumes) → n < laid_size l d
  many_parts n h =
      omega (arith, at_least (pairs d.metrics) (metrics_entry l) (omega arith), at_least (pairs d.trace) (trace_entry l) (omega arith))

  pub plan_large : size_limit < laid_size l d → None ≡ planned l d
  plan_large h = sym (ap (λ (b : Bool). pick b None (Some (plan_for l d))) (lt-ltb _ _ h))

-- ---- the name

-- the units before the first zero begin the name
before_prefix : (us : List ℕ) → before_zero us ≡ take (length (before_zero us)) us
unfolding before_zero
before_prefix [] = refl
before_prefix (u ∷ us) = by_test (eqb u 0) (λ q. rw (q, before_zero)) (λ q. rw (q, before_zero) (ap (λ (s : List ℕ). u ∷ s) (before_prefix us)))

pub carried_prefix : (us : List ℕ) → take (length (take 30 (before_zero us))) us ≡ take 30 (before_zero us)
carried_prefix us =
    let s = before_zero us in
    let k = length (take 30 s) in
    let h : k ≤ length s = omega (arith, length-take 30 s) in
    sym (take-take k (length s) us h)
    ∙ ap (take k) (sym (before_prefix us))
    ∙ ap (take k) (sym (take-append-drop 30 s))
    ∙ take-append_seam (take 30 s) (drop 30 s)

-- the code looks at the first 30 units, up to a zero
before-take : (n : ℕ) (us : List ℕ) → before_zero (take n us) ≡ take n (before_zero us)
unfolding before_zero
before-take zero us = refl
before-take (suc n) [] = refl
before-take (suc n) (u ∷ us) = by_test (eqb u 0) (λ q. rw q refl) (λ q. rw q (ap (λ (s : List ℕ). u ∷ s) (before-take n us)))

until-zero : (us : List ℕ) → take (prefix_len (λ x. not (eqb x 0)) us) us ≡ before_zero us
unfolding before_zero
until-zero [] = refl
until-zero (u ∷ us) = by_test (eqb u 0) (λ q. rw (q, prefix_len) refl) λ q.
    let n = prefix_len (λ x. not (eqb x 0)) us in
    let k : 1 + n ≡ suc n = omega arith in
    rw (q, prefix_len) (ap (λ (j : ℕ). take j (u ∷ us)) k ∙ ap (λ (s : List ℕ). u ∷ s) (until-zero us))

first-units : (us : List ℕ) → take (min (length us) 30) us ≡ take 30 us
first-units us =
    by_test (ltb (length us) 30)
    (λ q. take_all _ us (omega (arith, ltb-true _ _ q)) ∙ sym (take_all 30 us (omega (arith, ltb-true _ _ q))))
    (λ q. let n : min (length us) 30 ≡ 30 = omega (arith, ltb-false _ _ q) in ap (λ (n : ℕ). take n us) n)

pub counted : (us : List ℕ) (n k : ℕ) → n ≡ min (length us) 30 → k ≡ length (take (prefix_len (λ x. not (eqb x 0)) (take n us)) (take n us))
    → k ≡ length (take 30 (before_zero us))
counted us n k e h =
    h ∙ ap length (until-zero (take n us) ∙ ap (λ (j : ℕ). before_zero (take j us)) e ∙ ap before_zero (first-units us) ∙ before-take 30 us)

pub carried_some : (us : List ℕ) (k : ℕ) → k ≡ length (take 30 (before_zero us)) → k < 30 → Some k ≡ carried_units us
carried_some us k e l = let n : eqb k 30 ≡ false = ne_eqb k 30 (λ q. absurd (omega arith)) in rw (← e, n) refl

pub carried_none : (us : List ℕ) (k : ℕ) → k ≡ length (take 30 (before_zero us)) → 30 ≤ k → None ≡ carried_units us
carried_none us k e l = let n : eqb k 30 ≡ true = eq-eqb k 30 (omega (arith, e, length-take 30 (before_zero us))) in rw (← e, n) refl
