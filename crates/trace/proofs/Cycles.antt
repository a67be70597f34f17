-- Cycles: `cyclic`, which looks at as many steps as there are entries, says of each entry whether any number of steps comes back to it.
use mathlib.Core.Path.{◌≡◌, refl, sym, ap, ◌∙◌}
use mathlib.Core.Bool.{true, false}
use mathlib.Core.List.{List}
use mathlib.Core.Logic.{◌↔◌}
use Prim.Native.Nat.{ℕ, suc, ◌+◌, ◌-◌, ◌*◌, ◌≤◌, ◌<◌}
use native.Mathlib.Nat.{mul-suc}
use native.Mathlib.Omega.{arith}
use borrow.Author.Tests.{eq-eqb, ne_eqb, eqb-true, ltb-true, ltb-false}
use lib.Dec.{eqb, ltb}
use lib.ListN.{length, get_or-eq_default}
use Rattle.lists.proofs.Count.{any_yes, any_no, any_true}
use Rattle.lists.proofs.Tests.{by_test}
use Rattle.lists.proofs.Pigeon.{pigeons}
use Rattle.trace.specs.Links.{end, follow, cyclic, Cyclic}
use Rattle.trace.proofs.Steps.{Reach, follow-add, follow-suc, follow-end, follow-times}

-- an entry from which the end is reached is on no cycle
pub no_cycle : (s : List ℕ) (i a k : ℕ) → length s ≤ end → follow s a i ≡ end → follow s (suc k) i ≡ i → i ≡ end
no_cycle s i a k l e r =
    sym (follow-times s (suc k) i a r)
    ∙ ap (λ (m : ℕ). follow s m i) (mul-suc a k ∙ omega arith)
    ∙ follow-add s a (a * k) i
    ∙ ap (follow s (a * k)) e
    ∙ follow-end s (a * k) l

pub cyclic_yes : (s : List ℕ) (i k : ℕ) → k < length s → follow s (suc k) i ≡ i → cyclic s i ≡ true
unfolding cyclic
cyclic_yes s i k l e = any_yes (λ m. eqb (follow s (suc m) i) i) (length s) k l (eq-eqb _ _ e)

pub cyclic_no : (s : List ℕ) (i : ℕ) → length s ≤ end → i < length s → Reach s i end → cyclic s i ≡ false
unfolding cyclic
cyclic_no s i l h r =
    any_no (λ m. eqb (follow s (suc m) i) i) (length s)
    (λ k _. ne_eqb _ _ (λ e. let z = no_cycle s i (suc r.0) k l r.1 e in omega arith))

module _ (s : List ℕ) (i : ℕ) (l : i < length s) (small : length s ≤ end) where
  -- from an entry on a cycle no step leaves the list
  stays : Cyclic s i → (a : ℕ) → follow s a i < length s
  stays r a =
      by_test (ltb (follow s a i) (length s)) (λ h. ltb-true _ _ h)
      (λ h.
      let e : follow s (suc a) i ≡ end = follow-suc s a i (follow s a i) refl ∙ get_or-eq_default s end (ltb-false _ _ h) in
      let z = no_cycle s i (suc a) r.0 small e r.1 in
      absurd (omega arith))

  -- two of the first steps meet, so the steps between them lead back to i
  comes_back : Cyclic s i → cyclic s i ≡ true
  comes_back r =
      let t = pigeons (length s) (λ a. follow s a i) (λ k h. stays r k) in
      let a = t.one in
      let d = t.two - suc a in
      -- a whole number of turns, and what is left of them after a steps
      let q = a * suc r.0 in
      let turns : follow s q i ≡ i = follow-times s (suc r.0) i a r.1 in
      let split : a + a * r.0 ≡ q = omega (arith, mul-suc a r.0) in
      let home : follow s (a * r.0) (follow s a i) ≡ i = sym (follow-add s a (a * r.0) i) ∙ ap (λ (m : ℕ). follow s m i) split ∙ turns in
      cyclic_yes s i d (omega (arith, t.apart, t.below))
      (ap (follow s (suc d)) (sym turns)
      ∙ sym (follow-add s q (suc d) i)
      ∙ ap (λ (m : ℕ). follow s m i) (omega (arith, split, t.apart))
      ∙ follow-add s t.two (a * r.0) i
      ∙ ap (follow s (a * r.0)) (sym t.same)
      ∙ home)

-- check 13 as the document words it
pub cycle_law : (s : List ℕ) (i : ℕ) → i < length s → length s ≤ end → (cyclic s i ≡ true) ↔ Cyclic s i
unfolding cyclic
cycle_law s i l small = (
  (λ e. let t = any_true (λ k. eqb (follow s (suc k) i) i) (length s) e in (t.0, eqb-true _ _ t.2)),
  comes_back s i l small,
)
