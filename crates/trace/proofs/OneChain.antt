-- In a list that passes the checks every entry is on exactly one chain.
use mathlib.Core.Path.{◌≡◌, refl, sym, ap, ◌∙◌}
use mathlib.Core.List.{List}
use mathlib.Core.Logic.{◌⊎◌, inl, inr, ⊎_elim}
use Prim.Native.Nat.{ℕ, zero, suc, ◌+◌, ◌-◌, ◌≤◌, ◌<◌}
use native.Mathlib.Nat.{le_of_suc-le-suc, eq-or-lt_of_le, le_refl, add-zero, zero-add}
use native.Mathlib.Omega.{arith}
use lib.Dec.{ltb}
use lib.ListN.{length, get_or-eq_default}
use borrow.Author.Tests.{ltb-true, ltb-false}
use Rattle.lists.proofs.Tests.{by_test, never}
use Rattle.lists.proofs.Pigeon.{Twice, pigeons}
use Rattle.incremental.specs.Decision.{accept}
use Rattle.trace.specs.Links.{end, after, follow, predecessor, link_checks}
use Rattle.trace.proofs.Steps.{follow-suc}
use Rattle.trace.proofs.Cycles.{cycle_law}
use Rattle.trace.specs.Private.{Distinct}
use Rattle.trace.proofs.Accepted.{Acyclic, accepted}
use Rattle.trace.proofs.Predecessors.{by_named, names_one}
use Rattle.trace.specs.OneChain.{OnChain, OneChain}

module _ (s : List ℕ) (small : length s ≤ end) where
  -- what has a next entry is an entry
  inside : (i : ℕ) → after s i < length s → i < length s
  inside i h =
      by_test (ltb i (length s)) (λ q. ltb-true _ _ q)
      (λ q. let e : after s i ≡ end = get_or-eq_default s end (ltb-false _ _ q) in absurd (omega arith))

  last : (k h e : ℕ) → follow s (suc k) h ≡ e → after s (follow s k h) ≡ e
  last k h e q = sym (follow-suc s k h (follow s k h) refl) ∙ q

  only : Distinct s → (a b h g e : ℕ) → e < length s → OnChain s e h a → OnChain s e g b → (h ≡ g) × (a ≡ b)
  unfolding follow
  only d zero zero h g e l x y = (x.steps ∙ sym y.steps, refl)
  only d zero (suc b) h g e l x y =
      let q = last b g e y.steps in
      absurd (x.head.unnamed (follow s b g) (inside _ (omega (arith, q))) (q ∙ sym x.steps))
  only d (suc a) zero h g e l x y =
      let q = last a h e x.steps in
      absurd (y.head.unnamed (follow s a h) (inside _ (omega (arith, q))) (q ∙ sym y.steps))
  only d (suc a) (suc b) h g e l x y =
      let p = last a h e x.steps in
      let q = last b g e y.steps in
      let i = inside (follow s a h) (omega (arith, p)) in
      let j = inside (follow s b g) (omega (arith, q)) in
      let w = d (follow s a h) (follow s b g) i j (p ∙ sym q) (λ z. omega (arith, p, z)) in
      let r = only d a b h g (follow s a h) i (record { head = x.head; steps = refl }) (record { head = y.head; steps = sym w }) in
      (r.0, ap suc r.1)

  -- k entries back
  back : ℕ → ℕ → ℕ
  back zero e = e
  back (suc k) e = predecessor s (length s) (back k e)

  Went : ℕ → ℕ → Type 0
  Went k e = (j : ℕ) → j < suc k → back j e < length s

  -- so many entries back, and the same steps on
  there : (e a d : ℕ) → Went (a + d) e → follow s d (back (a + d) e) ≡ back a e
  unfolding follow back Went
  there e a zero w = ap (λ (x : ℕ). back x e) (add-zero a)
  there e a (suc d) w =
      let x : a + suc d ≡ suc (a + d) = omega arith in
      let b = w (a + suc d) (omega arith) in
      let b' : predecessor s (length s) (back (a + d) e) < length s = rw x at b in
      let n : after s (predecessor s (length s) (back (a + d) e)) ≡ back (a + d) e =
      by_named s (length s) (back (a + d) e) (λ p k. absurd (omega arith)) (λ q p k. p) in
      ap (λ (k : ℕ). follow s (suc d) (back k e)) x
      ∙ ap (follow s d) n
      ∙ there e a d (λ j l. w j (omega arith))

  module _ (e : ℕ) (l : e < length s) where
    abbrev Chained : Type 0
    Chained = (h : ℕ) × (k : ℕ) × OnChain s e h k

    search-back : (k : ℕ) → Chained ⊎ Went k e
    unfolding Went back
    search-back zero = inr start
      where
        start : (j : ℕ) → j < 1 → back j e < length s
        start zero h = l
        start (suc j) h = absurd (omega arith)
    search-back (suc k) =
        ⊎_elim (λ f. inl f)
        (λ w.
        by_named s (length s) (back k e)
        (λ p z.
        inl (
          back k e,
          k,
          record {
            head = record { entry = w k (le_refl (suc k)); unnamed = λ i h q. omega (arith, names_one s (length s) i (back k e) h q) };
            steps = ap (λ (x : ℕ). follow s k (back x e)) (sym (zero-add k)) ∙ there e 0 k (λ j h. w j (omega arith));
          },
        ))
        (λ h p z. inr (λ j i. ⊎_elim (λ (q : j ≡ suc k). rw q h) (λ (q : j < suc k). w j q) (eq-or-lt_of_le (le_of_suc-le-suc i)))))
        (search-back k)

    -- among as many entries back as there are and one more, two are the same: they are on a cycle
    found : Acyclic s → Chained
    unfolding Went
    found free = ⊎_elim (λ f. f) (λ w. absurd (turned w (pigeons (length s) (λ j. back j e) w))) (search-back (length s))
      where
        turned : Went (length s) e → Twice (λ j. back j e) (suc (length s)) → ⊥
        turned w t =
            let d = t.two - suc t.one in
            let x = back t.two e in
            let in_List = w t.two t.below in
            let same : t.one + suc d ≡ t.two = omega (arith, t.apart) in
            let round : follow s (suc d) x ≡ x =
            ap (λ (k : ℕ). follow s (suc d) (back k e)) (sym same)
            ∙ there e t.one (suc d) (λ j h. w j (omega (arith, same, t.below)))
            ∙ t.same in
            never (cc ((cycle_law s x in_List small).1 (d, round), free x in_List))

-- every entry is on exactly one chain, at one place
pub one_chain : (at : ℕ → ℕ) (s : List ℕ) (n : ℕ) → length s ≤ end → link_checks at s ≡ accept n → (e : ℕ) → e < length s → OneChain s e
one_chain at s n small a e l =
    let c = found s small e l (accepted at s n a).acyclic in
    record {
      head = c.0;
      place = c.1;
      on = c.2;
      only = λ h k o. only s small (accepted at s n a).distinct k c.1 h c.0 e l o c.2;
    }
