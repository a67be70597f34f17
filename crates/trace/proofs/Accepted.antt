-- What the checks that passed say of a list of next indexes.
use mathlib.Core.Path.{◌≡◌, refl, sym}
use mathlib.Core.Bool.{Bool, true, false}
use mathlib.Core.List.{List}
use mathlib.Core.Logic.{◌⊎◌, inl, inr, ⊎_elim}
use Prim.Native.Nat.{ℕ, ◌≤◌, ◌<◌}
use native.Mathlib.Omega.{arith}
use borrow.Author.Tests.{ltb-true, ltb-false, lt-ltb, le-ltb, eqb-true, eqb-false, eq-eqb, ne_eqb, not-false}
use lib.Dec.{ltb, eqb}
use lib.ListN.{length}
use Rattle.lists.proofs.Tests.{by_test, never}
use Rattle.lists.specs.First.{first}
use Rattle.lists.proofs.First.{first_nothing}
use Rattle.lists.specs.Count.{count}
use Rattle.lists.proofs.Count.{count_two}
use Rattle.incremental.specs.Decision.{Decision, accept, fault_of, check, ◌>>◌}
use Rattle.sections.specs.Fields.{places_fault}
use Rattle.trace.specs.Links.{end, after, astray, namers, shared, cyclic, chains, link_checks, trace_checks, InRange}
use Rattle.trace.specs.Private.{Distinct}
use Rattle.std.specs.Prelude.{None, Option, Some}

-- check 13 passed
abbrev pub Acyclic : List ℕ → Type 0
Acyclic s = (i : ℕ) → i < length s → cyclic s i ≡ false

-- an entry's next index passes check 11, or not
pub astray_no : (s : List ℕ) (i : ℕ) → astray s i ≡ false → (after s i ≡ end) ⊎ (after s i < length s)
astray_no s i e = by_test (eqb (after s i) end) (λ q. inl (eqb-true _ _ q)) (λ q. inr (ltb-true _ _ (not-false _ (rw q at e))))

pub astray-end : (s : List ℕ) (i : ℕ) → after s i ≡ end → astray s i ≡ false
astray-end s i e = rw (eq-eqb (after s i) end e)

pub astray_below : (s : List ℕ) (i : ℕ) → after s i < length s → astray s i ≡ false
astray_below s i l = rw (lt-ltb (after s i) (length s) l) (by_test (eqb (after s i) end) (λ q. rw q) (λ q. rw q))

pub astray_yes : (s : List ℕ) (i : ℕ) → (after s i ≡ end → ⊥) → length s ≤ after s i → astray s i ≡ true
astray_yes s i n l = rw (ne_eqb (after s i) end n, le-ltb (after s i) (length s) l)

-- a check's search that found nothing
pub sound : (s : List ℕ) → first (astray s) (length s) ≡ None → InRange s
sound s e i l = astray_no s i (first_nothing (astray s) (length s) e i l)

pub once : (s : List ℕ) → first (shared s) (length s) ≡ None → (j : ℕ) → j < length s → namers s (length s) j ≤ 1
once s e j l = ltb-false 1 (namers s (length s) j) (first_nothing (shared s) (length s) e j l)

pub acyclic : (s : List ℕ) → first (cyclic s) (length s) ≡ None → Acyclic s
acyclic s e i l = first_nothing (cyclic s) (length s) e i l

pub distinct : (s : List ℕ) → InRange s → ((j : ℕ) → j < length s → namers s (length s) j ≤ 1) → Distinct s
unfolding namers
distinct s h most i j hi hj e n =
    let named : ℕ → Bool = λ k. eqb (after s k) (after s i) in
    let few : count named (length s) ≤ 1 = most (after s i) (⊎_elim (λ z. absurd (n z)) (λ z. z) (h i hi)) in
    let mine = eq-eqb (after s i) (after s i) refl in
    let other = eq-eqb (after s j) (after s i) (sym e) in
    by_test (eqb i j) (λ q. eqb-true i j q) λ q.
    by_test (ltb i j) (λ l. absurd (omega (arith, few, count_two named (length s) i j (ltb-true i j l) hj mine other)))
    (λ l. absurd (omega (arith, few, count_two named (length s) j i (omega (arith, ltb-false i j l, eqb-false i j q)) hi other mine)))

-- a check of an acceptance found nothing
passed : {A : Type 0} (n : ℕ) (at : ℕ → ℕ) (f : Option ℕ) (later : Decision A) (a : A) → (check n (fault_of at f) >> later) ≡ accept a
    → (f ≡ None) × (later ≡ accept a)
passed n at (Some i) later a e = never cc
passed n at None later a e = (refl, e)

pub record Accepted (s : List ℕ) (n : ℕ) : Type 0 where
  pub sound : InRange s
  pub once : (j : ℕ) → j < length s → namers s (length s) j ≤ 1
  pub distinct : Distinct s
  pub acyclic : Acyclic s
  pub counted : n ≡ chains s

-- what an acceptance says
pub accepted : (at : ℕ → ℕ) (s : List ℕ) (n : ℕ) → link_checks at s ≡ accept n → Accepted s n
unfolding link_checks
accepted at s n e =
    let a = passed 11 at (first (astray s) (length s)) _ n e in
    let b = passed 12 at (first (shared s) (length s)) _ n a.1 in
    let c = passed 13 at (first (cyclic s) (length s)) _ n b.1 in
    let d : accept (chains s) ≡ accept n = c.1 in
    record {
      sound = sound s a.0;
      once = once s b.0;
      distinct = distinct s (sound s a.0) (once s b.0);
      acyclic = acyclic s c.0;
      counted = cc;
    }

-- check 7: with a place for each entry the others decide
pub trace_room : (at : ℕ → ℕ) (s : List ℕ) (m : ℕ) → length s ≤ m → trace_checks at s m ≡ link_checks at s
unfolding trace_checks places_fault
trace_room at s m l = rw (le-ltb m (length s) l)
