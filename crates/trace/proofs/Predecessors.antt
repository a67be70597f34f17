-- The table of predecessors: what its places say, for each list and for a list that passes the checks.
use mathlib.Core.Path.{◌≡◌, refl, sym, ap, ◌∙◌}
use mathlib.Core.List.{List}
use mathlib.Core.Logic.{◌↔◌}
use Prim.Native.Nat.{ℕ, zero, suc, ◌≤◌, ◌<◌}
use native.Mathlib.Omega.{arith}
use borrow.Author.Tests.{eq-eqb, ne_eqb, eqb-true, eqb-false, lt-ltb, le-ltb}
use lib.Dec.{eqb, ltb}
use lib.ListN.{length, get_or}
use Rattle.lists.specs.Count.{pick}
use Rattle.lists.proofs.Tests.{by_test}
use Rattle.lists.proofs.Count.{count_yes, count_no, count_one, count-zero}
use Rattle.lists.proofs.Table.{length-tabulate, get_or_tabulate}
use Rattle.incremental.specs.Decision.{accept}
use Rattle.trace.specs.Links.{end, after, namers, predecessor, predecessors, link_checks}
use Rattle.trace.proofs.Accepted.{accepted}
use Rattle.trace.specs.WorkingBuffer.{WorkingBuffer}

pub predecessor-same : (s : List ℕ) (i j : ℕ) → after s i ≡ j → predecessor s (suc i) j ≡ i
unfolding predecessor
predecessor-same s i j e = rw (eq-eqb (after s i) j e)

pub predecessor_other : (s : List ℕ) (i j : ℕ) → (after s i ≡ j → ⊥) → predecessor s (suc i) j ≡ predecessor s i j
unfolding predecessor
predecessor_other s i j n = rw (ne_eqb (after s i) j n)

pub namers-same : (s : List ℕ) (i j : ℕ) → after s i ≡ j → namers s (suc i) j ≡ suc (namers s i j)
unfolding namers
namers-same s i j e = count_yes (λ k. eqb (after s k) j) i (eq-eqb (after s i) j e)

pub namers_other : (s : List ℕ) (i j : ℕ) → (after s i ≡ j → ⊥) → namers s (suc i) j ≡ namers s i j
unfolding namers
namers_other s i j n = count_no (λ k. eqb (after s k) j) i (ne_eqb (after s i) j n)

-- among the first i entries: none names j, or the predecessor of j does
pub by_named : {A : Type 0} (s : List ℕ) (i j : ℕ) → (predecessor s i j ≡ end → namers s i j ≡ 0 → A)
    → (predecessor s i j < i → after s (predecessor s i j) ≡ j → 0 < namers s i j → A) → A
unfolding predecessor namers
by_named s zero j none one = none refl (count-zero (λ k. eqb (after s k) j))
by_named s (suc i) j none one =
    by_test (eqb (after s i) j)
    (λ q.
    let e = eqb-true (after s i) j q in
    let p = predecessor-same s i j e in
    one (omega arith) (ap (after s) p ∙ e) (omega (arith, namers-same s i j e)))
    (λ q.
    let n = eqb-false (after s i) j q in
    let p = predecessor_other s i j n in
    by_named s i j (λ e k. none (p ∙ e) (namers_other s i j n ∙ k)) (λ l e k. one (omega arith) (ap (after s) p ∙ e) (omega (arith, namers_other s i j n))))

pub names_one : (s : List ℕ) (n i j : ℕ) → i < n → after s i ≡ j → 0 < namers s n j
unfolding namers
names_one s n i j l e = count_one (λ k. eqb (after s k) j) n i l (eq-eqb (after s i) j e)

-- the end stands where no entry names j
predecessor-end : (s : List ℕ) (j : ℕ) → length s ≤ end → (predecessor s (length s) j ≡ end) ↔ ((i : ℕ) → i < length s → after s i ≡ j → ⊥)
predecessor-end s j small = (
  λ e i l q. by_named s (length s) j (λ p k. omega (arith, names_one s (length s) i j l q)) (λ h p k. omega arith),
  λ f. by_named s (length s) j (λ p k. p) (λ h p k. absurd (f (predecessor s (length s) j) h p)),
)

-- the table is the inverse of the next indexes
predecessor_law : (at : ℕ → ℕ) (s : List ℕ) (n : ℕ) → length s ≤ end → link_checks at s ≡ accept n
    → (i j : ℕ) → i < length s → j < length s → (predecessor s (length s) j ≡ i) ↔ (after s i ≡ j)
predecessor_law at s n small e i j hi hj = (
  λ p. by_named s (length s) j (λ q k. absurd (omega arith)) (λ l q k. ap (after s) (sym p) ∙ q),
  λ q.
      by_named s (length s) j (λ p k. absurd (omega (arith, names_one s (length s) i j hi q)))
      (λ l p k. (accepted at s n e).distinct (predecessor s (length s) j) i l hi (p ∙ sym q) (λ z. omega (arith, p, z))),
)

pub length-predecessors : (s : List ℕ) (m : ℕ) → length (predecessors s m) ≡ m
unfolding predecessors
length-predecessors s m = length-tabulate m (λ j. pick (ltb j (length s)) (predecessor s (length s) j) end)

-- the place of an entry, and a place after them
pub at_predecessors : (s : List ℕ) (m k d : ℕ) → k < m → k < length s → get_or (predecessors s m) k d ≡ predecessor s (length s) k
unfolding predecessors
at_predecessors s m k d l h = get_or_tabulate m (λ j. pick (ltb j (length s)) (predecessor s (length s) j) end) k d l ∙ rw (lt-ltb k (length s) h)

pub past_predecessors : (s : List ℕ) (m k d : ℕ) → k < m → length s ≤ k → get_or (predecessors s m) k d ≡ end
unfolding predecessors
past_predecessors s m k d l h = get_or_tabulate m (λ j. pick (ltb j (length s)) (predecessor s (length s) j) end) k d l ∙ rw (le-ltb k (length s) h)

pub working_buffer : (at : ℕ → ℕ) (s : List ℕ) (n m : ℕ) → length s ≤ end → length s ≤ m → link_checks at s ≡ accept n
    → WorkingBuffer s (predecessors s m)
working_buffer at s n m small room e =
    record {
      named = λ i j li lj. rw (at_predecessors s m j end (omega arith) lj) (predecessor_law at s n small e i j li lj);
      unnamed = λ j l. rw (at_predecessors s m j end (omega arith) l) (predecessor-end s j small);
      rest = λ j l k. past_predecessors s m j end (omega (arith, length-predecessors s m)) l;
    }
