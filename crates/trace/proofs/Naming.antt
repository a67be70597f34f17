-- The pass over the entries that stores predecessors and finds the smallest entry that two entries name.
use mathlib.Core.Path.{◌≡◌, refl, sym, ap, ◌∙◌}
use mathlib.Core.Bool.{Bool, true, false}
use mathlib.Core.List.{List}
use mathlib.Core.Logic.{⊎_elim}
use Prim.Native.Nat.{ℕ, suc, ◌+◌, ◌≤◌, ◌<◌, min}
use native.Mathlib.Nat.{le_refl, eq-or-lt_of_le}
use native.Mathlib.Omega.{arith}
use lib.Dec.{eqb, ltb}
use lib.ListN.{length, set}
use borrow.Author.Tests.{eq-eqb, ne_eqb, eqb-true, eqb-false, lt-ltb, le-ltb, ltb-true, ltb-false}
use Rattle.lists.proofs.First.{Least}
use Rattle.lists.specs.Count.{pick}
use Rattle.lists.proofs.Tests.{by_test}
use Rattle.lists.proofs.Count.{count-zero}
use Rattle.lists.specs.Table.{tabulate}
use Rattle.lists.proofs.Table.{tabulate-same, tabulate-replicate, set-tabulate}
use Rattle.lists.specs.Filled.{filled}
use Rattle.trace.specs.Links.{end, after, namers, predecessor}
use Rattle.trace.proofs.Predecessors.{predecessor-same, predecessor_other, by_named, namers-same, namers_other}

-- j is named by two or more of the first i entries
abbrev pub shared_by : List ℕ → ℕ → ℕ → Bool
shared_by s i j = ltb 1 (namers s i j)

-- the table of the first i entries
abbrev pub place : List ℕ → ℕ → ℕ → ℕ
place s i j = pick (ltb j (length s)) (predecessor s i j) end

abbrev pub table : List ℕ → ℕ → ℕ → List ℕ
table s m i = tabulate m (place s i)

pub table_none : (s : List ℕ) (m : ℕ) → filled m ≡ table s m 0
unfolding predecessor
table_none s m =
    sym (tabulate-replicate m end) ∙ tabulate-same m (λ _. end) (place s 0) (λ k l. by_test (ltb k (length s)) (λ q. rw q) (λ q. rw q))

-- entry i ends a chain, or names an entry
pub table_end : (s : List ℕ) (m i : ℕ) → length s ≤ end → after s i ≡ end → table s m i ≡ table s m (suc i)
table_end s m i small e =
    tabulate-same m (place s i) (place s (suc i))
    (λ k l.
    by_test (ltb k (length s)) (λ q. rw q (sym (predecessor_other s i k (λ (z : after s i ≡ k). omega (arith, ltb-true k (length s) q))))) (λ q. rw q))

pub table_more : (s : List ℕ) (m i : ℕ) → after s i < length s → set (table s m i) (after s i) i ≡ table s m (suc i)
table_more s m i h =
    set-tabulate m (place s i) (after s i) i
    ∙ tabulate-same m _ (place s (suc i))
    (λ k l.
    by_test (eqb (after s i) k)
    (λ q. let e = eqb-true (after s i) k q in rw (q, lt-ltb k (length s) (omega arith), predecessor-same s i k e))
    (λ q. rw (q, predecessor_other s i k (eqb-false (after s i) k q))))

pub least_none : (s : List ℕ) (n : ℕ) → Least (shared_by s 0) n n
unfolding namers
least_none s n =
    record {
      most = le_refl n;
      below = λ k h. le-ltb 1 (namers s 0 k) (omega (arith, count-zero (λ m. eqb (after s m) k)));
      here = λ h. absurd (omega arith);
    }

-- no entry before i is astray, nor is i
pub none_more : (p : ℕ → Bool) (i : ℕ) → ((k : ℕ) → k < i → p k ≡ false) → p i ≡ false → (k : ℕ) → k < i + 1 → p k ≡ false
none_more p i f e k l = ⊎_elim (λ (z : k ≡ i). ap p z ∙ e) (λ (z : k < i). f k z) (eq-or-lt_of_le {n = k} {m = i} (omega arith))

-- entry i is passed; v is what the table held for the entry that it names
module _ (s : List ℕ) (i n r v : ℕ) (small : n ≤ end) (l : i ≤ end) (q : Least (shared_by s i) n r) where
  -- an entry other than the next of i is shared as before
  as_before : (k : ℕ) → (after s i ≡ k → ⊥) → shared_by s (suc i) k ≡ shared_by s i k
  as_before k z = ap (ltb 1) (namers_other s i k z)

  still : (k : ℕ) → shared_by s i k ≡ true → shared_by s (suc i) k ≡ true
  still k e =
      by_test (eqb (after s i) k)
      (λ z. lt-ltb 1 (namers s (suc i) k) (omega (arith, namers-same s i k (eqb-true _ _ z), ltb-true 1 (namers s i k) e)))
      (λ z. as_before k (eqb-false _ _ z) ∙ e)

  -- no entry is named twice by this: the chain ends here, or the next entry had no predecessor
  same : ((k : ℕ) → k < r → after s i ≡ k → namers s i k ≡ 0) → Least (shared_by s (suc i)) n r
  same f =
      record {
        most = q.most;
        below = λ k h.
            by_test (eqb (after s i) k)
            (λ z. let y = eqb-true (after s i) k z in le-ltb 1 (namers s (suc i) k) (omega (arith, namers-same s i k y, f k h y)))
            (λ z. as_before k (eqb-false _ _ z) ∙ q.below k h);
        here = λ h. still r (q.here h);
      }

  again : after s i < n → 0 < namers s i (after s i) → Least (shared_by s (suc i)) n (min r (after s i))
  again b g =
      record {
        most = let m = q.most in omega arith;
        below = λ k h. as_before k (λ (y : after s i ≡ k). omega arith) ∙ q.below k (omega arith);
        here = λ h.
            by_test (ltb (after s i) r)
            (λ y.
            let e : min r (after s i) ≡ after s i = omega (arith, ltb-true (after s i) r y) in
            rw e (lt-ltb 1 (namers s (suc i) (after s i)) (omega (arith, namers-same s i (after s i) refl))))
            (λ y.
            let e : min r (after s i) ≡ r = omega (arith, ltb-false (after s i) r y) in
            rw e (still r (q.here (omega arith))));
      }

  pub least_end : after s i ≡ end → Least (shared_by s (suc i)) n r
  least_end e = same (λ k h z. absurd (let m = q.most in omega arith))

  pub least_more : after s i < n → v ≡ predecessor s i (after s i) → Least (shared_by s (suc i)) n (pick (eqb v end) r (min r (after s i)))
  least_more b e =
      by_named s i (after s i) (λ p k. rw (eq-eqb v end (e ∙ p)) (same (λ j h z. ap (namers s i) (sym z) ∙ k)))
      (λ h p k. rw (ne_eqb v end (λ z. omega arith)) (again b k))
