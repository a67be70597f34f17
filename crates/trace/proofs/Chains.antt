-- The chain count: in a list that passes the checks it is the number of entries that end a chain.
use mathlib.Core.Path.{◌≡◌, refl, ap, ◌∙◌}
use mathlib.Core.List.{List}
use mathlib.Core.Logic.{◌⊎◌, ⊎_elim}
use Prim.Native.Nat.{ℕ, zero, suc, ◌+◌, ◌≤◌, ◌<◌}
use native.Mathlib.Nat.{le_refl}
use native.Mathlib.Omega.{arith}
use borrow.Author.Tests.{eq-eqb, ne_eqb, eqb-true, eqb-false, lt-ltb, le-ltb, ltb-true, ltb-false}
use lib.Dec.{eqb, ltb}
use lib.ListN.{length}
use Rattle.lists.specs.Count.{count, pick, sum_below}
use Rattle.lists.proofs.Tests.{by_test}
use Rattle.lists.proofs.Sum.{none_summed}
use Rattle.incremental.specs.Decision.{accept}
use Rattle.trace.specs.Links.{end, after, namers, chains, link_checks, InRange}
use Rattle.trace.specs.Private.{ends}
use Rattle.trace.proofs.Accepted.{accepted}

-- one more at x, of the weight that it has
pub sum_one : (f g : ℕ → ℕ) (x m : ℕ) → sum_below (λ e. pick (eqb x e) (f e) 0 + g e) m ≡ pick (ltb x m) (f x) 0 + sum_below g m
unfolding sum_below
sum_one f g x zero = rw (le-ltb x 0 (omega arith))
sum_one f g x (suc m) =
    let ih = sum_one f g x m in
    by_test (eqb x m)
    (λ q. let e = eqb-true x m q in rw (ih, q, lt-ltb x (suc m) (omega arith), le-ltb x m (omega arith)) (omega (arith, ap f e))) λ q.
    by_test (ltb x m) (λ l. rw (ih, q, l, lt-ltb x (suc m) (omega (arith, ltb-true))) (omega arith)) λ l.
    rw (ih, q, l, le-ltb x (suc m) (omega (arith, ltb-false x m l, eqb-false x m q))) (omega arith)

-- each entry that names an entry is counted there once
all_named : (s : List ℕ) (i m : ℕ) → sum_below (namers s i) m ≡ count (λ k. ltb (after s k) m) i
unfolding namers count
all_named s zero m = none_summed (namers s 0) m (λ k l. refl)
all_named s (suc i) m = sum_one (λ _. 1) (namers s i) (after s i) m ∙ ap (λ (x : ℕ). pick (ltb (after s i) m) 1 0 + x) (all_named s i m)

-- of numbers that are 0 or 1, those that are 0 and the sum of all make up their number
zeros_and_ones : (f : ℕ → ℕ) (m : ℕ) → ((j : ℕ) → j < m → f j ≤ 1) → count (λ j. eqb (f j) 0) m + sum_below f m ≡ m
unfolding count sum_below
zeros_and_ones f zero h = refl
zeros_and_ones f (suc m) h =
    let ih = zeros_and_ones f m (λ j l. h j (omega arith)) in
    by_test (eqb (f m) 0) (λ q. rw q (omega (arith, eqb-true (f m) 0 q))) (λ q. rw q (omega (arith, h m (le_refl (suc m)), eqb-false (f m) 0 q)))

ends-or_on : (s : List ℕ) (n i : ℕ) → n ≤ end → ((k : ℕ) → k < i → (after s k ≡ end) ⊎ (after s k < n))
    → count (λ k. eqb (after s k) end) i + count (λ k. ltb (after s k) n) i ≡ i
unfolding count
ends-or_on s n zero l h = refl
ends-or_on s n (suc i) l h =
    let ih = ends-or_on s n i l (λ k q. h k (omega arith)) in
    ⊎_elim (λ e. rw (eq-eqb (after s i) end e, le-ltb (after s i) n (omega arith)) (omega arith))
    (λ q. rw (ne_eqb (after s i) end (λ z. omega arith), lt-ltb (after s i) n q) (omega arith)) (h i (le_refl (suc i)))

-- there are as many chains as entries that end one, where checks 11 and 12 pass
pub chains_are_ends : (s : List ℕ) → length s ≤ end → InRange s → ((j : ℕ) → j < length s → namers s (length s) j ≤ 1) → chains s ≡ ends s
unfolding chains namers
chains_are_ends s l sound once =
    omega (
      arith,
      zeros_and_ones (namers s (length s)) (length s) once,
      all_named s (length s) (length s),
      ends-or_on s (length s) (length s) l sound,
    )

pub chains_ends : (at : ℕ → ℕ) (s : List ℕ) (n : ℕ) → length s ≤ end → link_checks at s ≡ accept n → chains s ≡ ends s
chains_ends at s n l e = let a = accepted at s n e in chains_are_ends s l a.sound a.once
