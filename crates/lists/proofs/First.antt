-- The first index that passes a test: every check that names "the first such entry" is one of these.
use mathlib.Core.Path.{◌≡◌, ap, sym, ◌∙◌}
use mathlib.Core.Bool.{Bool, true, false}
use mathlib.Core.Logic.{⊎_elim}
use Prim.Native.Nat.{ℕ, zero, suc, ◌+◌, ◌-◌, ◌<◌, ◌≤◌}
use native.Mathlib.Omega.{arith}
use native.Mathlib.Nat.{sub-zero, zero-add, add-zero, eq-or-lt_of_le}
use native.Mathlib.Numerals.{add-one}
use lib.Dec.{ltb}
use borrow.Author.Tests.{ltb-true, ltb-false}
use Rattle.lists.specs.First.{first_from, first, found_below}
use Rattle.lists.proofs.Tests.{by_test, never}
use Rattle.std.specs.Prelude.{None, Some}

pub at_nothing : (i : ℕ) → Some i ≡ None → ⊥
at_nothing i e = never cc

-- Four laws for a loop whose invariant is `first test n ≡ first_from test (n - i) i`
pub first_start : (test : ℕ → Bool) (n : ℕ) → first test n ≡ first_from test (n - 0) 0
first_start test n = rw (sub-zero n)

pub first_miss : (test : ℕ → Bool) (n i : ℕ) → i < n → test i ≡ false → first_from test (n - i) i ≡ first_from test (n - (i + 1)) (i + 1)
unfolding first_from
first_miss test n i l e =
    let d : n - i ≡ suc (n - (i + 1)) = omega arith in
    rw (d, e, add-one i)

pub first_hit : (test : ℕ → Bool) (n i : ℕ) → i < n → test i ≡ true → first_from test (n - i) i ≡ Some i
unfolding first_from
first_hit test n i l e =
    let d : n - i ≡ suc (n - (i + 1)) = omega arith in
    rw (d, e)

pub first-none : (test : ℕ → Bool) (n i : ℕ) → n ≤ i → first_from test (n - i) i ≡ None
unfolding first_from
first-none test n i l =
    let d : n - i ≡ 0 = omega arith in
    rw d

-- where there is none, every index fails the test
pub first-clear : (test : ℕ → Bool) (n i : ℕ) → first_from test n i ≡ None → (k : ℕ) → k < n → test (i + k) ≡ false
unfolding first_from
first-clear test zero i e k l = absurd (omega arith)
first-clear test (suc n) i e zero l = by_test (test i) (λ q. let w : Some i ≡ None = rw q at e in never cc) (λ q. rw (add-zero i) q)
first-clear test (suc n) i e (suc k) l =
    let s : suc i + k ≡ i + suc k = omega arith in
    by_test (test i) (λ q. let w : Some i ≡ None = rw q at e in never cc)
    (λ q. rw (← s) (first-clear test n (suc i) (rw q at e) k (omega arith)))

pub first_nothing : (test : ℕ → Bool) (n : ℕ) → first test n ≡ None → (k : ℕ) → k < n → test k ≡ false
first_nothing test n e k l = ap test (sym (zero-add k)) ∙ first-clear test n 0 e k l

-- the index that is found passes the test, and none before it does
pub first_at : (test : ℕ → Bool) (n i u : ℕ) → first_from test n i ≡ Some u → (i ≤ u) × (u < i + n) × (test u ≡ true) × ((k : ℕ) → i ≤ k → k < u → test k ≡ false)
unfolding first_from
first_at test zero i u e = absurd (at_nothing u (sym e))
first_at test (suc n) i u e =
    by_test (test i)
    (λ q.
    let j : Some i ≡ Some u = rw q at e in
    let h : i ≡ u = cc in
    (omega arith, omega arith, ap test (sym h) ∙ q, λ k l m. absurd (omega arith)))
    (λ q.
    let r = first_at test n (suc i) u (rw q at e) in
    (omega (arith, r.0), omega (arith, r.1), r.2, λ k l m. ⊎_elim (λ j. ap test (sym j) ∙ q) (λ j. r.3 k j m) (eq-or-lt_of_le l)))

-- where the indexes below r fail the test, the search goes on at r
pub first_skip : (test : ℕ → Bool) (n r : ℕ) → r ≤ n → ((k : ℕ) → k < r → test k ≡ false) → first test n ≡ first_from test (n - r) r
first_skip test n zero l f = first_start test n
first_skip test n (suc r) l f =
    first_skip test n r (omega arith) (λ k h. f k (omega arith)) ∙ rw (← add-one r) (first_miss test n r (omega arith) (f r (omega arith)))

-- r passes and none below it does; and none passes
pub first_is_at : (test : ℕ → Bool) (n r : ℕ) → r < n → test r ≡ true → ((k : ℕ) → k < r → test k ≡ false) → first test n ≡ Some r
first_is_at test n r l e f = first_skip test n r (omega arith) f ∙ first_hit test n r l e

pub first_is_nothing : (test : ℕ → Bool) (n : ℕ) → ((k : ℕ) → k < n → test k ≡ false) → first test n ≡ None
first_is_nothing test n f = first_skip test n n (omega arith) f ∙ first-none test n n (omega arith)

-- the same search by a number: the first index below n that passes the test, or n where none does
pub record Least (test : ℕ → Bool) (n r : ℕ) : Type 0 where
  pub most : r ≤ n
  pub below : (k : ℕ) → k < r → test k ≡ false
  pub here : r < n → test r ≡ true

pub least_first : (test : ℕ → Bool) (n r : ℕ) → Least test n r → found_below n r ≡ first test n
least_first test n r q =
    by_test (ltb r n) (λ e. rw e (sym (first_is_at test n r (ltb-true r n e) (q.here (ltb-true r n e)) q.below)))
    (λ e. rw e (sym (first_is_nothing test n (λ k h. q.below k (omega (arith, ltb-false r n e))))))
