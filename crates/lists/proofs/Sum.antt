-- Sums over the numbers below a bound: by a loop, bounded, and of counts of which each number is in one at most.
use mathlib.Core.Path.{◌≡◌, refl, ap}
use mathlib.Core.Bool.{Bool, true, false, ◌&&◌}
use Prim.Native.Nat.{ℕ, zero, suc, ◌+◌, ◌-◌, ◌*◌, ◌≤◌, ◌<◌}
use native.Mathlib.Nat.{le_refl, le_trans, add-zero, add-suc}
use native.Mathlib.Omega.{arith}
use borrow.Author.Tests.{lt-ltb, leb-true, ltb-true, leb-false}
use lib.Dec.{leb, ltb}
use Rattle.lists.specs.Count.{pick, count, sum_below}
use Rattle.lists.proofs.Tests.{by_test, both_true}

pub sum-zero : (f : ℕ → ℕ) → sum_below f 0 ≡ 0
unfolding sum_below
sum-zero f = refl

pub sum_more : (f : ℕ → ℕ) (n : ℕ) → sum_below f (suc n) ≡ sum_below f n + f n
unfolding sum_below
sum_more f n = refl

pub sum_same : (f g : ℕ → ℕ) (n : ℕ) → ((k : ℕ) → k < n → f k ≡ g k) → sum_below f n ≡ sum_below g n
unfolding sum_below
sum_same f g zero h = refl
sum_same f g (suc n) h = omega (arith, sum_same f g n (λ k l. h k (omega arith)), h n (le_refl (suc n)))

pub sum-most : (f : ℕ → ℕ) (b n : ℕ) → ((k : ℕ) → k < n → f k ≤ b) → sum_below f n ≤ n * b
unfolding sum_below
sum-most f b zero h = omega arith
sum-most f b (suc n) h = omega (arith, sum-most f b n (λ k l. h k (omega arith)), h n (le_refl (suc n)))

pub sum_less : (f g : ℕ → ℕ) (n : ℕ) → ((k : ℕ) → k < n → f k ≤ g k) → sum_below f n ≤ sum_below g n
unfolding sum_below
sum_less f g zero h = omega arith
sum_less f g (suc n) h = omega (arith, sum_less f g n (λ k l. h k (omega arith)), h n (le_refl (suc n)))

pub none_summed : (f : ℕ → ℕ) (n : ℕ) → ((k : ℕ) → k < n → f k ≡ 0) → sum_below f n ≡ 0
unfolding sum_below
none_summed f zero h = refl
none_summed f (suc n) h = omega (arith, none_summed f n (λ k l. h k (omega arith)), h n (le_refl (suc n)))

-- numbers of which at most one passes are counted once at most
one_summed : (t : ℕ → Bool) (b : ℕ) → ((k n : ℕ) → k < b → n < b → t k ≡ true → t n ≡ true → k ≡ n) → sum_below (λ n. pick (t n) 1 0) b ≤ 1
unfolding sum_below
one_summed t zero h = omega arith
one_summed t (suc b) h =
    let ih = one_summed t b (λ k n l j. h k n (omega arith) (omega arith)) in
    by_test (t b) (λ e. rw e (omega (arith, none_summed (λ n. pick (t n) 1 0) b (λ k l. ap (λ (x : Bool). pick x 1 0) (below e k l)))))
    (λ e. rw e (omega arith))
  where
    below : t b ≡ true → (k : ℕ) → k < b → t k ≡ false
    below e k l = by_test (t k) (λ q. absurd (omega (arith, h k b (omega arith) (le_refl (suc b)) q e))) (λ q. q)

sum_added : (f g : ℕ → ℕ) (n : ℕ) → sum_below (λ k. f k + g k) n ≡ sum_below f n + sum_below g n
unfolding sum_below
sum_added f g zero = refl
sum_added f g (suc n) = omega (arith, sum_added f g n)

-- n tests of the numbers below m, of which each number passes one at most, count no more than m
pub once_counted : (test : ℕ → ℕ → Bool) (n m : ℕ) → ((i j k : ℕ) → j < n → k < n → test j i ≡ true → test k i ≡ true → j ≡ k)
    → sum_below (λ k. count (test k) m) n ≤ m
unfolding count
once_counted test n zero h = omega (arith, none_summed (λ k. count (test k) 0) n (λ k l. refl))
once_counted test n (suc m) h =
    omega (
      arith,
      sum_added (λ k. pick (test k m) 1 0) (λ k. count (test k) m) n,
      one_summed (λ k. test k m) n (h m),
      once_counted test n m h,
    )

-- ---- intervals below a bound of which no two share a number: together they are no longer than the bound
abbrev within : ℕ → ℕ → ℕ → Bool
within start size p = leb start p && ltb p (start + size)

within_is : (start size p : ℕ) → within start size p ≡ true → (start ≤ p) × (p < start + size)
within_is start size p e = let t = both_true _ _ e in (leb-true _ _ t.0, ltb-true _ _ t.1)

-- as many numbers below m are in an interval as reach into it
reached : (start size m : ℕ) → m ≤ start + size → m ≤ count (within start size) m + start
unfolding count
reached start size zero h = omega arith
reached start size (suc m) h =
    let ih = reached start size m (omega arith) in
    by_test (leb start m) (λ q. rw (q, lt-ltb m (start + size) (omega arith)) (omega arith)) (λ q. let l : m < start = leb-false _ _ q in omega arith)

count_grows : (t : ℕ → Bool) (a b : ℕ) → count t a ≤ count t (a + b)
unfolding count
count_grows t a zero = rw (add-zero a) (omega arith)
count_grows t a (suc b) = rw (add-suc a b) (omega (arith, count_grows t a b))

pub intervals_fit : (start size : ℕ → ℕ) (bound n : ℕ) → ((k : ℕ) → k < n → start k + size k ≤ bound)
    → ((p j k : ℕ) → j < n → k < n → (start j ≤ p) × (p < start j + size j) → (start k ≤ p) × (p < start k + size k) → j ≡ k)
    → sum_below size n ≤ bound
intervals_fit start size bound n inside apart =
    le_trans (sum_less size (λ k. count (test k) bound) n covered)
    (once_counted test n bound (λ i j k a b e f. apart i j k a b (within_is (start j) (size j) i e) (within_is (start k) (size k) i f)))
  where
    test : ℕ → ℕ → Bool
    test k = within (start k) (size k)

    covered : (k : ℕ) → k < n → size k ≤ count (test k) bound
    covered k l =
        let end = start k + size k in
        let z : end + (bound - end) ≡ bound = omega (arith, inside k l) in
        let g : count (test k) end ≤ count (test k) bound = rw z at (count_grows (test k) end (bound - end)) in
        omega (arith, reached (start k) (size k) end (le_refl end))
