-- The indexes that pass a test: the place of each in their list, and the index at each place.
use mathlib.Core.Path.{◌≡◌, refl, sym, ap, ◌∙◌}
use mathlib.Core.Bool.{Bool, true, false}
use mathlib.Core.List.{[], ◌∷◌, ◌++◌, append-nil}
use mathlib.Core.Logic.{⊎_elim}
use Prim.Native.Nat.{ℕ, zero, suc, ◌≤◌, ◌<◌}
use native.Mathlib.Nat.{le_of_suc-le-suc, not-suc-le-zero, eq-or-lt_of_le, le_refl}
use native.Mathlib.Omega.{arith}
use lib.ListN.{length, get_or, length-append, get_or-append}
use lib.Seq.{get_or_at}
use Rattle.lists.specs.Count.{count}
use Rattle.lists.specs.Those.{those}
use Rattle.lists.proofs.Count.{count-zero, count_yes, count_no}
use Rattle.lists.proofs.Tests.{by_test}

-- one number more
pub those_yes : (p : ℕ → Bool) (n : ℕ) → p n ≡ true → those p (suc n) ≡ those p n ++ (n ∷ [])
unfolding those
those_yes p n e = rw e

pub those_no : (p : ℕ → Bool) (n : ℕ) → p n ≡ false → those p (suc n) ≡ those p n
unfolding those
those_no p n e = rw e (append-nil (those p n))

pub length-those : (p : ℕ → Bool) (n : ℕ) → length (those p n) ≡ count p n
unfolding those
length-those p zero = sym (count-zero p)
length-those p (suc n) =
    let ih = length-those p n in
    by_test (p n) (λ q. ap length (those_yes p n q) ∙ omega (arith, length-append (those p n) (n ∷ []), count_yes p n q))
    (λ q. ap length (those_no p n q) ∙ ih ∙ sym (count_no p n q))

-- the last of one more, and the others
those_last : (p : ℕ → Bool) (n d : ℕ) → p n ≡ true → get_or (those p (suc n)) (count p n) d ≡ n
those_last p n d e = rw (those_yes p n e) (get_or_at (those p n) n [] d (count p n) (length-those p n))

those-before : (p : ℕ → Bool) (n r d : ℕ) → r < count p n → get_or (those p (suc n)) r d ≡ get_or (those p n) r d
those-before p n r d l =
    by_test (p n) (λ q. rw (those_yes p n q) (get_or-append (those p n) (n ∷ []) d r (omega (arith, length-those p n)))) (λ q. rw (those_no p n q))

count_more : (p : ℕ → Bool) (n r : ℕ) → r < count p n → r < count p (suc n)
count_more p n r l = by_test (p n) (λ q. omega (arith, count_yes p n q)) (λ q. omega (arith, count_no p n q))

-- an index that passes stands behind as many as pass below it
pub those_there : (p : ℕ → Bool) (n k d : ℕ) → k < n → p k ≡ true → (count p k < count p n) × (get_or (those p n) (count p k) d ≡ k)
those_there p zero k d l e = absurd (not-suc-le-zero l)
those_there p (suc n) k d l e = ⊎_elim last (before (those_there p n k d)) (eq-or-lt_of_le (le_of_suc-le-suc l))
  where
    last : k ≡ n → (count p k < count p (suc n)) × (get_or (those p (suc n)) (count p k) d ≡ k)
    last z = let q : p n ≡ true = ap p (sym z) ∙ e in rw z (omega (arith, count_yes p n q), those_last p n d q)

    before : (k < n → p k ≡ true → (count p k < count p n) × (get_or (those p n) (count p k) d ≡ k)) → k < n
        → (count p k < count p (suc n)) × (get_or (those p (suc n)) (count p k) d ≡ k)
    before ih h = let w = ih h e in (count_more p n (count p k) w.0, those-before p n (count p k) d w.0 ∙ w.1)

-- the index at a place passes, and as many pass below it as stand before it
pub record Passing (p : ℕ → Bool) (n r k : ℕ) : Type 0 where
  pub below : k < n
  pub passes : p k ≡ true
  pub before : count p k ≡ r

pub those_at : (p : ℕ → Bool) (n r d : ℕ) → r < count p n → Passing p n r (get_or (those p n) r d)
those_at p zero r d l = absurd (omega (arith, count-zero p))
those_at p (suc n) r d l =
    by_test (p n)
    (λ q.
    ⊎_elim (λ (z : r ≡ count p n). rw (z, those_last p n d q) (record { below = le_refl (suc n); passes = q; before = refl }))
    (old (those_at p n r d)) (eq-or-lt_of_le (le_of_suc-le-suc (rw (count_yes p n q) at l))))
    (λ q. old (those_at p n r d) (rw (count_no p n q) at l))
  where
    old : (r < count p n → Passing p n r (get_or (those p n) r d)) → r < count p n → Passing p (suc n) r (get_or (those p (suc n)) r d)
    old ih h = let w = ih h in rw (those-before p n r d h) (record { below = omega (arith, w.below); passes = w.passes; before = w.before })

-- tests that agree below w, and from w on one of them fails
pub those-same : (p q : ℕ → Bool) (w n : ℕ) → w ≤ n → ((k : ℕ) → k < w → p k ≡ q k) → ((k : ℕ) → w ≤ k → k < n → p k ≡ false)
    → those p n ≡ those q w
unfolding those
those-same p q w zero l same past = let e : w ≡ 0 = omega arith in rw e
those-same p q w (suc n) l same past =
    ⊎_elim
    (λ (z : w ≡ suc n).
    let ih = those-same p q n n (le_refl n) (λ k h. same k (omega arith)) (λ k h g. absurd (omega arith)) in
    rw (z, ih, same n (omega arith)))
    (λ (z : w < suc n).
    those_no p n (past n (omega arith) (le_refl (suc n)))
    ∙ those-same p q w n (omega arith) same (λ k h g. past k h (omega arith)))
    (eq-or-lt_of_le l)
