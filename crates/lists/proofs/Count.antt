-- Tests over the numbers below a bound: whether one passes, and how many do.
use mathlib.Core.Path.{◌≡◌, refl, sym, ap, ◌∙◌}
use mathlib.Core.Bool.{Bool, true, false, ◌||◌}
use mathlib.Core.Logic.{⊎_elim}
use Prim.Native.Nat.{ℕ, zero, suc, ◌≤◌, ◌<◌}
use native.Mathlib.Nat.{le_of_suc-le-suc, not-suc-le-zero, eq-or-lt_of_le, le_refl}
use native.Mathlib.Omega.{arith}
use Rattle.lists.specs.Count.{pick, any_below, count}
use Rattle.lists.proofs.Tests.{by_test, never}

-- true is not false
pub true-false : ◌≡◌ {A = Bool} true false → ⊥
true-false e = let z : ◌≡◌ {A = ℕ} 0 1 = ap (λ (b : Bool). pick b 0 1) e in omega arith

pub any_yes : (p : ℕ → Bool) (n k : ℕ) → k < n → p k ≡ true → any_below p n ≡ true
unfolding any_below
any_yes p zero k l e = absurd (not-suc-le-zero l)
any_yes p (suc n) k l e =
    by_test (p n) (λ q. rw (q, any_below))
    (λ q. rw (q, any_below) (⊎_elim (λ (j : k ≡ n). never (cc (ap p j))) (λ h. any_yes p n k h e) (eq-or-lt_of_le (le_of_suc-le-suc l))))

pub any_no : (p : ℕ → Bool) (n : ℕ) → ((k : ℕ) → k < n → p k ≡ false) → any_below p n ≡ false
unfolding any_below
any_no p zero f = refl
any_no p (suc n) f = rw (f n (le_refl (suc n)), any_below) (any_no p n (λ k h. f k (omega arith)))

pub any_true : (p : ℕ → Bool) (n : ℕ) → any_below p n ≡ true → (k : ℕ) × (k < n) × (p k ≡ true)
unfolding any_below
any_true p zero e = absurd (true-false (sym e))
any_true p (suc n) e =
    by_test (p n) (λ q. (n, le_refl (suc n), q)) (λ q. let t = any_true p n (rw (q, any_below) at e) in (t.0, omega (arith, t.1), t.2))

pub any_false : (p : ℕ → Bool) (n : ℕ) → any_below p n ≡ false → (k : ℕ) → k < n → p k ≡ false
any_false p n e k l = by_test (p k) (λ q. never (cc (any_yes p n k l q))) (λ q. q)

pub any_more : (p : ℕ → Bool) (n : ℕ) → any_below p (suc n) ≡ (any_below p n || p n)
unfolding any_below
any_more p n = go (p n) (any_below p n)
  where
    go : (b a : Bool) → elim b as (λ _. Bool) [ true ↦ true | false ↦ a ] ≡ (a || b)
    go true true = refl
    go true false = refl
    go false true = refl
    go false false = refl

pub any_eight : (p : ℕ → Bool) → (((((((p 0 || p 1) || p 2) || p 3) || p 4) || p 5) || p 6) || p 7) ≡ any_below p 8
unfolding any_below
any_eight p = sym (next 7 (next 6 (next 5 (next 4 (next 3 (next 2 (next 1 (any_more p 0))))))))
  where
    next : (n : ℕ) {a : Bool} → any_below p n ≡ a → any_below p (suc n) ≡ (a || p n)
    next n e = any_more p n ∙ ap (λ b. b || p n) e

-- one number more
pub count_yes : (p : ℕ → Bool) (n : ℕ) → p n ≡ true → count p (suc n) ≡ suc (count p n)
unfolding count
count_yes p n e = rw e (omega arith)

pub count_no : (p : ℕ → Bool) (n : ℕ) → p n ≡ false → count p (suc n) ≡ count p n
unfolding count
count_no p n e = rw e (omega arith)

pub count-zero : (p : ℕ → Bool) → count p 0 ≡ 0
unfolding count
count-zero p = refl

pub count-le : (p : ℕ → Bool) (n : ℕ) → count p n ≤ n
count-le p zero = rw (count-zero p) (le_refl 0)
count-le p (suc n) =
    let ih = count-le p n in
    by_test (p n) (λ q. omega (arith, count_yes p n q)) (λ q. omega (arith, count_no p n q))

-- one that passes, and two
pub count_one : (p : ℕ → Bool) (n a : ℕ) → a < n → p a ≡ true → 0 < count p n
count_one p zero a l e = absurd (not-suc-le-zero l)
count_one p (suc n) a l e =
    by_test (p n) (λ q. omega (arith, count_yes p n q))
    (λ q.
    ⊎_elim (λ (z : a ≡ n). never (cc (ap p z))) (λ (z : a < n). omega (arith, count_no p n q, count_one p n a z e))
    (eq-or-lt_of_le (le_of_suc-le-suc l)))

pub count_two : (p : ℕ → Bool) (n a b : ℕ) → a < b → b < n → p a ≡ true → p b ≡ true → 1 < count p n
count_two p zero a b h l d e = absurd (not-suc-le-zero l)
count_two p (suc n) a b h l d e =
    by_test (p n) (λ q. omega (arith, count_yes p n q, count_one p n a (omega arith) d))
    (λ q.
    ⊎_elim (λ (z : b ≡ n). never (cc (ap p z))) (λ (z : b < n). omega (arith, count_no p n q, count_two p n a b h z d e))
    (eq-or-lt_of_le (le_of_suc-le-suc l)))

-- tests that agree below n count the same, and tests that differ only at j, which passes the first, differ by one
pub count_same : (p q : ℕ → Bool) (n : ℕ) → ((k : ℕ) → k < n → p k ≡ q k) → count p n ≡ count q n
unfolding count
count_same p q zero f = refl
count_same p q (suc n) f = rw (f n (le_refl (suc n)), count_same p q n (λ k h. f k (omega arith)))

pub count_less : (p q : ℕ → Bool) (n j : ℕ) → j < n → p j ≡ true → q j ≡ false → ((k : ℕ) → k < n → (k ≡ j → ⊥) → p k ≡ q k) → count p n ≡ suc (count q n)
count_less p q zero j l e d f = absurd (not-suc-le-zero l)
count_less p q (suc n) j l e d f = ⊎_elim last (before (count_less p q n j)) (eq-or-lt_of_le (le_of_suc-le-suc l))
  where
    last : j ≡ n → count p (suc n) ≡ suc (count q (suc n))
    last z =
        omega (
          arith,
          count_yes p n (ap p (sym z) ∙ e),
          count_no q n (ap q (sym z) ∙ d),
          count_same p q n (λ k h. f k (omega arith) (λ y. omega arith)),
        )

    before : (j < n → p j ≡ true → q j ≡ false → ((k : ℕ) → k < n → (k ≡ j → ⊥) → p k ≡ q k) → count p n ≡ suc (count q n)) → j < n
        → count p (suc n) ≡ suc (count q (suc n))
    before ih h =
        let w = ih h e d (λ k g y. f k (omega arith) y) in
        let same : p n ≡ q n = f n (le_refl (suc n)) (λ y. omega arith) in
        by_test (q n) (λ y. omega (arith, count_yes p n (same ∙ y), count_yes q n y)) (λ y. omega (arith, count_no p n (same ∙ y), count_no q n y))
