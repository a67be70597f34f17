-- The pigeonhole law.
use mathlib.Core.Path.{◌≡◌, sym, ap, ◌∙◌}
use mathlib.Core.Logic.{◌⊎◌, inl, inr, ⊎_elim}
use Prim.Native.Nat.{ℕ, zero, suc, ◌<◌}
use native.Mathlib.Nat.{not-suc-le-zero, le_of_suc-le-suc, eq-or-lt_of_le, le_refl}
use native.Mathlib.Decide.{ℕ_discrete}
use native.Mathlib.Omega.{arith}
use borrow.Author.Tests.{eq-eqb, ne_eqb}
use lib.Dec.{eqb}
use Rattle.lists.specs.Count.{pick}

-- a number below n at which f is v, or none
find : (f : ℕ → ℕ) (v n : ℕ) → ((k : ℕ) × (k < n) × (f k ≡ v)) ⊎ ((k : ℕ) → k < n → f k ≡ v → ⊥)
find f v zero = inr (λ k l e. not-suc-le-zero l)
find f v (suc n) = go (ℕ_discrete (f n) v) (find f v n)
  where
    go : Dec (f n ≡ v) → ((k : ℕ) × (k < n) × (f k ≡ v)) ⊎ ((k : ℕ) → k < n → f k ≡ v → ⊥)
        → ((k : ℕ) × (k < suc n) × (f k ≡ v)) ⊎ ((k : ℕ) → k < suc n → f k ≡ v → ⊥)
    go (yes e) o = inl (n, le_refl (suc n), e)
    go (no z) o =
        ⊎_elim
        (λ c. inl (c.0, omega (arith, c.1), c.2))
        (λ c. inr (λ k l e. ⊎_elim (λ (y : k ≡ n). z (ap f (sym y) ∙ e)) (λ (y : k < n). c k y e) (eq-or-lt_of_le (le_of_suc-le-suc l))))
        o

-- f has one value at two numbers below n
pub record Twice (f : ℕ → ℕ) (n : ℕ) : Type 0 where
  pub one : ℕ
  pub two : ℕ
  pub apart : one < two
  pub below : two < n
  pub same : f one ≡ f two

-- n + 1 numbers below n are not all different
pub pigeons : (n : ℕ) (f : ℕ → ℕ) → ((k : ℕ) → k < suc n → f k < n) → Twice f (suc n)
pigeons zero f h = absurd (not-suc-le-zero (h 0 (le_refl 1)))
pigeons (suc n) f h =
    ⊎_elim
    (λ c. record { one = c.0; two = suc n; apart = c.1; below = le_refl (suc (suc n)); same = c.2 })
    (λ c. onward c (pigeons n g (below c)))
    (find f (f (suc n)) (suc n))
  where
    -- f, with the last value put where the greatest was
    g : ℕ → ℕ
    g k = pick (eqb (f k) n) (f (suc n)) (f k)

    below : ((k : ℕ) → k < suc n → f k ≡ f (suc n) → ⊥) → (k : ℕ) → k < suc n → g k < n
    below c k l = go (ℕ_discrete (f k) n)
      where
        go : Dec (f k ≡ n) → g k < n
        go (yes e) =
            let z : f (suc n) ≡ n → ⊥ = λ y. c k l (e ∙ sym y) in
            rw (eq-eqb (f k) n e) (omega (arith, h (suc n) (le_refl (suc (suc n)))))
        go (no z) = rw (ne_eqb (f k) n z) (omega (arith, h k (omega arith)))

    onward : ((k : ℕ) → k < suc n → f k ≡ f (suc n) → ⊥) → Twice g (suc n) → Twice f (suc (suc n))
    onward c t =
        record {
          one = t.one;
          two = t.two;
          apart = t.apart;
          below = omega (arith, t.below);
          same = go (ℕ_discrete (f t.one) n) (ℕ_discrete (f t.two) n);
        }
      where
        go : Dec (f t.one ≡ n) → Dec (f t.two ≡ n) → f t.one ≡ f t.two
        go (yes x) (yes y) = x ∙ sym y
        go (yes x) (no y) = absurd (c t.two t.below (sym (rw (eq-eqb (f t.one) n x, ne_eqb (f t.two) n y) at t.same)))
        go (no x) (yes y) = absurd (c t.one (omega (arith, t.apart, t.below)) (rw (ne_eqb (f t.one) n x, eq-eqb (f t.two) n y) at t.same))
        go (no x) (no y) = rw (ne_eqb (f t.one) n x, ne_eqb (f t.two) n y) at t.same
