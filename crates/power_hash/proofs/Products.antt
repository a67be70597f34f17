-- Products and powers modulo 2 ^ 32.
use Rattle.std.proofs.Common.{◌≡◌, ℕ, zero, suc, ◌+◌, ◌*◌, ◌/◌, ◌%◌, ◌^◌, ◌<◌, ◌≤◌, sym, refl, ap, ◌∙◌, pow-suc, arith}
use native.Mathlib.Nat.{div-add-mod, pow-zero}
use Rattle.path_hash.proofs.Laws.{same-mod}

-- a factor's multiples of 2 ^ 32 may be taken off before a product
pub mod_times : (x A P : ℕ) → (x % 2 ^ 32 * A + P) % 2 ^ 32 ≡ (x * A + P) % 2 ^ 32
mod_times x A P =
    same-mod (x % 2 ^ 32 * A + P) (x * A + P) (x / 2 ^ 32 * A) 0 (omega (arith, ap (λ (k : ℕ). k * A) (div-add-mod x (2 ^ 32))))

pub mod_left : (x y : ℕ) → x % 2 ^ 32 * y % 2 ^ 32 ≡ x * y % 2 ^ 32
mod_left x y =
    same-mod (x % 2 ^ 32 * y) (x * y) (x / 2 ^ 32 * y) 0 (omega (arith, ap (λ (k : ℕ). k * y) (div-add-mod x (2 ^ 32))))

pub mod_right : (x y : ℕ) → x * (y % 2 ^ 32) % 2 ^ 32 ≡ x * y % 2 ^ 32
mod_right x y =
    same-mod (x * (y % 2 ^ 32)) (x * y) (x * (y / 2 ^ 32)) 0 (omega (arith, ap (λ (k : ℕ). x * k) (div-add-mod y (2 ^ 32))))

pub mod_power : (x m : ℕ) → (x % 2 ^ 32) ^ m % 2 ^ 32 ≡ x ^ m % 2 ^ 32
mod_power x zero = rw (pow-zero (x % 2 ^ 32), pow-zero x)
mod_power x (suc m) =
    let y = x % 2 ^ 32 in
    rw (pow-suc y m, pow-suc x m)
    (mod_right (y ^ m) x ∙ sym (mod_left (y ^ m) x) ∙ ap (λ (k : ℕ). k * x % 2 ^ 32) (mod_power x m) ∙ mod_left (x ^ m) x)

square_power : (b m : ℕ) → (b * b) ^ m ≡ b ^ (2 * m)
square_power b zero = rw (pow-zero (b * b), pow-zero b)
square_power b (suc m) =
    let e : 2 * suc m ≡ suc (suc (2 * m)) = omega arith in
    rw (e, pow-suc (b * b) m, pow-suc b (suc (2 * m)), pow-suc b (2 * m), square_power b m) (omega arith)

power_even : (r b q m : ℕ) → q ≡ 2 * m → r * (b * b % 2 ^ 32) ^ m % 2 ^ 32 ≡ r * b ^ q % 2 ^ 32
power_even r b q m e =
    rw e
    (sym (mod_right r ((b * b % 2 ^ 32) ^ m))
    ∙ ap (λ (k : ℕ). r * k % 2 ^ 32) (mod_power (b * b) m ∙ ap (λ (k : ℕ). k % 2 ^ 32) (square_power b m))
    ∙ mod_right r (b ^ (2 * m)))

power_odd : (r b q m : ℕ) → q ≡ suc (2 * m) → (r * b % 2 ^ 32) * (b * b % 2 ^ 32) ^ m % 2 ^ 32 ≡ r * b ^ q % 2 ^ 32
power_odd r b q m e =
    mod_left (r * b) ((b * b % 2 ^ 32) ^ m)
    ∙ power_even (r * b) b (2 * m) m refl
    ∙ ap (λ (k : ℕ). k % 2 ^ 32) (rw (e, pow-suc b (2 * m)) (omega arith))

-- powers by squaring: r and the square b at exponent q stand for g
pub record Stands (r b q g : ℕ) : Type 0 where
  pub below : r < 2 ^ 32
  pub same : r * b ^ q % 2 ^ 32 ≡ g

pub stands_start : (r b k : ℕ) → r < 2 ^ 32 → Stands r b k (r * b ^ k % 2 ^ 32)
stands_start r b k l = record { below = l; same = refl }

pub stands_odd : (r b q g r' b' : ℕ) → Stands r b q g → q % 2 ≡ 1 → r' ≡ r * b % 2 ^ 32 → b' ≡ b * b % 2 ^ 32 → Stands r' b' (q / 2) g
stands_odd r b q g r' b' w o e d =
    record { below = omega (arith, e); same = rw (e, d) (power_odd r b q (q / 2) (omega arith) ∙ w.same) }

pub stands_even : (r b q g r' b' : ℕ) → Stands r b q g → (q % 2 ≡ 1 → ⊥) → r' ≡ r → b' ≡ b * b % 2 ^ 32 → Stands r' b' (q / 2) g
stands_even r b q g r' b' w o e d =
    record { below = omega (arith, e, w.below); same = rw (e, d) (power_even r b q (q / 2) (omega arith) ∙ w.same) }

pub stands_done : (r b q g : ℕ) → Stands r b q g → q ≤ 0 → r ≡ g
stands_done r b q g w l =
    let z : q ≡ 0 = omega arith in
    let e : r * b ^ q ≡ r = rw (z, pow-zero b) (omega arith) in
    omega (arith, w.below, ap (λ (k : ℕ). k % 2 ^ 32) e, w.same)
