-- The plain hash is the sum of powers: the engine gives the Vista hash.
use Rattle.std.proofs.Common.{◌≡◌, ℕ, suc, ◌+◌, ◌*◌, ◌%◌, ◌^◌, ◌<◌, Bool, true, false, leb, List, [], ◌∷◌, length, sym, refl, ap, ◌∙◌, mod-lt, pow-suc, arith, lit<}
use native.Mathlib.Nat.{mod-add-mod, add-mod-mod}
use Rattle.lists.specs.Count.{pick}
use Rattle.path_hash.specs.Hash.{step, plain, vista}
use Rattle.power_hash.specs.Powers.{power_sum, hash_powers}
use Rattle.power_hash.proofs.Products.{mod_times, mod_left, mod_right}

-- a product is added, its factors and itself reduced
pub sum_step : (S R x A : ℕ) → ((S + x % 2 ^ 32 * (A % 2 ^ 32) % 2 ^ 32) % 2 ^ 32 + R) % 2 ^ 32 ≡ (S + (x * A + R)) % 2 ^ 32
sum_step S R x A =
    rw (mod_left x (A % 2 ^ 32), mod_right x A, add-mod-mod S (x * A) (2 ^ 32))
    (mod-add-mod (S + x * A) (2 ^ 32) R ∙ ap (λ (k : ℕ). k % 2 ^ 32) (omega arith))

-- what was hashed before weighs 37 to the count of numbers after it, and each number its own power
pub plain-sum : (s : List ℕ) (h : ℕ) → h < 2 ^ 32 → plain h s ≡ (h * 37 ^ length s + power_sum s) % 2 ^ 32
unfolding plain power_sum step
plain-sum [] h l = omega arith
plain-sum (c ∷ s) h l =
    let A = 37 ^ length s in
    let x = 37 * h + c in
    let e : x * A + power_sum s ≡ h * 37 ^ suc (length s) + (c * A + power_sum s) =
    omega (arith, ap (λ (k : ℕ). h * k) (pow-suc 37 (length s))) in
    plain-sum s (x % 2 ^ 32) (mod-lt x (lit< tt)) ∙ mod_times x A (power_sum s) ∙ ap (λ (k : ℕ). k % 2 ^ 32) e

-- THE ENGINE GIVES THE VISTA ANSWER, on every list
pub powers_vista : (cs : List ℕ) → hash_powers cs ≡ vista cs
unfolding hash_powers
powers_vista cs = go (leb (length cs) 1024)
  where
    go : (b : Bool) → pick b ((314159 * 37 ^ length cs + power_sum cs) % 2 ^ 32) (plain 314159 cs) ≡ vista cs
    go true = sym (plain-sum cs 314159 (lit< tt))
    go false = refl
