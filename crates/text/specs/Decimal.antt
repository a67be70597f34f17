-- Decimal numbers of document 01's "Program": the most significant digit first, no leading zero.
use Rattle.std.specs.Prelude.{◌≡◌, List, [], ◌∷◌, ◌++◌, ℕ, zero, suc, ◌+◌, ◌-◌, ◌*◌, ◌/◌, ◌%◌, ◌≤◌, ◌<◌, ltb, length, get_or}
use Rattle.lists.specs.Count.{pick}

-- the digits of a number; `turns` is above their number
unfoldable pub decimal_in : ℕ → ℕ → List ℕ
decimal_in zero n = []
decimal_in (suc turns) n = pick (ltb n 10) ((48 + n) ∷ []) (decimal_in turns (n / 10) ++ ((48 + n % 10) ∷ []))

-- a number has fewer digits than one more than itself
unfoldable pub decimal : ℕ → List ℕ
decimal n = decimal_in (suc n) n

-- ---- what that means: `decimal-law`

-- the number that digits form after those of n
unfoldable pub decimal_from : ℕ → List ℕ → ℕ
decimal_from n [] = n
decimal_from n (c ∷ s) = decimal_from (10 * n + (c - 48)) s

-- the number that digits form
unfoldable pub decimal_value : List ℕ → ℕ
decimal_value s = decimal_from 0 s

-- a byte that is one of the digits 0-9
pub record Digit (c : ℕ) : Type 0 where
  pub low : 48 ≤ c
  pub high : c ≤ 57

-- the bytes are a number in decimal: one digit or more that form it, the first a zero only where it stands alone
pub record IsDecimal (n : ℕ) (s : List ℕ) : Type 0 where
  pub value : decimal_value s ≡ n
  pub digits : (k : ℕ) → k < length s → Digit (get_or s k 0)
  pub nonempty : 0 < length s
  pub no_leading_zero : get_or s 0 0 ≡ 48 → (n ≡ 0) × (s ≡ 48 ∷ [])
