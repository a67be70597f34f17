-- Bytes that are digits, one by one, and the value of a digit.
use Rattle.std.specs.Prelude.{◌≡◌, true, List, ℕ, ◌+◌, ◌<◌, get_or, Option, Some, None}
use Rattle.lists.specs.Count.{pick}
use Rattle.digits.specs.Hex.{is_digit, digit_value}

-- all of `width` bytes from `at` are digits
abbrev pub Digits : List ℕ → ℕ → ℕ → Type 0
Digits s at width = (k : ℕ) → k < width → is_digit (get_or s (at + k) 0) ≡ true

-- the value of a byte that is a digit
unfoldable pub value_of : ℕ → Option ℕ
value_of c = pick (is_digit c) (Some (digit_value c)) None
