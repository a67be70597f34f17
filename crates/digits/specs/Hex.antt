-- Numbers in digits 0-9 A-F, the most significant first, as document 01 has them in "Catalogue line" and "Program": read and written.
use Rattle.std.specs.Prelude.{Bool, not, ◌&&◌, ◌||◌, List, [], ◌∷◌, ℕ, zero, suc, ◌+◌, ◌-◌, ◌*◌, ◌/◌, ◌%◌, ◌^◌, ltb, leb, length, get_or}
use Rattle.std.proofs.Math.Seq.{paste}
use Rattle.lists.specs.Count.{pick, any_below}

-- a byte that is one of the digits 0-9 and A-F
unfoldable pub is_digit : ℕ → Bool
is_digit c = (leb 48 c && leb c 57) || (leb 65 c && leb c 70)

-- the value of a digit
unfoldable pub digit_value : ℕ → ℕ
digit_value c = pick (leb c 57) (c - 48) (c - 55)

-- the digit of a value below 16
unfoldable pub digit_of : ℕ → ℕ
digit_of d = pick (ltb d 10) (48 + d) (55 + d)

-- the number that `width` digits from `at` form
unfoldable pub hex_at : ℕ → List ℕ → ℕ → ℕ
hex_at zero s at = 0
hex_at (suc width) s at = 16 * hex_at width s at + digit_value (get_or s (at + width) 0)

-- the lowest `width` digits of a number
unfoldable pub hex_digits : ℕ → ℕ → List ℕ
hex_digits zero x = []
hex_digits (suc width) x = digit_of (x / 16 ^ width % 16) ∷ hex_digits width x

-- the `width` bytes from `at` are there, and none of them is no digit
unfoldable pub are_digits : List ℕ → ℕ → ℕ → Bool
are_digits s at width = leb (at + width) (length s) && not (any_below (λ k. not (is_digit (get_or s (at + k) 0))) width)

-- READING: the number that `width` digits from `at` form, where they are digits and so few that 64 bits hold it; else 0
unfoldable pub number_in : List ℕ → ℕ → ℕ → ℕ
number_in s at width = pick (leb width 16 && are_digits s at width) (hex_at width s at) 0

-- WRITING: the lowest `width` digits stand from `at` where there is room for all of them, and the other bytes stay
unfoldable pub written : List ℕ → ℕ → ℕ → ℕ → List ℕ
written s at width x = pick (leb (at + width) (length s)) (paste s at (hex_digits width x) width) s
