-- Lines of bytes, as recordings, lists of starts and catalogues have them.
use Rattle.std.specs.Prelude.{Bool, ◌&&◌, List, [], ◌∷◌, ℕ, zero, suc, ◌+◌, eqb, length, get_or, take, drop}
use Rattle.lists.specs.Count.{pick}
use Rattle.digits.specs.Hex.{are_digits}

-- a byte before the first of some lines: it belongs to that line
abbrev pub lead : ℕ → List (List ℕ) → List (List ℕ)
lead b [] = (b ∷ []) ∷ []
lead b (l ∷ ls) = (b ∷ l) ∷ ls

-- THE LINES of some bytes. A line has its line feed, 10, at its end. A rest without one is a line too, an empty rest is none.
unfoldable pub lines_in : List ℕ → List (List ℕ)
lines_in [] = []
lines_in (b ∷ s) = pick (eqb b 10) ((b ∷ []) ∷ lines_in s) (lead b (lines_in s))

-- the first of some lines; of none, no bytes
abbrev pub first_of : List (List ℕ) → List ℕ
first_of [] = []
first_of (l ∷ ls) = l

-- where the line ends that starts at an offset
unfoldable pub line_end : List ℕ → ℕ → ℕ
line_end s at = at + length (first_of (lines_in (drop at s)))

-- A LINE OF n DIGITS 0-9 A-F: they are all of it but its line feed
unfoldable pub is_line : ℕ → List ℕ → Bool
is_line n s = eqb (length s) (suc n) && (are_digits s 0 n && eqb (get_or s n 0) 10)

-- the lines of n digits that some bytes start with, at most `most` of them
unfoldable pub leading : ℕ → ℕ → List ℕ → List (List ℕ)
leading n zero s = []
leading n (suc most) s = pick (is_line n (take (suc n) s)) (take (suc n) s ∷ leading n most (drop (suc n) s)) []
