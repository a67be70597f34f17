-- A flat table of pairs: the numbers of pair i stand at 2 i and 2 i + 1. Past the table's end each is 0.
use Rattle.std.specs.Prelude.{◌≡◌, List, ◌++◌, ℕ, ◌+◌, ◌*◌, ◌/◌, min, length, get_or, take, drop}

-- the first and the second number of pair i
abbrev pub first_of : List ℕ → ℕ → ℕ
first_of pairs i = get_or pairs (2 * i) 0

abbrev pub second_of : List ℕ → ℕ → ℕ
second_of pairs i = get_or pairs (2 * i + 1) 0

-- as many whole pairs as fit a list, and then what it held
abbrev pub pairs_in : List ℕ → List ℕ → List ℕ
pairs_in pairs held = take (2 * (length held / 2)) pairs ++ drop (min (2 * (length held / 2)) (length pairs)) held

-- THE PROMISE of a function that lists pairs: the full count of them, and what the borrowed list holds afterwards
pub record PairsListed (all before : List ℕ) (r : ℕ) (after : List ℕ) : Type 0 where
  pub count : 2 * r ≡ length all
  pub pairs : after ≡ pairs_in all before
