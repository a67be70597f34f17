-- Request 109: a second engine for the Vista hash, on a table of powers of 37, and the hash of a path whose start is swapped.
use Rattle.std.specs.Prelude.{◌≡◌, ℕ, ◌+◌, ◌-◌, ◌*◌, ◌%◌, ◌^◌, ◌<◌, List, [], ◌∷◌, length, take, nat_le, slice_index, slice_index_or, Result, Ok, Err}
use Rattle.lists.specs.Answer.{Said}
use Rattle.lists.specs.Count.{pick}
use Rattle.path_hash.specs.Hash.{plain, vista, wrap_sub}
use Rattle.power_hash.specs.declared.TooLong.{TooLong}

-- a table of 1,024 powers of 37: each entry is 37 times the one before, modulo 2 to the 32
pub record PowerTable (t : List ℕ) : Type 0 where
  pub size : length t ≡ 1024
  pub first : slice_index_or t 0 0 ≡ 1
  pub next : (k : ℕ) → k + 1 < 1024 → slice_index t (k + 1) ≡ 37 * slice_index t k % 2 ^ 32

-- each number times its power, added up: the last number's power is 37 ^ 0
unfoldable pub power_sum : List ℕ → ℕ
power_sum [] = 0
power_sum (c ∷ cs) = c * 37 ^ length cs + power_sum cs

-- up to 1,024 numbers, 314159 and each number times its power; past that the plain step
unfoldable pub hash_powers : List ℕ → ℕ
hash_powers cs = pick (nat_le (length cs) 1024) ((314159 * 37 ^ length cs + power_sum cs) % 2 ^ 32) (plain 314159 cs)

-- the old hash plus (hash of the new start less hash of the old) times 37 raised to the count of numbers kept
unfoldable pub swap_hash : ℕ → List ℕ → ℕ → List ℕ → ℕ
swap_hash h old p start = (h + wrap_sub (vista start) (vista (take p old)) * 37 ^ (length old - p)) % 2 ^ 32

-- the first p numbers swapped for another list; 25 where p exceeds the old list's length
abbrev pub swap_answer : ℕ → List ℕ → ℕ → List ℕ → Result ℕ TooLong
swap_answer h old p start = pick (nat_le p (length old)) (Ok (swap_hash h old p start)) (Err (record {}))

-- what each case says: 0 with the new hash, or 25 with hash 0
abbrev pub swap_said : Result ℕ TooLong → Said
swap_said (Ok h) = record { number = 0; values = h ∷ [] }
swap_said (Err e) = record { number = 25; values = 0 ∷ [] }
