-- What holds of the walk over next indexes that pass checks 11 to 13: every entry is visited exactly once.
use Rattle.std.specs.Prelude.{◌≡◌, List, ℕ, ◌<◌, eqb, length, get_or}
use Rattle.lists.specs.Count.{count}
use Rattle.trace.specs.Links.{end, namers}
use Rattle.walk.specs.Walk.{heads, walk, along, total}

-- how often a number stands in a list
abbrev pub times : List ℕ → ℕ → ℕ
times xs e = count (λ r. eqb (get_or xs r end) e) (length xs)

pub record EveryEntry (s : List ℕ) : Type 0 where
  -- every entry stands in the list exactly once, and nothing else does
  pub once : (e : ℕ) → e < length s → times (walk s) e ≡ 1
  pub entries : (r : ℕ) → r < length (walk s) → get_or (walk s) r end < length s
  -- its length is the trace count
  pub long : length (walk s) ≡ length s
  -- the block counts along it add up to the plain total over the array
  pub sums : (counts : List ℕ) → length counts ≡ length s → along counts (walk s) ≡ total counts
  -- there are as many heads as entries whose next is 4,294,967,295
  pub heads_ends : length (heads s) ≡ namers s (length s) end
