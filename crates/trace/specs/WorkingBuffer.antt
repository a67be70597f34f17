-- The table of predecessors: what its places say, for each list and for a list that passes the checks.
use Rattle.std.specs.Prelude.{◌≡◌, List, ◌↔◌, ℕ, ◌≤◌, ◌<◌, length, get_or}
use Rattle.trace.specs.Links.{end, after}

-- WHAT THE WORKING BUFFER HOLDS after an acceptance
pub record WorkingBuffer (s table : List ℕ) : Type 0 where
  -- place j holds the entry that names j as next
  pub named : (i j : ℕ) → i < length s → j < length s → (get_or table j end ≡ i) ↔ (after s i ≡ j)
  -- and 4,294,967,295 where none does
  pub unnamed : (j : ℕ) → j < length s → (get_or table j end ≡ end) ↔ ((i : ℕ) → i < length s → after s i ≡ j → ⊥)
  -- and so do the places past the entries
  pub rest : (j : ℕ) → length s ≤ j → j < length table → get_or table j end ≡ end
