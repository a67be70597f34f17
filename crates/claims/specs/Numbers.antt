-- Request 105: all pairs of a file, and the search's answer by them.
use Rattle.std.specs.Prelude.{◌≡◌, true, List, [], ◌↔◌, ℕ, ◌+◌, ◌*◌, ◌≤◌, ◌<◌, length, get_or}
use Rattle.incremental.specs.Decision.{accept}
use Rattle.incremental.specs.Plan.{decided, run}
use Rattle.head.specs.Checks.{open_plan}
use Rattle.head.specs.declared.checks.Opening.{Opening}
use Rattle.path_search.specs.Search.{matches_by, path_found, path_pairs}
use Rattle.std.specs.Prelude.{None, Some}
use Rattle.path_search.specs.Search.{path_entry}

-- pair r of a list of pairs
pub record PairAt (pairs : List ℕ) (r i n : ℕ) : Type 0 where
  pub inside : 2 * r + 1 < length pairs
  pub entry : get_or pairs (2 * r) 0 ≡ i
  pub number : get_or pairs (2 * r + 1) 0 ≡ n

pub record Numbers : Type 0 where
  -- the search's answer is the first pair, and none exactly when there is no pair
  pub first_pair : (p : List ℕ) (i n : ℕ) → path_found p ≡ Some (path_entry i n) → PairAt (path_pairs p) 0 i n
  pub no_pair : (p : List ℕ) → (path_found p ≡ None) ↔ (path_pairs p ≡ [])
  -- the pairs are those of an entry and a number by which it matches, and all of them are listed
  pub pair : (o : Opening) (p : List ℕ) (r : ℕ) → run open_plan p ≡ decided (accept o) → 2 * r + 1 < length (path_pairs p)
      → (i : ℕ) × (n : ℕ) × PairAt (path_pairs p) r i n × (n < 9) × (i < o.head.metrics.count) × (matches_by o p n i ≡ true)
  pub listed : (o : Opening) (p : List ℕ) (i n : ℕ) → run open_plan p ≡ decided (accept o) → n < 9 → i < o.head.metrics.count
      → matches_by o p n i ≡ true → (r : ℕ) × PairAt (path_pairs p) r i n
  -- an entry matches by one number at most, so there are no more pairs than entries
  pub one_number : (o : Opening) (p : List ℕ) (i k n : ℕ) → k < 9 → n < 9 → matches_by o p k i ≡ true → matches_by o p n i ≡ true → k ≡ n
  pub few : (o : Opening) (p : List ℕ) → run open_plan p ≡ decided (accept o) → length (path_pairs p) ≤ 2 * o.head.metrics.count
