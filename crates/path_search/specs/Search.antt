-- Document 01's path search, over bytes (request 102) and with numbers from 0 to 8 (request 105).
use Rattle.std.specs.Prelude.{◌≡◌, ℕ, zero, suc, ◌+◌, ◌%◌, ◌^◌, ◌<◌, Bool, true, false, ◌&&◌, List, [], ◌∷◌, ◌++◌, ◌==◌}
use Rattle.lists.specs.Answer.{Said}
use Rattle.lists.specs.Count.{any_below}
use Rattle.lists.specs.First.{first}
use Rattle.lists.specs.Pairs.{PairsListed}
use Rattle.lists.specs.Those.{those}
use Rattle.layout.specs.declared.Version.{Version}
use Rattle.layout.specs.declared.Version.TheVariants.{V17, V23, V26, V30}
use Rattle.sections.specs.Fields.{stored_hash}
use Rattle.incremental.specs.Plan.{run}
use Rattle.path_hash.specs.Hash.{xp, vista, hash2008}
use Rattle.head.specs.Checks.{open_plan}
use Rattle.head.specs.declared.checks.Opening.{Opening}
use Rattle.query.specs.Queries.{asked, bytes_at, entry_shown, name_place}
use Rattle.std.specs.Prelude.{None, Option, Some}
use Rattle.path_search.specs.declared.PathEntry.{PathEntry}

-- the numbers that a name gives to the hash (request 102): its bytes, low byte first, two for each unit, each from 0 to 255. The bytes
-- are those of the file as they stand.
abbrev pub hashed_numbers : List ℕ → List ℕ
hashed_numbers name = name

-- the hash of a version: 17 uses XP, 23 Vista, 26 2008, and 30 what 26 uses. Vista and 2008 are equal on every list (request 108)
abbrev pub hash_of : Version → List ℕ → ℕ
hash_of V17 numbers = xp numbers
hash_of V23 numbers = vista numbers
hash_of V26 numbers = hash2008 numbers
hash_of V30 numbers = hash2008 numbers

-- a number from 0 to 8 (request 105; source document 001's /prefetch switch)
abbrev pub number_count : ℕ
number_count = 9

-- number n matches: the hash plus n, mod 4,294,967,296, equals the stored one. XP takes n after its end step
abbrev pub matches : Version → List ℕ → ℕ → ℕ → Bool
matches v numbers stored n = (hash_of v numbers + n) % 2 ^ 32 == stored

-- the numbers that entry i's name gives to the hash
abbrev pub entry_numbers : Opening → List ℕ → ℕ → List ℕ
entry_numbers o p i = hashed_numbers (bytes_at (name_place o p i) p)

-- entry i can be shown, and matches by number n
abbrev pub matches_by : Opening → List ℕ → ℕ → ℕ → Bool
matches_by o p n i = entry_shown o p i && matches o.version (entry_numbers o p i) (stored_hash p) n

-- ---- over any test of a number and an entry, and m entries

abbrev pub path_entry : ℕ → ℕ → PathEntry
path_entry i n = record { index = i; number = n }

-- the entry of a pair is the first that matches by that number
abbrev pub entry_by : ℕ → Option ℕ → Option PathEntry
entry_by n (Some i) = Some (path_entry i n)
entry_by n None = None

abbrev pub pair_by : (ℕ → ℕ → Bool) → ℕ → Option ℕ → Option PathEntry
pair_by test m (Some n) = entry_by n (first (test n) m)
pair_by test m None = None

-- THE ANSWER: the least number for which any entry matches, and then the first entry, or none
unfoldable pub least_pair : (ℕ → ℕ → Bool) → ℕ → Option PathEntry
least_pair test m = pair_by test m (first (λ n. any_below (test n) m) number_count)

-- ALL PAIRS that match, ordered by number and then by entry: two numbers each, the entry and its number
unfoldable pub pairs_of : ℕ → List ℕ → List ℕ
pairs_of n [] = []
pairs_of n (i ∷ is) = i ∷ n ∷ pairs_of n is

unfoldable pub pairs_below : (ℕ → ℕ → Bool) → ℕ → ℕ → List ℕ
pairs_below test m zero = []
pairs_below test m (suc n) = pairs_below test m n ++ pairs_of n (those (test n) m)

abbrev pub all_pairs : (ℕ → ℕ → Bool) → ℕ → List ℕ
all_pairs test m = pairs_below test m number_count

-- ---- on a file: none on bytes that don't pass checks 1 to 6
abbrev pub path_found : List ℕ → Option PathEntry
path_found p = asked (run open_plan p) None (λ o. least_pair (matches_by o p) o.head.metrics.count)

abbrev pub path_pairs : List ℕ → List ℕ
path_pairs p = asked (run open_plan p) [] (λ o. all_pairs (matches_by o p) o.head.metrics.count)

-- THE PROMISE of the list
abbrev pub ListsPaths : List ℕ → List ℕ → ℕ → List ℕ → Type 0
ListsPaths p before r after = PairsListed (path_pairs p) before r after

-- what each case says: 1 for an entry, with its index and number, or 0 for none, with zeros
abbrev pub path_said : Option PathEntry → Said
path_said (Some e) = record { number = 1; values = e.index ∷ e.number ∷ [] }
path_said None = record { number = 0; values = 0 ∷ 0 ∷ [] }

-- ---- WHAT A FOUND PATH IS

-- the entry can be shown and matches by the number; no entry matches by a lower number, and no earlier entry by this one
pub record PathFound (o : Opening) (p : List ℕ) (i n : ℕ) : Type 0 where
  pub below : i < o.head.metrics.count
  pub number : n < number_count
  pub matched : matches_by o p n i ≡ true
  pub least : (k j : ℕ) → k < n → j < o.head.metrics.count → matches_by o p k j ≡ false
  pub first : (j : ℕ) → j < i → matches_by o p n j ≡ false
