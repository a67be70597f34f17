-- The search on the bytes of the metrics and the strings: what the private functions give.
use Rattle.std.specs.Prelude.{ℕ, ◌+◌, ◌*◌, ◌/◌, Bool, ◌||◌, List, length, drop, ◌==◌, nat_lt, slice_set}
use Rattle.lists.specs.Count.{pick, count, sum_below}
use Rattle.lists.specs.Table.{tabulate}
use Rattle.path_hash.specs.Hash.{plain, xp_end, wrap_sub}
use Rattle.layout.specs.Versions.{metrics_entry}
use Rattle.layout.specs.declared.Layout.{Layout}
use Rattle.layout.specs.declared.Version.{Version}
use Rattle.layout.specs.declared.Version.TheVariants.{V17, V23, V26, V30}
use Rattle.sections.specs.Fields.{part, stored_hash}
use Rattle.head.specs.declared.checks.Opening.{Opening}
use Rattle.query.specs.Queries.{bytes_at, name_sound, name_in}
use Rattle.path_search.specs.Search.{number_count, least_pair}
use Rattle.path_search.specs.From.{begins_with}
use Rattle.path_search.specs.declared.Sought.{Sought}
use Rattle.std.specs.Prelude.{Option}
use Rattle.path_search.specs.declared.PathEntry.{PathEntry}

-- ---- the hash of a version is plain from its start, and then its end step
abbrev pub hash_start : Version → ℕ
hash_start V17 = 0
hash_start V23 = 314159
hash_start V26 = 314159
hash_start V30 = 314159

abbrev pub hash_end : Version → ℕ → ℕ
hash_end V17 h = xp_end h
hash_end V23 h = h
hash_end V26 h = h
hash_end V30 h = h

-- ---- one name

-- a name belongs to a path that it begins with, and every name to none
unfoldable pub belongs : List ℕ → List ℕ → Bool
belongs path name = (length path) == 0 || begins_with path name

-- its hash, carried on from that of the start over what is behind the path
abbrev pub hash_from : Sought → List ℕ → List ℕ → ℕ
hash_from s path name = hash_end s.version (plain s.from (drop (length path) name))

-- the number by which a hash matches: what has to be added to it, mod 4,294,967,296, where that is no more than 8, else 9
abbrev pub number_for : ℕ → ℕ → ℕ
number_for stored hash = pick (nat_lt (wrap_sub stored hash) number_count) (wrap_sub stored hash) number_count

-- that of a name, 9 where it does not belong to the path
unfoldable pub number_of : Sought → List ℕ → List ℕ → ℕ
number_of s path name = pick (belongs path name) (number_for s.stored (hash_from s path name)) number_count

-- that of entry i, 9 where its name is not sound
unfoldable pub number_in : Sought → List ℕ → Layout → List ℕ → List ℕ → ℕ → ℕ
number_in s path l metrics strings i = pick (name_sound l metrics strings i) (number_of s path (bytes_at (name_in l metrics i) strings)) number_count

-- ---- all entries

-- the entries that lie whole in the metrics
abbrev pub entries_in : Layout → List ℕ → ℕ
entries_in l metrics = length metrics / metrics_entry l

-- entry i has number n
abbrev pub numbered_in : Sought → List ℕ → Layout → List ℕ → List ℕ → ℕ → ℕ → Bool
numbered_in s path l metrics strings n i = (number_in s path l metrics strings i) == n

abbrev pub searched : Sought → List ℕ → Layout → List ℕ → List ℕ → Option PathEntry
searched s path l metrics strings = least_pair (numbered_in s path l metrics strings) (entries_in l metrics)

-- on a file
abbrev pub sought_on : Opening → List ℕ → ℕ → Sought
sought_on o p from = record { version = o.version; from = from; stored = stored_hash p }

abbrev pub searched_on : Opening → List ℕ → List ℕ → ℕ → Option PathEntry
searched_on o p path from = searched (sought_on o p from) path o.layout (part o.head.metrics p) (part o.head.strings p)

-- ---- where each pair goes, over any test of a number and an entry, and m entries

-- the pairs of number n stand behind those of the lower numbers; behind all numbers that is the count of pairs
abbrev pub start_of : (ℕ → ℕ → Bool) → ℕ → ℕ → ℕ
start_of test m n = sum_below (λ k. count (test k) m) n

-- a place for each number, and the last for none
abbrev pub place_count : ℕ
place_count = 10

-- where the next pair of each number goes after i entries, the first of number n at `start n`. From 0 they are the counts
abbrev pub places_from : (ℕ → ℕ) → (ℕ → ℕ → Bool) → ℕ → List ℕ
places_from start test i = tabulate place_count (λ n. start n + count (test n) i)

-- pair r is put into a list, where it fits whole
abbrev pub pair_put : List ℕ → ℕ → ℕ → ℕ → List ℕ
pair_put held r entry number =
    pick (nat_lt (2 * r + 1) (length held)) (slice_set (slice_set held (2 * r) entry) (2 * r + 1) number) held
