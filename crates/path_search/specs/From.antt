-- Document 03, A3: the path from another start. Windows 10 names files below `\VOLUME{..}`, and hashes the path with another start.
use Rattle.std.specs.Prelude.{ℕ, Bool, true, false, ◌&&◌, ◌||◌, List, [], ◌∷◌, ◌++◌, length, take, drop, ◌==◌, nat_lt}
use Rattle.sections.specs.Fields.{stored_hash}
use Rattle.incremental.specs.Plan.{run}
use Rattle.head.specs.Checks.{open_plan}
use Rattle.head.specs.declared.checks.Opening.{Opening}
use Rattle.query.specs.Queries.{asked, bytes_at, entry_shown, name_place, volume_shown, volume_facts}
use Rattle.path_search.specs.Search.{hashed_numbers, matches, least_pair}
use Rattle.std.specs.Prelude.{None, Option}
use Rattle.path_search.specs.declared.PathEntry.{PathEntry}

-- the same bytes
unfoldable pub same : List ℕ → List ℕ → Bool
same [] [] = true
same [] (y ∷ ys) = false
same (x ∷ xs) [] = false
same (x ∷ xs) (y ∷ ys) = x == y && same xs ys

-- a name's bytes begin with the bytes of a path, followed by nothing or by 5C 00, a backslash
unfoldable pub begins_with : List ℕ → List ℕ → Bool
begins_with path name =
    same (take (length path) name) path
    && (length name == (length path) || same (take 2 (drop (length path) name)) (0x5C ∷ 0 ∷ []))

-- THE PATH FROM A START: the start, followed by the name's bytes behind the volume's path
abbrev pub from_start : List ℕ → List ℕ → List ℕ → List ℕ
from_start start path name = start ++ drop (length path) name

-- the bytes of volume v's path, and of entry i's name
abbrev pub path_of : Opening → List ℕ → ℕ → List ℕ
path_of o p v = bytes_at (volume_facts o p v).path p

abbrev pub name_of : Opening → List ℕ → ℕ → List ℕ
name_of o p i = bytes_at (name_place o p i) p

-- entry i takes part: it can be shown, the volume can be shown with a path of at least one unit, and the name begins with that path
unfoldable pub takes_part : Opening → List ℕ → ℕ → ℕ → Bool
takes_part o p v i = entry_shown o p i && (volume_shown o p v && (nat_lt 0 (length (path_of o p v)) && begins_with (path_of o p v) (name_of o p i)))

-- and its path from that start matches by number n
abbrev pub matches_from : Opening → List ℕ → ℕ → List ℕ → ℕ → ℕ → Bool
matches_from o p v start n i =
    takes_part o p v i && matches o.version (hashed_numbers (from_start start (path_of o p v) (name_of o p i))) (stored_hash p) n

-- the least number for which any such path matches, and then the first such entry, or none; and none on bytes that don't pass checks 1 to 6
abbrev pub path_found_from : List ℕ → ℕ → List ℕ → Option PathEntry
path_found_from p v start = asked (run open_plan p) None (λ o. least_pair (matches_from o p v start) o.head.metrics.count)
