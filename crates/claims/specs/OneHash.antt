-- Request 108: two names for one hash. What it rests on, and that the search for version 23 finds what it found before.
use Rattle.std.specs.Prelude.{◌≡◌, Bool, ◌&&◌, ◌||◌, List, ℕ, ◌+◌, ◌%◌, ◌^◌, eqb}
use Rattle.lists.specs.First.{first}
use Rattle.layout.specs.declared.Version.TheVariants.{V23}
use Rattle.sections.specs.Fields.{stored_hash}
use Rattle.path_hash.specs.Hash.{vista, hash2008}
use Rattle.head.specs.declared.checks.Opening.{Opening}
use Rattle.query.specs.Queries.{entry_shown}
use Rattle.path_search.specs.Search.{entry_numbers, matches_by}
use Rattle.std.specs.Prelude.{Option}

-- the test of version 23 before: Vista or 2008
abbrev pub either_matches : List ℕ → ℕ → Bool
either_matches numbers hash = eqb (vista numbers) hash || eqb (hash2008 numbers) hash

-- the search of version 23 before
unfoldable pub old_match : Opening → List ℕ → Option ℕ
old_match o p = first (λ i. entry_shown o p i && either_matches (entry_numbers o p i) (stored_hash p)) o.head.metrics.count

pub record OneHash : Type 0 where
  -- "442596621 is the seventh power of 37 and 803794207 the negated eighth, mod 4,294,967,296"
  pub seventh_power : 37 ^ 7 % 2 ^ 32 ≡ 442596621
  pub eighth_power : (37 ^ 8 + 803794207) % 2 ^ 32 ≡ 0
  -- "the Vista hash and the 2008 hash are equal on every list of numbers"
  pub vista_2008 : (s : List ℕ) → vista s ≡ hash2008 s
  -- so whatever the stored hash, both match or neither does: the report could only say "both"
  pub only_both : (s : List ℕ) (hash : ℕ) → eqb (vista s) hash ≡ eqb (hash2008 s) hash
  -- and the search finds the entry that it found, which is the first by number 0 (request 105)
  pub same_entry : (o : Opening) (p : List ℕ) → o.version ≡ V23 → old_match o p ≡ first (matches_by o p 0) o.head.metrics.count
