-- HOW MANY WORKING PLACES, of refusal 7 (document 01): with as many as `places` says, the prefix reader never gives it; with fewer it
-- does; and where `places` says no, an earlier check refuses or asks for more.
use Rattle.std.specs.Prelude.{◌≡◌, List, ℕ, ◌≤◌, ◌<◌, length}
use Rattle.lists.specs.Answer.{Answers}
use Rattle.layout.specs.Head.{trace_count_at}
use Rattle.incremental.specs.Decision.{refusal}
use Rattle.query.specs.Queries.{places_needed, places_said}
use Rattle.reader.specs.Checks.{ReadsPrefix}
use Rattle.reader.specs.declared.verdict.Acceptance.{Acceptance}
use Rattle.std.specs.Prelude.{Err, None, Option, Result, Some}
use Rattle.incremental.specs.declared.Stop.TheVariants.{Refused}
use Rattle.incremental.specs.declared.Stop.{Stop}

-- what `places` says of the bytes `p`, beside what the prefix reader answers with any buffer
pub record PlacesSettled (p buffer : List ℕ) (n : Option ℕ) (v : Result Acceptance Stop) : Type 0 where
  -- enough places are never refused for want of places
  pub enough : (k : ℕ) → n ≡ Some k → k ≤ length buffer → (i at : ℕ) → v ≡ Err (Refused (refusal 7 i at)) → ⊥
  -- fewer are
  pub short : (k : ℕ) → n ≡ Some k → length buffer < k → v ≡ Err (Refused (refusal 7 0 trace_count_at))
  -- where the number is not known, an earlier check refuses or asks for more
  pub unknown : n ≡ None → (i at : ℕ) → v ≡ Err (Refused (refusal 7 i at)) → ⊥

-- the statement, over the promises of `places` and of the prefix reader
abbrev pub PlacesSay : Type 0
PlacesSay = (p buffer : List ℕ) (n : Option ℕ) (v : Result Acceptance Stop) (after : List ℕ)
    → Answers places_said (places_needed p) n
    → ReadsPrefix p buffer v after
    → PlacesSettled p buffer n v
