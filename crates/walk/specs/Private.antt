-- What only private contracts need: how the list is written, and what is known on the way.
use Rattle.std.specs.Prelude.{◌≡◌, List, ℕ, ◌+◌, ◌*◌, ◌≤◌, ◌<◌, length}
use Rattle.std.proofs.lemmas.List.Edits.{sets}
use Rattle.incremental.specs.Decision.{accept}
use Rattle.incremental.specs.Plan.{decided, run}
use Rattle.head.specs.Checks.{open_plan}
use Rattle.head.specs.declared.checks.Opening.{Opening}
use Rattle.trace.specs.Links.{end, follow, predecessors, link_checks}
use Rattle.trace.specs.Links.{InRange}
use Rattle.reader.specs.Verdict.{Acceptable}
use Rattle.reader.specs.Checks.{file_answer}
use Rattle.walk.specs.declared.Visits.{Visits}
use Rattle.walk.specs.Walk.{chain_of, along}

-- a list with some numbers written into it, one after another from a place; shut, since the kit's own unfolds everywhere
unfoldable pub written : List ℕ → ℕ → List ℕ → List ℕ
written order at list = sets order at list

-- what the visits so far add up to is as low as so many 32-bit numbers
abbrev pub Low : Visits → Type 0
Low v = (v.total ≤ v.steps * 4_294_967_295)

-- links that end, the chain of `head`, and room for it behind the entries visited
pub record ChainFits (s : List ℕ) (head : ℕ) (v : Visits) (room : ℕ) : Type 0 where
  pub entry : head < length s
  pub small : length s ≤ end
  pub sound : InRange s
  pub ends : follow s (length s) head ≡ end
  pub fits : v.steps + length (chain_of s head) ≤ room
  pub short : v.steps + length (chain_of s head) ≤ length s
  pub low : Low v

-- the visits after a list of entries, and the place that they were written to
pub record After (counts list : List ℕ) (v : Visits) (order : List ℕ) (r : Visits) (order' : List ℕ) : Type 0 where
  pub steps : r.steps ≡ v.steps + length list
  pub total : r.total ≡ v.total + along counts list
  pub placed : order' ≡ written order v.steps list
  pub low : Low r

-- links that pass checks 11 to 13, their table, and room for all entries
pub record WalkFits (s table : List ℕ) (room : ℕ) : Type 0 where
  pub small : length s ≤ end
  pub at : ℕ → ℕ
  pub chains : ℕ
  pub passes : link_checks at s ≡ accept chains
  pub places : length s ≤ length table
  pub holds : table ≡ predecessors s (length table)
  pub fits : length s ≤ room

-- the whole-file reader accepts, the buffer is the table that it left, and checks 1 to 6 give the opening
pub record Accepts (p buffer : List ℕ) (o : Opening) : Type 0 where
  pub given : Acceptable
  pub answer : file_answer p (length buffer) ≡ decided (accept given)
  pub table : buffer ≡ given.table
  pub opens : run open_plan p ≡ decided (accept o)

-- nothing visited
abbrev pub no_visits : Visits
no_visits = record { steps = 0; total = 0 }
