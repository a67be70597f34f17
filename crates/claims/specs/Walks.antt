-- Request 112 over the promise of `walk`: what a walk of a file gives.
use Rattle.std.specs.Prelude.{◌≡◌, true, false, List, ℕ, ◌<◌, length, get_or, take}
use Rattle.layout.specs.Versions.{has_next}
use Rattle.incremental.specs.Decision.{accept}
use Rattle.incremental.specs.Plan.{decided, run}
use Rattle.head.specs.Checks.{open_plan}
use Rattle.head.specs.declared.checks.Opening.{Opening}
use Rattle.trace.specs.Links.{end, namers}
use Rattle.reader.specs.Verdict.{Acceptable}
use Rattle.reader.specs.Checks.{nexts_in, file_answer}
use Rattle.walk.specs.Walk.{heads, total, blocks_in, Walks}
use Rattle.walk.specs.EveryEntry.{times}
use Rattle.std.specs.Prelude.{Ok, Result}
use Rattle.incremental.specs.declared.Refusal.{Refusal}
use Rattle.walk.specs.declared.Visits.{Visits}
use Rattle.walk.specs.Walk.{steps_walked}

-- a walk of a file with next indexes, of n steps and the total t
pub record EachOnce (p buffer : List ℕ) (o : Opening) (n t : ℕ) (order' : List ℕ) : Type 0 where
  -- the steps are the trace count, and the total is the plain one over the array
  pub steps : n ≡ o.head.trace.count
  pub sum : t ≡ total (blocks_in o p)
  -- "every trace entry is on exactly one chain": each index below the trace count stands exactly once in the list, and nothing else does
  pub once : (e : ℕ) → e < o.head.trace.count → times (take n order') e ≡ 1
  pub entries : (k : ℕ) → k < n → get_or (take n order') k end < o.head.trace.count
  -- "as many chains as entries whose next is 4,294,967,295": by the acceptance record, and by the heads that the walk starts from
  pub chains_ends : (x : Acceptable) → file_answer p (length buffer) ≡ decided (accept x)
      → x.fields.chain_count ≡ namers (nexts_in o p) o.head.trace.count end
  pub heads_ends : length (heads (nexts_in o p)) ≡ namers (nexts_in o p) o.head.trace.count end

-- what the promise says of a file that opens, with the working buffer and the place before and after
pub record WalkSays (p buffer order : List ℕ) (o : Opening) (r : Result Visits Refusal) (buffer' order' : List ℕ) : Type 0 where
  -- with next indexes every entry is visited once
  pub each_once : has_next o.layout ≡ true → (n t : ℕ) → r ≡ Ok (steps_walked n t) → EachOnce p buffer o n t order'
  -- without them an empty list, 0 steps and total 0; and whatever the whole-file reader accepts is walked: 23 is never given
  pub none : has_next o.layout ≡ false → (n t : ℕ) → r ≡ Ok (steps_walked n t) → (n ≡ 0) × (t ≡ 0) × (order' ≡ order)
  pub never_23 : has_next o.layout ≡ false → (x : Acceptable) → file_answer p (length buffer) ≡ decided (accept x) → r ≡ Ok (steps_walked 0 0)

abbrev pub WalksSay : Type 0
WalksSay = (p buffer order : List ℕ) (o : Opening) (r : Result Visits Refusal) (buffer' order' : List ℕ)
    → run open_plan p ≡ decided (accept o)
    → Walks p buffer order r buffer' order'
    → WalkSays p buffer order o r buffer' order'
