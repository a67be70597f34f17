-- What only private contracts need: what each check looks for and says, and what is known of the buffer on the way.
use Rattle.std.specs.Prelude.{◌≡◌, Bool, true, List, ℕ, ◌<◌, ◌≤◌, min, length, get_or, set, eqb}
use Rattle.std.specs.Prelude.{None, Option, Some, Result, Ok, Err, OnOk}
use Rattle.lists.specs.Filled.{filled}
use Rattle.lists.specs.First.{first}
use Rattle.lists.specs.Count.{pick}
use Rattle.incremental.specs.Decision.{refusal}
use Rattle.incremental.specs.declared.Refusal.{Refusal}
use Rattle.trace.specs.Links.{end, after, InRange, astray, namers, shared, cyclic, chains, predecessors}
use Rattle.trace.specs.declared.Broken.{Broken}
use Rattle.trace.specs.declared.Broken.TheVariants.{Astray, Shared, Cyclic}
use Rattle.trace.specs.declared.Pass.{Pass}

-- check 12 passed: no two entries name one entry
abbrev pub Distinct : List ℕ → Type 0
Distinct s = (i j : ℕ) → i < length s → j < length s → after s i ≡ after s j → (after s i ≡ end → ⊥) → i ≡ j

-- what checks 11, 12 and 13 look for
abbrev pub first_astray : List ℕ → Option ℕ
first_astray s = first (astray s) (length s)

abbrev pub first_shared : List ℕ → Option ℕ
first_shared s = first (shared s) (length s)

abbrev pub first_cyclic : List ℕ → Option ℕ
first_cyclic s = first (cyclic s) (length s)

-- what one pass for checks 11 and 12 says: f and g are what they look for, n is the number of entries that end a chain, and b
-- is whether every next index was seen to be above its own
abbrev pub pass_of : Option ℕ → Option ℕ → ℕ → Bool → Result Pass Broken
pass_of (Some i) g n b = Err (Astray i)
pass_of None (Some i) n b = Err (Shared i)
pass_of None None n b = Ok (record { ends = n; forward = b })

-- what check 13 says, and what checks 11 to 13 do, where n is the chain count
abbrev pub cycles_of : Option ℕ → Result Unit Broken
cycles_of (Some i) = Err (Cyclic i)
cycles_of None = Ok tt

abbrev pub links_of : Option ℕ → Option ℕ → Option ℕ → ℕ → Result ℕ Broken
links_of (Some i) g h n = Err (Astray i)
links_of None (Some i) h n = Err (Shared i)
links_of None None (Some i) n = Err (Cyclic i)
links_of None None None n = Ok n

-- the refusal of an entry; `at` says where in the file each entry starts
abbrev pub refusal_of : (ℕ → ℕ) → Broken → Refusal
refusal_of at (Astray i) = refusal 11 i (at i)
refusal_of at (Shared i) = refusal 12 i (at i)
refusal_of at (Cyclic i) = refusal 13 i (at i)

-- the buffer has a place for each entry, and check 11 has passed
pub record LinkedBuffer (s buffer : List ℕ) : Type 0 where
  pub room : length s ≤ length buffer
  pub sound : InRange s

-- the buffer has a place for each entry, and every place is filled
pub record FilledBuffer (s buffer : List ℕ) : Type 0 where
  pub room : length s ≤ length buffer
  pub clear : buffer ≡ filled (length buffer)

-- how many entries have the end as next
abbrev pub ends : List ℕ → ℕ
ends s = namers s (length s) end

-- entry i ends a chain, or names j: place j holds i, and `least` becomes j where that is less and place j held an entry before
pub record Stored (i j least : ℕ) (before : List ℕ) (r : ℕ) (buffer : List ℕ) : Type 0 where
  pub ends : j ≡ end → (r ≡ least) × (buffer ≡ before)
  pub names : (j ≡ end → ⊥) → (r ≡ pick (eqb (get_or before j 0) end) least (min least j)) × (buffer ≡ set before j i)

-- every next index is above its own; the end is above all
abbrev pub Forward : List ℕ → Type 0
Forward s = (i : ℕ) → i < length s → i < after s i

-- what the pass for checks 11 and 12 found, and the table of predecessors
pub record Passed (s : List ℕ) (m : ℕ) (r : Result Pass Broken) (buffer : List ℕ) : Type 0 where
  pub forward : Bool
  pub found : r ≡ pass_of (first_astray s) (first_shared s) (ends s) forward
  pub leads : forward ≡ true → Forward s
  pub small : length s ≤ end
  pub holds : InRange s → buffer ≡ predecessors s m

-- check 13, and checks 11 to 13, with a buffer of m places
pub record CyclesAnswered (s : List ℕ) (m : ℕ) (r : Result Unit Broken) (buffer : List ℕ) : Type 0 where
  pub found : r ≡ cycles_of (first_cyclic s)
  pub holds : OnOk r (buffer ≡ predecessors s m)

pub record LinksAnswered (s : List ℕ) (m : ℕ) (r : Result ℕ Broken) (buffer : List ℕ) : Type 0 where
  pub found : r ≡ links_of (first_astray s) (first_shared s) (first_cyclic s) (chains s)
  pub holds : OnOk r (buffer ≡ predecessors s m)
