-- Checks 11, 12 and 13 of document 01 on the next indexes of a trace section, the table of predecessors and the chain count.
use Rattle.std.specs.Prelude.{◌≡◌, Bool, not, ◌&&◌, List, ◌⊎◌, ℕ, zero, suc, ◌*◌, ◌<◌, ltb, eqb, length, get_or}
use Rattle.lists.specs.Filled.{filled}
use Rattle.lists.specs.First.{first}
use Rattle.lists.specs.Pairs.{first_of}
use Rattle.lists.specs.Table.{tabulate}
use Rattle.lists.specs.Count.{any_below, count, pick}
use Rattle.little_endian.specs.Number.{le}
use Rattle.incremental.specs.Decision.{Decision, accept, refuse, fault_of, check, ◌>>◌, decision_of}
use Rattle.sections.specs.Fields.{places_fault}
use Rattle.std.specs.Prelude.{Option, Result}
use Rattle.incremental.specs.declared.Fault.{Fault}
use Rattle.incremental.specs.declared.Refusal.{Refusal}

-- the next index that ends a chain; document 01's 4,294,967,295
abbrev pub end : ℕ
end = 4_294_967_295

-- the next indexes of a trace section of so many entries of that size: the first four bytes of each
unfoldable pub nexts : List ℕ → ℕ → ℕ → List ℕ
nexts section size entries = tabulate entries (λ i. le 4 section (i * size))

-- the next indexes in a flat table of so many pairs: the first number of each
unfoldable pub firsts : List ℕ → ℕ → List ℕ
firsts pairs entries = tabulate entries (λ i. first_of pairs i)

-- the entry after entry i; outside the list, the end
abbrev pub after : List ℕ → ℕ → ℕ
after s i = get_or s i end

-- the entry k steps after entry i
unfoldable pub follow : List ℕ → ℕ → ℕ → ℕ
follow s zero i = i
follow s (suc k) i = follow s k (after s i)

-- 11: entry i's next index is neither 4,294,967,295 nor below the trace count
abbrev pub astray : List ℕ → ℕ → Bool
astray s i = not (eqb (after s i) end) && not (ltb (after s i) (length s))

-- 11 passes: every next index is 4,294,967,295 or below the trace count
abbrev pub InRange : List ℕ → Type 0
InRange s = (i : ℕ) → i < length s → (after s i ≡ end) ⊎ (after s i < length s)

-- how many of the first i entries name j as next
unfoldable pub namers : List ℕ → ℕ → ℕ → ℕ
namers s i j = count (λ k. eqb (after s k) j) i

-- 12: j is named as next by two or more entries
abbrev pub shared : List ℕ → ℕ → Bool
shared s j = ltb 1 (namers s (length s) j)

-- 13: following next from entry i comes back to it, in as many steps as there are entries (`cycle-law`: in any number of steps)
unfoldable pub cyclic : List ℕ → ℕ → Bool
cyclic s i = any_below (λ k. eqb (follow s (suc k) i) i) (length s)

-- following next from entry i comes back to it
abbrev pub Cyclic : List ℕ → ℕ → Type 0
Cyclic s i = (k : ℕ) × (follow s (suc k) i ≡ i)

-- the chain count: the entries that no entry names as next
unfoldable pub chains : List ℕ → ℕ
chains s = count (λ j. eqb (namers s (length s) j) 0) (length s)

-- the entry below i that names j as next, and the end where none does
unfoldable pub predecessor : List ℕ → ℕ → ℕ → ℕ
predecessor s zero j = end
predecessor s (suc i) j = pick (eqb (after s i) j) i (predecessor s i j)

-- the working buffer, of m places, after an acceptance: the place of an entry j holds the entry that names j as next, and every
-- place after those of the entries the end
unfoldable pub predecessors : List ℕ → ℕ → List ℕ
predecessors s m = tabulate m (λ j. pick (ltb j (length s)) (predecessor s (length s) j) end)

-- 11, 12, 13: the first such entry; `at` says where in the file each entry starts. The next index is its first field
abbrev pub astray_fault : (ℕ → ℕ) → List ℕ → Option Fault
astray_fault at s = fault_of at (first (astray s) (length s))

abbrev pub shared_fault : (ℕ → ℕ) → List ℕ → Option Fault
shared_fault at s = fault_of at (first (shared s) (length s))

abbrev pub cyclic_fault : (ℕ → ℕ) → List ℕ → Option Fault
cyclic_fault at s = fault_of at (first (cyclic s) (length s))

-- checks 11, 12 and 13 in their order; what passes them has its chain count
unfoldable pub link_checks : (ℕ → ℕ) → List ℕ → Decision ℕ
link_checks at s = do
  check 11 (astray_fault at s)
  check 12 (shared_fault at s)
  check 13 (cyclic_fault at s)
  accept (chains s)

-- before them check 7: a buffer of m places has a place for each entry
unfoldable pub trace_checks : (ℕ → ℕ) → List ℕ → ℕ → Decision ℕ
trace_checks at s m = check 7 (places_fault m (length s)) >> link_checks at s

-- what the buffer of m places holds after a decision
abbrev pub held : Decision ℕ → List ℕ → ℕ → List ℕ
held (accept n) s m = predecessors s m
held (refuse r) s m = filled m

-- a decision as an answer, and the buffer of m places after it
pub record LinkDecision (d : Decision ℕ) (s : List ℕ) (m : ℕ) (r : Result ℕ Refusal) (buffer : List ℕ) : Type 0 where
  pub answer : decision_of r ≡ d
  pub holds : buffer ≡ held d s m

-- the answer on a list of next indexes
abbrev pub LinkListAnswer : (ℕ → ℕ) → List ℕ → ℕ → Result ℕ Refusal → List ℕ → Type 0
LinkListAnswer at s m r buffer = LinkDecision (trace_checks at s m) s m r buffer
