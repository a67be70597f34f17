-- REQUEST 112, every trace entry once: the chains of a file, walked from each head in index order, and the block counts along them.
use Rattle.walk.specs.declared.Visits.{Visits}
use Rattle.std.specs.Prelude.{◌≡◌, Bool, List, [], ◌∷◌, ◌++◌, ℕ, zero, suc, ◌+◌, ◌*◌, eqb, ltb, length, get_or, drop}
use Rattle.lists.specs.Count.{pick}
use Rattle.lists.specs.Those.{those}
use Rattle.lists.specs.Table.{tabulate}
use Rattle.little_endian.specs.Number.{le}
use Rattle.layout.specs.Head.{declared_size_at}
use Rattle.layout.specs.Versions.{trace_entry}
use Rattle.incremental.specs.Decision.{Decision, accept, refuse, refusal, fault_at, check, ◌>>=◌, ◌>>◌}
use Rattle.incremental.specs.Plan.{Answer, decided, wants, run}
use Rattle.incremental.specs.declared.Refusal.{Refusal}
use Rattle.sections.specs.Fields.{part, link_count}
use Rattle.head.specs.Checks.{open_plan}
use Rattle.head.specs.declared.checks.Opening.{Opening}
use Rattle.lists.specs.Filled.{filled}
use Rattle.trace.specs.Links.{after, namers}
use Rattle.reader.specs.Checks.{nexts_in, file_answer}
use Rattle.reader.specs.Verdict.{Acceptable}
use Rattle.std.specs.Prelude.{Err, Ok, Option, Result}
use Rattle.incremental.specs.declared.Fault.{Fault}

-- ---- the list, by the next indexes `s`

-- a head: an entry that no entry names as next
abbrev pub is_head : List ℕ → ℕ → Bool
is_head s h = eqb (namers s (length s) h) 0

-- the heads in index order
abbrev pub heads : List ℕ → List ℕ
heads s = those (is_head s) (length s)

-- the chain of entry i: following next as long as that is an entry, at most k entries
unfoldable pub chain : List ℕ → ℕ → ℕ → List ℕ
chain s zero i = []
chain s (suc k) i = pick (ltb i (length s)) (i ∷ chain s k (after s i)) []

-- all of it: no chain has more entries than there are
abbrev pub chain_of : List ℕ → ℕ → List ℕ
chain_of s i = chain s (length s) i

-- what is listed for each of some entries, joined
unfoldable pub flat_map : (ℕ → List ℕ) → List ℕ → List ℕ
flat_map f [] = []
flat_map f (h ∷ hs) = f h ++ flat_map f hs

-- THE LIST that the walk fills: the chains of all heads
abbrev pub walk : List ℕ → List ℕ
walk s = flat_map (chain_of s) (heads s)

-- ---- the block counts

-- of so many entries of that size: the four bytes at 4 of each
unfoldable pub blocks : List ℕ → ℕ → ℕ → List ℕ
blocks section size entries = tabulate entries (λ i. le 4 section (i * size + 4))

-- added up along a list of entries
unfoldable pub along : List ℕ → List ℕ → ℕ
along counts [] = 0
along counts (i ∷ is) = get_or counts i 0 + along counts is

-- the plain total
unfoldable pub total : List ℕ → ℕ
total [] = 0
total (x ∷ xs) = x + total xs

-- ---- a file

-- what checks 1 to 6 open is looked at, and nothing where they don't pass
abbrev pub opened : Answer Opening → (Opening → List ℕ) → List ℕ
opened (decided (accept o)) f = f o
opened (decided (refuse r)) f = []
opened (wants k) f = []

-- the next indexes and the block counts of the trace entries that have a next index
abbrev pub nexts_of : List ℕ → List ℕ
nexts_of p = opened (run open_plan p) (λ o. nexts_in o p)

abbrev pub blocks_in : Opening → List ℕ → List ℕ
blocks_in o p = blocks (part o.head.trace p) (trace_entry o.layout) (link_count o.layout o.head)

abbrev pub blocks_of : List ℕ → List ℕ
blocks_of p = opened (run open_plan p) (λ o. blocks_in o p)

-- 23: there is room for fewer entries than the list has
abbrev pub room_fault : ℕ → ℕ → Option Fault
room_fault room entries = fault_at 0 0 (ltb room entries)

-- what the walk gives: the list, the total along it, and the working buffer
pub record Visited : Type 0 where
  pub order : List ℕ
  pub total : ℕ
  pub table : List ℕ

-- the whole-file reader's decision; it makes no request
abbrev pub decision_of : Answer Acceptable → Decision Acceptable
decision_of (decided d) = d
decision_of (wants k) = refuse (refusal 16 0 declared_size_at)

-- THE WALK of a file, with m working places and room for n entries: first the whole-file reader's own refusals, then 23
unfoldable pub walked : List ℕ → ℕ → ℕ → Decision Visited
walked p m n = do
  x ← decision_of (file_answer p m)
  check 23 (room_fault n (length (nexts_of p)))
  accept (record { order = walk (nexts_of p); total = along (blocks_of p) (walk (nexts_of p)); table = x.table })

-- ---- the promise

-- in numbers: kind 0 for a walk, with its steps, the list's length, and the total; 1 for a refusal, with 0 steps and total 0
pub record Values : Type 0 where
  pub kind : ℕ
  pub number : ℕ
  pub index : ℕ
  pub offset : ℕ
  pub steps : ℕ
  pub total : ℕ

abbrev pub walked_values : ℕ → ℕ → Values
walked_values n t = record { kind = 0; number = 0; index = 0; offset = 0; steps = n; total = t }

abbrev pub refused_values : Refusal → Values
refused_values r = record { kind = 1; number = r.number; index = r.index; offset = r.offset; steps = 0; total = 0 }

abbrev pub steps_walked : ℕ → ℕ → Visits
steps_walked n t = record { steps = n; total = t }

-- what each case of the answer says
abbrev pub values_of : Result Visits Refusal → Values
values_of (Ok v) = walked_values v.steps v.total
values_of (Err r) = refused_values r

abbrev pub decision_values : Decision Visited → Values
decision_values (accept v) = walked_values (length v.order) v.total
decision_values (refuse r) = refused_values r

-- the place afterwards: the list and then what it held; as it was after a refusal
abbrev pub order_after : Decision Visited → List ℕ → List ℕ
order_after (accept v) order = v.order ++ drop (length v.order) order
order_after (refuse r) order = order

-- the working buffer of m places afterwards: the table of predecessors; filled after a refusal, 23 too
abbrev pub buffer_after : Decision Visited → ℕ → List ℕ
buffer_after (accept v) m = v.table
buffer_after (refuse r) m = filled m

pub record Walks (p buffer order : List ℕ) (r : Result Visits Refusal) (buffer' order' : List ℕ) : Type 0 where
  pub answer : values_of r ≡ decision_values (walked p (length buffer) (length order))
  pub placed : order' ≡ order_after (walked p (length buffer) (length order)) order
  pub held : buffer' ≡ buffer_after (walked p (length buffer) (length order)) (length buffer)
