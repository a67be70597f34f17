-- What the whole-file reader accepts and refuses is small: every number of a listing has few digits.
use mathlib.Core.Path.{◌≡◌, refl, sym, ap, ◌∙◌}
use mathlib.Core.Bool.{Bool, true, false, not, ◌||◌}
use mathlib.Core.List.{List}
use Prim.Native.Nat.{ℕ, ◌+◌, ◌*◌, ◌^◌, ◌≤◌, ◌<◌}
use native.Mathlib.Omega.{arith}
use lib.Dec.{ltb, eqb}
use lib.ListN.{length, get_or, take, length-take, get_or-eq_default}
use lib.Seq.{get_or-take}
use native.Mathlib.Decide.{dec_lt}
use Rattle.lists.proofs.Tests.{never}
use Rattle.lists.specs.First.{first_from}
use Rattle.lists.proofs.First.{first_at}
use Rattle.lists.proofs.Count.{count-le}
use Rattle.little_endian.proofs.Number.{le-lt}
use Rattle.little_endian.specs.Number.{le}
use Rattle.layout.specs.Head.{signature_at}
use Rattle.layout.specs.Versions.{head_end, size_limit, version_number}
use Rattle.layout.specs.declared.Version.{Version}
use Rattle.layout.specs.declared.Version.TheVariants.{V17, V23, V26, V30}
use Rattle.layout.specs.declared.Layout.{Layout}
use Rattle.incremental.specs.Decision.{accept, refuse, refusal, fault_at, fault_of}
use Rattle.incremental.specs.Plan.{Plan, and_then, reach, check, done, Answer, decided, wants, run}
use Rattle.incremental.specs.declared.Refusal.{Refusal}
use Rattle.incremental.proofs.Each.{Each, each_refuse, each_accept, each_done, each_reach, each_check, each_given, each_decide, each_then}
use Rattle.volumes.proofs.Fair.{fair_volumes}
use Rattle.sections.proofs.Name.{ends_at}
use Rattle.sections.proofs.Cases.{links_low}
use Rattle.sections.specs.Fields.{declared_size, signature_fault, size_fault, link_count, head_of, outside_fault, overlap_fault, places_fault, entries_fault}
use Rattle.sections.specs.declared.Head.{Head}
use Rattle.head.specs.Checks.{start_plan, form_plan, section_plan, open_plan}
use Rattle.head.specs.Opened.{OpenFacts}
use Rattle.head.proofs.Facts.{open_facts}
use Rattle.head.specs.declared.checks.Start.{Start}
use Rattle.head.specs.declared.checks.Opening.{Opening}
use Rattle.names.specs.Names.{Named, misfit_fault, unsound_fault}
use Rattle.trace.specs.Links as links
use Rattle.trace.proofs.Steps.{length-nexts}
use Rattle.reader.specs.Verdict.{Acceptable, Values, Reads, values_of, answer_values, accepted_values}
use Rattle.reader.specs.Checks.{trace_required, nexts_in, record_of, prefix_answer, sized, size_of, whole, file_answer}
use Rattle.reader.specs.Checks.{counts_plan, fits_plan, texts_plan, trace_plan, volumes_plan, rest_plan, read_plan}
use Rattle.reader.specs.declared.verdict.Acceptance.{Acceptance}
use Rattle.std.specs.Prelude.{None, Ok, Option, Result, Some}
use Rattle.incremental.specs.declared.Stop.{Stop}
use Rattle.incremental.specs.Decision.{fault}
use Rattle.incremental.specs.declared.Fault.{Fault}

-- every byte is below 256
abbrev pub Bytes : List ℕ → Type 0
Bytes p = (i : ℕ) → get_or p i 0 < 256

pub record SmallRefusal (r : Refusal) : Type 0 where
  pub number : r.number < 100
  pub index : r.index < 2 ^ 32

pub record SmallFields (a : Acceptance) : Type 0 where
  pub version : a.version < 100
  pub units : a.name_units < 30
  pub runs : a.run_count < 2 ^ 32
  pub metrics : a.metrics_count < 2 ^ 32
  pub chains : a.chain_count < 2 ^ 32
  pub volumes : a.volume_count < 2 ^ 32

small_at : (n i at : ℕ) → n < 100 → i < 2 ^ 32 → SmallRefusal (refusal n i at)
small_at n i at l h = record { number = l; index = h }

-- ---- faults: one at index 0, or at an index of so many
abbrev LowFault : Option Fault → Type 0
LowFault f = (y : Fault) → f ≡ Some y → y.index < 2 ^ 32

low_fault : (i at : ℕ) (b : Bool) → i < 2 ^ 32 → LowFault (fault_at i at b)
low_fault i at true l y e = let q : fault i at ≡ y = cc in rw (← q) l
low_fault i at false l y e = never cc

low_from : (at : ℕ → ℕ) (test : ℕ → Bool) (n i : ℕ) → i + n < 2 ^ 32 → LowFault (fault_of at (first_from test n i))
low_from at test n i l = go (first_from test n i) refl
  where
    go : (f : Option ℕ) → first_from test n i ≡ f → LowFault (fault_of at f)
    go (Some k) e y q = let h : fault k (at k) ≡ y = cc in rw (← h) (omega (arith, (first_at test n i k e).1))
    go None e y q = never cc

low_signature : (b : List ℕ) → LowFault (signature_fault b)
unfolding signature_fault
low_signature b = low_fault 0 _ (not (eqb (le 4 b signature_at) 0x41434353)) (omega arith)

low_size : (l : Layout) (b : List ℕ) → LowFault (size_fault l b)
unfolding size_fault
low_size l b = low_fault 0 _ (ltb (declared_size b) (head_end l) || ltb size_limit (declared_size b)) (omega arith)

low_outside : (l : Layout) (h : Head) → LowFault (outside_fault l h)
unfolding outside_fault
low_outside l h = low_from _ _ 4 1 (omega arith)

low_shared : (h : Head) → LowFault (overlap_fault h)
unfolding overlap_fault
low_shared h = low_from _ _ 4 1 (omega arith)

low_places : (m n : ℕ) → LowFault (places_fault m n)
unfolding places_fault
low_places m n = low_fault 0 _ (ltb m n) (omega arith)

low_entries : (n entry size : ℕ) → LowFault (entries_fault n entry size)
unfolding entries_fault
low_entries n entry size = low_fault 0 _ (ltb size (n * entry)) (omega arith)

low_misfit : (l : Layout) (start : ℕ) (names : Named) (n size : ℕ) → n < 2 ^ 32 → LowFault (misfit_fault l start names n size)
unfolding misfit_fault
low_misfit l start names n size h = low_from _ _ n 0 (omega arith)

low_unsound : (l : Layout) (start : ℕ) (names : Named) (n : ℕ) (strings : List ℕ) → n < 2 ^ 32 → LowFault (unsound_fault l start names n strings)
unfolding unsound_fault
low_unsound l start names n strings h = low_from _ _ n 0 (omega arith)

-- ---- all checks

-- a number of four bytes is below 2 ^ 32
number_low : (p : List ℕ) (n at : ℕ) → Bytes p → le 4 (take n p) at < 2 ^ 32
number_low p n at h =
    le-lt 4 (take n p) at
    (λ i.
    elim (dec_lt i n) [
      | yes l ↦ rw (get_or-take n p i 0 l) (h i)
      | no l ↦
          let s : length (take n p) ≤ i = rw (length-take n p) (omega arith) in
          rw (get_or-eq_default (take n p) 0 s) (omega arith)
    ])

-- the counts of the sections are numbers of four bytes
pub record LowCounts (h : Head) : Type 0 where
  pub metrics : h.metrics.count < 2 ^ 32
  pub trace : h.trace.count < 2 ^ 32
  pub volumes : h.volumes.count < 2 ^ 32

low_head : (p : List ℕ) (l : Layout) (n : ℕ) → Bytes p → LowCounts (head_of l (take n p))
unfolding head_of
low_head p l n h = record { metrics = number_low p n _ h; trace = number_low p n _ h; volumes = number_low p n _ h }

pub low_counts : (p : List ℕ) (o : Opening) → Bytes p → OpenFacts p o → LowCounts o.head
low_counts p o h f = rw f.fields (low_head p o.layout (head_end o.layout) h)

version_low : (v : Version) → version_number v < 100
version_low V17 = omega arith
version_low V23 = omega arith
version_low V26 = omega arith
version_low V30 = omega arith

name_low : (p : List ℕ) (o : Opening) → OpenFacts p o → o.name_units < 30
name_low p o f = omega (arith, ((ends_at (take 76 p) o.name_units).0 f.start.ended).short)

-- no more chains than entries
chains_low : (s : List ℕ) (n : ℕ) → length s ≡ n → n < 2 ^ 32 → links.chains s < 2 ^ 32
unfolding links.chains
chains_low s n e l = omega (arith, count-le (λ j. eqb (links.namers s (length s) j) 0) (length s))

module _ (p : List ℕ) (m : ℕ) (h : Bytes p) where
  abbrev SmallRecord : Acceptable → Type 0
  SmallRecord x = SmallFields x.fields

  record-small : (o : Opening) (n chains : ℕ) → LowCounts o.head → o.name_units < 30 → chains < 2 ^ 32 → SmallFields (record_of o (take n p) chains)
  unfolding record_of
  record-small o n chains c u l =
      record { version = version_low o.version; units = u; runs = number_low p n _ h; metrics = c.metrics; chains = l; volumes = c.volumes }

  abbrev Any : {A : Type 0} → A → Type 0
  Any a = Unit

  -- a check by its number and its fault
  small-check : (n : ℕ) (f : Option Fault) → n < 100 → LowFault f → (i at : ℕ) → f ≡ Some (fault i at) → SmallRefusal (refusal n i at)
  small-check n f l h i at e = small_at n i at l (h (fault i at) e)

  abbrev line : {B : Type 0} (n : ℕ) (f : Option Fault) (g : Unit → Plan B) → n < 100 → LowFault f → Each Any SmallRefusal (run (g tt) p)
      → Each Any SmallRefusal (run (and_then (check n f) g) p)
  line n f g l h k = each_check Any SmallRefusal n f g p (small-check n f l h) (λ _. k)

  abbrev wait : {B : Type 0} (k : ℕ) (f : List ℕ → Plan B) → Each Any SmallRefusal (run (f (take k p)) p) → Each Any SmallRefusal (run (and_then (reach k) f) p)
  wait k f h = each_reach Any SmallRefusal k f p (λ _. h)

  abbrev ends : {B : Type 0} (b : B) → Each Any SmallRefusal (run (done b) p)
  ends b = each_done Any SmallRefusal b p tt

  -- the rows of checks 1 to 6
  start_small : Each Any SmallRefusal (run start_plan p)
  unfolding start_plan
  start_small =
      wait 4 _ (each_given Any SmallRefusal 1 _ _ _ p (small_at 1 0 _ (omega arith) (omega arith)) λ v _.
      wait 8 _ (line 2 _ _ (omega arith) (low_signature _)
      (wait 16 _ (line 3 _ _ (omega arith) (low_size _ _)
      (wait 76 _ (each_given Any SmallRefusal 4 _ _ _ p (small_at 4 0 _ (omega arith) (omega arith)) λ n _. ends _))))))

  form_small : (s : Start) → Each Any SmallRefusal (run (form_plan s) p)
  unfolding form_plan
  form_small s = wait _ _ (each_given Any SmallRefusal 21 _ _ _ p (small_at 21 0 _ (omega arith) (omega arith)) λ l _. ends _)

  sections-small : (s : Start) → Each Any SmallRefusal (run (section_plan s) p)
  unfolding section_plan
  sections-small s = wait _ _ (line 5 _ _ (omega arith) (low_outside _ _) (line 6 _ _ (omega arith) (low_shared _) (ends _)))

  open-small : Each Any SmallRefusal (run open_plan p)
  unfolding open_plan
  open-small =
      each_then Any SmallRefusal start_plan _ p start_small λ s _. each_then Any SmallRefusal (form_plan s) _ p (form_small s) λ t _. sections-small t

  -- and of the others, with the head that those give
  module _ (o : Opening) (c : LowCounts o.head) where
    few : link_count o.layout o.head < 2 ^ 32
    few = omega (arith, c.trace, links_low o.layout o.head)

    counts-small : Each Any SmallRefusal (run (counts_plan m o) p)
    unfolding counts_plan
    counts-small = wait _ _ (line 7 _ _ (omega arith) (low_places _ _) (line 8 _ _ (omega arith) (low_entries _ _ _) (ends tt)))

    fits-small : Each Any SmallRefusal (run (fits_plan o) p)
    unfolding fits_plan
    fits-small = wait _ _ (line 9 _ _ (omega arith) (low_misfit _ _ _ _ _ c.metrics) (ends tt))

    texts-small : Each Any SmallRefusal (run (texts_plan o) p)
    unfolding texts_plan
    texts-small = wait _ _ (line 10 _ _ (omega arith) (low_unsound _ _ _ _ _ c.metrics) (ends tt))

    -- the next indexes are as many as the entries that have one
    trace-small : Each (λ s. length s ≡ link_count o.layout o.head) SmallRefusal (run (trace_plan o) p)
    unfolding trace_plan
    trace-small =
        let P : List ℕ → Type 0 = λ s. length s ≡ link_count o.layout o.head in
        let s = nexts_in o (take (trace_required o.layout o.head) p) in
        let k : length s ≡ link_count o.layout o.head = length-nexts _ _ _ in
        let low : 0 + length s < 2 ^ 32 = omega (arith, few) in
        each_reach P SmallRefusal _ _ p λ _.
        each_check P SmallRefusal 11 _ _ p (small-check 11 _ (omega arith) (low_from _ _ (length s) 0 low)) λ _.
        each_check P SmallRefusal 12 _ _ p (small-check 12 _ (omega arith) (low_from _ _ (length s) 0 low)) λ _.
        each_check P SmallRefusal 13 _ _ p (small-check 13 _ (omega arith) (low_from _ _ (length s) 0 low)) λ _.
        each_done P SmallRefusal s p k

    volumes-small : Each Any SmallRefusal (run (volumes_plan o) p)
    unfolding volumes_plan
    volumes-small =
        wait _ _ (each_decide Any SmallRefusal _ _ p
        (fair_volumes SmallRefusal _ o.layout _ _ 0
        (λ j _ b. (small_at 14 j _ (omega arith) (omega (arith, c.volumes)), small_at 15 j _ (omega arith) (omega (arith, c.volumes)))))
        (ends tt))

    rest-small : o.name_units < 30 → Each SmallRecord SmallRefusal (run (rest_plan m o) p)
    unfolding rest_plan
    rest-small u =
        each_then SmallRecord SmallRefusal (counts_plan m o) _ p counts-small λ _ _.
        each_then SmallRecord SmallRefusal (fits_plan o) _ p fits-small λ _ _.
        each_then SmallRecord SmallRefusal (texts_plan o) _ p texts-small λ _ _.
        each_then SmallRecord SmallRefusal (trace_plan o) _ p (record { accepts = λ _ _. tt; refuses = trace-small.refuses }) λ s e.
        each_then SmallRecord SmallRefusal (volumes_plan o) _ p volumes-small λ _ _.
        each_reach SmallRecord SmallRefusal _ _ p λ _.
        each_done SmallRecord SmallRefusal _ p (record-small o (head_end o.layout) (links.chains s) c u (chains_low s _ (trace-small.accepts s e) few))

  each_read : Each SmallRecord SmallRefusal (prefix_answer p m)
  unfolding read_plan
  each_read =
      each_then SmallRecord SmallRefusal open_plan _ p open-small λ o e.
      let f = (open_facts p).holds o e in
      rest-small o (low_counts p o h f) (name_low p o f)

  -- the whole-file reader
  each-sized : (shorter longer : Bool) (x : Acceptable) → SmallFields x.fields → Each SmallRecord SmallRefusal (decided (sized shorter longer x))
  each-sized true longer x s = each_refuse SmallRecord SmallRefusal _ (small_at 16 0 _ (omega arith) (omega arith))
  each-sized false true x s = each_refuse SmallRecord SmallRefusal _ (small_at 17 0 _ (omega arith) (omega arith))
  each-sized false false x s = each_accept SmallRecord SmallRefusal x s

  each-whole : (n : ℕ) (x : Answer Acceptable) → Each SmallRecord SmallRefusal x → Each SmallRecord SmallRefusal (whole n x)
  each-whole n (decided (accept x)) k = each-sized (ltb n (size_of x)) (ltb (size_of x) n) x (k.accepts x refl)
  each-whole n (decided (refuse r)) k = k
  each-whole n (wants j) k = each_refuse SmallRecord SmallRefusal _ (small_at 16 0 _ (omega arith) (omega arith))

  -- WHAT THE WHOLE-FILE READER ANSWERS IS SMALL
  pub small_answer : Each SmallRecord SmallRefusal (file_answer p m)
  small_answer = each-whole (length p) (prefix_answer p m) each_read

-- an accepted record has a name of fewer than 30 units
pub accepted_units : (p : List ℕ) (m : ℕ) (v : Result Acceptance Stop) (after : List ℕ) (a : Acceptance) → Bytes p → Reads (file_answer p m) m v after
    → v ≡ Ok a → a.name_units < 30
accepted_units p m v after a h r q = go (file_answer p m) (small_answer p m h) (ap values_of (sym q) ∙ r.verdict)
  where
    go : (x : Answer Acceptable) → Each (λ y. SmallFields y.fields) SmallRefusal x → accepted_values a ≡ answer_values x → a.name_units < 30
    go (decided (accept y)) k e = let f : a ≡ y.fields = ap (λ (w : Values). w.fields) e in rw f (k.accepts y refl).units
    go (decided (refuse s)) k e = absurd (omega (arith, ap (λ (w : Values). w.kind) e))
    go (wants j) k e = absurd (omega (arith, ap (λ (w : Values). w.kind) e))
