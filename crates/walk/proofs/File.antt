-- The walk of a file by what the whole-file reader and the walk over its chains give.
use mathlib.Core.Path.{◌≡◌, refl, sym, ap, ◌∙◌}
use mathlib.Core.List.{List}
use Prim.Native.Nat.{ℕ, ◌*◌, ◌≤◌, ◌<◌}
use native.Mathlib.Nat.{zero-add, le_trans}
use native.Mathlib.Omega.{arith}
use borrow.Author.Tests.{lt-ltb, le-ltb}
use lib.ListN.{length}
use Rattle.lists.proofs.Tests.{by_test}
use Rattle.lists.specs.Table.{tabulate}
use Rattle.layout.specs.Versions.{head_end, trace_entry, has_next}
use Rattle.incremental.specs.Decision.{Decision, accept, refuse, refusal}
use Rattle.incremental.specs.Plan.{Answer, decided}
use Rattle.incremental.specs.declared.Refusal.{Refusal}
use Rattle.sections.specs.Fields.{declared_size, part, link_count}
use Rattle.head.specs.Opened.{OpenFacts}
use Rattle.head.specs.declared.checks.Opening.{Opening}
use Rattle.head.proofs.Rules.{part_length}
use Rattle.head.proofs.Facts.{open_facts, open_sound, open_shapes}
use Rattle.lists.specs.Filled.{filled}
use Rattle.trace.specs.Links.{nexts, chains}
use Rattle.trace.proofs.Steps.{length-nexts}
use Rattle.reader.specs.declared.verdict.Acceptance.{Acceptance}
use Rattle.reader.specs.Verdict.{Acceptable, verdict_in, values_of as read_values, buffer_after as read_buffer}
use Rattle.reader.specs.Checks.{accepted_in, nexts_in, link_at, record_of, size_of, prefix_answer, file_answer, ReadsOpened}
use Rattle.reader.proofs.Values.{accepted_answer, refused_answer}
use Rattle.reader.proofs.Taken.{links_few}
use Rattle.reader.proofs.Free.{free_clear}
use Rattle.reader.proofs.Rest.{RestFacts, rest_facts, read_rest, whole_accepted, links_pass}
use Rattle.walk.specs.declared.Visits.{Visits}
use Rattle.walk.specs.Walk.{walk, along, blocks, blocks_in, Visited, walked, values_of, decision_values, order_after, buffer_after, Walks}
use Rattle.walk.specs.Private.{WalkFits, After, no_visits, Accepts}
use Rattle.walk.proofs.Written.{written_all}
use Rattle.walk.proofs.EveryEntry.{every_entry}
use Rattle.std.specs.Prelude.{Err, Ok, Result}

-- a decision gives all of the promise
by_decision : (p buffer order : List ℕ) (d : Decision Visited) (r : Result Visits Refusal) (buffer' order' : List ℕ)
    → walked p (length buffer) (length order) ≡ d → values_of r ≡ decision_values d → order' ≡ order_after d order → buffer' ≡ buffer_after d (length buffer)
    → Walks p buffer order r buffer' order'
by_decision p buffer order d r buffer' order' e a b c = record { answer = rw e a; placed = rw e b; held = rw e c }

-- ---- the whole-file reader refuses
pub walks_refused : (p buffer order after : List ℕ) (v : Result (Acceptance × Opening) Refusal) (f : Refusal) → ReadsOpened p buffer v after → v ≡ Err f
    → (file_answer p (length buffer) ≡ decided (refuse f) → walked p (length buffer) (length order) ≡ refuse f) → Walks p buffer order (Err f) after order
walks_refused p buffer order after v f r q first =
    let e = refused_answer (file_answer p (length buffer)) f (ap (λ (x : Result (Acceptance × Opening) Refusal). read_values (verdict_in (accepted_in x))) (sym q) ∙ r.reads.verdict) in
    by_decision p buffer order (refuse f) _ _ _ (first e) refl refl (r.reads.buffer ∙ ap (λ (x : Answer Acceptable). read_buffer x (length buffer)) e)

-- ---- the whole-file reader accepts
pub reader_accepts : (p buffer after : List ℕ) (v : Result (Acceptance × Opening) Refusal) (a : Acceptance) (o : Opening) → ReadsOpened p buffer v after → v ≡ Ok (a, o)
    → length after ≡ length buffer → Accepts p after o
reader_accepts p buffer after v a o r q l =
    let m = length buffer in
    let y = accepted_answer (file_answer p m) a (ap (λ (x : Result (Acceptance × Opening) Refusal). read_values (verdict_in (accepted_in x))) (sym q) ∙ r.reads.verdict) in
    record {
      given = y.0;
      answer = ap (file_answer p) l ∙ y.1;
      table = r.reads.buffer ∙ ap (λ (x : Answer Acceptable). read_buffer x m) y.1;
      opens = r.opens a o q;
    }

-- only the length of the buffer counts
pub walks_length : (p buffer after order order' buffer' : List ℕ) (r : Result Visits Refusal) → length after ≡ length buffer → Walks p after order r buffer' order'
    → Walks p buffer order r buffer' order'
walks_length p buffer after order order' buffer' r l w =
    record { answer = rw (← l) w.answer; placed = rw (← l) w.placed; held = rw (← l) w.held }

module _ (p buffer : List ℕ) (o : Opening) (a : Accepts p buffer o) where
  accepted : (prefix_answer p (length buffer) ≡ decided (accept a.given)) × (size_of a.given ≡ length p)
  accepted = whole_accepted (length p) (prefix_answer p (length buffer)) a.given a.answer

  opening : OpenFacts p o
  opening = (open_facts p).holds o a.opens

  rest : RestFacts (length buffer) p o a.given
  rest = (rest_facts (length buffer) p o opening).holds a.given (sym (read_rest (length buffer) p o opening) ∙ accepted.0)

  size : length (nexts_in o p) ≡ link_count o.layout o.head
  size = length-nexts _ _ _

  pub walk_fits : (n : ℕ) → link_count o.layout o.head ≤ n → WalkFits (nexts_in o p) buffer n
  walk_fits n l =
      let few = links_few p o opening in
      let c = free_clear (nexts_in o p) _ size few (link_at o) rest.free in
      record {
        small = omega (arith, size, few);
        at = link_at o;
        chains = chains (nexts_in o p);
        passes = links_pass (link_at o) (nexts_in o p) c.0 c.1 c.2;
        places = omega (arith, size, rest.places);
        holds = a.table ∙ rest.table;
        fits = omega (arith, size);
      }

  -- entries that have a next index are 12 bytes long, and there are none of another size
  by-12 : (f : ℕ → ℕ → List ℕ) → ((a b : ℕ) → f a 0 ≡ f b 0)
      → f 12 (link_count o.layout o.head) ≡ f (trace_entry o.layout) (link_count o.layout o.head)
  unfolding link_count
  by-12 f e =
      by_test (has_next o.layout) (λ q. let z : trace_entry o.layout ≡ 12 = rw q at (open_sound p o opening).linked in rw z) (λ q. rw q (e _ _))

  links-12 : nexts (part o.head.trace p) 12 (link_count o.layout o.head) ≡ nexts_in o p
  unfolding nexts tabulate
  links-12 = by-12 (nexts (part o.head.trace p)) (λ a b. refl)

  blocks-12 : blocks (part o.head.trace p) 12 (link_count o.layout o.head) ≡ blocks_in o p
  unfolding blocks tabulate
  blocks-12 = by-12 (blocks (part o.head.trace p)) (λ a b. refl)

  -- the file is as long as it says, so the section is there with all its entries
  there : declared_size p ≤ length p
  unfolding record_of
  there =
      let w = accepted.1 in
      let e : size_of a.given ≡ declared_size p = ap (λ (r : Acceptance). r.declared_size) rest.fields in
      omega arith

  section-12 : link_count o.layout o.head * 12 ≤ length (part o.head.trace p)
  unfolding link_count
  section-12 =
      by_test (has_next o.layout)
      (λ q.
      let g = open_shapes p o opening in
      let e : trace_entry o.layout ≡ 12 = rw q at (open_sound p o opening).linked in
      let m : o.head.trace.len ≡ o.head.trace.count * 12 = g.trace_len ∙ ap (λ (k : ℕ). o.head.trace.count * k) e in
      rw q (omega (arith, part_length o.head.trace (head_end o.layout) p g.trace_end (le_trans opening.trace there))))
      (λ q. rw q (omega arith))

  pub section_whole : (section : List ℕ) (n : ℕ) → section ≡ part o.head.trace p → n ≡ link_count o.layout o.head → n * 12 ≤ length section
  section_whole section n e q = rw (e, q) section-12

  -- the section and the number of next indexes that calls gave
  pub walk_fits_at : (section : List ℕ) (n room : ℕ) → section ≡ part o.head.trace p → n ≡ link_count o.layout o.head → n ≤ room
      → WalkFits (nexts section 12 n) buffer room
  walk_fits_at section n room e q l = rw (e, q, links-12) (walk_fits room (omega arith))

  module _ (order : List ℕ) where
    abbrev all : Visited
    all = record { order = walk (nexts_in o p); total = along (blocks_in o p) (walk (nexts_in o p)); table = a.given.table }

    pub walks_short : (z : Refusal) (buffer' : List ℕ) → length order < link_count o.layout o.head → z ≡ refusal 23 0 0
        → buffer' ≡ filled (length buffer) → Walks p buffer order (Err z) buffer' order
    unfolding walked
    walks_short z buffer' l e b =
        let few : length order < length (nexts_in o p) = omega (arith, size) in
        rw e (by_decision p buffer order (refuse (refusal 23 0 0)) _ _ _ (rw (a.answer, a.opens, lt-ltb _ _ few)) refl refl b)

    pub walks_all : (r : Visits) (order' : List ℕ) → link_count o.layout o.head ≤ length order
        → After (blocks_in o p) (walk (nexts_in o p)) no_visits order r order' → Walks p buffer order (Ok r) buffer order'
    unfolding walked
    walks_all r order' l w =
        let room : length (nexts_in o p) ≤ length order = omega (arith, size) in
        let f = walk_fits (length order) l in
        let every = every_entry f.at (nexts_in o p) f.chains f.small f.passes in
        let steps : r.steps ≡ length (walk (nexts_in o p)) = w.steps ∙ zero-add _ in
        let total : r.total ≡ along (blocks_in o p) (walk (nexts_in o p)) = w.total ∙ zero-add _ in
        by_decision p buffer order (accept all) _ _ _ (rw (a.answer, a.opens, le-ltb _ _ room))
        (λ i. record { kind = 0; number = 0; index = 0; offset = 0; steps = steps i; total = total i })
        (w.placed ∙ written_all order (walk (nexts_in o p)) (omega (arith, every.long)))
        a.table

    pub walks_all_at : (section : List ℕ) (n : ℕ) (r : Visits) (order' : List ℕ) → section ≡ part o.head.trace p
        → n ≡ link_count o.layout o.head → n ≤ length order
        → After (blocks section 12 n) (walk (nexts section 12 n)) no_visits order r order'
        → Walks p buffer order (Ok r) buffer order'
    walks_all_at section n r order' e q l w = walks_all r order' (omega arith) (rw (e, q, links-12, blocks-12) at w)
