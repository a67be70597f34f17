-- One walk down the rows says of each refusal that its offset is the table's, that the field is there, and that 7 is said where places are few.
use mathlib.Core.Path.{◌≡◌, refl, sym, ap, ◌∙◌}
use mathlib.Core.Bool.{Bool, not, ◌||◌}
use mathlib.Core.List.{List}
use mathlib.Core.Logic.{◌⊎◌}
use Prim.Native.Nat.{ℕ, ◌+◌, ◌*◌, ◌≤◌, ◌<◌}
use native.Mathlib.Omega.{arith}
use borrow.Author.Tests.{ne_eqb, ltb-true}
use lib.Dec.{eqb, ltb}
use lib.ListN.{length, take}
use Rattle.lists.specs.First.{first_from}
use Rattle.lists.proofs.Tests.{by_test}
use Rattle.little_endian.specs.Number.{le}
use Rattle.layout.specs.Head.{signature_at, entry_offset}
use Rattle.layout.specs.Versions.{layout_of, head_end, size_limit, form_required, trace_entry, volume_entry, metrics_entry, name_offset_at}
use Rattle.layout.specs.Sound.{SoundLayout}
use Rattle.layout.proofs.Laws.{layout_sound, form_required_lem}
use Rattle.layout.specs.declared.Layout.{Layout}
use Rattle.incremental.specs.declared.Refusal.{Refusal}
use Rattle.incremental.specs.Decision.{accept, refuse, refusal, fault_at, fault_of}
use Rattle.incremental.specs.Plan.{Plan, Answer, decided, wants, run, and_then, reach, check, done}
use Rattle.incremental.proofs.Each.{Each, each_refuse, each_accept, each_done, each_reach, each_check, each_given, each_found, each_decide, each_then}
use Rattle.sections.specs.declared.Head.{Head}
use Rattle.sections.specs.Fields.{declared_size, form_in, link_count}
use Rattle.sections.specs.Fields.{signature_fault, size_fault, head_of, part, offset_field_at, outside_fault, overlap_fault, places_fault, entries_fault}
use Rattle.head.specs.Checks.{start_plan, form_plan, section_plan, open_plan}
use Rattle.head.specs.Opened.{StartFacts, OpenFacts}
use Rattle.head.specs.declared.checks.Start.{Start}
use Rattle.head.specs.declared.checks.Opening.{Opening}
use Rattle.head.proofs.Facts.{Shapes, open_complete, form_take, form_facts, start_facts, open_facts, open_sound, open_shapes}
use Rattle.names.specs.Names.{name_field_at, fits, misfit_fault, unsound_fault}
use Rattle.trace.specs.Links.{astray, shared, cyclic}
use Rattle.trace.proofs.Steps.{length-nexts}
use Rattle.volumes.proofs.Fair.{fair_volumes}
use Rattle.reader.specs.Verdict.{Acceptable, Reads, values_of, verdict_in}
use Rattle.reader.specs.Checks.{nexts_in, trace_required, volumes_required, prefix_answer, whole, size_of}
use Rattle.reader.specs.Checks.{counts_plan, fits_plan, texts_plan, trace_plan, volumes_plan, rest_plan, read_plan}
use Rattle.reader.specs.Private.{EntriesFit}
use Rattle.reader.proofs.Stages.{counts_hold}
use Rattle.reader.proofs.Values.{refused_answer}
use Rattle.reader.proofs.Taken.{head-take}
use Rattle.claims.specs.Offsets.{offset_of, constants, or_else, layout_in, offset_in, Offsets}
use Rattle.claims.proofs.Rows.{at_index, found_index, field_low, entry_inside, links_there, form_told}
use Rattle.reader.specs.declared.verdict.Acceptance.{Acceptance}
use Rattle.std.specs.Prelude.{Err, Option, Result, Some}
use Rattle.incremental.specs.declared.Stop.TheVariants.{Refused}
use Rattle.incremental.specs.declared.Stop.{Stop}
use Rattle.incremental.specs.Decision.{fault}
use Rattle.incremental.specs.declared.Fault.{Fault}

abbrev Any : {A : Type 0} → A → Type 0
Any a = Unit

module _ (p : List ℕ) (m : ℕ) where
  -- 7 is refused where check 1 to 6 pass and there are fewer working places than entries with a next index
  abbrev pub Few : Type 0
  Few = (o : Opening) × (run open_plan p ≡ decided (accept o)) × (m < link_count o.layout o.head)

  -- the offset is the table's, its field is there, and 7 says that places are few
  abbrev Placed : Refusal → Type 0
  Placed r = (r.offset ≡ offset_in p r.number r.index) × (r.offset + 4 ≤ length p) × (r.number ≡ 7 → Few)

  abbrev wait : {B : Type 0} (k : ℕ) (f : List ℕ → Plan B) → (k ≤ length p → Each Any Placed (run (f (take k p)) p))
      → Each Any Placed (run (and_then (reach k) f) p)
  wait k f h = each_reach Any Placed k f p h

  abbrev line : {B : Type 0} (n : ℕ) (f : Option Fault) (g : Unit → Plan B) → ((i at : ℕ) → f ≡ Some (fault i at) → Placed (refusal n i at))
      → Each Any Placed (run (g tt) p) → Each Any Placed (run (and_then (check n f) g) p)
  line n f g h k = each_check Any Placed n f g p h (λ _. k)

  abbrev ends : {B : Type 0} (b : B) → Each Any Placed (run (done b) p)
  ends b = each_done Any Placed b p tt

  abbrev next : {A B : Type 0} (t : Plan A) (f : A → Plan B) → Each Any Placed (run t p)
      → ((a : A) → run t p ≡ decided (accept a) → Each Any Placed (run (f a) p)) → Each Any Placed (run (and_then t f) p)
  next t f h k = each_then Any Placed t f p h k

  abbrev weaker : {A : Type 0} {P : A → Type 0} {x : Answer A} → Each P Placed x → Each Any Placed x
  weaker e = record { accepts = λ _ _. tt; refuses = e.refuses }

  placed : (n i x : ℕ) → (n ≡ 7 → ⊥) → x ≡ offset_in p n i → x + 4 ≤ length p → Placed (refusal n i x)
  placed n i x s e h = (e, h, λ z. absurd (s z))

  -- ---- rows whose offset is the same in every file
  fixed : (n x : ℕ) (b : Bool) → (n ≡ 7 → ⊥) → x ≡ offset_in p n 0 → x + 4 ≤ length p → (i at : ℕ) → fault_at 0 x b ≡ Some (fault i at) → Placed (refusal n i at)
  fixed n x b s e h i at q =
      let a = at_index 0 x b i at q in
      rw (a.0, a.1) (placed n 0 x s e h)

  signature-row : (b : List ℕ) → 8 ≤ length p → (i at : ℕ) → signature_fault b ≡ Some (fault i at) → Placed (refusal 2 i at)
  unfolding signature_fault
  signature-row b k = fixed 2 4 (not (eqb (le 4 b signature_at) 0x41434353)) (omega arith) refl (omega arith)

  size-row : (l : Layout) (b : List ℕ) → 16 ≤ length p → (i at : ℕ) → size_fault l b ≡ Some (fault i at) → Placed (refusal 3 i at)
  unfolding size_fault
  size-row l b k = fixed 3 12 (ltb (declared_size b) (head_end l) || ltb size_limit (declared_size b)) (omega arith) refl (omega arith)

  section-row : (n : ℕ) (test : ℕ → Bool) → (n ≡ 7 → ⊥) → ((i : ℕ) → offset_field_at i ≡ offset_in p n i) → 112 ≤ length p → (i at : ℕ)
      → fault_of offset_field_at (first_from test 4 1) ≡ Some (fault i at) → Placed (refusal n i at)
  section-row n test s e k i at q =
      let a = (found_index offset_field_at test 4 1 i at q).0 in
      placed n i at s (a ∙ e i) (omega (arith, a, field_low i))

  -- ---- checks 1 to 6
  start-placed : Each Any Placed (run start_plan p)
  unfolding start_plan
  start-placed =
      wait 4 _ λ h4.
      each_given Any Placed 1 _ _ _ p (placed 1 0 _ (omega arith) refl (omega arith)) λ v _.
      wait 8 _ λ h8.
      line 2 _ _ (signature-row _ h8)
      (wait 16 _ λ h16.
      line 3 _ _ (size-row (layout_of v) _ h16)
      (wait 76 _ λ h76.
      each_given Any Placed 4 _ _ _ p (placed 4 0 _ (omega arith) refl (omega arith)) λ n _. ends _))

  -- the layout of a head form that passes is sound
  form-placed : (s : Start) → StartFacts p s → Each (λ t. SoundLayout t.layout) Placed (run (form_plan s) p)
  unfolding form_plan
  form-placed s f =
      let P : Start → Type 0 = λ t. SoundLayout t.layout in
      let required : (form_required s.layout ≡ 0) ⊎ (form_required s.layout ≡ 88) = rw f.laid (form_required_lem s.version) in
      each_reach P Placed _ _ p λ told.
      each_found P Placed 21 _ _ _ p (λ e. placed 21 0 _ (omega arith) refl (omega (arith, form_told s.layout p _ required told e))) λ l e.
      let q : form_in s.layout p ≡ Some l = sym (form_take s.layout p required) ∙ e in
      each_done P Placed _ p (form_facts s.layout l p q (rw f.laid (layout_sound s.version)) f.least).0

  sections-placed : (s : Start) → SoundLayout s.layout → Each Any Placed (run (section_plan s) p)
  unfolding section_plan outside_fault overlap_fault
  sections-placed s sound =
      wait (head_end s.layout) _ λ top.
      line 5 _ _ (section-row 5 _ (omega arith) (λ i. refl) (omega (arith, sound.fixed)))
      (line 6 _ _ (section-row 6 _ (omega arith) (λ i. refl) (omega (arith, sound.fixed))) (ends _))

  open-placed : Each Any Placed (run open_plan p)
  unfolding open_plan
  open-placed =
      next start_plan _ start-placed λ s e.
      let f = (start_facts p).holds s e in
      next (form_plan s) _ (weaker (form-placed s f)) λ t q. sections-placed t ((form-placed s f).accepts t q)

  -- ---- the others, where those gave `o`
  module _ (o : Opening) (f : OpenFacts p o) where
    abbrev l : Layout
    l = o.layout

    abbrev h : Head
    h = o.head

    sound : SoundLayout l
    sound = open_sound p o f

    shape : Shapes l h
    shape = open_shapes p o f

    laid : layout_in p ≡ l
    laid = ap (λ (k : Layout). or_else k (form_in k p)) (ap constants f.start.known) ∙ ap (or_else (layout_of o.version)) f.formed

    same : head_of l p ≡ h
    same = sym (f.fields ∙ head-take l p sound)

    -- the row of a number, with the constants and the sections that the file has
    row : (n i x : ℕ) → (n ≡ 7 → ⊥) → x ≡ offset_of l h n i → x + 4 ≤ length p → Placed (refusal n i x)
    row n i x s e = placed n i x s (e ∙ ap (λ (g : Head). offset_of l g n i) (sym same) ∙ ap (λ (k : Layout). offset_of k (head_of k p) n i) (sym laid))

    places_row : (i at : ℕ) → places_fault m (link_count l h) ≡ Some (fault i at) → Placed (refusal 7 i at)
    unfolding places_fault
    places_row i at q =
        let a = at_index 0 96 (ltb m (link_count l h)) i at q in
        (a.1, omega (arith, a.1, sound.fixed, f.whole), λ _. (o, open_complete p o f, ltb-true _ _ a.2))

    entries-row : (n entry size : ℕ) (i at : ℕ) → entries_fault n entry size ≡ Some (fault i at) → Placed (refusal 8 i at)
    unfolding entries_fault
    entries-row n entry size = fixed 8 112 (ltb size (n * entry)) (omega arith) refl (omega (arith, sound.fixed, f.whole))

    counts-placed : Each Any Placed (run (counts_plan m o) p)
    unfolding counts_plan
    counts-placed = wait _ _ λ _. line 7 _ _ places_row (line 8 _ _ (entries-row _ _ _) (ends tt))

    name-row : (n : ℕ) (test : ℕ → Bool) → (n ≡ 7 → ⊥) → ((i : ℕ) → name_field_at l h.metrics.at i ≡ offset_of l h n i) → h.metrics.end ≤ length p
        → (i at : ℕ) → fault_of (name_field_at l h.metrics.at) (first_from test h.metrics.count 0) ≡ Some (fault i at) → Placed (refusal n i at)
    name-row n test s e k i at q =
        let a = found_index (name_field_at l h.metrics.at) test h.metrics.count 0 i at q in
        let c : entry_offset h.metrics.at (metrics_entry l) i + (name_offset_at l + 4) ≤ h.metrics.end =
        entry_inside h.metrics (head_end l) (metrics_entry l) (name_offset_at l + 4) i shape.metrics_end (omega (arith, shape.metrics_len))
        sound.name_offset (omega arith) (omega (arith, a.1)) in
        row n i at s (a.0 ∙ e i) (omega (arith, a.0, c))

    fits-placed : Each (λ _. h.metrics.end ≤ length p) Placed (run (fits_plan o) p)
    unfolding fits_plan misfit_fault
    fits-placed =
        let P : Unit → Type 0 = λ _. h.metrics.end ≤ length p in
        each_reach P Placed _ _ p λ h9. each_check P Placed 9 _ _ p (name-row 9 _ (omega arith) (λ i. refl) h9) λ _. each_done P Placed tt p h9

    texts-placed : h.metrics.end ≤ length p → Each Any Placed (run (texts_plan o) p)
    unfolding texts_plan unsound_fault
    texts-placed h9 = wait _ _ λ _. line 10 _ _ (name-row 10 _ (omega arith) (λ i. refl) h9) (ends tt)

    -- an entry that has a next index is there, and so is the trace section
    link_row : (n count : ℕ) (test : ℕ → Bool) → (n ≡ 7 → ⊥) → count ≡ link_count l h
        → ((i : ℕ) → entry_offset h.trace.at (trace_entry l) i ≡ offset_of l h n i) → trace_required l h ≤ length p → (i at : ℕ)
        → fault_of (entry_offset h.trace.at (trace_entry l)) (first_from test count 0) ≡ Some (fault i at) → Placed (refusal n i at)
    link_row n count test x s e k i at q =
        let a = found_index (entry_offset h.trace.at (trace_entry l)) test count 0 i at q in
        let r = links_there l h i (length p) (omega (arith, a.1)) k in
        let t = h.trace in
        let c = entry_inside t (head_end l) (trace_entry l) 4 i shape.trace_end (omega (arith, shape.trace_len)) sound.next (omega arith) r.0 in
        row n i at x (a.0 ∙ e i) (omega (arith, a.0, c, r.1))

    trace-placed : Each Any Placed (run (trace_plan o) p)
    unfolding trace_plan
    trace-placed =
        wait _ _ λ h11.
        let s = nexts_in o (take (trace_required l h) p) in
        let count = length-nexts (part h.trace (take (trace_required l h) p)) (trace_entry l) (link_count l h) in
        line 11 _ _ (link_row 11 (length s) (astray s) (omega arith) count (λ i. refl) h11)
        (line 12 _ _ (link_row 12 (length s) (shared s) (omega arith) count (λ i. refl) h11)
        (line 13 _ _ (link_row 13 (length s) (cyclic s) (omega arith) count (λ i. refl) h11) (ends s)))

    volume-row : (n : ℕ) → (n ≡ 7 → ⊥) → ((i : ℕ) → entry_offset h.volumes.at (volume_entry l) i ≡ offset_of l h n i) → EntriesFit o
        → volumes_required l h ≤ length p → (i : ℕ) → i < h.volumes.count → Placed (refusal n i (entry_offset h.volumes.at (volume_entry l) i))
    volume-row n s e fits k i b =
        let z : h.volumes.count ≡ 0 → ⊥ = λ z. omega arith in
        let r : h.volumes.end ≤ length p = rw (ne_eqb h.volumes.count 0 z) at k in
        let c = entry_inside h.volumes (head_end l) (volume_entry l) 4 i shape.volumes_end fits (omega (arith, sound.volume_fields)) (omega arith) b in
        row n i _ s (e i) (omega (arith, c))

    volumes-placed : EntriesFit o → Each Any Placed (run (volumes_plan o) p)
    unfolding volumes_plan
    volumes-placed fits =
        wait _ _ λ h14.
        let at14 = volume-row 14 (omega arith) (λ i. refl) fits h14 in
        let at15 = volume-row 15 (omega arith) (λ i. refl) fits h14 in
        each_decide Any Placed _ _ p
        (fair_volumes Placed _ l h.volumes.at h.volumes.count 0 (λ i _ b. (at14 i (omega (arith, b)), at15 i (omega (arith, b))))) (ends tt)

    rest-placed : Each Any Placed (run (rest_plan m o) p)
    unfolding rest_plan
    rest-placed =
        next (counts_plan m o) _ counts-placed λ c e8.
        next (fits_plan o) _ (weaker fits-placed) λ u e9.
        next (texts_plan o) _ (texts-placed (fits-placed.accepts u e9)) λ _ _.
        next (trace_plan o) _ trace-placed λ _ _.
        next (volumes_plan o) _ (volumes-placed ((counts_hold m o p).holds c e8).1) λ _ _. wait _ _ λ _. ends _

  pub each_placed : Each Any Placed (prefix_answer p m)
  unfolding read_plan
  each_placed = next open_plan _ open-placed λ o e. rest-placed o ((open_facts p).holds o e)

  -- what a reader's verdict of refusal is
  abbrev Right : Refusal → Type 0
  Right r = r.offset ≡ offset_in p r.number r.index

  each-whole : (n : ℕ) (x : Answer Acceptable) → Each Any Placed x → Each Any Right (whole n x)
  each-whole n (decided (accept x)) k =
      by_test (ltb n (size_of x)) (λ a. rw a (each_refuse Any Right _ refl)) λ a.
      by_test (ltb (size_of x) n) (λ b. rw (a, b) (each_refuse Any Right _ refl)) λ b. rw (a, b) (each_accept Any Right x tt)
  each-whole n (decided (refuse r)) k = each_refuse Any Right r (k.refuses r refl).0
  each-whole n (wants j) k = each_refuse Any Right _ refl

refused_by : (x : Answer Acceptable) (m : ℕ) (v : Result Acceptance Stop) (after : List ℕ) (r : Refusal) → Reads x m v after → v ≡ Err (Refused r) → x ≡ decided (refuse r)
refused_by x m v after r h q = refused_answer x r (ap values_of (sym q) ∙ h.verdict)

pub offsets : Offsets
offsets =
    record {
      table_prefix = λ p buffer v after r h q. ((each_placed p (length buffer)).refuses r (refused_by _ _ v after r h q)).0;
      table_file = λ p buffer v after r h q.
          (each-whole p (length buffer) (length p) _ (each_placed p (length buffer))).refuses r (refused_by _ _ (verdict_in v) after r h (ap verdict_in q));
      inside = λ p buffer v after r h q. ((each_placed p (length buffer)).refuses r (refused_by _ _ v after r h q)).1;
    }
