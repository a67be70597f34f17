-- What checks 7 to 15 accept, and with them all checks, in both directions: each stage passes exactly where its row of the rules holds.
use mathlib.Core.Path.{◌≡◌, sym, ◌∙◌, ap}
use mathlib.Core.Bool.{not}
use mathlib.Core.List.{List}
use Prim.Native.Nat.{ℕ, ◌≤◌, ◌<◌}
use native.Mathlib.Nat.{le_trans}
use native.Mathlib.Omega.{arith}
use borrow.Author.Tests.{le-ltb, ltb-false, not-false}
use lib.Dec.{ltb}
use lib.ListN.{length, take}
use Rattle.lists.proofs.First.{first_nothing, first_is_nothing}
use Rattle.lists.proofs.Tests.{by_test, never}
use Rattle.layout.specs.Versions.{head_end, volume_entry}
use Rattle.incremental.specs.Decision.{Decision, accept, refuse, fault_of}
use Rattle.incremental.specs.Plan.{decide, Answer, decided, wants, run, and_then}
use Rattle.incremental.proofs.Plan.{answer_then, reach_here, check_passed, AnswerHolds, holds_reach, holds_check, holds_then, holds_accept}
use Rattle.incremental.proofs.Decision.{fault_nothing}
use Rattle.sections.specs.Fields.{declared_size, part, link_count}
use Rattle.sections.proofs.Cases.{places_enough, entries_fit}
use Rattle.head.specs.Checks.{open_plan}
use Rattle.head.specs.Opened.{OpenFacts}
use Rattle.head.proofs.Rules.{part_length}
use Rattle.head.proofs.Facts.{open_facts, open_complete, open_sound, open_shapes}
use Rattle.head.specs.declared.checks.Opening.{Opening}
use Rattle.names.specs.Names.{name_at, name_units, misfit_fault, unsound_fault, SoundName}
use Rattle.names.proofs.Laws.{sound_name, le-fits}
use Rattle.trace.specs.Links.{astray_fault, shared_fault, cyclic_fault, chains, predecessors, link_checks}
use Rattle.trace.proofs.Steps.{length-nexts}
use Rattle.volumes.specs.Volumes.{entry_at}
use Rattle.volumes.specs.SoundVolume.{SoundVolume}
use Rattle.volumes.proofs.SoundVolume.{volumes_sound}
use Rattle.reader.specs.Verdict.{Acceptable}
use Rattle.reader.specs.Checks.{nexts_in, link_at, record_of, trace_required, volumes_required}
use Rattle.reader.specs.Checks.{names_required, prefix_answer, size_of, whole}
use Rattle.reader.specs.Checks.{counts_plan, fits_plan, texts_plan, trace_plan, volumes_plan, rest_plan, read_plan}
use Rattle.reader.specs.Private.{EntriesFit}
use Rattle.reader.proofs.Stages.{counts_hold}
use Rattle.reader.proofs.Early.{names_required_low, trace_required_low, volumes_required_low}
use Rattle.reader.proofs.Free.{Free, free, free_clear}
use Rattle.reader.proofs.Taken.{links_few, misfit_take, misfit_in, nexts_take, record_take, unsound_take, unsound_in, volumes_take, volumes_in}
use Rattle.std.specs.Prelude.{None}

pub record RestFacts (m : ℕ) (p : List ℕ) (o : Opening) (x : Acceptable) : Type 0 where
  pub places : link_count o.layout o.head ≤ m
  pub entries : EntriesFit o
  pub names : (i : ℕ) → i < o.head.metrics.count
      → SoundName (part o.head.strings p) (name_at o.layout (part o.head.metrics p) i) (name_units o.layout (part o.head.metrics p) i)
  pub free : Free (nexts_in o p) (link_count o.layout o.head)
  pub volumes : (i : ℕ) → i < o.head.volumes.count → SoundVolume (part o.head.volumes p) (entry_at o.layout i)
  -- what they give
  pub fields : x.fields ≡ record_of o p (chains (nexts_in o p))
  pub table : x.table ≡ predecessors (nexts_in o p) m

-- the faults of checks 11 to 13 and their decision
pub links_pass : (at : ℕ → ℕ) (s : List ℕ) → astray_fault at s ≡ None → shared_fault at s ≡ None → cyclic_fault at s ≡ None
    → link_checks at s ≡ accept (chains s)
unfolding link_checks
links_pass at s a b c = rw (a, b, c)

-- what a decision in a plan accepts
decision : {A : Type 0} (d : Decision A) (a : A) (p : List ℕ) → run (decide d) p ≡ decided (accept a) → d ≡ accept a
unfolding run
decision d a p e = cc

module _ (m : ℕ) (p : List ℕ) (o : Opening) (f : OpenFacts p o) where
  names-found : unsound_in p o f p ≡ None → (i : ℕ) → i < o.head.metrics.count
      → SoundName (part o.head.strings p) (name_at o.layout (part o.head.metrics p) i) (name_units o.layout (part o.head.metrics p) i)
  unfolding unsound_fault
  names-found e i l = (sound_name _ _ _).0 (not-false _ (first_nothing _ o.head.metrics.count (fault_nothing _ _ e) i l))

  texts-hold : AnswerHolds (λ _. unsound_in p o f p ≡ None) (run (texts_plan o) p)
  unfolding texts_plan
  texts-hold =
      let k = names_required o.layout o.head in
      holds_reach k _ p _ λ _. holds_check _ 10 (unsound_in p o f (take k p)) _ p λ e. holds_accept _ tt p (sym (unsound_take p o f) ∙ e)

  trace-hold : AnswerHolds (λ t. (t ≡ nexts_in o p) × (link_checks (link_at o) (nexts_in o p) ≡ accept (chains (nexts_in o p)))) (run (trace_plan o) p)
  unfolding trace_plan
  trace-hold =
      let s = nexts_in o (take (trace_required o.layout o.head) p) in
      let same : s ≡ nexts_in o p = nexts_take p o f in
      holds_reach (trace_required o.layout o.head) _ p _ λ _.
      holds_check _ 11 (astray_fault (link_at o) s) _ p λ a.
      holds_check _ 12 (shared_fault (link_at o) s) _ p λ b.
      holds_check _ 13 (cyclic_fault (link_at o) s) _ p λ c.
      holds_accept _ s p (same, rw same at (links_pass (link_at o) s a b c))

  volumes-hold : AnswerHolds (λ _. volumes_in p o f p ≡ accept tt) (run (volumes_plan o) p)
  unfolding volumes_plan
  volumes-hold =
      let k = volumes_required o.layout o.head in
      holds_reach k _ p _ λ _.
      holds_then _ (decide (volumes_in p o f (take k p))) _ p λ t e. holds_accept _ tt p (sym (volumes_take p o f) ∙ decision _ t p e)

  pub rest_facts : AnswerHolds (RestFacts m p o) (run (rest_plan m o) p)
  unfolding rest_plan
  rest_facts =
      holds_then _ (counts_plan m o) _ p λ c e7.
      holds_then _ (fits_plan o) _ p λ _ _.
      holds_then _ (texts_plan o) _ p λ u e10.
      holds_then _ (trace_plan o) _ p λ t e11.
      holds_then _ (volumes_plan o) _ p λ w e14.
      holds_reach (head_end o.layout) _ p _ λ _.
      holds_accept _ _ p (accepts t ((counts_hold m o p).holds c e7) (texts-hold.holds u e10) (trace-hold.holds t e11) (volumes-hold.holds w e14))
    where
      accepts : (t : List ℕ)
          → (link_count o.layout o.head ≤ m) × EntriesFit o
          → unsound_in p o f p ≡ None
          → (t ≡ nexts_in o p) × (link_checks (link_at o) (nexts_in o p) ≡ accept (chains (nexts_in o p)))
          → volumes_in p o f p ≡ accept tt
          → RestFacts m p o (record { fields = record_of o (take (head_end o.layout) p) (chains t); table = predecessors t m })
      accepts t counts names links volumes =
          let s = nexts_in o p in
          record {
            places = counts.0;
            entries = counts.1;
            names = names-found names;
            free = free s _ (length-nexts _ _ _) (links_few p o f) (link_at o) (chains s) links.1;
            volumes = (volumes_sound _ _ _ _).0 volumes;
            fields = record_take o p (chains t) (open_sound p o f) ∙ ap (λ (x : List ℕ). record_of o p (chains x)) links.0;
            table = ap (λ (x : List ℕ). predecessors x m) links.0;
          }

  module _ (d : declared_size p ≤ length p) (x : Acceptable) (r : RestFacts m p o x) where
    -- a name that is sound fits the strings section, which has all its bytes
    none-misfit : misfit_in p o f p ≡ None
    unfolding misfit_fault
    none-misfit =
        let e = part_length o.head.strings (head_end o.layout) p (open_shapes p o f).strings_end (le_trans f.strings d) in
        ap (fault_of _) (first_is_nothing _ o.head.metrics.count (λ i l. ap not (le-fits _ _ _ (omega (arith, (r.names i l).inside, e)))))

    none-unsound : unsound_in p o f p ≡ None
    unfolding unsound_fault
    none-unsound = ap (fault_of _) (first_is_nothing _ o.head.metrics.count (λ i l. ap not ((sound_name _ _ _).1 (r.names i l))))

    fits-complete : run (fits_plan o) p ≡ decided (accept tt)
    unfolding fits_plan run
    fits-complete =
        reach_here o.head.metrics.end _ p (le_trans f.metrics d) ∙ check_passed 9 _ _ p (misfit_take p o f ∙ none-misfit)

    texts-complete : run (texts_plan o) p ≡ decided (accept tt)
    unfolding texts_plan run
    texts-complete =
        reach_here (names_required o.layout o.head) _ p (le_trans (names_required_low p o f) d)
        ∙ check_passed 10 _ _ p (unsound_take p o f ∙ none-unsound)

    trace-complete : run (trace_plan o) p ≡ decided (accept (nexts_in o p))
    unfolding trace_plan run
    trace-complete =
        let c = free_clear (nexts_in o p) _ (length-nexts _ _ _) (links_few p o f) (link_at o) r.free in
        reach_here (trace_required o.layout o.head) _ p (le_trans (trace_required_low p o f) d)
        ∙ rw (nexts_take p o f) (check_passed 11 _ _ p c.0 ∙ check_passed 12 _ _ p c.1 ∙ check_passed 13 _ _ p c.2)

    volumes-complete : run (volumes_plan o) p ≡ decided (accept tt)
    unfolding volumes_plan run and_then
    volumes-complete =
        reach_here (volumes_required o.layout o.head) _ p (le_trans (volumes_required_low p o f) d)
        ∙ rw (volumes_take p o f ∙ (volumes_sound (part o.head.volumes p) o.layout o.head.volumes.at o.head.volumes.count).1 r.volumes)

    counts-complete : run (counts_plan m o) p ≡ decided (accept tt)
    unfolding counts_plan run
    counts-complete =
        reach_here (head_end o.layout) _ p f.whole
        ∙ check_passed 7 _ _ p (sym (places_enough m (link_count o.layout o.head) r.places))
        ∙ check_passed 8 _ _ p (sym (entries_fit o.head.volumes.count (volume_entry o.layout) o.head.volumes.len r.entries))

    pub rest_complete : run (rest_plan m o) p ≡ decided (accept x)
    unfolding rest_plan run
    rest_complete =
        let g : record_of o (take (head_end o.layout) p) (chains (nexts_in o p)) ≡ x.fields = record_take o p _ (open_sound p o f) ∙ sym r.fields in
        let t : predecessors (nexts_in o p) m ≡ x.table = sym r.table in
        sym
        ((λ i. decided (accept (record { fields = sym g i; table = sym t i })))
        ∙ sym (reach_here (head_end o.layout) _ p f.whole)
        ∙ answer_then (volumes_plan o) _ p _ volumes-complete
        ∙ answer_then (trace_plan o) _ p _ trace-complete
        ∙ answer_then (texts_plan o) _ p _ texts-complete
        ∙ answer_then (fits_plan o) _ p _ fits-complete
        ∙ answer_then (counts_plan m o) _ p _ counts-complete)

-- what all checks accept, in both directions
pub read_facts : (m : ℕ) (p : List ℕ) → AnswerHolds (λ x. (o : Opening) × OpenFacts p o × RestFacts m p o x) (prefix_answer p m)
unfolding read_plan
read_facts m p =
    holds_then _ open_plan (rest_plan m) p λ o e.
    let f = (open_facts p).holds o e in
    record { holds = λ x q. (o, f, (rest_facts m p o f).holds x q) }

-- the answer of all checks is that of 7 to 15, where 1 to 6 accept
pub read_rest : (m : ℕ) (p : List ℕ) (o : Opening) → OpenFacts p o → prefix_answer p m ≡ run (rest_plan m o) p
unfolding read_plan
read_rest m p o f = sym (answer_then open_plan (rest_plan m) p _ (open_complete p o f))

pub read_complete : (m : ℕ) (p : List ℕ) (o : Opening) (x : Acceptable) → OpenFacts p o → declared_size p ≤ length p → RestFacts m p o x
    → prefix_answer p m ≡ decided (accept x)
read_complete m p o x f d r = read_rest m p o f ∙ rest_complete m p o f d x r

-- an acceptance is one of all checks, of a file as long as it says
pub whole_accepted : (n : ℕ) (y : Answer Acceptable) (x : Acceptable) → whole n y ≡ decided (accept x) → (y ≡ decided (accept x)) × (size_of x ≡ n)
whole_accepted n (decided (accept z)) x e =
    by_test (ltb n (size_of z)) (λ p. let r = rw p at e in never cc)
    (λ p.
    by_test (ltb (size_of z) n) (λ q. let r = rw (p, q) at e in never cc)
    (λ q.
    let r = rw (p, q) at e in
    let w : z ≡ x = cc in
    let s : size_of z ≡ size_of x = ap (λ (t : Acceptable). size_of t) w in
    (r, omega (arith, ltb-false n (size_of z) p, ltb-false (size_of z) n q))))
whole_accepted n (decided (refuse r)) x e = never cc
whole_accepted n (wants k) x e = never cc

pub whole-accepts : (n : ℕ) (y : Answer Acceptable) (x : Acceptable) → y ≡ decided (accept x) → size_of x ≡ n → whole n y ≡ decided (accept x)
whole-accepts n y x e s = rw (e, le-ltb n (size_of x) (omega arith), le-ltb (size_of x) n (omega arith))
