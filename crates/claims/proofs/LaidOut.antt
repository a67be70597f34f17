-- What the reader answers to a laid-out file: the file is too large, its name does not end, or the checks of its sections decide, whose
-- numbers are 7 to 15; and what is shown of one that is accepted.
use mathlib.Core.Path.{◌≡◌, refl, sym, ap, ◌∙◌}
use mathlib.Core.List.{List}
use mathlib.Core.Logic.{◌⊎◌, inl, inr, ⊎_elim}
use Prim.Native.Nat.{ℕ, ◌+◌, ◌*◌, ◌≤◌, ◌<◌}
use native.Mathlib.Omega.{arith}
use borrow.Author.Tests.{ltb-true, ltb-false, eqb-true, eqb-false}
use lib.Dec.{ltb, eqb}
use lib.ListN.{length, get_or, length-take}
use lib.Seq.{get_or-take}
use Rattle.lists.specs.Pairs.{first_of, second_of}
use Rattle.lists.proofs.Tests.{by_test, never}
use Rattle.little_endian.specs.Number.{le}
use Rattle.layout.specs.Head.{declared_size_at, program_name_at, entry_offset}
use Rattle.layout.specs.Versions.{version_number, version_of, layout_of, size_limit, trace_entry, volume_entry}
use Rattle.layout.specs.declared.Layout.{Layout}
use Rattle.layout.specs.declared.Version.{Version}
use Rattle.incremental.specs.Decision.{Decision, accept, refuse, refusal, check, ◌>>=◌, ◌>>◌}
use Rattle.incremental.specs.Plan.{decided, run}
use Rattle.incremental.specs.declared.Refusal.{Refusal}
use Rattle.incremental.proofs.Each.{Fair, fair_accept, fair_refuse, fair_check, fair_then}
use Rattle.sections.specs.Fields.{places_fault, entries_fault}
use Rattle.head.specs.Checks.{open_plan}
use Rattle.head.specs.declared.checks.Opening.{Opening}
use Rattle.head.proofs.Facts.{open_complete}
use Rattle.names.specs.Names.{in_pairs, misfit_fault, unsound_fault}
use Rattle.trace.specs.Links.{astray_fault, shared_fault, cyclic_fault, link_checks, chains}
use Rattle.volumes.specs.Volumes.{volumes_from}
use Rattle.volumes.proofs.Fair.{fair_volumes}
use Rattle.query.specs.Queries.{program_place, entry_place}
use Rattle.reader.specs.Verdict.{Acceptable}
use Rattle.reader.specs.Checks.{opening, file_answer}
use Rattle.reader.specs.Allowed.{Allowed}
use Rattle.reader.proofs.Allowed.{opens as allowed-opens}
use Rattle.writer.specs.LaidOut.{Description, Numbers, laid_by, laid_out, head, before_zero, name_kept, pairs, metrics_at, trace_at, strings_at, volumes_at, laid_size}
use Rattle.writer.specs.Plans.{Writable}
use Rattle.writer.specs.Private.{head_for, links_in, section_checks, acceptable_for}
use Rattle.writer.proofs.Facts.{LaidFacts}
use Rattle.writer.proofs.Bytes.{le_left}
use Rattle.writer.proofs.Planning.{carried_prefix}
use Rattle.writer.proofs.Head.{length_head, name_unit}
use Rattle.writer.proofs.Laid.{start_facts, laid_facts}
use Rattle.writer.proofs.Sections.{opens}
use Rattle.writer.proofs.Runs.{too_large, name_endless, laid_answer}
use Rattle.writer.proofs.Answering.{below_30}
use Rattle.claims.specs.Writer.{Occurs, EqualFields}
use Rattle.claims.proofs.EveryName.{program_is, entry_is}
use Rattle.incremental.specs.declared.Fault.{Fault}
use Rattle.std.specs.Prelude.{Option, Some}

-- ---- the numbers of checks 7 to 15
abbrev Middle : Refusal → Type 0
Middle f = (7 ≤ f.number) × (f.number ≤ 15)

fair_bind : {A B : Type 0} (c : Decision A) (g : A → Decision B) → Fair Middle c → ((a : A) → Fair Middle (g a)) → Fair Middle (c >>= g)
fair_bind (accept a) g h k = k a
fair_bind (refuse f) g h k = fair_refuse Middle f (h.refuses f refl)

fair_line : {A : Type 0} (n : ℕ) (f : Option Fault) (later : Decision A) → (7 ≤ n) × (n ≤ 15) → Fair Middle later → Fair Middle (check n f >> later)
fair_line n f later h k = fair_check Middle n f later (λ i at e. h) k

fair_links : (at : ℕ → ℕ) (s : List ℕ) → Fair Middle (link_checks at s)
unfolding link_checks
fair_links at s =
    fair_line 11 (astray_fault at s) _ (omega arith)
    (fair_line 12 (shared_fault at s) _ (omega arith)
    (fair_line 13 (cyclic_fault at s) _ (omega arith) (fair_accept Middle (chains s))))

fair_sections : (l : Layout) (d : Description) (m : ℕ) → Fair Middle (section_checks l d m)
unfolding section_checks
fair_sections l d m =
    fair_line 7 (places_fault m (pairs d.trace)) _ (omega arith)
    (fair_line 8 (entries_fault d.volume_count (volume_entry l) (length d.volumes)) _ (omega arith)
    (fair_line 9 (misfit_fault l (metrics_at l) (in_pairs d.metrics) (pairs d.metrics) (length d.strings)) _ (omega arith)
    (fair_line 10 (unsound_fault l (metrics_at l) (in_pairs d.metrics) (pairs d.metrics) d.strings) _ (omega arith)
    (fair_bind (link_checks (entry_offset (trace_at l d) (trace_entry l)) (links_in d)) _ (fair_links _ _) λ n.
    fair_then Middle (volumes_from d.volumes l (volumes_at l d) d.volume_count 0) _
    (fair_volumes Middle _ l _ _ 0 (λ k _ _. omega arith)) (fair_accept Middle n)))))

-- ---- a laid-out file, by its version
module _ (v : Version) (w : Writable (layout_of v)) (known : version_of (version_number v) ≡ Some v) (d : Description) (r : Numbers d) (m : ℕ) where
  abbrev pub l : Layout
  l = layout_of v

  -- it is refused with 3 or 4, or its size is within the limit and its name ends
  abbrev pub Fits : Type 0
  Fits = (laid_size l d ≤ size_limit) × (length (name_kept d) < 30)

  abbrev RefusedBy : Refusal → Type 0
  RefusedBy f = file_answer (laid_out v d) m ≡ decided (refuse f)

  abbrev Cases : Type 0
  Cases = RefusedBy (refusal 3 0 declared_size_at) ⊎ (RefusedBy (refusal 4 0 program_name_at) ⊎ Fits)

  cases : Cases
  cases =
      let f = start_facts v l d w r in
      by_test (ltb size_limit (laid_size l d)) (λ p. inl (too_large v l d _ m refl w known f (ltb-true _ _ p))) λ p.
      by_test (eqb (length (name_kept d)) 30) (λ q. inr (inl (name_endless v l d _ m refl w known f (ltb-false _ _ p) (eqb-true _ 30 q)))) λ q.
      inr (inr (ltb-false _ _ p, below_30 d.name _ refl (eqb-false _ 30 q)))

  pub accepted_fits : (x : Acceptable) → file_answer (laid_out v d) m ≡ decided (accept x) → Fits
  accepted_fits x e = ⊎_elim (λ q. never (cc)) (⊎_elim (λ q. never (cc)) (λ q. q)) cases

  -- the record of one that is accepted
  pub record_given : (x : Acceptable) → file_answer (laid_out v d) m ≡ decided (accept x) → EqualFields d x.fields
  record_given x e =
      let q = accepted_fits x e in
      go (section_checks l d m) (sym (laid_answer v l d (laid_out v d) m refl w known (laid_facts v l d w r q.0) q.1) ∙ e)
    where
      go : (c : Decision ℕ) → decided (c >>= λ n. accept (acceptable_for v l d m n)) ≡ decided (accept x) → EqualFields d x.fields
      go (accept n) q = let z : acceptable_for v l d m n ≡ x = cc in rw (← z) (record { hash = refl; time = refl; runs = refl; metrics = refl; trace = refl; volumes = refl })
      go (refuse f) q = never cc

  pub refused_number : (f : Refusal) → file_answer (laid_out v d) m ≡ decided (refuse f) → Occurs f.number
  refused_number f e = go cases
    where
      middle : (c : Decision ℕ) → Fair Middle c → decided (c >>= λ n. accept (acceptable_for v l d m n)) ≡ decided (refuse f) → Middle f
      middle (accept n) h q = never cc
      middle (refuse g) h q = let z : g ≡ f = cc in h.refuses f (ap (λ (k : Refusal). refuse k) z)

      go : Cases → Occurs f.number
      go (inl q) = inr (inl (cc))
      go (inr (inl q)) = inr (inr (inl (cc)))
      go (inr (inr q)) =
          let a = laid_answer v l d (laid_out v d) m refl w known (laid_facts v l d w r q.0) q.1 in
          inr (inr (inr (inl (middle (section_checks l d m) (fair_sections l d m) (sym a ∙ e)))))

  -- what is shown of one that fits and is allowed
  module _ (fits : Fits) where
    facts : LaidFacts v l d (laid_out v d)
    facts = laid_facts v l d w r fits.0

    abbrev pub o : Opening
    o = opening v l (length (name_kept d)) (head_for l d)

    opened : run open_plan (laid_out v d) ≡ decided (accept o)
    opened = open_complete (laid_out v d) o (opens v l d (laid_out v d) refl w known facts fits.1)

    pub opening_is : (q : Opening) → Allowed (laid_out v d) q → q ≡ o
    opening_is q a =
        let e : decided (accept q) ≡ decided (accept o) = sym (open_complete (laid_out v d) q (allowed-opens (laid_out v d) q a)) ∙ opened in
        cc

    whole-name : length (name_kept d) ≡ length (before_zero d.name)
    whole-name = omega (arith, fits.1, length-take 30 (before_zero d.name))

    pub unit_written : (i : ℕ) → i < length (before_zero d.name) → le 2 (laid_out v d) (16 + 2 * i) ≡ get_or d.name i 0
    unfolding laid_by
    unit_written i h =
        let n = length (name_kept d) in
        le_left 2 (head v l d) _ (16 + 2 * i) (omega (arith, length_head v l d w, w.run_time, w.run_count_lem, w.head, w.section, whole-name, fits.1))
        ∙ name_unit v l d w r i (omega (arith, whole-name))
        ∙ ap (λ (s : List ℕ). get_or s i 0) (sym (carried_prefix d.name))
        ∙ get_or-take n d.name i 0 (omega (arith, whole-name))

    module _ (a : Allowed (laid_out v d) o) where
      pub name_shown_lem : program_place (laid_out v d) ≡ Some (record { at = 16; len = 2 * length (before_zero d.name) })
      name_shown_lem = program_is (laid_out v d) o a ∙ ap (λ (n : ℕ). Some (record { at = 16; len = 2 * n })) whole-name

      pub entry_written : (i : ℕ) → i < pairs d.metrics
          → entry_place (laid_out v d) i ≡ Some (record { at = strings_at l d + first_of d.metrics i; len = 2 * second_of d.metrics i })
      entry_written i h =
          entry_is (laid_out v d) o a i h
          ∙ (λ j. Some (record { at = strings_at l d + facts.name_at_lem i h j; len = 2 * facts.name_units_lem i h j }))
