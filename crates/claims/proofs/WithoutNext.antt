-- Without next indexes: the checks are walked down on two files at once, which agree on all that the checks look at.
use mathlib.Core.Path.{◌≡◌, refl, sym, ap, ◌∙◌}
use mathlib.Core.Bool.{false}
use mathlib.Core.List.Memᴰ
use mathlib.Core.List.{List, []}
use mathlib.Core.Logic.{◌⊎◌, inl, inr}
use Prim.Native.Nat.{ℕ, ◌+◌, ◌-◌, ◌≤◌, ◌<◌, min}
use native.Mathlib.Omega.{arith}
use native.Mathlib.Decide.{ℕ_discrete}
use borrow.Author.Tests.{ne_eqb, le-ltb, leb-true, leb-false}
use lib.Dec.{eqb, leb}
use lib.ListN.{length, take, drop, get_or, length-take, length-drop}
use lib.Seq.{ext_get_or, get_or-take, get_or-drop, take-take}
use Rattle.lists.specs.Count.{pick, count}
use Rattle.lists.specs.First.{first_from}
use Rattle.lists.proofs.Tests.{by_test}
use Rattle.lists.specs.Table.{tabulate}
use Rattle.lists.proofs.Table.{tabulate-same, tabulate-replicate}
use Rattle.little_endian.specs.Number.{le}
use Rattle.little_endian.proofs.Number.{le-take}
use Rattle.layout.specs.Versions.{head_end, has_next}
use Rattle.incremental.specs.Decision.{Decision, accept, refuse}
use Rattle.incremental.specs.Plan.{Plan, decide, Answer, decided, wants, run, and_then, reach, check, done}
use Rattle.incremental.proofs.Plan.{onward, run_then, reach_here, reach_short, check_passed}
use Rattle.sections.specs.Fields.{signature_fault, form_in, link_count, part, places_fault}
use Rattle.sections.proofs.Cases.{places_enough}
use Rattle.sections.specs.declared.Section.{Section}
use Rattle.head.specs.Opened.{OpenFacts}
use Rattle.head.specs.Rules.{Within, Separate}
use Rattle.head.specs.declared.checks.Opening.{Opening}
use Rattle.head.proofs.Rules.{outside_law, shares_law}
use Rattle.head.proofs.Facts.{Shapes, open_facts, open_sound, open_shapes}
use Rattle.names.specs.Names.{in_metrics, misfit_fault, unsound_fault}
use Rattle.lists.specs.Filled.{filled}
use Rattle.trace.specs.Links.{end, nexts, chains, predecessor, predecessors}
use Rattle.volumes.specs.Volumes.{volumes_from}
use Rattle.reader.specs.Verdict.{Acceptable, accepted_values, answer_values}
use Rattle.reader.specs.Checks.{trace_required, names_required, volumes_required, nexts_in, record_of}
use Rattle.reader.specs.Checks.{counts_plan, fits_plan, texts_plan, trace_plan, volumes_plan, rest_plan}
use Rattle.reader.proofs.Taken.{misfit_take, unsound_take, volumes_take}
use Rattle.reader.proofs.Rest.{read_rest}
use Rattle.reader.proofs.Values.{same_values}
use Rattle.claims.specs.WithoutNext.{SameOutside, WithoutNext}
use Rattle.std.specs.Prelude.{None, Option, Some}
use Rattle.incremental.specs.declared.Fault.{Fault}

-- ---- no next index
no_links : (o : Opening) → has_next o.layout ≡ false → link_count o.layout o.head ≡ 0
unfolding link_count
no_links o e = rw e

pub no_nexts : (o : Opening) (b : List ℕ) → has_next o.layout ≡ false → nexts_in o b ≡ []
unfolding nexts tabulate
no_nexts o b e = rw (no_links o e)

table_filled : (m : ℕ) → predecessors [] m ≡ filled m
unfolding predecessors predecessor
table_filled m = tabulate-same m _ (λ _. end) (λ k l. rw (le-ltb k 0 (omega arith))) ∙ tabulate-replicate m end

-- ---- bytes that agree outside a section agree on every span that lies outside it
abbrev Clear : ℕ → ℕ → Section → Type 0
Clear a n t = (i : ℕ) → a ≤ i → i < a + n → (i < t.at) ⊎ (t.at + t.len ≤ i)

span_same : (a n : ℕ) (t : Section) (p q : List ℕ) → SameOutside t p q → Clear a n t → take n (drop a p) ≡ take n (drop a q)
span_same a n t p q h c =
    ext_get_or 0 (take n (drop a p)) (take n (drop a q)) (size p ∙ ap (λ (k : ℕ). min n (k - a)) h.long ∙ sym (size q)) each
  where
    size : (x : List ℕ) → length (take n (drop a x)) ≡ min n (length x - a)
    size x = simp (length-take, length-drop)

    at : (x : List ℕ) (i : ℕ) → i < n → get_or (take n (drop a x)) i 0 ≡ get_or x (a + i) 0
    at x i l = get_or-take n (drop a x) i 0 l ∙ get_or-drop a x i 0

    each : (i : ℕ) → i < length (take n (drop a p)) → get_or (take n (drop a p)) i 0 ≡ get_or (take n (drop a q)) i 0
    each i l =
        let m : i < n = omega (arith, size p) in
        at p i m ∙ h.outside (a + i) (c (a + i) (omega arith) (omega arith)) ∙ sym (at q i m)

-- an empty section has nothing inside
empty-clear : (t : Section) (i : ℕ) → t.len ≡ 0 → (i < t.at) ⊎ (t.at + t.len ≤ i)
empty-clear t i z = by_test (leb t.at i) (λ e. inr (omega (arith, leb-true t.at i e))) (λ e. inl (leb-false t.at i e))

-- where the bytes of a section end
abbrev Ends : Section → ℕ → Type 0
Ends s h = s.end ≡ pick (eqb s.len 0) h (s.at + s.len)

full-end : (s : Section) (h : ℕ) → Ends s h → (s.len ≡ 0 → ⊥) → s.end ≡ s.at + s.len
full-end s h e z = e ∙ rw (ne_eqb _ _ z)

separate_clear : (s t : Section) (h : ℕ) → Ends s h → Ends t h → Separate s t → Clear s.at s.len t
separate_clear s t h e g c i a l = go (ℕ_discrete t.len 0) c
  where
    go : Dec (t.len ≡ 0) → Separate s t → (i < t.at) ⊎ (t.at + t.len ≤ i)
    go (yes z) c = empty-clear t i z
    go (no z) (inl y) = absurd (omega arith)
    go (no z) (inr (inl y)) = absurd (z y)
    go (no z) (inr (inr (inl y))) = inr (omega (arith, full-end t h g z))
    go (no z) (inr (inr (inr y))) = inl (omega (arith, full-end s h e (λ w. omega arith)))

within_clear : (h size : ℕ) (t : Section) → Within h size t → Clear 0 h t
within_clear h size t (inl z) i a l = empty-clear t i z
within_clear h size t (inr w) i a l = inl (omega (arith, w.0))

swap : (s t : Section) → Separate s t → Separate t s
swap s t (inl z) = inr (inl z)
swap s t (inr (inl z)) = inl z
swap s t (inr (inr (inl l))) = inr (inr (inr l))
swap s t (inr (inr (inr l))) = inr (inr (inl l))

module _ (p q : List ℕ) (o : Opening) (f : OpenFacts p o) (h : SameOutside o.head.trace p q) where
  -- ---- the head
  top : take (head_end o.layout) p ≡ take (head_end o.layout) q
  top = span_same 0 (head_end o.layout) o.head.trace p q h (within_clear _ _ o.head.trace ((outside_law o.layout o.head).0 f.inside).trace)

  field : (k : ℕ) → k + 4 ≤ 120 → le 4 p k ≡ le 4 q k
  field k l =
      let n = head_end o.layout in
      let b = (open_sound p o f).fixed in
      sym (le-take 4 n p k (omega (arith, b))) ∙ ap (λ (t : List ℕ). le 4 t k) top ∙ le-take 4 n q k (omega (arith, b))

  name : take 76 p ≡ take 76 q
  name =
      let n = head_end o.layout in
      let b = (open_sound p o f).fixed in
      sym (take-take 76 n p (omega (arith, b))) ∙ ap (take 76) top ∙ take-take 76 n q (omega (arith, b))

  opens-too : OpenFacts q o
  unfolding signature_fault form_in
  opens-too =
      let size : le 4 p 12 ≡ le 4 q 12 = field 12 (omega arith) in
      let start = f.start in
      record {
        start =
            record {
              laid = refl;
              least = rw (← size) start.least;
              most = rw (← size) start.most;
              known = rw (← field 0 (omega arith)) start.known;
              ended = rw (← name) start.ended;
              named = rw (← h.long) start.named;
              signed = rw (← field 4 (omega arith)) start.signed;
            };
        told = rw (← h.long) f.told;
        formed = rw (← size, ← field 84 (omega arith)) f.formed;
        least = rw (← size) f.least;
        whole = rw (← h.long) f.whole;
        fields = rw (← top) f.fields;
        inside = f.inside;
        apart = f.apart;
        metrics = rw (← size) f.metrics;
        trace = rw (← size) f.trace;
        strings = rw (← size) f.strings;
        volumes = rw (← size) f.volumes;
      }

  -- ---- the sections that are looked at
  shape : Shapes o.layout o.head
  shape = open_shapes p o f

  section_same : (s : Section) → Ends s (head_end o.layout) → Separate s o.head.trace → part s p ≡ part s q
  section_same s e c = span_same _ _ o.head.trace p q h (separate_clear s o.head.trace _ e shape.trace_end c)

  metrics-same : part o.head.metrics p ≡ part o.head.metrics q
  metrics-same = section_same o.head.metrics shape.metrics_end ((shares_law o.head).0 f.apart).metrics_trace

  strings-same : part o.head.strings p ≡ part o.head.strings q
  strings-same =
      section_same o.head.strings shape.strings_end (swap o.head.trace o.head.strings ((shares_law o.head).0 f.apart).trace_strings)

  volumes-same : part o.head.volumes p ≡ part o.head.volumes q
  volumes-same =
      section_same o.head.volumes shape.volumes_end (swap o.head.trace o.head.volumes ((shares_law o.head).0 f.apart).trace_volumes)

  -- ---- the stages 9 to 15 answer alike
  reach-same : {A : Type 0} (k : ℕ) (t : List ℕ → Plan A) → run (t (take k p)) p ≡ run (t (take k q)) q
      → run (and_then (reach k) t) p ≡ run (and_then (reach k) t) q
  reach-same k t e =
      by_test (leb k (length p))
      (λ l. let m : k ≤ length p = leb-true _ _ l in reach_here k t p m ∙ e ∙ sym (reach_here k t q (rw (← h.long) m)))
      (λ l. let m : length p < k = leb-false _ _ l in reach_short k t p m ∙ sym (reach_short k t q (rw (← h.long) m)))

  check-same : (n : ℕ) (a b : Option Fault) → a ≡ b
      → ◌≡◌ {A = Answer Unit} (run (and_then (check n a) (λ _. done tt)) p) (run (and_then (check n b) (λ _. done tt)) q)
  unfolding check and_then run
  check-same n (Some w) b e = rw (← e)
  check-same n None b e = rw (← e)

  decide-same : (a b : Decision Unit) → a ≡ b
      → ◌≡◌ {A = Answer Unit} (run (and_then (decide a) (λ _. done tt)) p) (run (and_then (decide b) (λ _. done tt)) q)
  unfolding and_then run
  decide-same (accept t) b e = rw (← e)
  decide-same (refuse r) b e = rw (← e)

  fits-same : run (fits_plan o) p ≡ run (fits_plan o) q
  unfolding fits_plan
  fits-same =
      reach-same o.head.metrics.end _
      (check-same 9 _ _
      (misfit_take p o f
      ∙ (λ i. misfit_fault o.layout o.head.metrics.at (in_metrics o.layout (metrics-same i)) o.head.metrics.count o.head.strings.len)
      ∙ sym (misfit_take q o opens-too)))

  texts-same : run (texts_plan o) p ≡ run (texts_plan o) q
  unfolding texts_plan
  texts-same =
      reach-same (names_required o.layout o.head) _
      (check-same 10 _ _
      (unsound_take p o f
      ∙ (λ i. unsound_fault o.layout o.head.metrics.at (in_metrics o.layout (metrics-same i)) o.head.metrics.count (strings-same i))
      ∙ sym (unsound_take q o opens-too)))

  volumes-stage : run (volumes_plan o) p ≡ run (volumes_plan o) q
  unfolding volumes_plan
  volumes-stage =
      reach-same (volumes_required o.layout o.head) _
      (decide-same _ _
      (volumes_take p o f
      ∙ (λ i. volumes_from (volumes-same i) o.layout o.head.volumes.at o.head.volumes.count 0)
      ∙ sym (volumes_take q o opens-too)))

  module _ (none : has_next o.layout ≡ false) where
    trace-same : run (trace_plan o) p ≡ run (trace_plan o) q
    unfolding trace_plan run and_then check first_from
    trace-same =
        let k = trace_required o.layout o.head in
        reach-same k _ (rw (no_nexts o (take k p) none, no_nexts o (take k q) none))

    -- one stage after another: what is not accepted is said alike
    next : {A : Type 0} (t u : Plan A) (g k : A → Plan Acceptable) → run t p ≡ run u q
        → ((a : A) → answer_values (run (g a) p) ≡ answer_values (run (k a) q))
        → answer_values (run (and_then t g) p) ≡ answer_values (run (and_then u k) q)
    next {A = A} t u g k e w = rw (run_then t g p, run_then u k q, ← e) (go (run t p))
      where
        go : (x : Answer A) → answer_values (onward x (λ a. run (g a) p)) ≡ answer_values (onward x (λ a. run (k a) q))
        go (decided (accept a)) = w a
        go (decided (refuse r)) = refl
        go (wants j) = refl

    counts_same : (m n : ℕ) → run (counts_plan m o) p ≡ run (counts_plan n o) q
    unfolding counts_plan
    counts_same m n =
        let room : (k : ℕ) → places_fault k (link_count o.layout o.head) ≡ None = λ k. sym (places_enough k _ (rw (no_links o none) (omega arith))) in
        reach_here (head_end o.layout) _ p f.whole
        ∙ check_passed 7 _ _ p (room m)
        ∙ check-same 8 _ _ refl
        ∙ sym (check_passed 7 _ _ q (room n))
        ∙ sym (reach_here (head_end o.layout) _ q opens-too.whole)

    rest-same : (m n : ℕ) → answer_values (run (rest_plan m o) p) ≡ answer_values (run (rest_plan n o) q)
    unfolding rest_plan run
    rest-same m n =
        next (counts_plan m o) (counts_plan n o) _ _ (counts_same m n) λ _.
        next (fits_plan o) (fits_plan o) _ _ fits-same λ _.
        next (texts_plan o) (texts_plan o) _ _ texts-same λ _.
        next (trace_plan o) (trace_plan o) _ _ trace-same λ s.
        next (volumes_plan o) (volumes_plan o) _ _ volumes-stage λ _.
        ap answer_values (reach_here (head_end o.layout) _ p f.whole)
        ∙ ap (λ (b : List ℕ). accepted_values (record_of o b (chains s))) top
        ∙ sym (ap answer_values (reach_here (head_end o.layout) _ q opens-too.whole))

pub without_next : WithoutNext
unfolding chains count
without_next =
    record {
      reach = λ o e. rw e;
      places = no_links;
      no_chain = λ o b e. rw (no_nexts o b e);
      stays_filled = λ o b m e. ap (λ (s : List ℕ). predecessors s m) (no_nexts o b e) ∙ table_filled m;
      verdict = λ p q buffer buffer' o v w after after' opened none h r s.
          let f = (open_facts p).holds o opened in
          same_values v w
          (r.verdict
          ∙ ap answer_values (read_rest (length buffer) p o f)
          ∙ rest-same p q o f h none (length buffer) (length buffer')
          ∙ sym (ap answer_values (read_rest (length buffer') q o (opens-too p q o f h)))
          ∙ sym s.verdict);
      smallest_one = Memᴰ.head refl;
      smallest = λ l m. let e = Memᴰ.eq_of_singleton m in rw e (omega arith);
    }
