-- What the whole-file reader answers on a laid-out file: its checks see the description's tables and sections, so they decide what the
-- same checks decide on the description.
use mathlib.Core.Path.{◌≡◌, refl, sym, ap, ◌∙◌}
use mathlib.Core.Bool.{Bool}
use mathlib.Core.List.{List}
use Prim.Native.Nat.{ℕ, zero, suc, ◌+◌, ◌≤◌, ◌<◌, min}
use native.Mathlib.Nat.{add-zero}
use native.Mathlib.Omega.{arith}
use lib.ListN.{length, take}
use borrow.Author.Tests.{eq-eqb, le-ltb}
use Rattle.lists.specs.First.{first_from}
use Rattle.little_endian.specs.Number.{le}
use Rattle.little_endian.proofs.Number.{le-take}
use Rattle.layout.specs.Head.{version_at, declared_size_at, program_name_at}
use Rattle.layout.specs.Versions.{version_number, version_of, layout_of, head_end, run_time_at, volume_entry, size_limit}
use Rattle.layout.specs.declared.Version.{Version}
use Rattle.layout.specs.declared.Layout.{Layout}
use Rattle.incremental.specs.Decision.{Decision, accept, refuse, refusal, fault_of, check as check_now, ◌>>=◌, ◌>>◌}
use Rattle.incremental.specs.Plan.{Plan, decide, decided, run, and_then, reach, check, given, done}
use Rattle.incremental.specs.declared.Refusal.{Refusal}
use Rattle.incremental.proofs.Plan.{onward, run_then, answer_then, run_decide, reach_here, check_passed, check_fault, given_some, given_none}
use Rattle.sections.specs.Fields.{declared_size, signature_fault, part, link_count, places_fault, entries_fault}
use Rattle.sections.proofs.Cases.{signature_right, size_high, size_right, links_all}
use Rattle.head.specs.Checks.{start_plan, open_plan}
use Rattle.head.specs.Opened.{OpenFacts}
use Rattle.head.specs.declared.checks.Opening.{Opening}
use Rattle.head.proofs.Facts.{open_sound}
use Rattle.names.specs.Names.{in_metrics, in_pairs, name_field_at, misfit_fault, unsound_fault}
use Rattle.trace.specs.Links.{astray_fault, shared_fault, cyclic_fault, link_checks, chains, predecessors}
use Rattle.volumes.specs.Volumes.{volumes_from}
use Rattle.reader.specs.Verdict.{Acceptable}
use Rattle.reader.specs.Checks.{names_required, trace_required, volumes_required, nexts_in, link_at, opening, record_of, prefix_answer, whole, file_answer}
use Rattle.reader.specs.Checks.{counts_plan, fits_plan, texts_plan, trace_plan, volumes_plan, rest_plan, read_plan}
use Rattle.reader.proofs.Early.{names_required_low, trace_required_low, volumes_required_low}
use Rattle.reader.proofs.Taken.{misfit_take, unsound_take, nexts_take, volumes_take, record_take}
use Rattle.reader.proofs.Rest.{read_rest}
use Rattle.writer.specs.LaidOut.{Description, name_kept, pairs, metrics_at, volumes_at, laid_size}
use Rattle.writer.specs.Plans.{Writable}
use Rattle.writer.specs.Private.{head_for, links_in, section_checks, record_for, acceptable_for, described}
use Rattle.writer.proofs.Facts.{StartFacts, LaidFacts}
use Rattle.writer.proofs.Sections.{size_stands, opens}
use Rattle.incremental.specs.declared.Fault.{Fault}
use Rattle.std.specs.Prelude.{None, Option, Some}

-- ---- a run, by what its lines decide

-- a plan that has decided, and the plans after it
then_decides : {A B C : Type 0} (t : Plan A) (g : A → Plan C) (p : List ℕ) (c : Decision A) (f : A → Decision B) (k : B → Decision C)
    → run t p ≡ decided c → ((a : A) → run (g a) p ≡ decided (f a >>= k)) → run (and_then t g) p ≡ decided ((c >>= f) >>= k)
then_decides {A = A} t g p c f k e h = run_then t g p ∙ ap (λ x. onward x (λ a. run (g a) p)) e ∙ go c
  where
    go : (c : Decision A) → onward (decided c) (λ a. run (g a) p) ≡ decided ((c >>= f) >>= k)
    go (accept a) = h a
    go (refuse r) = refl

-- a decision with nothing after it
last_decides : (d : Decision Unit) (p : List ℕ) → run (and_then (decide d) (λ _. done tt)) p ≡ decided d
unfolding run and_then
last_decides (accept tt) p = refl
last_decides (refuse r) p = refl

-- checks 7 and 8
counted_lines : (a b : Option Fault) (p : List ℕ) → run (and_then (check 7 a) λ _. and_then (check 8 b) λ _. done tt) p ≡ decided (check_now 7 a >> check_now 8 b)
unfolding run and_then check
counted_lines (Some w) b p = refl
counted_lines None (Some w) p = refl
counted_lines None None p = refl

counts_then : {C : Type 0} (t : Plan Unit) (g : Unit → Plan C) (p : List ℕ) (a b : Option Fault) (later : Decision ℕ) (k : ℕ → Decision C)
    → run t p ≡ decided (check_now 7 a >> check_now 8 b) → run (g tt) p ≡ decided (later >>= k)
    → run (and_then t g) p ≡ decided ((check_now 7 a >> (check_now 8 b >> later)) >>= k)
counts_then t g p a b later k e h = run_then t g p ∙ ap (λ x. onward x (λ u. run (g u) p)) e ∙ go a b
  where
    go : (a b : Option Fault) → onward (decided (check_now 7 a >> check_now 8 b)) (λ u. run (g u) p) ≡ decided ((check_now 7 a >> (check_now 8 b >> later)) >>= k)
    go (Some w) b = refl
    go None (Some w) = refl
    go None None = h

-- checks 11 to 13, and what they hand on: the next indexes in the plan, the chain count in the decision
abbrev linked : {A : Type 0} → Option Fault → Option Fault → Option Fault → A → Decision A
linked a b c x = check_now 11 a >> (check_now 12 b >> (check_now 13 c >> accept x))

linked_lines : (a b c : Option Fault) (s p : List ℕ)
    → run (and_then (check 11 a) λ _. and_then (check 12 b) λ _. and_then (check 13 c) λ _. done s) p ≡ decided (linked a b c s)
unfolding run and_then check
linked_lines (Some w) b c s p = refl
linked_lines None (Some w) c s p = refl
linked_lines None None (Some w) s p = refl
linked_lines None None None s p = refl

-- where `at` says at which place in the file each entry starts
abbrev linked_in : (ℕ → ℕ) → List ℕ → Decision (List ℕ)
linked_in at s = linked (astray_fault at s) (shared_fault at s) (cyclic_fault at s) s

links_decide : {C : Type 0} (t : Plan (List ℕ)) (g : List ℕ → Plan C) (p : List ℕ) (at : ℕ → ℕ) (s : List ℕ) (f : ℕ → Decision ℕ) (k : ℕ → Decision C)
    → run t p ≡ decided (linked_in at s) → run (g s) p ≡ decided (f (chains s) >>= k) → run (and_then t g) p ≡ decided ((link_checks at s >>= f) >>= k)
unfolding link_checks
links_decide t g p at s f k e h =
    run_then t g p ∙ ap (λ x. onward x (λ a. run (g a) p)) e ∙ go (astray_fault at s) (shared_fault at s) (cyclic_fault at s)
  where
    go : (a b c : Option Fault) → onward (decided (linked a b c s)) (λ a. run (g a) p) ≡ decided ((linked a b c (chains s) >>= f) >>= k)
    go (Some w) b c = refl
    go None (Some w) c = refl
    go None None (Some w) = refl
    go None None None = h

-- tests that agree find the same index first
first-same : (f g : ℕ → Bool) (n i : ℕ) → ((k : ℕ) → i ≤ k → k < i + n → f k ≡ g k) → first_from f n i ≡ first_from g n i
unfolding first_from
first-same f g zero i h = refl
first-same f g (suc n) i h = rw (h i (omega arith) (omega arith), first-same f g n (suc i) (λ k a b. h k (omega arith) (omega arith)))

module _ (v : Version) (l : Layout) (d : Description) (p : List ℕ) (m : ℕ) (laid : l ≡ layout_of v) (w : Writable l)
    (known : version_of (version_number v) ≡ Some v) where
  -- ---- checks 1 to 4, whatever the size
  module _ (s : StartFacts v l d p) where
    long-head : (132 ≤ head_end l) × (head_end l ≤ 240) × (head_end l ≤ laid_size l d) × (head_end l ≤ length p)
    long-head = omega (arith, s.long)

    -- 1 and 2 pass
    begins : {B : Type 0} (g : Version → Plan B)
        → run (and_then (reach 4) λ b. and_then (given 1 version_at (version_of (le 4 b version_at))) λ v.
        and_then (reach 8) λ b. and_then (check 2 (signature_fault b)) λ _. g v) p
        ≡ run (g v) p
    begins g =
        let h = long-head in
        reach_here 4 _ p (omega arith)
        ∙ given_some 1 _ _ _ p v (ap (λ (n : ℕ). version_of n) (le-take 4 4 p 0 (omega arith) ∙ s.version) ∙ known)
        ∙ reach_here 8 _ p (omega arith)
        ∙ check_passed 2 _ _ p (sym (signature_right (take 8 p) _ refl (le-take 4 8 p 4 (omega arith) ∙ s.signature)))

    size-reads : min (laid_size l d) 4_294_967_295 ≡ le 4 (take 16 p) 12
    size-reads = sym (le-take 4 16 p 12 (omega arith) ∙ s.size)

    -- what checks 1 to 4 refuse is refused
    start-refuses : (r : Refusal) → run start_plan p ≡ decided (refuse r) → file_answer p m ≡ decided (refuse r)
    unfolding open_plan read_plan
    start-refuses r e = ap (whole (length p)) (sym (answer_then open_plan _ p _ (sym (answer_then start_plan _ p _ e))))

    pub too_large : size_limit < laid_size l d → file_answer p m ≡ decided (refuse (refusal 3 0 declared_size_at))
    unfolding start_plan
    too_large h =
        let n = long-head in
        start-refuses _
        (begins _
        ∙ reach_here 16 _ p (omega arith)
        ∙ check_fault 3 _ _ p 0 12 (sym (size_high (layout_of v) _ _ size-reads (rw (← laid) (omega arith)) (omega arith))))

    pub name_endless : laid_size l d ≤ size_limit → length (name_kept d) ≡ 30 → file_answer p m ≡ decided (refuse (refusal 4 0 program_name_at))
    unfolding start_plan
    name_endless h e =
        let n = long-head in
        start-refuses _
        (begins _
        ∙ reach_here 16 _ p (omega arith)
        ∙ check_passed 3 _ _ p (sym (size_right (layout_of v) _ _ size-reads (rw (← laid) (omega arith)) (omega arith)))
        ∙ reach_here 76 _ p (omega arith)
        ∙ given_none 4 _ _ _ p (s.ended ∙ rw (eq-eqb (length (name_kept d)) 30 e)))

  -- ---- the other checks, where the size is within the limit and the name ends
  module _ (f : LaidFacts v l d p) (short : length (name_kept d) < 30) where
    abbrev o : Opening
    o = opening v l (length (name_kept d)) (head_for l d)

    open_facts : OpenFacts p o
    open_facts = opens v l d p laid w known f short

    -- the file has its S bytes
    reached : (k : ℕ) → k ≤ declared_size p → k ≤ length p
    reached k h = omega (arith, size_stands v l d p f, f.start.long)

    -- each fault over the bytes is the one over the description
    places_same : places_fault m (link_count l (head_for l d)) ≡ places_fault m (pairs d.trace)
    places_same = rw (← links_all l (head_for l d) w.linked)

    misfit-same : misfit_fault l (metrics_at l) (in_metrics l (part (head_for l d).metrics p)) (pairs d.metrics) (length d.strings)
        ≡ misfit_fault l (metrics_at l) (in_pairs d.metrics) (pairs d.metrics) (length d.strings)
    unfolding misfit_fault
    misfit-same =
        ap (fault_of (name_field_at l (metrics_at l)))
        (first-same _ _ (pairs d.metrics) 0 (λ i a b. rw (f.name_at_lem i (omega arith), f.name_units_lem i (omega arith))))

    unsound-same : unsound_fault l (metrics_at l) (in_metrics l (part (head_for l d).metrics p)) (pairs d.metrics) (part (head_for l d).strings p)
        ≡ unsound_fault l (metrics_at l) (in_pairs d.metrics) (pairs d.metrics) d.strings
    unfolding unsound_fault
    unsound-same =
        ap (fault_of (name_field_at l (metrics_at l)))
        (first-same _ _ (pairs d.metrics) 0 (λ i a b. rw (f.strings, f.name_at_lem i (omega arith), f.name_units_lem i (omega arith))))

    links-same : nexts_in o p ≡ links_in d
    links-same = rw (← links_all l (head_for l d) w.linked) f.links

    -- the stages
    counts-decide : run (counts_plan m o) p
        ≡ decided (check_now 7 (places_fault m (pairs d.trace)) >> check_now 8 (entries_fault d.volume_count (volume_entry l) (length d.volumes)))
    unfolding counts_plan
    counts-decide =
        let fit = entries_fault d.volume_count (volume_entry l) (length d.volumes) in
        reach_here (head_end l) _ p open_facts.whole ∙ counted_lines _ fit p ∙ ap (λ (x : Option Fault). decided (check_now 7 x >> check_now 8 fit)) places_same

    fits-decides : run (fits_plan o) p ≡ decided (check_now 9 (misfit_fault l (metrics_at l) (in_pairs d.metrics) (pairs d.metrics) (length d.strings)))
    unfolding fits_plan check
    fits-decides =
        reach_here (head_for l d).metrics.end _ p (reached _ open_facts.metrics)
        ∙ last_decides _ p
        ∙ ap (λ (x : Option Fault). decided (check_now 9 x)) (misfit_take p o open_facts ∙ misfit-same)

    texts-decide : run (texts_plan o) p ≡ decided (check_now 10 (unsound_fault l (metrics_at l) (in_pairs d.metrics) (pairs d.metrics) d.strings))
    unfolding texts_plan check
    texts-decide =
        reach_here (names_required l (head_for l d)) _ p (reached _ (names_required_low p o open_facts))
        ∙ last_decides _ p
        ∙ ap (λ (x : Option Fault). decided (check_now 10 x)) (unsound_take p o open_facts ∙ unsound-same)

    trace-decides : run (trace_plan o) p ≡ decided (linked_in (link_at o) (links_in d))
    unfolding trace_plan
    trace-decides =
        reach_here (trace_required l (head_for l d)) _ p (reached _ (trace_required_low p o open_facts))
        ∙ linked_lines _ _ _ _ p
        ∙ ap (λ (x : List ℕ). decided (linked_in (link_at o) x)) (nexts_take p o open_facts ∙ links-same)

    volumes-decide : run (volumes_plan o) p ≡ decided (volumes_from d.volumes l (volumes_at l d) d.volume_count 0)
    unfolding volumes_plan
    volumes-decide =
        reach_here (volumes_required l (head_for l d)) _ p (reached _ (volumes_required_low p o open_facts))
        ∙ last_decides _ p
        ∙ ap decided (volumes_take p o open_facts ∙ rw f.volumes)

    -- the record
    record_same : (n : ℕ) → record_of o p n ≡ record_for v l d n
    unfolding record_of
    record_same n = rw (w.times, size_stands v l d p f, f.hash, add-zero (run_time_at l), f.time, f.count)

    done-same : run (done (record { fields = record_of o (take (head_end l) p) (chains (links_in d)); table = predecessors (links_in d) m })) p
        ≡ decided (accept (acceptable_for v l d m (chains (links_in d))))
    done-same =
        let n = chains (links_in d) in
        let q : record_of o (take (head_end l) p) n ≡ record_for v l d n = record_take o p n (open_sound p o open_facts) ∙ record_same n in
        run_decide _ p ∙ (λ i. decided (accept (record { fields = q i; table = predecessors (links_in d) m })))

    rest-decides : run (rest_plan m o) p ≡ decided (described v l d m)
    unfolding rest_plan section_checks
    rest-decides =
        let k : ℕ → Decision Acceptable = λ n. accept (acceptable_for v l d m n) in
        let room = places_fault m (pairs d.trace) in
        let fit = entries_fault d.volume_count (volume_entry l) (length d.volumes) in
        counts_then (counts_plan m o) _ p room fit _ k counts-decide
        (then_decides (fits_plan o) _ p _ _ k fits-decides λ _.
        then_decides (texts_plan o) _ p _ _ k texts-decide λ _.
        links_decide (trace_plan o) _ p (link_at o) (links_in d) _ k trace-decides
        (then_decides (volumes_plan o) _ p _ (λ _. accept (chains (links_in d))) k volumes-decide λ _.
        reach_here (head_end l) _ p open_facts.whole ∙ done-same))

    checks-decide : prefix_answer p m ≡ decided (described v l d m)
    checks-decide = read_rest m p o open_facts ∙ rest-decides

    pub laid_answer : file_answer p m ≡ decided (described v l d m)
    laid_answer = ap (whole (length p)) checks-decide ∙ go (section_checks l d m)
      where
        go : (c : Decision ℕ) → whole (length p) (decided (c >>= λ n. accept (acceptable_for v l d m n))) ≡ decided (c >>= λ n. accept (acceptable_for v l d m n))
        go (accept n) = rw (f.start.long, le-ltb (laid_size l d) (laid_size l d) (omega arith))
        go (refuse r) = refl
