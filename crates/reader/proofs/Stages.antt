-- The stages from check 7 on, by what the calls in their code gave: each way out of a stage is a run of its plan.
use mathlib.Core.Path.{◌≡◌, refl, sym, ap, ◌∙◌}
use mathlib.Core.List.{List}
use Prim.Native.Nat.{ℕ, ◌*◌, ◌≤◌, ◌<◌}
use native.Mathlib.Decide.{ℕ_discrete}
use native.Mathlib.Nat.{zero-mul}
use native.Mathlib.Omega.{arith}
use lib.ListN.{length, take, length-take}
use borrow.Author.Tests.{ne_eqb}
use Rattle.layout.specs.Versions.{head_end, volume_entry, trace_entry}
use Rattle.incremental.specs.Decision as decision
use Rattle.incremental.specs.Decision.{Decision, accept, refuse, refusal, decision_of}
use Rattle.incremental.specs.Plan.{Plan, decide, Answer, decided, wants, run, and_then, reach, check, done, answer_of, ◌>>=◌, ◌>>◌}
use Rattle.incremental.proofs.Plan.{reach_here, reach_short, reach_wants}
use Rattle.incremental.proofs.Plan.{reach_on, check_refused, check_on, decide_it, run_steps}
use Rattle.incremental.proofs.Plan.{AnswerHolds, holds_reach, holds_check, holds_accept}
use Rattle.incremental.specs.declared.Refusal.{Refusal}
use Rattle.sections.specs.Fields.{part, link_count, entries_fault, places_fault}
use Rattle.sections.proofs.Cases.{entries_fit, entries_met, places_met}
use Rattle.head.specs.Opened.{OpenFacts}
use Rattle.head.proofs.Rules.{part_length}
use Rattle.head.proofs.Facts.{open_shapes}
use Rattle.head.specs.declared.checks.Opening.{Opening}
use Rattle.names.specs.Names.{in_metrics, misfit_fault, unsound_fault}
use Rattle.trace.specs.Links.{nexts, astray_fault, shared_fault, cyclic_fault, link_checks, chains, predecessors, LinkListAnswer, held}
use Rattle.trace.proofs.Accepted.{trace_room}
use Rattle.trace.proofs.Steps.{length-nexts}
use Rattle.volumes.specs.Volumes.{volumes_from, volumes_checks}
use Rattle.volumes.proofs.Laws.{volumes_room}
use Rattle.reader.specs.declared.verdict.Acceptance.{Acceptance}
use Rattle.reader.specs.Verdict.{Acceptable}
use Rattle.reader.specs.Checks.{names_in, trace_required, names_required, volumes_required, link_at, record_of}
use Rattle.reader.specs.Checks.{counts_plan, fits_plan, texts_plan, trace_plan, volumes_plan}
use Rattle.reader.specs.Private.{TraceAnswer, EntriesFit, verdict_of}
use Rattle.std.specs.Result.{IsErrAnd}
use Rattle.std.proofs.lemmas.Result.{err_from_is_err_and}
use Rattle.lists.proofs.Tests.{never}
use Rattle.std.specs.Prelude.{Err, None, Ok, Option, Result, Some}
use Rattle.incremental.specs.declared.Fault.{Fault}
use Rattle.incremental.specs.declared.Stop.TheVariants.{Refused, Wanted}
use Rattle.incremental.specs.declared.Stop.{Stop}

-- ---- 7 and 8

-- the number of next indexes that a call gave
pub places_at : (m n k : ℕ) (r : Option Fault) → r ≡ places_fault m n → n ≡ k → r ≡ places_fault m k
places_at m n k r e q = e ∙ ap (places_fault m) q

pub ruleset counts = (run_steps, places_at)

module _ (m : ℕ) (o : Opening) (p : List ℕ) where
  -- what they let pass
  pub counts_hold : AnswerHolds (λ _. (link_count o.layout o.head ≤ m) × EntriesFit o) (run (counts_plan m o) p)
  unfolding counts_plan
  counts_hold =
      holds_reach (head_end o.layout) _ p _ λ _.
      holds_check _ 7 (places_fault m (link_count o.layout o.head)) _ p λ e7.
      holds_check _ 8 (entries_fault o.head.volumes.count (volume_entry o.layout) o.head.volumes.len) _ p λ e8.
      holds_accept _ tt p (places_met _ _ _ refl e7, entries_met _ _ _ _ refl e8)

  pub counts_met : (t : Unit) → decided (accept t) ≡ run (counts_plan m o) p → (link_count o.layout o.head ≤ m) × EntriesFit o
  counts_met t e = counts_hold.holds t (sym e)

-- ---- 9, on the bytes `b` that have come
module _ (o : Opening) (p b : List ℕ) (h : o.head.metrics.end ≤ length p) (come : b ≡ take o.head.metrics.end p) (a : List ℕ) (e : a ≡ part o.head.metrics b)
    (d : Option Fault) (f : d ≡ misfit_fault o.layout o.head.metrics.at (in_metrics o.layout a) o.head.metrics.count o.head.strings.len) where
  misfit : d ≡ misfit_fault o.layout o.head.metrics.at (names_in o b) o.head.metrics.count o.head.strings.len
  misfit = rw (← e) f

  pub fits_refused : (r : Refusal) → refuse r ≡ decision.check 9 d → decided (refuse r) ≡ run (fits_plan o) p
  unfolding fits_plan
  fits_refused r q = reach_on _ _ p b _ h come (check_refused 9 _ _ p d r q misfit)

  pub fits_pass : (t : Unit) → accept t ≡ decision.check 9 d → decided (accept tt) ≡ run (fits_plan o) p
  unfolding fits_plan
  fits_pass t q = reach_on _ _ p b _ h come (check_on 9 _ _ p d t _ q misfit (decide_it _ _ p refl))

-- ---- 10, with the required length at hand
abbrev texts_at : ℕ → Opening → Plan Unit
texts_at k o = do
  b ← reach k
  check 10 (unsound_fault o.layout o.head.metrics.at (names_in o b) o.head.metrics.count (part o.head.strings b))
  done tt

module _ (o : Opening) (p : List ℕ) (k : ℕ) (at : k ≡ names_required o.layout o.head) where
  texts-are : (x : Answer Unit) → x ≡ run (texts_at k o) p → x ≡ run (texts_plan o) p
  unfolding texts_plan
  texts-are x e = e ∙ ap (λ (j : ℕ). run (texts_at j o) p) at

  pub texts_short : length p < k → wants k ≡ run (texts_plan o) p
  texts_short h = texts-are _ (reach_wants k _ p h)

  module _ (b : List ℕ) (h : k ≤ length p) (come : b ≡ take k p) (a c : List ℕ) (e : a ≡ part o.head.metrics b) (g : c ≡ part o.head.strings b) (d : Option Fault)
      (f : d ≡ unsound_fault o.layout o.head.metrics.at (in_metrics o.layout a) o.head.metrics.count c) where
    unsound : d ≡ unsound_fault o.layout o.head.metrics.at (names_in o b) o.head.metrics.count (part o.head.strings b)
    unsound = rw (← e, ← g) f

    pub texts_refused : (r : Refusal) → refuse r ≡ decision.check 10 d → decided (refuse r) ≡ run (texts_plan o) p
    texts_refused r q = texts-are _ (reach_on k _ p b _ h come (check_refused 10 _ _ p d r q unsound))

    pub texts_pass : (t : Unit) → accept t ≡ decision.check 10 d → decided (accept tt) ≡ run (texts_plan o) p
    texts_pass t q = texts-are _ (reach_on k _ p b _ h come (check_on 10 _ _ p d t _ q unsound (decide_it _ _ p refl)))

-- ---- 11 to 13

-- the lines of the plan after its bytes have come, and what they decide
abbrev lines_of : Option Fault → Option Fault → Option Fault → List ℕ → Plan (List ℕ)
lines_of a b c s = check 11 a >> (check 12 b >> (check 13 c >> done s))

abbrev decides : Option Fault → Option Fault → Option Fault → ℕ → Decision ℕ
decides a b c n = decision.◌>>◌ (decision.check 11 a) (decision.◌>>◌ (decision.check 12 b) (decision.◌>>◌ (decision.check 13 c) (accept n)))

lines_refuse : (a b c : Option Fault) (n : ℕ) (s p : List ℕ) (f : Refusal) → decides a b c n ≡ refuse f → run (lines_of a b c s) p ≡ decided (refuse f)
unfolding run and_then check
lines_refuse (Some w) b c n s p f e = let q : refusal 11 w.index w.offset ≡ f = cc in ap (λ (x : Refusal). decided (refuse x)) q
lines_refuse None (Some w) c n s p f e = let q : refusal 12 w.index w.offset ≡ f = cc in ap (λ (x : Refusal). decided (refuse x)) q
lines_refuse None None (Some w) n s p f e = let q : refusal 13 w.index w.offset ≡ f = cc in ap (λ (x : Refusal). decided (refuse x)) q
lines_refuse None None None n s p f e = never cc

lines_accept : (a b c : Option Fault) (n k : ℕ) (s p : List ℕ) → decides a b c n ≡ accept k → (run (lines_of a b c s) p ≡ decided (accept s)) × (k ≡ n)
unfolding run and_then check
lines_accept (Some w) b c n k s p e = never cc
lines_accept None (Some w) c n k s p e = never cc
lines_accept None None (Some w) n k s p e = never cc
lines_accept None None None n k s p e = (refl, cc)

-- `k` is the required length and `n` the number of next indexes that calls gave
module _ (o : Opening) (p : List ℕ) (m k : ℕ) (required : k ≡ trace_required o.layout o.head) where
  pub trace_short : (buffer : List ℕ) → length p < k → TraceAnswer (run (trace_plan o) p) m (Err (Wanted k)) buffer
  unfolding trace_plan
  trace_short buffer h =
      record {
        passed = λ n e. never cc;
        refused = λ f e. never cc;
        wanted = λ j e. let q : k ≡ j = cc in reach_short _ _ p (rw (← required) h) ∙ ap (λ (i : ℕ). wants i) (sym required ∙ q);
      }

  module _ (b : List ℕ) (h : k ≤ length p) (come : b ≡ take k p) (a : List ℕ) (e : a ≡ part o.head.trace b) (n : ℕ) (count : n ≡ link_count o.layout o.head)
      (room : link_count o.layout o.head ≤ m) (buffer : List ℕ) where
    abbrev s : List ℕ
    s = nexts a (trace_entry o.layout) n

    abbrev Answered : Result ℕ Refusal → Type 0
    Answered r = LinkListAnswer (link_at o) s m r buffer

    links_decide : (r : Result ℕ Refusal) → Answered r → link_checks (link_at o) s ≡ decision_of r
    links_decide r w = sym (w.answer ∙ trace_room (link_at o) s m (rw (length-nexts a (trace_entry o.layout) n, count) room))

    lines-run : run (trace_plan o) p ≡ run (lines_of (astray_fault (link_at o) s) (shared_fault (link_at o) s) (cyclic_fault (link_at o) s) s) p
    unfolding trace_plan
    lines-run = reach_here (trace_required o.layout o.head) _ p (rw (← required) h) ∙ rw (← required, ← come, ← e, ← count)

    pub trace_refused : (f : Refusal) → Answered (Err f) → TraceAnswer (run (trace_plan o) p) m (Err (Refused f)) buffer
    unfolding link_checks
    trace_refused f w =
        record {
          passed = λ n z. never cc;
          refused = λ g z.
              let i : f ≡ g = cc in
              lines-run ∙ lines_refuse _ _ _ (chains s) s p g (links_decide (Err f) w ∙ ap (λ (x : Refusal). refuse x) i);
          wanted = λ k z. never cc;
        }

    pub trace_passed : (c : ℕ) → Answered (Ok c) → TraceAnswer (run (trace_plan o) p) m (Ok c) buffer
    unfolding link_checks
    trace_passed c w =
        let l = lines_accept (astray_fault (link_at o) s) (shared_fault (link_at o) s) (cyclic_fault (link_at o) s) (chains s) c s p (links_decide (Ok c) w) in
        let t : buffer ≡ predecessors s m = w.holds ∙ ap (λ (d : Decision ℕ). held d s m) (sym w.answer) in
        record {
          passed = λ j z. let i : c ≡ j = cc in (s, lines-run ∙ l.0, sym i ∙ l.1, t);
          refused = λ f z. never cc;
          wanted = λ k z. never cc;
        }

-- the way out of a `?`: what the function returns there is the stop, or the refusal, that a call gave
pub trace_exit : (x : Answer (List ℕ)) (m : ℕ) (s t : Stop) (r : Result ℕ Stop) (buffer : List ℕ) → IsErrAnd r (λ y. y ≡ s) → s ≡ t → TraceAnswer x m (Err t) buffer
    → TraceAnswer x m r buffer
trace_exit x m s t r buffer e h w = let q = err_from_is_err_and r e in rw (q.1, q.2, h) w

-- ---- 14 and 15, with the required length at hand
abbrev volumes_at : ℕ → Opening → Plan Unit
volumes_at k o = do
  b ← reach k
  decide (volumes_from (part o.head.volumes b) o.layout o.head.volumes.at o.head.volumes.count 0)
  done tt

-- the volumes section, as far as its required length, has all its bytes
volumes_all : (p : List ℕ) (o : Opening) (k : ℕ) → OpenFacts p o → k ≡ volumes_required o.layout o.head → k ≤ length p → EntriesFit o
    → o.head.volumes.count * volume_entry o.layout ≤ length (part o.head.volumes (take k p))
volumes_all p o k f e h room = go (ℕ_discrete o.head.volumes.count 0)
  where
    go : Dec (o.head.volumes.count ≡ 0) → o.head.volumes.count * volume_entry o.layout ≤ length (part o.head.volumes (take k p))
    go (yes z) = rw (z, zero-mul) (omega arith)
    go (no z) =
        let q : k ≡ o.head.volumes.end = e ∙ rw (ne_eqb _ _ z) in
        let l : o.head.volumes.end ≤ length (take k p) = rw (length-take k p) (omega arith) in
        rw (part_length o.head.volumes (head_end o.layout) (take k p) (open_shapes p o f).volumes_end l) room

module _ (o : Opening) (p : List ℕ) (k : ℕ) (at : k ≡ volumes_required o.layout o.head) where
  volumes-are : (x : Answer Unit) → x ≡ run (volumes_at k o) p → x ≡ run (volumes_plan o) p
  unfolding volumes_plan
  volumes-are x e = e ∙ ap (λ (j : ℕ). run (volumes_at j o) p) at

  pub volumes_short : length p < k → wants k ≡ run (volumes_plan o) p
  volumes_short h = volumes-are _ (reach_wants k _ p h)

  module _ (f : OpenFacts p o) (room : EntriesFit o) (b : List ℕ) (h : k ≤ length p) (come : b ≡ take k p) (a : List ℕ) (e : a ≡ part o.head.volumes b) where
    volumes-decide : (d : Decision Unit) → d ≡ volumes_checks a o.layout o.head.volumes.at o.head.volumes.count
        → d ≡ volumes_from (part o.head.volumes b) o.layout o.head.volumes.at o.head.volumes.count 0
    volumes-decide d c =
        let n = o.head.volumes.count in
        let l : n * volume_entry o.layout ≤ length (part o.head.volumes b) = rw come (volumes_all p o k f at h room) in
        c ∙ ap (λ (t : List ℕ). volumes_checks t o.layout o.head.volumes.at n) e
        ∙ volumes_room (part o.head.volumes b) o.layout _ n None tt (entries_fit n _ _ l) refl

    pub volumes_answer : (r : Result Unit Stop) (d : Decision Unit) → d ≡ volumes_checks a o.layout o.head.volumes.at o.head.volumes.count
        → answer_of r ≡ decided d → answer_of r ≡ run (volumes_plan o) p
    unfolding run and_then
    volumes_answer r (accept t) c q = volumes-are _ (q ∙ reach_on k _ p b _ h come (rw (← volumes-decide (accept t) c)))
    volumes_answer r (refuse g) c q = volumes-are _ (q ∙ reach_on k _ p b _ h come (rw (← volumes-decide (refuse g) c)))

-- ---- one stage after another
pub verdict_exit : (s : Stop) (r : Result Acceptance Stop) (after : List ℕ) (v : Answer Acceptable) → IsErrAnd r (λ y. y ≡ s) → answer_of {A = Acceptable} (Err s) ≡ v
    → verdict_of r after ≡ v
verdict_exit s r after v e h = let q = err_from_is_err_and r e in rw (q.1, q.2) (go s h)
  where
    go : (s : Stop) → answer_of {A = Acceptable} (Err s) ≡ v → verdict_of (Err s) after ≡ v
    go (Refused f) h = h
    go (Wanted k) h = h

pub trace_stops : (x : Answer (List ℕ)) (m : ℕ) (s : Stop) (buffer : List ℕ) → TraceAnswer x m (Err s) buffer → answer_of {A = List ℕ} (Err s) ≡ x
trace_stops x m (Refused f) buffer a = sym (a.refused f refl)
trace_stops x m (Wanted k) buffer a = sym (a.wanted k refl)

-- the record that a call gave, with the chain count, and the buffer
pub given_record : (o : Opening) (top p s : List ℕ) (m n : ℕ) (a : Acceptance) (after : List ℕ) → a ≡ record_of o top n → n ≡ chains s
    → after ≡ predecessors s m
    → ◌≡◌ {A = Answer Acceptable} (decided (accept (record { fields = a; table = after })))
    (run (done (record { fields = record_of o top (chains s); table = predecessors s m })) p)
unfolding run
given_record o top p s m n a after x y z =
    let f : a ≡ record_of o top (chains s) = x ∙ ap (record_of o top) y in
    λ i. decided (accept (record { fields = f i; table = z i }))
