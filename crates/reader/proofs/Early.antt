-- DEMAND 3, the proof: what the prefix reader accepts or refuses early stands, since a plan sees no byte beyond what it has reached; and no
-- required length exceeds the greater of sixteen and S.
use mathlib.Core.Path.{◌≡◌, refl, sym, ◌∙◌, ap, subst⁻¹}
use mathlib.Core.List.{List}
use Prim.Native.Nat.{ℕ, ◌≤◌}
use native.Mathlib.Nat.{le_trans}
use native.Mathlib.Omega.{arith}
use lib.Dec.{eqb}
use lib.ListN.{length, take}
use lib.Seq.{length-take-le, take-length}
use Rattle.little_endian.proofs.Number.{le-take}
use Rattle.lists.proofs.Tests.{by_test}
use Rattle.layout.specs.Versions.{head_end, volume_entry, has_next}
use Rattle.incremental.specs.Decision.{Decision}
use Rattle.incremental.specs.Plan.{decide, Answer, decided, wants, run}
use Rattle.incremental.proofs.Plan.{stands, begins_take, Decided, decided_decide, decided_reach, decided_check, decided_then}
use Rattle.incremental.specs.declared.Refusal.{Refusal}
use Rattle.sections.specs.Fields.{declared_size, part, link_count, places_fault, entries_fault}
use Rattle.head.specs.Checks.{open_plan}
use Rattle.head.specs.Opened.{OpenFacts}
use Rattle.head.proofs.Facts.{open_facts, decided_open}
use Rattle.head.specs.declared.checks.Opening.{Opening}
use Rattle.names.specs.Names.{misfit_fault, unsound_fault}
use Rattle.trace.specs.Links.{astray_fault, shared_fault, cyclic_fault}
use Rattle.volumes.specs.Volumes.{volumes_from}
use Rattle.reader.specs.declared.verdict.Acceptance.{Acceptance}
use Rattle.reader.specs.Verdict.{Acceptable, Reads, values_of, answer_values, wanted_values, buffer_after}
use Rattle.reader.proofs.Values.{same_values, wanted_answer}
use Rattle.reader.specs.Checks.{names_in, nexts_in, link_at, trace_required, volumes_required, names_required, prefix_answer, ReadsPrefix}
use Rattle.reader.specs.Checks.{counts_plan, fits_plan, texts_plan, trace_plan, volumes_plan, rest_plan, read_plan}
use Rattle.reader.specs.Early.{EarlyStands}
use Rattle.std.specs.Prelude.{Err, Ok, Result}
use Rattle.incremental.specs.declared.Stop.TheVariants.{Refused, Wanted}
use Rattle.incremental.specs.declared.Stop.{Stop}

-- ---- no required length exceeds the greater of sixteen and S

pub names_required_low : (p : List ℕ) (o : Opening) → OpenFacts p o → names_required o.layout o.head ≤ declared_size p
names_required_low p o f =
    by_test (eqb o.head.metrics.count 0) (λ z. rw z f.least) (λ z. rw z (omega (arith, f.metrics, f.strings)))

pub trace_required_low : (p : List ℕ) (o : Opening) → OpenFacts p o → trace_required o.layout o.head ≤ declared_size p
trace_required_low p o f = by_test (has_next o.layout) (λ z. rw z f.trace) (λ z. rw z f.least)

pub volumes_required_low : (p : List ℕ) (o : Opening) → OpenFacts p o → volumes_required o.layout o.head ≤ declared_size p
volumes_required_low p o f = by_test (eqb o.head.volumes.count 0) (λ z. rw z f.least) (λ z. rw z f.volumes)

module _ (p : List ℕ) (o : Opening) (f : OpenFacts p o) (d : declared_size p ≤ length p) where
  decided-counts : (m : ℕ) → Decided (run (counts_plan m o) p)
  unfolding counts_plan
  decided-counts m =
      decided_reach (head_end o.layout) _ p f.whole
      (decided_check 7 (places_fault m (link_count o.layout o.head)) _ p λ _.
      decided_check 8 (entries_fault o.head.volumes.count (volume_entry o.layout) o.head.volumes.len) _ p λ _.
      decided_decide _ p)

  decided-fits : Decided (run (fits_plan o) p)
  unfolding fits_plan
  decided-fits =
      let b = take o.head.metrics.end p in
      decided_reach o.head.metrics.end _ p (le_trans f.metrics d)
      (decided_check 9 (misfit_fault o.layout o.head.metrics.at (names_in o b) o.head.metrics.count o.head.strings.len) _ p
      λ _. decided_decide _ p)

  decided-texts : Decided (run (texts_plan o) p)
  unfolding texts_plan
  decided-texts =
      let k = names_required o.layout o.head in
      let b = take k p in
      decided_reach k _ p (le_trans (names_required_low p o f) d)
      (decided_check 10 (unsound_fault o.layout o.head.metrics.at (names_in o b) o.head.metrics.count (part o.head.strings b)) _ p
      λ _. decided_decide _ p)

  decided-trace : Decided (run (trace_plan o) p)
  unfolding trace_plan
  decided-trace =
      let s = nexts_in o (take (trace_required o.layout o.head) p) in
      decided_reach (trace_required o.layout o.head) _ p (le_trans (trace_required_low p o f) d)
      (decided_check 11 (astray_fault (link_at o) s) _ p λ _.
      decided_check 12 (shared_fault (link_at o) s) _ p λ _.
      decided_check 13 (cyclic_fault (link_at o) s) _ p λ _.
      decided_decide _ p)

  decided-volumes : Decided (run (volumes_plan o) p)
  unfolding volumes_plan
  decided-volumes =
      let k = volumes_required o.layout o.head in
      decided_reach k _ p (le_trans (volumes_required_low p o f) d)
      (decided_then (decide (volumes_from (part o.head.volumes (take k p)) o.layout o.head.volumes.at o.head.volumes.count 0)) _ p
      (decided_decide _ p) λ _ _. decided_decide _ p)

  decided-rest : (m : ℕ) → Decided (run (rest_plan m o) p)
  unfolding rest_plan
  decided-rest m =
      decided_then (counts_plan m o) _ p (decided-counts m) λ _ _.
      decided_then (fits_plan o) _ p decided-fits λ _ _.
      decided_then (texts_plan o) _ p decided-texts λ _ _.
      decided_then (trace_plan o) _ p decided-trace λ _ _.
      decided_then (volumes_plan o) _ p decided-volumes λ _ _.
      decided_reach (head_end o.layout) _ p f.whole (decided_decide _ p)

pub decided_read : (m : ℕ) (p : List ℕ) → 16 ≤ length p → declared_size p ≤ length p → Decided (prefix_answer p m)
unfolding read_plan
decided_read m p h d = decided_then open_plan (rest_plan m) p (decided_open p h d) λ o e. decided-rest p o ((open_facts p).holds o e) d m

-- ---- a verdict that is no request is a decision
decided_answer : (x : Answer Acceptable) → ((k : ℕ) → answer_values x ≡ wanted_values k → ⊥) → (d : Decision Acceptable) × (x ≡ decided d)
decided_answer (decided d) h = (d, refl)
decided_answer (wants k) h = absurd (h k refl)

module _ (xs : List ℕ) (i j m : ℕ) (h : i ≤ j) (v w : Result Acceptance Stop) (after after' : List ℕ)
    (r : Reads (prefix_answer (take i xs) m) m v after) (s : Reads (prefix_answer (take j xs) m) m w after') where
  -- what the first prefix has decided, the second has
  kept : ((k : ℕ) → v ≡ Err (Wanted k) → ⊥) → prefix_answer (take j xs) m ≡ prefix_answer (take i xs) m
  kept n =
      let d = decided_answer (prefix_answer (take i xs) m) (λ k e. n k (same_values v (Err (Wanted k)) (r.verdict ∙ e))) in
      (stands (read_plan m) (take i xs) (take j xs) (begins_take xs i j h)).kept d.0 d.1 ∙ sym d.1

  both : ((k : ℕ) → v ≡ Err (Wanted k) → ⊥) → (w ≡ v) × (after ≡ after')
  both n = (
    same_values w v (s.verdict ∙ ap answer_values (kept n) ∙ sym r.verdict),
    r.buffer ∙ sym (s.buffer ∙ ap (λ (x : Answer Acceptable). buffer_after x m) (kept n)),
  )

  early-stands : EarlyStands (take i xs) (take j xs) v w after after'
  early-stands =
      let t = stands (read_plan m) (take i xs) (take j xs) (begins_take xs i j h) in
      let first : (k : ℕ) → v ≡ Err (Wanted k) → prefix_answer (take i xs) m ≡ wants k = λ k e. wanted_answer _ k (ap values_of (sym e) ∙ r.verdict) in
      record {
        accepted = λ a e. let b = both (λ k z. other (sym e ∙ z)) in (b.0 ∙ e, b.1);
        refused = λ f e. let b = both (λ k z. another (sym e ∙ z)) in (b.0 ∙ e, b.1);
        asks_more = λ k e. t.longer k (first k e);
        asks_again = λ k e. (
          (λ g. t.again k (first k e) (wanted_answer _ k (ap values_of (sym g) ∙ s.verdict))),
          (λ l. same_values w (Err (Wanted k)) (s.verdict ∙ ap answer_values (t.still k (first k e) l))),
        );
        asks_no_more = λ a b k e. (decided_read m (take i xs) a b).never k (first k e);
      }
    where
      other : {a : Acceptance} {k : ℕ} → Ok a ≡ Err (Wanted k) → ⊥
      other e = let z : ◌≡◌ {A = ℕ} 0 2 = ap (λ (x : Result Acceptance Stop). (values_of x).kind) e in omega arith

      another : {f : Refusal} {k : ℕ} → ◌≡◌ {A = Result Acceptance Stop} (Err (Refused f)) (Err (Wanted k)) → ⊥
      another e = let z : ◌≡◌ {A = ℕ} 1 2 = ap (λ (x : Result Acceptance Stop). (values_of x).kind) e in omega arith

-- DEMAND 3. Take any bytes, any two prefixes of them, the second at least as long as the first, and two working buffers of equal
-- length, whatever they hold.
pub demand_3 : (xs : List ℕ) (i j : ℕ) (buffer buffer' : List ℕ) (v w : Result Acceptance Stop) (after after' : List ℕ)
    → i ≤ j
    → length buffer ≡ length buffer'
    → ReadsPrefix (take i xs) buffer v after
    → ReadsPrefix (take j xs) buffer' w after'
    → EarlyStands (take i xs) (take j xs) v w after after'
demand_3 xs i j buffer buffer' v w after after' h l r s =
    early-stands xs i j (length buffer) h v w after after' r (subst⁻¹ (λ (m : ℕ). Reads (prefix_answer (take j xs) m) m w after') l s)

-- Beyond the first sixteen, no byte after S is looked at: bytes that agree up to there get one answer
pub after_size : (p q : List ℕ) (m n : ℕ) → 16 ≤ n → declared_size p ≤ n → n ≤ length p → n ≤ length q → take n p ≡ take n q
    → prefix_answer p m ≡ prefix_answer q m
after_size p q m n a b lp lq e = same p lp refl ∙ ap (λ (t : List ℕ). prefix_answer t m) e ∙ sym (same q lq (sym e))
  where
    size : declared_size (take n p) ≤ n
    size = rw (le-take 4 n p 12 a) b

    long : length (take n p) ≡ n
    long = length-take-le n p lp

    settled : (d : Decision Acceptable) × (prefix_answer (take n p) m ≡ decided d)
    settled = decided_answer (prefix_answer (take n p) m) (λ k z. (decided_read m (take n p) (rw long a) (rw long size)).never k (wanted_answer _ k (sym z)))

    same : (t : List ℕ) → n ≤ length t → take n t ≡ take n p → prefix_answer t m ≡ prefix_answer (take n t) m
    same t l f =
        let d : prefix_answer (take n t) m ≡ decided settled.0 = ap (λ (x : List ℕ). prefix_answer x m) f ∙ settled.1 in
        let s = stands (read_plan m) (take n t) (take (length t) t) (begins_take t n (length t) l) in
        ap (λ (x : List ℕ). prefix_answer x m) (sym (take-length t)) ∙ s.kept settled.0 d ∙ sym d
