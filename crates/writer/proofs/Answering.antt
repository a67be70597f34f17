-- The writer answers as the whole-file reader does on the laid-out file.
use mathlib.Core.Path.{◌≡◌, refl, sym, ap, ◌∙◌}
use mathlib.Core.Bool.{true, false}
use mathlib.Core.List.{List, ◌++◌}
use Prim.Native.Nat.{ℕ, ◌≤◌, ◌<◌}
use native.Mathlib.Nat.{zero-add}
use native.Mathlib.Omega.{arith}
use borrow.Author.Tests.{lt-ltb, le-ltb, ltb-true, ltb-false, eqb-true, eqb-false, ne_eqb}
use lib.Dec.{ltb, eqb}
use lib.ListN.{length, take, drop}
use Rattle.std.proofs.lemmas.List.Edits.{sets-eq}
use Rattle.std.proofs.lemmas.Result.{err_from_is_err_and}
use Rattle.std.specs.Prelude.{Err, None, Ok, Option, Result, Some}
use Rattle.std.specs.Result.{IsErrAnd}
use Rattle.lists.proofs.Tests.{by_test, never}
use Rattle.layout.specs.Head.{declared_size_at, program_name_at}
use Rattle.layout.specs.Versions.{version_number, version_of, layout_of, size_limit}
use Rattle.layout.specs.declared.Version.{Version}
use Rattle.layout.specs.declared.Version.TheVariants.{V17, V23, V26, V30}
use Rattle.layout.specs.declared.Layout.{Layout}
use Rattle.incremental.specs.Decision.{Decision, accept, refuse, refusal, given, ◌>>=◌}
use Rattle.incremental.specs.Plan.{Answer, decided}
use Rattle.incremental.specs.declared.Refusal.{Refusal}
use Rattle.trace.specs.Links.{predecessors}
use Rattle.reader.specs.Verdict.{Acceptable}
use Rattle.reader.specs.Checks.{file_answer}
use Rattle.reader.specs.declared.verdict.Acceptance.{Acceptance}
use Rattle.writer.specs.declared.draft.Plan.{Plan}
use Rattle.writer.specs.LaidOut.{Description, Numbers, before_zero, laid_by, laid_out, laid_size}
use Rattle.writer.specs.Writes.{writable, roomed, placed_answer, output_after}
use Rattle.writer.specs.Plans.{Writable, Ready, plan_for, planned}
use Rattle.writer.specs.Private.{patch, carried_units, section_checks, SectionsAnswered, described, links_in, acceptable_for, record_for, Drafted, DraftedBy}
use Rattle.writer.proofs.Name.{carried_most}
use Rattle.writer.proofs.Laid.{length_file, start_facts, laid_facts}
use Rattle.writer.proofs.Runs.{too_large, name_endless, laid_answer}

-- ---- the versions
pub version_known : (v : Version) → version_of (version_number v) ≡ Some v
unfolding version_of
version_known V17 = refl
version_known V23 = refl
version_known V26 = refl
version_known V30 = refl

writable-17 : Writable (layout_of V17)
writable-17 = search arith

writable-23 : Writable (layout_of V23)
writable-23 = search arith

pub is_other : (n : ℕ) → (n ≡ 17 → ⊥) → (n ≡ 23 → ⊥) → None ≡ writable n
unfolding writable
is_other n a b = rw (ne_eqb n 17 a, ne_eqb n 23 b) refl

-- a version that is written can be
pub written_known : (n : ℕ) (v : Version) → writable n ≡ Some v → Writable (layout_of v) × (version_of (version_number v) ≡ Some v)
unfolding writable
written_known n v e =
    by_test (eqb n 17) (λ a. let z : v ≡ V17 = cc in rw z (writable-17, version_known V17)) λ a.
    by_test (eqb n 23) (λ b. let z : v ≡ V23 = cc in rw z (writable-23, version_known V23)) λ b. never cc

-- ---- what has to be there: it is, or its check refuses
pub given_there : {A : Type 0} (n at : ℕ) (x : Option A) (a : A) → accept a ≡ given n at x → x ≡ Some a
given_there n at (Some b) a e = cc
given_there n at None a e = never cc

pub given_missing : {A : Type 0} (n at : ℕ) (x : Option A) (f : Refusal) → refuse f ≡ given n at x → (x ≡ None) × (f ≡ refusal n 0 at)
given_missing n at (Some b) f e = never cc
given_missing n at None f e = (refl, cc)

-- ---- a refusal: the place stays, as `kept` says
abbrev pub Kept : Type 0
Kept = (file output : List ℕ) (f : Refusal) → output ≡ output_after (decided (refuse f)) file output

pub drafted_exit : (answer : Answer Acceptable) (file output after : List ℕ) (f : Refusal) (r : Result Acceptance Refusal) → IsErrAnd r (λ y. y ≡ f)
    → answer ≡ decided (refuse f) → Kept → Drafted answer file output r after output
drafted_exit answer file output after f r e a kept =
    let q = err_from_is_err_and r e in
    rw (q.1, q.2) (record { verdict = sym a; placed = rw a (kept file output f) })

pub drafted_refused : (answer : Answer Acceptable) (file output after : List ℕ) (f g : Refusal) → g ≡ f → answer ≡ decided (refuse f) → Kept
    → Drafted answer file output (Err g) after output
drafted_refused answer file output after f g e a kept = rw e (record { verdict = sym a; placed = rw a (kept file output f) })

-- ---- a draft
module _ (v : Version) (l : Layout) (d : Description) (p : Plan) (units : ℕ) (r : Ready v l d p units) (m : ℕ) where
  abbrev file : List ℕ
  file = laid_by v l d

  answered : file_answer file m ≡ decided (described v l d m)
  answered =
      laid_answer v l d file m r.laid r.writable (version_known v)
      (laid_facts v l d r.writable r.numbers r.small) (omega (arith, r.named, r.short))

  size : length file ≡ p.size
  size = length_file v l d r.writable r.numbers ∙ sym (ap (λ (q : Plan). q.size) r.plan)

  by_sections : (c : Decision ℕ) → c ≡ section_checks l d m → file_answer file m ≡ decided (c >>= λ n. accept (acceptable_for v l d m n))
  by_sections c e = answered ∙ ap (λ (x : Decision ℕ). decided (x >>= λ n. accept (acceptable_for v l d m n))) (sym e)

  pub sections_refused : (f : Refusal) (buffer : List ℕ) → SectionsAnswered l d m (Err f) buffer → file_answer file m ≡ decided (refuse f)
  sections_refused f buffer a = by_sections (refuse f) a.answer

  module _ (n : ℕ) (buffer : List ℕ) (a : SectionsAnswered l d m (Ok n) buffer) (output : List ℕ) where
    accepted : file_answer file m ≡ decided (accept (acceptable_for v l d m n))
    accepted = by_sections (accept n) a.answer

    pub place_short : length output < p.size → placed_answer file m (length output) ≡ decided (refuse (refusal 20 0 0))
    place_short h = rw (lt-ltb (length output) (length file) (omega (arith, size))) (ap (roomed true) accepted)

    pub file_laid : (x : Acceptance) (output' : List ℕ) → p.size ≤ length output → output' ≡ patch output 0 file → x ≡ record_for v l d n
        → DraftedBy v l d m output (Ok x) buffer output'
    unfolding patch
    file_laid x output' h e q =
        let b : placed_answer file m (length output) ≡ decided (accept (acceptable_for v l d m n)) =
        rw (le-ltb (length output) (length file) (omega (arith, size))) (ap (roomed false) accepted) in
        let t : buffer ≡ predecessors (links_in d) m = a.holds n refl in
        record {
          verdict = rw (b, q, t) refl;
          placed = rw b (e ∙ sets-eq file output 0 (omega (arith, size)) ∙ ap (λ (j : ℕ). file ++ drop j output) (zero-add (length file)));
        }

-- ---- checks 3 and 4
pub plan_is : (l : Layout) (d : Description) (q : Option Plan) (p : Plan) → q ≡ planned l d → q ≡ Some p → (p ≡ plan_for l d) × (laid_size l d ≤ size_limit)
plan_is l d q p e f = by_test (ltb size_limit (laid_size l d)) (λ h. never (cc)) (λ h. (cc, ltb-false _ _ h))

plan_none : (l : Layout) (d : Description) (q : Option Plan) → q ≡ planned l d → q ≡ None → size_limit < laid_size l d
plan_none l d q e f = by_test (ltb size_limit (laid_size l d)) (λ h. ltb-true _ _ h) (λ h. never (cc))

pub below_30 : (us : List ℕ) (n : ℕ) → n ≡ length (take 30 (before_zero us)) → (n ≡ 30 → ⊥) → n < 30
below_30 us n e h = omega (arith, carried_most us)

pub carried_is : (us : List ℕ) (q : Option ℕ) (n : ℕ) → q ≡ carried_units us → q ≡ Some n → (n ≡ length (take 30 (before_zero us))) × (n < 30)
carried_is us q n e f =
    let k = length (take 30 (before_zero us)) in
    by_test (eqb k 30) (λ h. never cc) (λ h. let z : n ≡ k = cc in (z, omega (arith, carried_most us, eqb-false k 30 h)))

carried_none : (us : List ℕ) (q : Option ℕ) → q ≡ carried_units us → q ≡ None → length (take 30 (before_zero us)) ≡ 30
carried_none us q e f = by_test (eqb (length (take 30 (before_zero us))) 30) (λ h. eqb-true _ 30 h) (λ h. never cc)

module _ (v : Version) (w : Writable (layout_of v)) (d : Description) (r : Numbers d) (m : ℕ) (l : Layout) (laid : l ≡ layout_of v) where
  pub version_large : (q : Option Plan) → q ≡ planned l d → q ≡ None → file_answer (laid_out v d) m ≡ decided (refuse (refusal 3 0 declared_size_at))
  version_large q e f =
      too_large v (layout_of v) d _ m refl w (version_known v) (start_facts v (layout_of v) d w r) (rw laid at (plan_none l d q e f))

  pub version_endless : laid_size l d ≤ size_limit → (q : Option ℕ) → q ≡ carried_units d.name → q ≡ None
      → file_answer (laid_out v d) m ≡ decided (refuse (refusal 4 0 program_name_at))
  version_endless h q e f =
      name_endless v (layout_of v) d _ m refl w (version_known v) (start_facts v (layout_of v) d w r) (rw laid at h) (carried_none d.name q e f)

pub read_refused : (file : List ℕ) (m n : ℕ) (f : Refusal) → file_answer file m ≡ decided (refuse f) → placed_answer file m n ≡ decided (refuse f)
read_refused file m n f e = ap (roomed (ltb n (length file))) e
