-- What the promise of the writer says, by the laws over the laid-out file and those of the queries.
use mathlib.Core.Path.{◌≡◌, refl, sym, ap, ◌∙◌}
use mathlib.Core.Bool.{Bool, true, false}
use mathlib.Core.List.{List, ◌++◌}
use mathlib.Core.Logic.{◌⊎◌, inl, inr, ⊎_elim}
use Prim.Native.Nat.{ℕ}
use native.Mathlib.Omega.{arith}
use borrow.Author.Tests.{lt-ltb, le-ltb, ltb-false, eqb-true}
use lib.Dec.{ltb, eqb}
use lib.ListN.{length, take, drop, length-append, length-drop}
use lib.Seq.{take_at, drop_at}
use Rattle.lists.proofs.Tests.{by_test, never}
use Rattle.layout.specs.Head.{version_at}
use Rattle.layout.specs.Versions.{layout_of}
use Rattle.layout.specs.declared.Version.{Version}
use Rattle.incremental.specs.Decision.{accept, refuse, refusal}
use Rattle.incremental.specs.Plan.{Answer, decided, wants}
use Rattle.incremental.specs.declared.Refusal.{Refusal}
use Rattle.reader.specs.declared.verdict.Acceptance.{Acceptance}
use Rattle.reader.specs.Verdict.{Acceptable, values_of, answer_values, buffer_after, verdict_in}
use Rattle.reader.specs.Checks.{prefix_answer, file_answer, ReadsFile}
use Rattle.reader.specs.Allowed.{Allowed}
use Rattle.reader.proofs.Allowed.{demand_2}
use Rattle.reader.proofs.Rest.{whole_accepted}
use Rattle.reader.proofs.Values.{accepted_answer, refused_answer, same_verdicts}
use Rattle.writer.specs.LaidOut.{Description, Numbers, laid_out}
use Rattle.writer.specs.Writes.{writable, roomed, placed_answer, write_answer, file_for, output_after, Lays, Writes}
use Rattle.writer.proofs.Laid.{next_written, blocks_written}
use Rattle.writer.proofs.Answering.{is_other, written_known}
use Rattle.claims.specs.Writer.{AsksFor, Occurs, FileWritten, WriterSays, WritersSay}
use Rattle.claims.proofs.LaidOut.{o, accepted_fits, record_given, refused_number, opening_is, unit_written, name_shown_lem, entry_written}
use Rattle.std.specs.Prelude.{Err, None, Ok, Option, Result, Some}
use Rattle.incremental.specs.declared.Stop.TheVariants.{Wanted}

-- ---- the versions
asked-writable : (n : ℕ) (v : Version) → AsksFor n v → writable n ≡ Some v
unfolding writable
asked-writable n v (inl (e, f)) = rw (e, f)
asked-writable n v (inr (e, f)) = rw (e, f)

writable-asked : (n : ℕ) (v : Version) → writable n ≡ Some v → AsksFor n v
unfolding writable
writable-asked n v e =
    by_test (eqb n 17) (λ p. inl (eqb-true n 17 p, cc)) λ p.
    by_test (eqb n 23) (λ q. inr (eqb-true n 23 q, cc)) λ q. never cc

no_wish : (r : Result Acceptance Refusal) (k : ℕ) → verdict_in r ≡ Err (Wanted k) → ⊥
no_wish (Ok a) k e = cc
no_wish (Err f) k e = cc

-- ---- what the reader answered, by what the writer answers
room_accepted : (short : Bool) (y : Answer Acceptable) (x : Acceptable) → roomed short y ≡ decided (accept x) → (short ≡ false) × (y ≡ decided (accept x))
room_accepted true (decided (accept z)) x e = never cc
room_accepted false (decided (accept z)) x e = (refl, e)
room_accepted short (decided (refuse f)) x e = never cc
room_accepted short (wants k) x e = never cc

room_refused : (short : Bool) (y : Answer Acceptable) (f : Refusal) → roomed short y ≡ decided (refuse f) → (f.number ≡ 20) ⊎ (y ≡ decided (refuse f))
room_refused true (decided (accept z)) f e = inl (cc)
room_refused false (decided (accept z)) f e = never cc
room_refused short (decided (refuse g)) f e = inr e
room_refused short (wants k) f e = never cc

-- ---- the place after an acceptance
module _ (file buffer output : List ℕ) (a : Acceptance) (buffer' output' : List ℕ)
    (h : Lays (placed_answer file (length buffer) (length output)) file buffer output (Ok a) buffer' output') where
  found : (x : Acceptable) × (placed_answer file (length buffer) (length output) ≡ decided (accept x)) × (a ≡ x.fields)
  found = accepted_answer _ a h.reads.verdict

  reader : (ltb (length output) (length file) ≡ false) × (file_answer file (length buffer) ≡ decided (accept found.0))
  reader = room_accepted _ _ _ found.1

  laid_size : a.declared_size ≡ length file
  laid_size =
      ap (λ (x : Acceptance). x.declared_size) found.2
      ∙ (whole_accepted (length file) (prefix_answer file (length buffer)) found.0 reader.1).1

  laid-place : output' ≡ file ++ drop (length file) output
  laid-place = h.placed ∙ ap (λ (x : Answer Acceptable). output_after x file output) found.1

  laid-file : take a.declared_size output' ≡ file
  laid-file = ap (take a.declared_size) laid-place ∙ take_at file _ _ (sym laid_size)

  laid-rest : drop a.declared_size output' ≡ drop a.declared_size output
  laid-rest = ap (drop a.declared_size) laid-place ∙ drop_at file _ _ (sym laid_size) ∙ ap (λ (n : ℕ). drop n output) (sym laid_size)

  laid_long : length output' ≡ length output
  laid_long =
      ap length laid-place
      ∙ length-append file (drop (length file) output)
      ∙ omega (arith, length-drop (length file) output, ltb-false (length output) (length file) reader.0)

  laid-reads : ReadsFile file buffer (Ok a) buffer'
  laid-reads = let e = found.1 ∙ sym reader.1 in rw (← e) h.reads

-- ---- the statements
module _ (version : ℕ) (d : Description) (buffer output : List ℕ) (r : Result Acceptance Refusal) (buffer' output' : List ℕ) (n : Numbers d)
    (h : Writes version d buffer output r buffer' output') where
  abbrev answer : Answer Acceptable
  answer = write_answer version d (length buffer) (length output)

  by-version : (v : Version) → AsksFor version v
      → Lays (placed_answer (laid_out v d) (length buffer) (length output)) (laid_out v d) buffer output r buffer' output'
  by-version v q = let e = asked-writable version v q in rw e at h

  answer-is : (v : Version) → AsksFor version v → answer ≡ placed_answer (laid_out v d) (length buffer) (length output)
  answer-is v q = rw (asked-writable version v q)

  answer-other : writable version ≡ None → answer ≡ decided (refuse (refusal 1 0 version_at))
  answer-other q = rw q

  -- the number asks for a version, or it gets 1
  by-asked : {A : Type 0} → ((v : Version) → AsksFor version v → A) → (answer ≡ decided (refuse (refusal 1 0 version_at)) → A) → A
  by-asked {A} y n = go (writable version) refl
    where
      go : (w : Option Version) → writable version ≡ w → A
      go (Some v) q = y v (writable-asked version v q)
      go None q = n (answer-other q)

  refused_by : (f : Refusal) → answer ≡ decided (refuse f) → r ≡ Err f
  refused_by f e = same_verdicts r (Err f) (h.reads.verdict ∙ ap answer_values e)

  file-written : (v : Version) (q : AsksFor version v) (a : Acceptance) → r ≡ Ok a → FileWritten v d buffer output a buffer' output'
  file-written v q a e =
      let s = rw e at (by-version v q) in
      let p = laid_out v d in
      let k = written_known version v (asked-writable version v q) in
      let x = found p buffer output a buffer' output' s in
      let fits = accepted_fits v k.0 k.1 d n (length buffer) x.0 (reader p buffer output a buffer' output' s).1 in
      let given = record_given v k.0 k.1 d n (length buffer) x.0 (reader p buffer output a buffer' output' s).1 in
      let reads = laid-reads p buffer output a buffer' output' s in
      let t = (demand_2 p buffer (Ok a) buffer' reads).sound a refl in
      let allowed : Allowed p (o v k.0 k.1 d n (length buffer) fits) = rw (opening_is v k.0 k.1 d n (length buffer) fits t.0 t.1) at t.1 in
      record {
        size = laid_size p buffer output a buffer' output' s;
        written = laid-file p buffer output a buffer' output' s;
        rest = laid-rest p buffer output a buffer' output' s;
        long = laid_long p buffer output a buffer' output' s;
        read_again = rw (laid-file p buffer output a buffer' output' s) reads;
        fields = rw x.2 given;
        name_shown_lem = name_shown_lem v k.0 k.1 d n (length buffer) fits allowed;
        name_written = unit_written v k.0 k.1 d n (length buffer) fits;
        entry_written = entry_written v k.0 k.1 d n (length buffer) fits allowed;
        next_written = next_written v (layout_of v) d k.0 n fits.0;
        blocks_written = blocks_written v (layout_of v) d k.0 n fits.0;
      }

  written : (a : Acceptance) → r ≡ Ok a → (v : Version) × AsksFor version v × FileWritten v d buffer output a buffer' output'
  written a e =
      by-asked (λ v k. (v, k, file-written v k a e)) λ y.
      let x = accepted_answer answer a (ap values_of (ap verdict_in (sym e)) ∙ h.reads.verdict) in
      never (cc x.1)

  refused : (f : Refusal) → r ≡ Err f → answer ≡ decided (refuse f)
  refused f e = refused_answer answer f (ap values_of (ap verdict_in (sym e)) ∙ h.reads.verdict)

  occurs : (f : Refusal) → r ≡ Err f → Occurs f.number
  occurs f e =
      by-asked
      (λ v k.
      let w = written_known version v (asked-writable version v k) in
      ⊎_elim (λ q. inr (inr (inr (inr q)))) (refused_number v w.0 w.1 d n (length buffer) f) (room_refused _ _ f (sym (answer-is v k) ∙ refused f e)))
      (λ y. let x = refused f e in inl (cc))

  says : WriterSays version d buffer output r buffer' output'
  says =
      record {
        written = written;
        accepted_alike = λ v q x e room.
            let p = laid_out v d in
            let s : roomed (ltb (length output) (length p)) (file_answer p (length buffer)) ≡ decided (accept x) =
            rw (le-ltb (length output) (length p) room) (ap (roomed false) e) in
            same_verdicts r (Ok x.fields) (h.reads.verdict ∙ ap answer_values (answer-is v q ∙ s));
        refused_alike = λ v q f e.
            refused_by f (answer-is v q ∙ ap (roomed (ltb (length output) (length (laid_out v d)))) e);
        short = λ v q x e room.
            let p = laid_out v d in
            let s : roomed (ltb (length output) (length p)) (file_answer p (length buffer)) ≡ decided (refuse (refusal 20 0 0)) =
            rw (lt-ltb (length output) (length p) room) (ap (roomed true) e) in
            refused_by (refusal 20 0 0) (answer-is v q ∙ s);
        other = λ a b. refused_by (refusal 1 0 version_at) (answer-other (sym (is_other version a b)));
        unchanged = λ f e.
            let x = refused f e in (
              h.placed ∙ ap (λ (y : Answer Acceptable). output_after y (file_for (writable version) d) output) x,
              h.reads.buffer ∙ ap (λ (y : Answer Acceptable). buffer_after y (length buffer)) x,
            );
        never = occurs;
        no_request = no_wish r;
      }

pub writers_say : WritersSay
writers_say = says
