-- What checks 1 to 4, and 1 to 6, accept, in both directions; and that a prefix of 16 and of S bytes gets no request from them.
use mathlib.Core.Path.{◌≡◌, refl, sym, ap, ◌∙◌}
use mathlib.Core.List.{List}
use mathlib.Core.Bool.{Bool, true, false}
use mathlib.Core.Logic.{◌⊎◌, inl, inr}
use Prim.Native.Nat.{ℕ, ◌+◌, ◌*◌, ◌≤◌}
use native.Mathlib.Nat.{le_trans}
use native.Mathlib.Omega.{arith}
use borrow.Author.Tests.{eq-eqb, ltb-false}
use lib.Dec.{eqb, ltb}
use lib.ListN.{length, take}
use Rattle.lists.specs.Count.{pick}
use Rattle.lists.proofs.Tests.{never}
use Rattle.little_endian.specs.Number.{le}
use Rattle.little_endian.proofs.Number.{le-take}
use Rattle.layout.specs.Versions.{version_of, layout_of, head_end, metrics_entry, trace_entry, form_required, forms, form_at}
use Rattle.layout.specs.Sound.{SoundLayout}
use Rattle.layout.proofs.Laws.{layout_sound, form_sound, form_required_lem}
use Rattle.layout.specs.declared.Layout.{Layout}
use Rattle.incremental.specs.Decision.{accept}
use Rattle.incremental.specs.Plan.{decided, run}
use Rattle.incremental.proofs.Plan.{answer_then, reach_here, check_passed, given_some, AnswerHolds, holds_accept, holds_reach, holds_check}
use Rattle.incremental.proofs.Plan.{holds_given, holds_then, Decided, decided_decide, decided_reach, decided_check, decided_given, decided_then}
use Rattle.sections.specs.declared.Head.{Head}
use Rattle.sections.specs.Fields.{signature_fault, declared_size, size_fault, name_end, room_for, form_in, head_of, outside_fault, overlap_fault}
use Rattle.head.specs.declared.checks.Start.{Start}
use Rattle.head.specs.declared.checks.Opening.{Opening}
use Rattle.head.specs.Checks.{start_plan, form_plan, section_plan, open_plan}
use Rattle.incremental.specs.Plan.{answer_of}
use Rattle.head.specs.Opened.{start_in, StartFacts, OpenFacts}
use Rattle.head.proofs.Rules.{size_law, none-outside, section_end}
use Rattle.std.specs.Prelude.{None, Ok, Option, Result, Some}
use Rattle.incremental.specs.declared.Stop.{Stop}

-- ---- what is read of a prefix is read of the bytes

signature_take : (p : List ℕ) → signature_fault (take 8 p) ≡ signature_fault p
unfolding signature_fault
signature_take p = rw (le-take 4 8 p 4 (omega arith))

pub size_take : (l : Layout) (p : List ℕ) → size_fault l (take 16 p) ≡ size_fault l p
unfolding size_fault
size_take l p = rw (le-take 4 16 p 12 (omega arith))

-- the form by the bytes that tell it, at least 88 where a version has several
pub form_take : (l : Layout) (p : List ℕ) → (form_required l ≡ 0) ⊎ (form_required l ≡ 88) → form_in l (take (form_required l) p) ≡ form_in l p
unfolding form_in
form_take l p (inl z) = rw (eq-eqb _ _ z)
form_take l p (inr z) = rw (z, le-take 4 88 p 84 (omega arith), le-take 4 88 p 12 (omega arith))

-- a form that is found is sound, and S is not below its H
pub form_facts : (l k : Layout) (p : List ℕ) → form_in l p ≡ Some k → SoundLayout l → head_end l ≤ declared_size p
    → SoundLayout k × (head_end k ≤ declared_size p)
unfolding form_in
form_facts l k p e s h = go (eqb (form_required l) 0) e
  where
    none-some : None ≡ Some k → ⊥
    none-some e = never cc

    room : (f : Layout) (b : Bool) → ltb (declared_size p) (head_end f) ≡ b → SoundLayout f → pick b None (Some f) ≡ Some k
        → SoundLayout k × (head_end k ≤ declared_size p)
    room f true q w e = absurd (none-some e)
    room f false q w e = let i : f ≡ k = cc in rw (← i) (w, ltb-false _ _ q)

    known : (f : Option Layout) → form_at (le 4 p 84) forms ≡ f → room_for (declared_size p) f ≡ Some k → SoundLayout k × (head_end k ≤ declared_size p)
    known (Some f) q e = room f _ refl (form_sound (le 4 p 84) f q) e
    known None q e = absurd (none-some e)

    go : (b : Bool) → pick b (Some l) (room_for (declared_size p) (form_at (le 4 p 84) forms)) ≡ Some k → SoundLayout k × (head_end k ≤ declared_size p)
    go true e = let i : l ≡ k = cc in rw (← i) (s, h)
    go false e = known _ refl e

version-take : (p : List ℕ) → version_of (le 4 (take 4 p) 0) ≡ version_of (le 4 p 0)
version-take p = rw (le-take 4 4 p 0 (omega arith))

-- ---- checks 1 to 4

pub start_facts : (p : List ℕ) → AnswerHolds (StartFacts p) (run start_plan p)
unfolding start_plan
start_facts p =
    holds_reach 4 _ p _ λ _.
    holds_given _ 1 0 (version_of (le 4 (take 4 p) 0)) _ p λ v k.
    holds_reach 8 _ p _ λ _.
    holds_check _ 2 (signature_fault (take 8 p)) _ p λ g.
    holds_reach 16 _ p _ λ _.
    holds_check _ 3 (size_fault (layout_of v) (take 16 p)) _ p λ z.
    holds_reach 76 _ p _ λ w.
    holds_given _ 4 16 (name_end (take 76 p)) _ p λ n e.
    let s = (size_law (layout_of v) p).0 (sym (size_take (layout_of v) p) ∙ z) in
    holds_accept (StartFacts p) _ p
    (record {
      laid = refl;
      least = s.0;
      most = s.1;
      known = sym (version-take p) ∙ k;
      ended = e;
      named = w;
      signed = sym (signature_take p) ∙ g;
    })

pub start_complete : (p : List ℕ) (s : Start) → StartFacts p s → run start_plan p ≡ decided (accept s)
unfolding start_plan run
start_complete p s f =
    let v = s.version in
    let l : head_end (layout_of v) ≤ declared_size p = rw (← f.laid) f.least in
    reach_here 4 _ p (omega (arith, f.named))
    ∙ given_some 1 _ _ _ p v (version-take p ∙ f.known)
    ∙ reach_here 8 _ p (omega (arith, f.named))
    ∙ check_passed 2 _ _ p (signature_take p ∙ f.signed)
    ∙ reach_here 16 _ p (omega (arith, f.named))
    ∙ check_passed 3 _ _ p (size_take (layout_of v) p ∙ (size_law (layout_of v) p).1 (l, f.most))
    ∙ reach_here 76 _ p f.named
    ∙ given_some 4 _ _ _ p s.name_units f.ended
    ∙ rw (← f.laid)

pub start_met : (p : List ℕ) (r : Result Start Stop) (s : Start) → answer_of r ≡ run start_plan p → r ≡ Ok s → StartFacts p s
start_met p r s e q = (start_facts p).holds s (sym e ∙ ap answer_of q)

-- ---- checks 1 to 6

-- what checks 1 to 4 gave, where 21 gave `t`
abbrev before21 : Start → Start
before21 t = record { version = t.version; layout = layout_of t.version; name_units = t.name_units }

-- what is known once 21 has passed too
record FormFacts (p : List ℕ) (t : Start) : Type 0 where
  start : StartFacts p (before21 t)
  told : form_required (layout_of t.version) ≤ length p
  formed : form_in (layout_of t.version) p ≡ Some t.layout
  sound : SoundLayout t.layout
  least : head_end t.layout ≤ declared_size p

form_holds : (p : List ℕ) (s : Start) → StartFacts p s → AnswerHolds (FormFacts p) (run (form_plan s) p)
unfolding form_plan
form_holds p s f =
    holds_reach (form_required s.layout) _ p _ λ t.
    holds_given _ 21 84 (form_in s.layout (take (form_required s.layout) p)) _ p λ l e.
    let q : form_in s.layout p ≡ Some l = sym (form_take s.layout p (rw f.laid (form_required_lem s.version))) ∙ e in
    let k = form_facts s.layout l p q (rw f.laid (layout_sound s.version)) f.least in
    holds_accept (FormFacts p) _ p
    (record { start = rw (← f.laid) f; told = rw (← f.laid) t; formed = rw (← f.laid) q; sound = k.0; least = k.1 })

open_inside : (p : List ℕ) (s : Start) → FormFacts p s → head_end s.layout ≤ length p
    → outside_fault s.layout (head_of s.layout (take (head_end s.layout) p)) ≡ None
    → overlap_fault (head_of s.layout (take (head_end s.layout) p)) ≡ None
    → OpenFacts p
    (record { version = s.version; layout = s.layout; name_units = s.name_units; head = head_of s.layout (take (head_end s.layout) p) })
unfolding head_of
open_inside p s f w g a =
    let h = head_end s.layout in
    let b = take h p in
    let k : le 4 b 12 ≡ le 4 p 12 = le-take 4 h p 12 (omega (arith, f.sound.fixed)) in
    let u = none-outside s.layout (head_of s.layout b) g in
    let l : h ≤ le 4 b 12 = rw k f.least in
    record {
      start = f.start;
      told = f.told;
      formed = f.formed;
      least = f.least;
      whole = w;
      fields = refl;
      inside = g;
      apart = a;
      metrics = rw (← k) (section_end h (le 4 b 12) _ _ _ l u.0);
      trace = rw (← k) (section_end h (le 4 b 12) _ _ _ l u.1);
      strings = rw (← k) (section_end h (le 4 b 12) _ _ _ l u.2);
      volumes = rw (← k) (section_end h (le 4 b 12) _ _ _ l u.3);
    }

sections_hold : (p : List ℕ) (s : Start) → FormFacts p s → AnswerHolds (OpenFacts p) (run (section_plan s) p)
unfolding section_plan
sections_hold p s f =
    let h = head_of s.layout (take (head_end s.layout) p) in
    holds_reach (head_end s.layout) _ p _ λ w.
    holds_check _ 5 (outside_fault s.layout h) _ p λ g.
    holds_check _ 6 (overlap_fault h) _ p λ a.
    holds_accept (OpenFacts p) _ p (open_inside p s f w g a)

pub open_facts : (p : List ℕ) → AnswerHolds (OpenFacts p) (run open_plan p)
unfolding open_plan
open_facts p =
    holds_then _ start_plan _ p λ s e.
    holds_then _ (form_plan s) _ p λ t q.
    sections_hold p t ((form_holds p s ((start_facts p).holds s e)).holds t q)

pub open_complete : (p : List ℕ) (o : Opening) → OpenFacts p o → run open_plan p ≡ decided (accept o)
unfolding open_plan form_plan section_plan run
open_complete p o f =
    let l = layout_of o.version in
    let s : Start = record { version = o.version; layout = o.layout; name_units = o.name_units } in
    let form : run (form_plan (start_in o)) p ≡ decided (accept s) =
    reach_here (form_required l) _ p f.told
    ∙ given_some 21 _ _ _ p o.layout (form_take l p (form_required_lem o.version) ∙ f.formed) in
    let sections : run (section_plan s) p ≡ decided (accept o) =
    reach_here (head_end o.layout) _ p f.whole
    ∙ rw (← f.fields)
    (check_passed 5 (outside_fault o.layout o.head) _ p f.inside ∙ check_passed 6 (overlap_fault o.head) _ p f.apart) in
    sym
    (sym sections
    ∙ answer_then (form_plan (start_in o)) section_plan p _ form
    ∙ answer_then start_plan _ p _ (start_complete p (start_in o) f.start))

pub open_met : (p : List ℕ) (r : Result Opening Stop) (o : Opening) → answer_of r ≡ run open_plan p → r ≡ Ok o → OpenFacts p o
open_met p r o e q = (open_facts p).holds o (sym e ∙ ap answer_of q)

pub open_sound : (p : List ℕ) (o : Opening) → OpenFacts p o → SoundLayout o.layout
open_sound p o f =
    (form_facts (layout_of o.version) o.layout p f.formed (layout_sound o.version) f.start.least).0

-- how the sections' ends and lengths go back to the head's fields
pub record Shapes (l : Layout) (h : Head) : Type 0 where
  pub metrics_end : h.metrics.end ≡ pick (eqb h.metrics.len 0) (head_end l) (h.metrics.at + h.metrics.len)
  pub trace_end : h.trace.end ≡ pick (eqb h.trace.len 0) (head_end l) (h.trace.at + h.trace.len)
  pub strings_end : h.strings.end ≡ pick (eqb h.strings.len 0) (head_end l) (h.strings.at + h.strings.len)
  pub volumes_end : h.volumes.end ≡ pick (eqb h.volumes.len 0) (head_end l) (h.volumes.at + h.volumes.len)
  pub metrics_len : h.metrics.len ≡ h.metrics.count * metrics_entry l
  pub trace_len : h.trace.len ≡ h.trace.count * trace_entry l

pub head_shapes : (l : Layout) (b : List ℕ) → Shapes l (head_of l b)
unfolding head_of
head_shapes l b =
    record {
      metrics_end = refl;
      trace_end = refl;
      strings_end = refl;
      volumes_end = refl;
      metrics_len = refl;
      trace_len = refl;
    }

pub open_shapes : (p : List ℕ) (o : Opening) → OpenFacts p o → Shapes o.layout o.head
open_shapes p o f = rw f.fields (head_shapes o.layout (take (head_end o.layout) p))

-- ---- THE REQUIRED LENGTHS of checks 1 to 6 are at most 16 or S: a prefix that long gets no request

pub decided_start : (p : List ℕ) → 16 ≤ length p → declared_size p ≤ length p → Decided (run start_plan p)
unfolding start_plan
decided_start p h d =
    decided_reach 4 _ p (omega arith)
    (decided_given 1 0 (version_of (le 4 (take 4 p) 0)) _ p λ v _.
    decided_reach 8 _ p (omega arith)
    (decided_check 2 (signature_fault (take 8 p)) _ p λ _.
    decided_reach 16 _ p h
    (decided_check 3 (size_fault (layout_of v) (take 16 p)) _ p λ z.
    let l = ((size_law (layout_of v) p).0 (sym (size_take (layout_of v) p) ∙ z)).0 in
    decided_reach 76 _ p (omega (arith, l, (layout_sound v).fixed))
    (decided_given 4 16 (name_end (take 76 p)) _ p λ n _. decided_decide _ p))))

decided_form : (p : List ℕ) (s : Start) → StartFacts p s → declared_size p ≤ length p → Decided (run (form_plan s) p)
unfolding form_plan
decided_form p s f d =
    let sound : SoundLayout s.layout = rw f.laid (layout_sound s.version) in
    decided_reach (form_required s.layout) _ p (omega (arith, f.least, sound.fixed, sound.form))
    (decided_given 21 84 (form_in s.layout (take (form_required s.layout) p)) _ p λ l _. decided_decide _ p)

decided_sections : (p : List ℕ) (s : Start) → FormFacts p s → declared_size p ≤ length p → Decided (run (section_plan s) p)
unfolding section_plan
decided_sections p s f d =
    let h = head_of s.layout (take (head_end s.layout) p) in
    decided_reach (head_end s.layout) _ p (le_trans f.least d)
    (decided_check 5 (outside_fault s.layout h) _ p λ _.
    decided_check 6 (overlap_fault h) _ p λ _.
    decided_decide _ p)

pub decided_open : (p : List ℕ) → 16 ≤ length p → declared_size p ≤ length p → Decided (run open_plan p)
unfolding open_plan
decided_open p h d =
    decided_then start_plan _ p (decided_start p h d) λ s e.
    let f = (start_facts p).holds s e in
    decided_then (form_plan s) _ p (decided_form p s f d) λ t q. decided_sections p t ((form_holds p s f).holds t q) d

pub open_accepted : (p : List ℕ) (o : Opening) → decided (accept o) ≡ run open_plan p → OpenFacts p o
open_accepted p o e = (open_facts p).holds o (sym e)
