-- DEMAND 2, the proof: what checks 1 to 6 and 7 to 15 accept, in both directions, is what the layout allows.
use Rattle.incremental.specs.declared.Refusal.{Refusal}
use mathlib.Core.Path.{◌≡◌, refl, sym, ◌∙◌, ap}
use mathlib.Core.List.{List}
use mathlib.Core.Logic.{inl, inr}
use Prim.Native.Nat.{ℕ, ◌+◌, ◌≤◌}
use native.Mathlib.Omega.{arith}
use borrow.Author.Tests.{eq-eqb}
use lib.Dec.{eqb}
use lib.ListN.{length}
use Rattle.lists.specs.Count.{pick}
use Rattle.layout.specs.Versions.{layout_of, head_end}
use Rattle.layout.proofs.Laws.{layout_sound}
use Rattle.incremental.specs.Plan.{Answer}
use Rattle.sections.specs.Fields.{declared_size, link_count, head_of, size_in}
use Rattle.head.specs.Rules.{Within}
use Rattle.head.specs.Opened.{OpenFacts}
use Rattle.head.proofs.Rules.{signature_law, outside_law, shares_law}
use Rattle.head.proofs.Facts.{Shapes, head_shapes, open_sound, form_facts}
use Rattle.sections.specs.declared.Section.{Section}
use Rattle.sections.specs.declared.Head.{Head}
use Rattle.head.specs.declared.checks.Opening.{Opening}
use Rattle.trace.specs.Links.{after}
use Rattle.reader.specs.declared.verdict.Acceptance.{Acceptance}
use Rattle.reader.specs.Verdict.{verdict_in, Acceptable, values_of, answer_values, buffer_after}
use Rattle.reader.proofs.Values.{accepted_answer, same_verdicts}
use Rattle.reader.specs.Checks.{record_of, prefix_answer, file_answer, ReadsFile}
use Rattle.reader.proofs.Taken.{head-take, name_ends}
use Rattle.reader.proofs.Rest.{RestFacts, read_facts, read_complete, whole_accepted, whole-accepts}
use Rattle.reader.specs.Allowed.{Allowed, given_record, given_table, AcceptedExactly}
use Rattle.std.specs.Prelude.{Ok, Result}

-- a section that is within S ends by S, for an empty one ends at H
within_end : (h size : ℕ) (s : Section) → h ≤ size → s.end ≡ pick (eqb s.len 0) h (s.at + s.len) → Within h size s → s.end ≤ size
within_end h size s l e (inl z) =
    let q : s.end ≡ h = e ∙ rw (eq-eqb _ _ z) in
    omega arith
within_end h size s l e (inr w) = w.1

-- checks 1 to 6 accept what is allowed
pub opens : (p : List ℕ) (o : Opening) → Allowed p o → OpenFacts p o
unfolding head_of
opens p o a =
    let h = head_end o.layout in
    let found = form_facts (layout_of o.version) o.layout p a.form (layout_sound o.version) a.least in
    let sound = found.0 in
    let low = found.1 in
    let first = layout_sound o.version in
    let b = sound.fixed in
    let g : Shapes o.layout o.head = rw a.sections (head_shapes o.layout p) in
    let size : size_in o.head ≡ declared_size p = ap (λ (x : Head). size_in x) a.sections in
    let l : h ≤ size_in o.head = rw size low in
    record {
      start =
          record {
            laid = refl;
            least = a.least;
            most = a.most;
            known = a.version;
            ended = (name_ends p o.name_units (omega (arith, b, low, a.complete))).1 a.name;
            named = omega (arith, b, low, a.complete);
            signed = (signature_law p).1 a.signature;
          };
      told = omega (arith, first.form, first.fixed, a.least, a.complete);
      formed = a.form;
      least = low;
      whole = omega (arith, low, a.complete);
      fields = a.sections ∙ sym (head-take o.layout p sound);
      inside = (outside_law o.layout o.head).1 a.inside;
      apart = (shares_law o.head).1 a.apart;
      metrics = rw (← size) (within_end h _ o.head.metrics l g.metrics_end a.inside.metrics);
      trace = rw (← size) (within_end h _ o.head.trace l g.trace_end a.inside.trace);
      strings = rw (← size) (within_end h _ o.head.strings l g.strings_end a.inside.strings);
      volumes = rw (← size) (within_end h _ o.head.volumes l g.volumes_end a.inside.volumes);
    }

-- and so do checks 7 to 15
passes : (m : ℕ) (p : List ℕ) (o : Opening) → Allowed p o → link_count o.layout o.head ≤ m
    → RestFacts m p o (record { fields = given_record o p; table = given_table o p m })
passes m p o a l =
    record {
      places = l;
      entries = a.entries;
      names = a.names;
      free = record { links = a.links; unshared = a.unshared; acyclic = a.acyclic };
      volumes = a.volumes;
      fields = refl;
      table = refl;
    }

-- what all of them accept is allowed
allowed : (m : ℕ) (p : List ℕ) (o : Opening) (x : Acceptable) → length p ≡ declared_size p → OpenFacts p o → RestFacts m p o x → Allowed p o
allowed m p o x c f r =
    record {
      version = f.start.known;
      signature = (signature_law p).0 f.start.signed;
      least = f.start.least;
      most = f.start.most;
      complete = c;
      form = f.formed;
      name = (name_ends p o.name_units f.start.named).0 f.start.ended;
      sections = f.fields ∙ head-take o.layout p (open_sound p o f);
      inside = (outside_law o.layout o.head).0 f.inside;
      apart = (shares_law o.head).0 f.apart;
      entries = r.entries;
      names = r.names;
      links = r.free.links;
      unshared = r.free.unshared;
      acyclic = r.free.acyclic;
      volumes = r.volumes;
    }

-- the declared size of an acceptance
sizes : (o : Opening) (p : List ℕ) (n : ℕ) → (record_of o p n).declared_size ≡ declared_size p
unfolding record_of
sizes o p n = refl

-- DEMAND 2
pub demand_2 : (p buffer : List ℕ) (v : Result Acceptance Refusal) (after : List ℕ) → ReadsFile p buffer v after → AcceptedExactly p buffer v after
demand_2 p buffer v after r = record { sound = is-allowed; complete = is-accepted }
  where
    is-allowed : (a : Acceptance) → v ≡ Ok a
        → (o : Opening) × Allowed p o × (link_count o.layout o.head ≤ length buffer) × (a ≡ given_record o p) × (after ≡ given_table o p (length buffer))
    is-allowed a e =
        let m = length buffer in
        let y = accepted_answer (file_answer p m) a (ap (λ (x : Result Acceptance Refusal). values_of (verdict_in x)) (sym e) ∙ r.verdict) in
        let x = y.0 in
        let w = whole_accepted (length p) (prefix_answer p m) x y.1 in
        let t = (read_facts m p).holds x w.0 in
        let o = t.0 in
        let g = t.2 in
        let size : x.fields.declared_size ≡ declared_size p = ap (λ (b : Acceptance). b.declared_size) g.fields ∙ sizes o p _ in (
          o,
          allowed m p o x (sym w.1 ∙ size) t.1 g,
          g.places,
          y.2 ∙ g.fields,
          r.buffer ∙ ap (λ (z : Answer Acceptable). buffer_after z m) y.1 ∙ g.table,
        )

    is-accepted : (o : Opening) → Allowed p o → link_count o.layout o.head ≤ length buffer
        → (v ≡ Ok (given_record o p)) × (after ≡ given_table o p (length buffer))
    is-accepted o a l =
        let m = length buffer in
        let x : Acceptable = record { fields = given_record o p; table = given_table o p m } in
        let e = read_complete m p o x (opens p o a) (omega (arith, a.complete)) (passes m p o a l) in
        let w = whole-accepts (length p) (prefix_answer p m) x e (sizes o p _ ∙ sym a.complete) in
        (same_verdicts v (Ok (given_record o p)) (r.verdict ∙ ap answer_values w), r.buffer ∙ ap (λ (z : Answer Acceptable). buffer_after z m) w)
