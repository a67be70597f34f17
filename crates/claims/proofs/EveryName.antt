-- Every name of an accepted file is shown: demand 2 gives that the file is allowed, and the queries' laws that it is shown.
use mathlib.Core.Path.{◌≡◌, ◌∙◌, ap}
use mathlib.Core.Bool.{true}
use mathlib.Core.List.{List}
use Prim.Native.Nat.{ℕ, ◌+◌, ◌*◌, ◌≤◌, ◌<◌}
use native.Mathlib.Nat.{mul-le-mul_right}
use native.Mathlib.Omega.{arith}
use borrow.Author.Tests.{le-leb, lt-ltb}
use denote.Ref.{Bor}
use lib.ListN.{length, length-take, length-drop}
use Rattle.layout.specs.Head.{program_name_at}
use Rattle.layout.specs.Versions.{head_end, metrics_entry}
use Rattle.incremental.specs.Decision.{accept}
use Rattle.incremental.specs.Plan.{decided, run}
use Rattle.sections.specs.Fields.{part}
use Rattle.head.specs.Checks.{start_plan, open_plan}
use Rattle.head.specs.Opened.{OpenFacts, start_in}
use Rattle.head.proofs.Facts.{start_complete, open_complete, open_sound, open_shapes}
use Rattle.head.proofs.Rules.{part_length}
use Rattle.head.specs.declared.checks.Opening.{Opening}
use Rattle.volumes.specs.Volumes.{entry_at, volume_of, reference_of}
use Rattle.query.specs.declared.Place.{Place}
use Rattle.query.specs.Queries.{ShownAt, program_place, name_place, entry_place, volume_shown, volume_facts, volume_asked, reference_shown, reference_asked}
use Rattle.query.specs.Private.{section_shown}
use Rattle.query.proofs.Parts.{part_there_to}
use Rattle.query.proofs.Entries.{entry_shown_law, name_placed}
use Rattle.query.proofs.Volumes.{section_shown_law, volume_shown_law, path_placed}
use Rattle.query.specs.Shown.{EntryShown}
use Rattle.reader.specs.Allowed.{Allowed}
use Rattle.reader.proofs.Allowed.{opens, demand_2}
use Rattle.claims.specs.EveryName.{Lies, program_at, AllShown, EveryName}
use Rattle.std.specs.Prelude.{Some}

-- a part that the file reaches to its end lies there whole
lies : (file r : Bor (List ℕ)) (w : Place) → w.at + w.len ≤ length file.now → ShownAt file w r → Lies file w r
lies file r w h q =
    record {
      contents = q.contents;
      size = ap length q.contents ∙ simp (length-take, length-drop) (omega arith);
      allocation = q.allocation;
      offset = q.offset ∙ rw (le-leb w.at (length file.now) (omega arith));
    }

module _ (p : List ℕ) (o : Opening) (a : Allowed p o) where
  pub facts : OpenFacts p o
  facts = opens p o a

  started : run start_plan p ≡ decided (accept (start_in o))
  started = start_complete p (start_in o) facts.start

  pub opened : run open_plan p ≡ decided (accept o)
  opened = open_complete p o facts

  pub program_is : program_place p ≡ Some (program_at o)
  program_is = rw started

  -- every entry lies in its section, and the section in the file
  metrics-there : length (part o.head.metrics p) ≡ o.head.metrics.len
  metrics-there =
      part_length o.head.metrics (head_end o.layout) p (open_shapes p o facts).metrics_end (omega (arith, facts.metrics, a.complete))

  entry-is-shown : (i : ℕ) → i < o.head.metrics.count → EntryShown o p i
  entry-is-shown i l =
      let n = (i + 1) * metrics_entry o.layout in
      let m : n ≤ o.head.metrics.count * metrics_entry o.layout = mul-le-mul_right (metrics_entry o.layout) (omega arith) in
      let some : 1 * metrics_entry o.layout ≤ n = mul-le-mul_right (metrics_entry o.layout) (omega arith) in
      let t =
      (part_there_to o.head.metrics p n (omega (arith, some, (open_sound p o facts).name_offset))).0
      (omega (arith, metrics-there, (open_shapes p o facts).metrics_len)) in
      record { below = l; in_section = t.0; in_file = t.1; name = a.names i l }

  pub entry_is : (i : ℕ) → i < o.head.metrics.count → entry_place p i ≡ Some (name_place o p i)
  entry_is i l = rw (opened, (entry_shown_law o p i (open_sound p o facts)).1 (entry-is-shown i l))

  pub volumes_there : length (part o.head.volumes p) ≡ o.head.volumes.len
  volumes_there =
      part_length o.head.volumes (head_end o.layout) p (open_shapes p o facts).volumes_end (omega (arith, facts.volumes, a.complete))

  pub volume_is_shown : (i : ℕ) → i < o.head.volumes.count → volume_shown o p i ≡ true
  unfolding volume_shown section_shown
  volume_is_shown i l =
      (section_shown_law o.head.volumes o.layout (part o.head.volumes p) i).1
      (record { room = a.entries; below = l; whole = omega (arith, volumes_there); sound = a.volumes i l })

  volume_is : (i : ℕ) → i < o.head.volumes.count → volume_asked p i ≡ Some (volume_facts o p i)
  volume_is i l = rw (opened, volume_is_shown i l)

  reference-is : (i k : ℕ) → i < o.head.volumes.count → k < (volume_facts o p i).references
      → reference_asked p i k ≡ Some (reference_of (part o.head.volumes p) (entry_at o.layout i) k)
  unfolding reference_shown volume_facts
  reference-is i k l h = rw (opened, volume_is_shown i l, lt-ltb k (volume_of (part o.head.volumes p) (entry_at o.layout i)).references h)

all_shown : (file : Bor (List ℕ)) (o : Opening) → Allowed file.now o → AllShown file o
all_shown file o a =
    let p = file.now in
    let named : program_name_at + 2 * o.name_units ≤ length p = omega (arith, a.name.short, (facts p o a).start.named) in
    record {
      program = λ r q. q.answer ∙ program_is p o a;
      program_name = λ r q. lies file r (program_at o) named (rw (program_is p o a) at q);
      entry = λ i l r q. q.answer ∙ entry_is p o a i l;
      entry_name = λ i l r q.
          lies file r (name_place o p i) (omega (arith, (name_placed o p i (facts p o a) (entry-is-shown p o a i l)).in_file)) (rw (entry_is p o a i l) at q);
      volume = λ i l r q. q.answer ∙ volume_is p o a i l;
      volume_path = λ i l r q.
          let f = facts p o a in
          let shown = (volume_shown_law o p i (open_sound p o f)).0 (volume_is_shown p o a i l) in
          lies file r (volume_facts o p i).path (path_placed o p i f shown).1
          (rw (volume_is p o a i l) at q);
      reference = λ i k l h r q. q.answer ∙ reference-is p o a i k l h;
    }

pub every_name : EveryName
every_name file buffer v after a r e =
    let d = (demand_2 file.now buffer v after r).sound a e in
    (d.0, d.1, d.3, all_shown file d.0 d.1)
