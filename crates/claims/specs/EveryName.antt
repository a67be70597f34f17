-- EVERY NAME of demand 2 (document 00): in a file that the whole-file reader accepts, the program name, every metrics entry, every volume
-- and every reference can be shown, with the fields and at the place that the layout gives.
use Rattle.std.specs.Prelude.{◌≡◌, List, ℕ, ◌+◌, ◌*◌, ◌<◌, length}
use Rattle.std.specs.Borrow.{Bor}
use Rattle.lists.specs.Answer.{Answers}
use Rattle.layout.specs.Head.{program_name_at}
use Rattle.sections.specs.Fields.{part}
use Rattle.head.specs.declared.checks.Opening.{Opening}
use Rattle.volumes.specs.Volumes.{entry_at, reference_of}
use Rattle.query.specs.declared.Place.{Place}
use Rattle.query.specs.Queries.{bytes_at, ShownAt, place_of, place_said, program_place, name_place, entry_place}
use Rattle.query.specs.Queries.{volume_facts, volume_values, volume_said, volume_asked, reference_said, reference_asked}
use Rattle.reader.specs.declared.verdict.Acceptance.{Acceptance}
use Rattle.reader.specs.Checks.{ReadsFile}
use Rattle.reader.specs.Allowed.{Allowed, given_record}
use Rattle.std.specs.Prelude.{Ok, Option, Result, Some}
use Rattle.volumes.specs.declared.Reference.{Reference}
use Rattle.query.specs.declared.VolumeFacts.{VolumeFacts}
use Rattle.incremental.specs.declared.Refusal.{Refusal}

-- `r` is that place of the borrowed file, whole: its very bytes
pub record Lies (file : Bor (List ℕ)) (w : Place) (r : Bor (List ℕ)) : Type 0 where
  pub contents : r.now ≡ bytes_at w file.now
  pub size : length r.now ≡ w.len
  pub allocation : r.ref_ptr.0 ≡ file.ref_ptr.0
  pub offset : r.ref_ptr.1 ≡ file.ref_ptr.1 + w.at

-- the program name's place
abbrev pub program_at : Opening → Place
program_at o = record { at = program_name_at; len = 2 * o.name_units }

-- what functions that meet the queries' promises give for a file whose sections are those of `o`
pub record AllShown (file : Bor (List ℕ)) (o : Opening) : Type 0 where
  pub program : (r : Option Place) → Answers place_said (program_place file.now) r → r ≡ Some (program_at o)
  pub program_name : (r : Bor (List ℕ)) → ShownAt file (place_of (program_place file.now)) r → Lies file (program_at o) r
  pub entry : (i : ℕ) → i < o.head.metrics.count → (r : Option Place) → Answers place_said (entry_place file.now i) r
      → r ≡ Some (name_place o file.now i)
  pub entry_name : (i : ℕ) → i < o.head.metrics.count → (r : Bor (List ℕ)) → ShownAt file (place_of (entry_place file.now i)) r
      → Lies file (name_place o file.now i) r
  pub volume : (i : ℕ) → i < o.head.volumes.count → (r : Option VolumeFacts) → Answers volume_said (volume_asked file.now i) r
      → r ≡ Some (volume_facts o file.now i)
  pub volume_path : (i : ℕ) → i < o.head.volumes.count → (r : Bor (List ℕ))
      → ShownAt file (volume_values (volume_asked file.now i)).path r → Lies file (volume_facts o file.now i).path r
  pub reference : (i k : ℕ) → i < o.head.volumes.count → k < (volume_facts o file.now i).references
      → (r : Option Reference) → Answers reference_said (reference_asked file.now i k) r
      → r ≡ Some (reference_of (part o.head.volumes file.now) (entry_at o.layout i) k)

-- the statement, over the promises of the whole-file reader and of the queries
abbrev pub EveryName : Type 0
EveryName = (file : Bor (List ℕ)) (buffer : List ℕ) (v : Result Acceptance Refusal) (after : List ℕ) (a : Acceptance)
    → ReadsFile file.now buffer v after
    → v ≡ Ok a
    → (o : Opening) × Allowed file.now o × (a ≡ given_record o file.now) × AllShown file o
