-- Request 101 over the promise of `write_file`: what the writer's answer, the working buffer and the place say of the file that the
-- description gives, which is `laid_out`.
use Rattle.std.specs.Prelude.{◌≡◌, List, ◌⊎◌, ℕ, ◌+◌, ◌*◌, ◌≤◌, ◌<◌, length, get_or, take, drop}
use Rattle.lists.specs.Pairs.{first_of, second_of}
use Rattle.little_endian.specs.Number.{le}
use Rattle.layout.specs.Head.{version_at, program_name_at, entry_offset}
use Rattle.layout.specs.Versions.{layout_of, trace_entry}
use Rattle.layout.specs.declared.Version.{Version}
use Rattle.layout.specs.declared.Version.TheVariants.{V17, V23}
use Rattle.incremental.specs.Decision.{accept, refuse, refusal}
use Rattle.incremental.specs.Plan.{decided}
use Rattle.incremental.specs.declared.Refusal.{Refusal}
use Rattle.lists.specs.Filled.{filled}
use Rattle.query.specs.Queries.{program_place, entry_place}
use Rattle.reader.specs.declared.verdict.Acceptance.{Acceptance}
use Rattle.reader.specs.Verdict.{Acceptable, verdict_in}
use Rattle.reader.specs.Checks.{file_answer, ReadsFile}
use Rattle.writer.specs.LaidOut.{Description, Numbers, laid_out, before_zero, pairs, trace_at, strings_at}
use Rattle.writer.specs.Writes.{Writes}
use Rattle.std.specs.Prelude.{Err, Ok, Result, Some}
use Rattle.incremental.specs.declared.Stop.TheVariants.{Wanted}

-- "A writer for versions 17 and 23": the version that a number asks for
abbrev pub AsksFor : ℕ → Version → Type 0
AsksFor n v = ((n ≡ 17) × (v ≡ V17)) ⊎ ((n ≡ 23) × (v ≡ V23))

-- the numbers of its refusals: 2, 5, 6, 16, 17 and 21 are not among them
abbrev pub Occurs : ℕ → Type 0
Occurs n = (n ≡ 1) ⊎ ((n ≡ 3) ⊎ ((n ≡ 4) ⊎ (((7 ≤ n) × (n ≤ 15)) ⊎ (n ≡ 20))))

-- the record has the hash, the run time, the run count and the volume count given, and counts the pairs of the tables
pub record EqualFields (d : Description) (a : Acceptance) : Type 0 where
  pub hash : a.stored_hash ≡ d.stored_hash
  pub time : a.times.latest ≡ d.run_time
  pub runs : a.run_count ≡ d.run_count
  pub metrics : a.metrics_count ≡ pairs d.metrics
  pub trace : a.trace_count ≡ pairs d.trace
  pub volumes : a.volume_count ≡ d.volume_count

-- an acceptance with the record `a`, whose declared size is S
pub record FileWritten (v : Version) (d : Description) (buffer output : List ℕ) (a : Acceptance) (buffer' output' : List ℕ) : Type 0 where
  -- "It lays a file into a lent place": the first S bytes are the laid-out file
  pub size : a.declared_size ≡ length (laid_out v d)
  pub written : take a.declared_size output' ≡ laid_out v d
  -- "bytes past the file stay"
  pub rest : drop a.declared_size output' ≡ drop a.declared_size output
  pub long : length output' ≡ length output
  -- "What it writes the reader accepts with equal fields, name and working buffer": the same record and the same buffer
  pub read_again : ReadsFile (take a.declared_size output') buffer (Ok a) buffer'
  -- "equal fields": those of the record are those given
  pub fields : EqualFields d a
  -- the program name is shown, from byte 16, and is "a name up to its first zero"
  pub name_shown_lem : program_place (laid_out v d) ≡ Some (record { at = program_name_at; len = 2 * length (before_zero d.name) })
  pub name_written : (i : ℕ) → i < length (before_zero d.name) → le 2 (laid_out v d) (program_name_at + 2 * i) ≡ get_or d.name i 0
  -- each metrics entry is shown with the "name offset and length" given: so many bytes into the string section, so many units
  pub entry_written : (i : ℕ) → i < pairs d.metrics
      → entry_place (laid_out v d) i ≡ Some (record { at = strings_at (layout_of v) d + first_of d.metrics i; len = 2 * second_of d.metrics i })
  -- each trace entry has the "next and block count" given
  pub next_written : (i : ℕ) → i < pairs d.trace
      → le 4 (laid_out v d) (entry_offset (trace_at (layout_of v) d) (trace_entry (layout_of v)) i) ≡ first_of d.trace i
  pub blocks_written : (i : ℕ) → i < pairs d.trace
      → le 4 (laid_out v d) (entry_offset (trace_at (layout_of v) d) (trace_entry (layout_of v)) i + 4) ≡ second_of d.trace i

-- what the promise says, with the working buffer and the place before and after
pub record WriterSays (version : ℕ) (d : Description) (buffer output : List ℕ) (r : Result Acceptance Refusal) (buffer' output' : List ℕ) : Type 0 where
  -- after an acceptance the file is written
  pub written : (a : Acceptance) → r ≡ Ok a → (v : Version) × AsksFor version v × FileWritten v d buffer output a buffer' output'
  -- "It answers with that file's acceptance record": where the reader accepts the file and the place has room for it
  pub accepted_alike : (v : Version) → AsksFor version v → (x : Acceptable) → file_answer (laid_out v d) (length buffer) ≡ decided (accept x)
      → length (laid_out v d) ≤ length output → r ≡ Ok x.fields
  -- "Every file it can't write is named by the reader's own number, found as if the file had been laid out", with index and file offset
  pub refused_alike : (v : Version) → AsksFor version v → (f : Refusal) → file_answer (laid_out v d) (length buffer) ≡ decided (refuse f) → r ≡ Err f
  -- "20, index 0, place too short for the laid-out file, checked last"
  pub short : (v : Version) → AsksFor version v → (x : Acceptable) → file_answer (laid_out v d) (length buffer) ≡ decided (accept x)
      → length output < length (laid_out v d) → r ≡ Err (refusal 20 0 0)
  -- "any other getting 1"
  pub other : (version ≡ 17 → ⊥) → (version ≡ 23 → ⊥) → r ≡ Err (refusal 1 0 version_at)
  -- "the place unchanged in every refusal", and the working buffer filled
  pub unchanged : (f : Refusal) → r ≡ Err f → (output' ≡ output) × (buffer' ≡ filled (length buffer))
  -- a laid-out file is never refused with 2, 5, 6, 16, 17 or 21, and no more bytes are asked for
  pub never : (f : Refusal) → r ≡ Err f → Occurs f.number
  pub no_request : (k : ℕ) → verdict_in r ≡ Err (Wanted k) → ⊥

-- the statement, of a description whose numbers fit their widths
abbrev pub WritersSay : Type 0
WritersSay = (version : ℕ) (d : Description) (buffer output : List ℕ) (r : Result Acceptance Refusal) (buffer' output' : List ℕ)
    → Numbers d
    → Writes version d buffer output r buffer' output'
    → WriterSays version d buffer output r buffer' output'
