-- What only private contracts need: how the bytes come into the place, and the checks on a description in place of its file.
use Rattle.std.specs.Prelude.{◌≡◌, List, [], ◌∷◌, ◌++◌, ℕ, ◌+◌, ◌-◌, ◌*◌, ◌^◌, ◌≤◌, ◌<◌, eqb, length, get_or, take, replicate, None, Err, Ok, Option, Result, Some}
use Rattle.std.proofs.lemmas.List.Edits.{sets}
use Rattle.lists.specs.Count.{pick}
use Rattle.lists.specs.Pairs.{first_of, second_of}
use Rattle.layout.specs.Head.{stored_hash_at, program_name_units, metrics_offset_at, metrics_count_at, entry_offset}
use Rattle.layout.specs.Head.{trace_offset_at, trace_count_at, strings_offset_at, strings_size_at, volumes_offset_at, volumes_count_at, volumes_size_at}
use Rattle.layout.specs.Versions.{version_number, head_end, run_time_at, run_count_at, metrics_entry, volume_entry, trace_entry}
use Rattle.layout.specs.declared.Version.{Version}
use Rattle.layout.specs.declared.Layout.{Layout}
use Rattle.incremental.specs.Decision.{Decision, accept, refuse, check, decision_of, ◌>>=◌, ◌>>◌}
use Rattle.incremental.specs.Plan.{Answer, decided}
use Rattle.incremental.specs.declared.Refusal.{Refusal}
use Rattle.sections.specs.declared.Head.{Head}
use Rattle.sections.specs.Fields.{section_of, places_fault, entries_fault}
use Rattle.names.specs.Names.{in_pairs, misfit_fault, unsound_fault}
use Rattle.trace.specs.Links.{link_checks, predecessors, firsts}
use Rattle.volumes.specs.Volumes.{volumes_from}
use Rattle.reader.specs.declared.verdict.Acceptance.{Acceptance}
use Rattle.reader.specs.declared.verdict.RunTimes.{RunTimes}
use Rattle.reader.specs.Verdict.{Acceptable}
use Rattle.writer.specs.declared.contents.Contents.{Contents}
use Rattle.writer.specs.declared.draft.Plan.{Plan}
use Rattle.writer.specs.declared.draft.Shape.{Shape}
use Rattle.writer.specs.Writes.{placed_answer, output_after}
use Rattle.writer.specs.LaidOut.{Field, number, spread, Description, before_zero, laid_by, name_kept, pairs, metrics_at, trace_at, strings_at}
use Rattle.writer.specs.LaidOut.{volumes_at, laid_size}

-- ---- the numbers of slices have their widths
pub record Widths (name metrics trace : List ℕ) : Type 0 where
  pub units : (k : ℕ) → get_or name k 0 < 65536
  pub fields : (k : ℕ) → get_or metrics k 0 < 256 ^ 4
  pub links : (k : ℕ) → get_or trace k 0 < 256 ^ 4

-- ---- bytes into the place

-- a list with some bytes put at a place; shut, so that a law finds the bytes from what it is given
unfoldable pub patch : List ℕ → ℕ → List ℕ → List ℕ
patch s at bytes = sets s at bytes

-- fields in rising order between a place and an end
abbrev pub Ordered : ℕ → List Field → ℕ → Type 0
Ordered from [] end = from ≤ end
Ordered from (f ∷ fs) end = (from ≤ f.at) × Ordered (f.at + length f.bytes) fs end

-- the fields with zeros between them, up to the end of the last
unfoldable pub with_gaps : ℕ → List Field → List ℕ
with_gaps from [] = []
with_gaps from (f ∷ fs) = (replicate (f.at - from) 0 ++ f.bytes) ++ with_gaps (f.at + length f.bytes) fs

-- 32-bit numbers at their places
abbrev pub numbers_at : List (ℕ × ℕ) → List Field
numbers_at [] = []
numbers_at (f ∷ fs) = number f.0 4 f.1 ∷ numbers_at fs

-- the fields of the head behind the program name, by a plan
abbrev pub fields_behind : Layout → Plan → Contents → List Field
fields_behind l p g =
    number stored_hash_at 4 g.stored_hash
    ∷ number metrics_offset_at 4 (metrics_at l)
    ∷ number metrics_count_at 4 p.metrics
    ∷ number trace_offset_at 4 p.trace_at
    ∷ number trace_count_at 4 p.trace
    ∷ number strings_offset_at 4 p.strings_at
    ∷ number strings_size_at 4 p.strings
    ∷ number volumes_offset_at 4 p.volumes_at
    ∷ number volumes_count_at 4 g.volume_count
    ∷ number volumes_size_at 4 p.volumes
    ∷ number (run_time_at l) 8 g.run_time
    ∷ number (run_count_at l) 4 g.run_count
    ∷ []

-- an entry that has the numbers of a pair
abbrev pub pair_of : Shape → ℕ → ℕ → List ℕ
pair_of e first second = spread 0 (number e.first 4 first ∷ number e.second 4 second ∷ []) e.size

abbrev pub pair_bytes : Shape → List ℕ → ℕ → List ℕ
pair_bytes e table i = pair_of e (first_of table i) (second_of table i)

-- ---- a description

-- how many units of a name a file carries, unless they leave no room for a zero
abbrev pub carried_units : List ℕ → Option ℕ
carried_units name =
    pick (eqb (length (take program_name_units (before_zero name))) program_name_units) None (Some (length (take program_name_units (before_zero name))))

-- ---- its checks

-- its head
abbrev pub head_for : Layout → Description → Head
head_for l d =
    record {
      declared_size = laid_size l d;
      metrics = section_of (head_end l) (metrics_at l) (pairs d.metrics * metrics_entry l) (pairs d.metrics);
      trace = section_of (head_end l) (trace_at l d) (pairs d.trace * trace_entry l) (pairs d.trace);
      strings = section_of (head_end l) (strings_at l d) (length d.strings) (length d.strings);
      volumes = section_of (head_end l) (volumes_at l d) (length d.volumes) d.volume_count;
    }

-- its next indexes
abbrev pub links_in : Description → List ℕ
links_in d = firsts d.trace (pairs d.trace)

-- checks 7 to 15 on the tables and the sections; what passes them has its chain count
unfoldable pub section_checks : Layout → Description → ℕ → Decision ℕ
section_checks l d m = do
  check 7 (places_fault m (pairs d.trace))
  check 8 (entries_fault d.volume_count (volume_entry l) (length d.volumes))
  check 9 (misfit_fault l (metrics_at l) (in_pairs d.metrics) (pairs d.metrics) (length d.strings))
  check 10 (unsound_fault l (metrics_at l) (in_pairs d.metrics) (pairs d.metrics) d.strings)
  n ← link_checks (entry_offset (trace_at l d) (trace_entry l)) (links_in d)
  volumes_from d.volumes l (volumes_at l d) d.volume_count 0
  accept n

-- the record of n chains
abbrev pub times_for : ℕ → RunTimes
times_for t = record { count = 1; latest = t; second = 0; third = 0; fourth = 0; fifth = 0; sixth = 0; seventh = 0; eighth = 0 }

abbrev pub record_for : Version → Layout → Description → ℕ → Acceptance
record_for v l d n =
    record {
      version = version_number v;
      declared_size = laid_size l d;
      name_units = length (name_kept d);
      stored_hash = d.stored_hash;
      times = times_for d.run_time;
      run_count = d.run_count;
      metrics_count = pairs d.metrics;
      trace_count = pairs d.trace;
      volume_count = d.volume_count;
      chain_count = n;
    }

-- what all checks give, with m working places
abbrev pub acceptable_for : Version → Layout → Description → ℕ → ℕ → Acceptable
acceptable_for v l d m n = record { fields = record_for v l d n; table = predecessors (links_in d) m }

abbrev pub described : Version → Layout → Description → ℕ → Decision Acceptable
described v l d m = section_checks l d m >>= λ n. accept (acceptable_for v l d m n)

-- what the checks of the sections answer, with m working places, and the buffer where they pass
pub record SectionsAnswered (l : Layout) (d : Description) (m : ℕ) (r : Result ℕ Refusal) (buffer : List ℕ) : Type 0 where
  pub answer : decision_of r ≡ section_checks l d m
  pub holds : (n : ℕ) → r ≡ Ok n → buffer ≡ predecessors (links_in d) m

-- an answer, with the buffer that an acceptance leaves
abbrev pub given_by : Result Acceptance Refusal → List ℕ → Answer Acceptable
given_by (Ok a) after = decided (accept (record { fields = a; table = after }))
given_by (Err f) after = decided (refuse f)

-- the writer's promise but for the buffer after a refusal: an acceptance leaves the table in it
pub record Drafted (answer : Answer Acceptable) (file output : List ℕ) (r : Result Acceptance Refusal) (buffer' output' : List ℕ) : Type 0 where
  pub verdict : given_by r buffer' ≡ answer
  pub placed : output' ≡ output_after answer file output

-- the same by a version's layout, with m working places
abbrev pub DraftedBy : Version → Layout → Description → ℕ → List ℕ → Result Acceptance Refusal → List ℕ → List ℕ → Type 0
DraftedBy v l d m output r buffer' output' =
    Drafted (placed_answer (laid_by v l d) m (length output)) (laid_by v l d) output r buffer' output'
