-- ALL FIFTEEN CHECKS of document 01's table: 1 to 6, which crate `head` has, with 21 of request 107 directly after 4, and here 7 to 15:
-- required length (document 01: reach), number, fault with its index and file offset. Then the whole-file reader's 16 and 17, and the
-- promises of the readers.
use Rattle.std.specs.Prelude.{◌≡◌, Bool, true, false, List, ℕ, ◌+◌, ◌*◌, max, eqb, ltb, length}
use Rattle.lists.specs.Count.{pick}
use Rattle.little_endian.specs.Number.{le}
use Rattle.layout.specs.Head.{declared_size_at, entry_offset}
use Rattle.layout.specs.Versions.{version_number, head_end, run_time_at, time_count, run_count_at, volume_entry, trace_entry, has_next}
use Rattle.layout.specs.declared.Version.{Version}
use Rattle.layout.specs.declared.Layout.{Layout}
use Rattle.incremental.specs.Decision.{Decision, accept, refuse, refusal}
use Rattle.incremental.specs.Plan.{Plan, decide, Answer, decided, wants, run, reach, check, done, ◌>>=◌, ◌>>◌}
use Rattle.sections.specs.Fields.{declared_size, stored_hash, part, link_count, places_fault, entries_fault}
use Rattle.sections.specs.declared.Head.{Head}
use Rattle.head.specs.Checks.{open_plan}
use Rattle.head.specs.declared.checks.Opening.{Opening}
use Rattle.names.specs.Names.{Named, in_metrics, misfit_fault, unsound_fault}
use Rattle.trace.specs.Links as links
use Rattle.volumes.specs.Volumes.{volumes_from}
use Rattle.reader.specs.declared.verdict.RunTimes.{RunTimes}
use Rattle.reader.specs.declared.verdict.Acceptance.{Acceptance}
use Rattle.reader.specs.Verdict.{Acceptable, Reads, verdict_in}
use Rattle.std.specs.Prelude.{Ok, Err, Result}
use Rattle.incremental.specs.declared.Refusal.{Refusal}
use Rattle.incremental.specs.declared.Stop.{Stop}

-- the reach of 10: the greater of metrics end and strings end; with no metrics entry H
abbrev pub names_required : Layout → Head → ℕ
names_required l h = pick (eqb h.metrics.count 0) (head_end l) (max h.metrics.end h.strings.end)

-- the reach of 11 to 13: the trace end; where trace entries have no next index H
abbrev pub trace_required : Layout → Head → ℕ
trace_required l h = pick (has_next l) h.trace.end (head_end l)

-- the reach of 14 and 15: the volumes end; with no volume H
abbrev pub volumes_required : Layout → Head → ℕ
volumes_required l h = pick (eqb h.volumes.count 0) (head_end l) h.volumes.end

-- the names of the metrics entries
abbrev pub names_in : Opening → List ℕ → Named
names_in o b = in_metrics o.layout (part o.head.metrics b)

-- the next indexes of the trace section, of the entries that have one
abbrev pub nexts_in : Opening → List ℕ → List ℕ
nexts_in o b = links.nexts (part o.head.trace b) (trace_entry o.layout) (link_count o.layout o.head)

-- where in the file each trace entry starts
abbrev pub link_at : Opening → ℕ → ℕ
link_at o = entry_offset o.head.trace.at (trace_entry o.layout)

-- what checks 1 to 6 give: the version, the layout of its head form, the name's length and the sections
abbrev pub opening : Version → Layout → ℕ → Head → Opening
opening v l n h = record { version = v; layout = l; name_units = n; head = h }

-- run time j, the latest at 0: the 8 bytes there where the version has so many, else 0 (request 106)
abbrev pub time_at : Layout → List ℕ → ℕ → ℕ
time_at l b j = pick (ltb j (time_count l)) (le 8 b (run_time_at l + 8 * j)) 0

-- how many run times the version has, and eight of them as they stand
abbrev pub times_in : Layout → List ℕ → RunTimes
times_in l b =
    record {
      count = time_count l;
      latest = time_at l b 0;
      second = time_at l b 1;
      third = time_at l b 2;
      fourth = time_at l b 3;
      fifth = time_at l b 4;
      sixth = time_at l b 5;
      seventh = time_at l b 6;
      eighth = time_at l b 7;
    }

-- the acceptance record, by the first H bytes and the chain count
unfoldable pub record_of : Opening → List ℕ → ℕ → Acceptance
record_of o b chains =
    record {
      version = version_number o.version;
      declared_size = declared_size b;
      name_units = o.name_units;
      stored_hash = stored_hash b;
      times = times_in o.layout b;
      run_count = le 4 b (run_count_at o.layout);
      metrics_count = o.head.metrics.count;
      trace_count = o.head.trace.count;
      volume_count = o.head.volumes.count;
      chain_count = chains;
    }

-- CHECKS 7 AND 8, with a working buffer of m places
unfoldable pub counts_plan : ℕ → Opening → Plan Unit
counts_plan m o = do
  b ← reach (head_end o.layout)
  check 7 (places_fault m (link_count o.layout o.head))
  check 8 (entries_fault o.head.volumes.count (volume_entry o.layout) o.head.volumes.len)
  done tt

-- CHECK 9
unfoldable pub fits_plan : Opening → Plan Unit
fits_plan o = do
  b ← reach o.head.metrics.end
  check 9 (misfit_fault o.layout o.head.metrics.at (names_in o b) o.head.metrics.count o.head.strings.len)
  done tt

-- CHECK 10
unfoldable pub texts_plan : Opening → Plan Unit
texts_plan o = do
  b ← reach (names_required o.layout o.head)
  check 10 (unsound_fault o.layout o.head.metrics.at (names_in o b) o.head.metrics.count (part o.head.strings b))
  done tt

-- CHECKS 11 TO 13; they give the next indexes
unfoldable pub trace_plan : Opening → Plan (List ℕ)
trace_plan o = do
  b ← reach (trace_required o.layout o.head)
  let s = nexts_in o b
  check 11 (links.astray_fault (link_at o) s)
  check 12 (links.shared_fault (link_at o) s)
  check 13 (links.cyclic_fault (link_at o) s)
  done s

-- CHECKS 14 AND 15
unfoldable pub volumes_plan : Opening → Plan Unit
volumes_plan o = do
  b ← reach (volumes_required o.layout o.head)
  decide (volumes_from (part o.head.volumes b) o.layout o.head.volumes.at o.head.volumes.count 0)
  done tt

-- CHECKS 7 TO 15, where 1 to 6 gave `o`; they give the record, by the first H bytes, and the table
unfoldable pub rest_plan : ℕ → Opening → Plan Acceptable
rest_plan m o = do
  counts_plan m o
  fits_plan o
  texts_plan o
  s ← trace_plan o
  volumes_plan o
  top ← reach (head_end o.layout)
  done (record { fields = record_of o top (links.chains s); table = links.predecessors s m })

-- ALL CHECKS, with a working buffer of m places
unfoldable pub read_plan : ℕ → Plan Acceptable
read_plan m = do
  o ← open_plan
  rest_plan m o

-- what they answer on a prefix
abbrev pub prefix_answer : List ℕ → ℕ → Answer Acceptable
prefix_answer p m = run (read_plan m) p

-- the whole-file reader: a request becomes 16, as does an acceptance of a file shorter than S; that of a longer one becomes 17
abbrev pub sized : Bool → Bool → Acceptable → Decision Acceptable
sized true longer x = refuse (refusal 16 0 declared_size_at)
sized false true x = refuse (refusal 17 0 declared_size_at)
sized false false x = accept x

-- S, as the record has it
abbrev pub size_of : Acceptable → ℕ
size_of x = x.fields.declared_size

abbrev pub whole : ℕ → Answer Acceptable → Answer Acceptable
whole n (decided (accept x)) = decided (sized (ltb n (size_of x)) (ltb (size_of x) n) x)
whole n (decided (refuse r)) = decided (refuse r)
whole n (wants k) = decided (refuse (refusal 16 0 declared_size_at))

-- what the whole-file reader answers on a file
abbrev pub file_answer : List ℕ → ℕ → Answer Acceptable
file_answer p m = whole (length p) (prefix_answer p m)

-- THE PROMISES of the two readers on bytes `p` and a working buffer, whatever it holds: the verdict, and the buffer afterwards
abbrev pub ReadsPrefix : List ℕ → List ℕ → Result Acceptance Stop → List ℕ → Type 0
ReadsPrefix p buffer v after = Reads (prefix_answer p (length buffer)) (length buffer) v after

abbrev pub ReadsFile : List ℕ → List ℕ → Result Acceptance Refusal → List ℕ → Type 0
ReadsFile p buffer v after = Reads (file_answer p (length buffer)) (length buffer) (verdict_in v) after

-- and of the whole-file reader that hands the opening on: an acceptance comes with what checks 1 to 6 give
abbrev pub accepted_in : Result (Acceptance × Opening) Refusal → Result Acceptance Refusal
accepted_in (Ok (a, o)) = Ok a
accepted_in (Err r) = Err r

pub record ReadsOpened (p buffer : List ℕ) (r : Result (Acceptance × Opening) Refusal) (after : List ℕ) : Type 0 where
  pub reads : ReadsFile p buffer (accepted_in r) after
  pub opens : (a : Acceptance) (o : Opening) → r ≡ Ok (a, o) → run open_plan p ≡ decided (accept o)
