-- Answers over the C boundary: a number, and values laid into an output that takes as many as fit.
use Rattle.std.specs.Prelude.{◌≡◌, List, [], ◌∷◌, ◌++◌, ℕ, length, take, drop}
use Rattle.lists.specs.Answer.{Said}
use Rattle.lists.specs.Count.{pick}
use Rattle.incremental.specs.Plan.{Answer}
use Rattle.reader.specs.Verdict.{Acceptable, Values, answer_values, buffer_after}
use Rattle.reader.specs.Checks.{prefix_answer, file_answer}
use Rattle.walk.specs.Walk as walk
use Rattle.writer.specs.LaidOut.{Description}
use Rattle.writer.specs.Writes.{writable, write_answer, file_for, output_after}
use Rattle.lists.specs.Filled.{filled}
use Rattle.readings.specs.Recording.{recorded}
use Rattle.readings.specs.Replay.{saying_of, answers_after, answer_count}
use Rattle.readings.specs.declared.pieces.Progress.{Progress}
use Rattle.readings.specs.declared.pieces.Fed.{Fed}
use Rattle.readings.specs.Feeding.{served_count, begun_work, begun_answers, fed_by, fed_answers, end_said, end_answers}
use Rattle.catalogue.specs.declared.Fields.{Fields}
use Rattle.catalogue.specs.Line.{LineAnswer, can_write, line_of}
use Rattle.year.specs.Year as year

-- the number of the interface: raised with each function or place that is added or changed
abbrev pub interface : ℕ
interface = 1

-- the values that fit, and the rest of the output as it was
abbrev pub overlay : List ℕ → List ℕ → List ℕ
overlay out values = take (length out) values ++ drop (length values) out

-- THE PROMISE of a function that says a number and values: it answers the number, and the values are in its output
pub record Answered (said : Said) (r : ℕ) (out out' : List ℕ) : Type 0 where
  pub number : r ≡ said.number
  pub output : out' ≡ overlay out said.values

-- ---- a catalogue line

-- its fields in order
abbrev pub line_values : Fields → List ℕ
line_values f = f.size ∷ f.hash ∷ f.runs ∷ f.version ∷ []

-- reading one: 0 or 18, and the fields, zeros where there is no line
abbrev pub line_said : LineAnswer → Said
line_said a = record { number = a.number; values = line_values a.fields }

abbrev pub fields_of : ℕ → ℕ → ℕ → ℕ → Fields
fields_of size hash runs version = record { size = size; hash = hash; runs = runs; version = version }

-- writing a line: 0 or 19, and the output afterwards
pub record LineWriting (f : Fields) (before : List ℕ) (r : ℕ) (after : List ℕ) : Type 0 where
  pub number : r ≡ pick (can_write f (length before)) 0 19
  pub output : after ≡ pick (can_write f (length before)) (line_of 8 f ++ drop 27 before) before

-- ---- the readers

-- a verdict's values in order: refusal number and index, bytes wanted, the acceptance record with the latest run time, the refusal's
-- file offset, how many run times there are, and the seven older ones
abbrev pub verdict_values : Values → List ℕ
verdict_values v =
    v.number
    ∷ v.index
    ∷ v.wanted
    ∷ v.fields.version
    ∷ v.fields.declared_size
    ∷ v.fields.name_units
    ∷ v.fields.stored_hash
    ∷ v.fields.times.latest
    ∷ v.fields.run_count
    ∷ v.fields.metrics_count
    ∷ v.fields.trace_count
    ∷ v.fields.volume_count
    ∷ v.fields.chain_count
    ∷ v.offset
    ∷ v.fields.times.count
    ∷ v.fields.times.second
    ∷ v.fields.times.third
    ∷ v.fields.times.fourth
    ∷ v.fields.times.fifth
    ∷ v.fields.times.sixth
    ∷ v.fields.times.seventh
    ∷ v.fields.times.eighth
    ∷ []

abbrev pub verdict_said : Values → Said
verdict_said v = record { number = v.kind; values = verdict_values v }

-- what a reader says over the C boundary: 0 accepted, 1 refused, 2 more bytes wanted; the values, and the working buffer afterwards
pub record ReadOut (answer : Answer Acceptable) (m : ℕ) (code : ℕ) (buffer out out' : List ℕ) : Type 0 where
  pub said : Answered (verdict_said (answer_values answer)) code out out'
  pub places : buffer ≡ buffer_after answer m

-- what the two readers say of bytes `p` and a working buffer
abbrev pub PrefixOut : List ℕ → List ℕ → ℕ → List ℕ → List ℕ → List ℕ → Type 0
PrefixOut p before code buffer out out' = ReadOut (prefix_answer p (length before)) (length before) code buffer out out'

abbrev pub FileOut : List ℕ → List ℕ → ℕ → List ℕ → List ℕ → List ℕ → Type 0
FileOut p before code buffer out out' = ReadOut (file_answer p (length before)) (length before) code buffer out out'

-- ---- the walk: 0 walked, 1 refused; refusal number, index, file offset, steps and total; the place and the working buffer afterwards
abbrev pub walk_said : walk.Values → Said
walk_said v = record { number = v.kind; values = v.number ∷ v.index ∷ v.offset ∷ v.steps ∷ v.total ∷ [] }

pub record WalkOut (p buffer order : List ℕ) (code : ℕ) (buffer' order' out out' : List ℕ) : Type 0 where
  pub said : Answered (walk_said (walk.decision_values (walk.walked p (length buffer) (length order)))) code out out'
  pub placed : order' ≡ walk.order_after (walk.walked p (length buffer) (length order)) order
  pub places : buffer' ≡ walk.buffer_after (walk.walked p (length buffer) (length order)) (length buffer)

-- ---- the writer: what a reader says, and the place afterwards
pub record WriteOut (version : ℕ) (d : Description) (buffer output : List ℕ) (code : ℕ) (buffer' output' out out' : List ℕ) : Type 0 where
  pub said : ReadOut (write_answer version d (length buffer) (length output)) (length buffer) code buffer' out out'
  pub placed : output' ≡ output_after (write_answer version d (length buffer) (length output)) (file_for (writable version) d) output

-- ---- the replay: 0, or 22; the number of the first bad line, or 0; the answers and the working list afterwards
pub record ReplayOut (recording times boards work answers : List ℕ) (code : ℕ) (work' answers' out out' : List ℕ) : Type 0 where
  pub said : Answered (saying_of (recorded recording)) code out out'
  pub given : answers' ≡ answers_after (recorded recording) times boards (answer_count times boards (length answers)) answers
  pub working : work' ≡ filled (length work)

-- ---- the replay in pieces: 0 with lines, first bad line and starts served, or bytes that need not come again; at the end 0, or 22, and the
-- line's number
abbrev pub progress_of : ℕ → ℕ → Progress
progress_of lines bad = record { lines = lines; bad = bad }

pub record BeginOut (times boards work answers : List ℕ) (code : ℕ) (work' answers' out out' : List ℕ) : Type 0 where
  pub said : Answered (record { number = 0; values = 0 ∷ 0 ∷ served_count times boards work answers ∷ [] }) code out out'
  pub working : work' ≡ begun_work times boards work answers
  pub given : answers' ≡ begun_answers times boards work answers

abbrev pub fed_values : Fed → List ℕ
fed_values f = f.progress.lines ∷ f.progress.bad ∷ f.used ∷ []

pub record FeedOut (p : Progress) (piece times boards work answers : List ℕ) (code : ℕ) (answers' out out' : List ℕ) : Type 0 where
  pub said : Answered (record { number = 0; values = fed_values (fed_by p piece) }) code out out'
  pub given : answers' ≡ fed_answers p piece times boards work answers

pub record FinishOut (p : Progress) (waiting : ℕ) (times boards work answers : List ℕ) (code : ℕ) (work' answers' out out' : List ℕ) : Type 0 where
  pub said : Answered (end_said p waiting) code out out'
  pub working : work' ≡ filled (length work)
  pub given : answers' ≡ end_answers p waiting times boards work answers

-- ---- the table at year's end: the refusal or 0; its place and the number of rows; the rows that fit
abbrev pub year_said : List ℕ → List ℕ → List ℕ → Said
year_said bytes hashes answers =
    record {
      number = (year.refusal_of bytes hashes).number;
      values = (year.refusal_of bytes hashes).place ∷ length (year.rows_of bytes hashes answers) ∷ [];
    }

pub record YearOut (bytes hashes answers : List ℕ) (code : ℕ) (rows rows' out out' : List ℕ) : Type 0 where
  pub said : Answered (year_said bytes hashes answers) code out out'
  pub placed : rows' ≡ year.rows_in (year.rows_of bytes hashes answers) rows
