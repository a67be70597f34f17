-- REQUEST 110, the program's work between reading and writing, in steps through one buffer. What stands between two steps, for any numbers
-- in the lists, nobody needs to know: what a whole run writes is the claim `Program`.
use Rattle.std.specs.Prelude.{◌≡◌, ℕ, ◌+◌, ◌-◌, ◌*◌, ◌%◌, ◌^◌, ◌<◌, ◌≤◌, min, true, false, List, [], ◌∷◌, ◌++◌, map, length, take, drop, nat_lt, ⊤, Result, Ok, Err}
use Rattle.std.proofs.lemmas.List.Edits.{sets}
use Rattle.lists.specs.Count.{pick}
use Rattle.lists.specs.Filled.{filled}
use Rattle.lines.specs.Lines.{leading}
use Rattle.text.specs.Put.{Put}
use Rattle.readings.specs.declared.BadLine.{BadLine}
use Rattle.readings.specs.declared.pieces.Progress.{Progress}
use Rattle.readings.specs.Replay.{said_of}
use Rattle.readings.specs.Feeding.{begun_work, begun_answers, fed_by, fed_answers, end_said, end_answers, joined}
use Rattle.replay_input.specs.declared.Written.{Written}
use Rattle.replay_input.specs.declared.steps.Stage.{Stage}
use Rattle.replay_input.specs.declared.steps.Input.{Input}
use Rattle.replay_input.specs.Starts.{time_in, board_in, room}
use Rattle.replay_input.specs.Input.{refused_line, output_of}
use Rattle.replay_input.specs.Text.{PutsAnswers}

-- ---- one step

-- what some bytes make of a stage and of the lists, and how many of the bytes need not come again
pub record AfterBytes : Type 0 where
  pub stage : Stage
  pub used : ℕ
  pub times : List ℕ
  pub boards : List ℕ
  pub work : List ℕ
  pub answers : List ℕ

-- the recording goes on with the bytes s, for the first so many starts
abbrev pub recording_taken : ℕ → Progress → List ℕ → List ℕ → List ℕ → List ℕ → List ℕ → AfterBytes
recording_taken starts p s times boards work answers =
    record {
      stage = record { starts = starts; starting = false; progress = (fed_by p s).progress };
      used = (fed_by p s).used;
      times = times;
      boards = boards;
      work = work;
      answers = fed_answers p s (take starts times) (take starts boards) work answers;
    }

-- the recording begins with the bytes s, behind so many lines
abbrev pub recording_begun : ℕ → ℕ → List ℕ → List ℕ → List ℕ → List ℕ → List ℕ → AfterBytes
recording_begun starts lines s times boards work answers =
    recording_taken starts (record { lines = lines; bad = 0 }) s times boards
    (begun_work (take starts times) (take starts boards) work answers)
    (begun_answers (take starts times) (take starts boards) work answers)

-- as many bytes more are used
abbrev pub used_more : ℕ → AfterBytes → AfterBytes
used_more n t = record { stage = t.stage; used = n + t.used; times = t.times; boards = t.boards; work = t.work; answers = t.answers }

-- the bytes s behind k starts more, which bring the lists to these: fewer than a start line has can still become one
abbrev pub behind_starts : ℕ → ℕ → ℕ → List ℕ → List ℕ → List ℕ → List ℕ → List ℕ → AfterBytes
behind_starts k starts lines s times boards work answers =
    pick (nat_lt (length s) 19)
    (record {
      stage = record { starts = starts; starting = true; progress = record { lines = lines; bad = 0 } };
      used = 19 * k;
      times = times;
      boards = boards;
      work = work;
      answers = answers;
    })
    (used_more (19 * k) (recording_begun starts lines s times boards work answers))

-- the start lines that the bytes begin with, as many as there are places for, stand behind those held
abbrev pub starts_taken : List (List ℕ) → ℕ → ℕ → List ℕ → List ℕ → List ℕ → List ℕ → List ℕ → AfterBytes
starts_taken ks held lines s times boards work answers =
    behind_starts (length ks) (held + length ks) ((lines + length ks) % 2 ^ 64) (drop (19 * length ks) s) (sets times held (map time_in ks))
    (sets boards held (map board_in ks)) work answers

-- THE BYTES s AT HAND, those that waited first, of a stage whose starts there are places for
unfoldable pub bytes_taken : Stage → List ℕ → List ℕ → List ℕ → List ℕ → List ℕ → AfterBytes
bytes_taken t s times boards work answers =
    pick t.starting
    (starts_taken (leading 18 (room t.starts times boards) s) t.starts t.progress.lines s times boards work answers)
    (recording_taken t.starts t.progress s times boards work answers)

-- no more starts than both lists have places for
abbrev pub fitting_stage : Stage → List ℕ → List ℕ → Stage
fitting_stage t times boards =
    record { starts = min t.starts (min (length times) (length boards)); starting = t.starting; progress = t.progress }

-- one step, whose bytes stand in the buffer behind those that wait, up to `end`
abbrev pub step_taken : List ℕ → ℕ → Input → List ℕ → List ℕ → List ℕ → List ℕ → AfterBytes
step_taken buffer end input times boards work answers =
    bytes_taken (fitting_stage input.stage times boards) (take (min end (length buffer)) buffer) times boards work answers

-- what was not used comes to the front
abbrev pub brought_forward : List ℕ → ℕ → ℕ → List ℕ
brought_forward buffer used end = take (end - used) (drop used buffer) ++ drop (end - used) buffer

pub record Steps (buffer : List ℕ) (end : ℕ) (input : Input) (times boards work answers : List ℕ) (r : Input)
    (buffer' times' boards' work' answers' : List ℕ) : Type 0 where
  pub says : r
      ≡ record {
        stage = (step_taken buffer end input times boards work answers).stage;
        kept = min end (length buffer) - (step_taken buffer end input times boards work answers).used;
      }
  pub buffered : buffer' ≡ brought_forward buffer (step_taken buffer end input times boards work answers).used (min end (length buffer))
  pub timed : times' ≡ (step_taken buffer end input times boards work answers).times
  pub boarded : boards' ≡ (step_taken buffer end input times boards work answers).boards
  pub working : work' ≡ (step_taken buffer end input times boards work answers).work
  pub given : answers' ≡ (step_taken buffer end input times boards work answers).answers

-- at the beginning nothing has been read
abbrev pub nothing_read : Input
nothing_read = record { stage = record { starts = 0; starting = true; progress = record { lines = 0; bad = 0 } }; kept = 0 }

-- ---- the end: where more starts could still come the recording is empty

abbrev pub end_work : Stage → List ℕ → List ℕ → List ℕ → List ℕ → List ℕ
end_work t times boards work answers = pick t.starting (begun_work (take t.starts times) (take t.starts boards) work answers) work

abbrev pub end_begun : Stage → List ℕ → List ℕ → List ℕ → List ℕ → List ℕ
end_begun t times boards work answers = pick t.starting (begun_answers (take t.starts times) (take t.starts boards) work answers) answers

abbrev pub stage_ended : Stage → ℕ → List ℕ → List ℕ → List ℕ → List ℕ → List ℕ
stage_ended t kept times boards work answers =
    end_answers t.progress kept (take t.starts times) (take t.starts boards) (end_work t times boards work answers)
    (end_begun t times boards work answers)

pub record Ends (input : Input) (times boards work answers : List ℕ) (r : Result ⊤ BadLine) (work' answers' : List ℕ) : Type 0 where
  pub says : said_of r ≡ end_said input.stage.progress input.kept
  pub given : answers' ≡ stage_ended (fitting_stage input.stage times boards) input.kept times boards work answers
  pub working : work' ≡ filled (length work)

-- ---- a whole run

-- the program's lists
pub record Lists : Type 0 where
  pub buffer : List ℕ
  pub times : List ℕ
  pub boards : List ℕ
  pub work : List ℕ
  pub answers : List ℕ

-- room for so many starts
pub record HasRoom (most : ℕ) (l : Lists) : Type 0 where
  pub timed : length l.times ≡ most
  pub boarded : length l.boards ≡ most
  pub working : length l.work ≡ most
  pub given : length l.answers ≡ 4 * most

-- a piece has been read into the buffer, behind the bytes that wait
pub record PieceRead (kept : ℕ) (piece buffer buffer' : List ℕ) : Type 0 where
  pub some : 0 < length piece
  pub fits : kept + length piece ≤ length buffer
  pub long : length buffer' ≡ length buffer
  pub reads : take (kept + length piece) buffer' ≡ take kept buffer ++ piece

-- the pieces are read and taken one after another
unfoldable pub TakesAll : Input → Lists → List (List ℕ) → Input → Lists → Type 0
TakesAll input l [] input' l' = (input' ≡ input) × (l' ≡ l)
TakesAll input l (piece ∷ pieces) input' l' =
    (read : List ℕ) × (next : Input) × (m : Lists) × PieceRead input.kept piece l.buffer read
    × Steps read (input.kept + length piece) input l.times l.boards l.work l.answers next m.buffer m.times m.boards m.work
    m.answers
    × TakesAll next m pieces input' l'

-- the answers from answer k on are put into a buffer and written, as often as it takes: what the buffer holds after each time
unfoldable pub WritesFrom : List ℕ → ℕ → ℕ → List ℕ → List (List ℕ) → List ℕ → Type 0
WritesFrom answers starts k buffer [] output = (starts ≤ k) × (output ≡ [])
WritesFrom answers starts k buffer (after ∷ afters) output =
    (r : Written) × (more : List ℕ) × (k < starts) × PutsAnswers answers starts k buffer r after × (output ≡ take r.bytes after ++ more)
    × WritesFrom answers starts r.next after afters more

-- a line for each start, or only the refusal
abbrev pub WritesResult : Result ⊤ BadLine → ℕ → List ℕ → List ℕ → List (List ℕ) → List ℕ → Type 0
WritesResult (Ok _) starts answers buffer afters output = WritesFrom answers starts 0 buffer afters output
WritesResult (Err line) starts answers buffer afters output =
    (n : ℕ) × (after : List ℕ) × Put buffer 0 (refused_line line.number) n after × (output ≡ take n after)

-- the program: the input in pieces, and what it writes
pub record ProgramRuns (l : Lists) (pieces : List (List ℕ)) (output : List ℕ) : Type 0 where
  pub last : Input
  pub held : Lists
  pub takes : TakesAll nothing_read l pieces last held
  pub answer : Result ⊤ BadLine
  pub working : List ℕ
  pub given : List ℕ
  pub ends : Ends last held.times held.boards held.work held.answers answer working given
  pub afters : List (List ℕ)
  pub writes : WritesResult answer last.stage.starts given held.buffer afters output

pub record Program : Type 0 where
  -- HOWEVER THE INPUT IS CUT into pieces of at least one byte that fit the buffer, the program writes `output_of` the whole of it
  pub output : (most : ℕ) (l : Lists) (pieces : List (List ℕ)) (output : List ℕ)
      → HasRoom most l
      → most < 2 ^ 32
      → 32 ≤ length l.buffer
      → length (joined pieces) < 2 ^ 64
      → ProgramRuns l pieces output
      → output ≡ output_of most (joined pieces)
  -- there is always room to read: fewer than 23 bytes wait
  pub waiting : (l : Lists) (pieces : List (List ℕ)) (last : Input) (held : Lists) → TakesAll nothing_read l pieces last held → last.kept < 23
