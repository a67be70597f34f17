-- What only private contracts of the program's steps need.
use Rattle.std.specs.Prelude.{◌≡◌, ℕ, ◌+◌, ◌*◌, ◌≤◌, List, length, slice_index, Option, None, Some}
use Rattle.lists.specs.Count.{pick}
use Rattle.readings.specs.declared.pieces.Fed.{Fed}
use Rattle.readings.specs.Feeding.{begun_work, begun_answers, fed_by, fed_answers}
use Rattle.replay_input.specs.declared.steps.Took.{Took}
use Rattle.replay_input.specs.Text.{is_none}
use Rattle.replay_input.specs.Program.{AfterBytes}

-- the two lists have so many starts
pub record StartsFit (starts : ℕ) (times boards : List ℕ) : Type 0 where
  pub timed : starts ≤ length times
  pub boarded : starts ≤ length boards

-- some bytes, of what they are to make of the stage and of the lists
pub record TakesBytes (after : AfterBytes) (r : Took) (times' boards' work' answers' : List ℕ) : Type 0 where
  pub stage : r.stage ≡ after.stage
  pub used : r.used ≡ after.used
  pub timed : times' ≡ after.times
  pub boarded : boards' ≡ after.boards
  pub working : work' ≡ after.work
  pub given : answers' ≡ after.answers

-- the recording begins with some bytes, behind so many lines: the starts are put in order, and the bytes are its first piece
pub record RecordingBegins (lines : ℕ) (s times boards work answers : List ℕ) (r : Fed) (work' answers' : List ℕ) : Type 0 where
  pub says : r ≡ fed_by (record { lines = lines; bad = 0 }) s
  pub working : work' ≡ begun_work times boards work answers
  pub given : answers'
      ≡ fed_answers (record { lines = lines; bad = 0 }) s times boards (begun_work times boards work answers) (begun_answers times boards work answers)

-- the time, the board and the temperature of an answer, if there is one
abbrev pub answer_held : List ℕ → ℕ → Option (ℕ × ℕ × ℕ)
answer_held answers i = pick (is_none answers i) None (Some (slice_index answers (4 * i + 1), slice_index answers (4 * i + 2), slice_index answers (4 * i + 3)))
