-- REQUEST 110, the program: up to 1,024 starts, 18 digits a line (time, board), then the recording; what it writes for a whole input.
use Rattle.std.specs.Prelude.{ℕ, ◌+◌, ◌*◌, List, [], ◌∷◌, ◌++◌, length, drop}
use Rattle.digits.specs.Hex.{hex_digits}
use Rattle.lines.specs.Lines.{lines_in, leading}
use Rattle.text.specs.Ascii.{ascii}
use Rattle.text.specs.Decimal.{decimal}
use Rattle.readings.specs.Recording.{Recorded, readings, bad_line, recorded_from}
use Rattle.readings.specs.Replay.{Best, none, one, answer_for}
use Rattle.replay_input.specs.Starts.{time_in, board_in}

-- the starts, and what comes after them
pub record InputRead : Type 0 where
  pub starts : List (List ℕ)
  pub recording : Recorded

-- THE INPUT: the start lines that it begins with, at most so many, and then the recording. Its lines are numbered through, and behind the
-- starts all are the recording's: a start after a reading is a bad line, and so is one more than there may be.
unfoldable pub input_of : ℕ → List ℕ → InputRead
input_of most s =
    record {
      starts = leading 18 most s;
      recording = recorded_from (length (leading 18 most s) + 1) (lines_in (drop (19 * length (leading 18 most s)) s));
    }

-- an answer's line: its 22 digits, or `none`
unfoldable pub best_line : Best → List ℕ
best_line none = ascii "none\n"
best_line (one r) = hex_digits 16 r.time ++ (hex_digits 2 r.board ++ (hex_digits 4 r.temperature ++ (10 ∷ [])))

-- a line for each start, in order
unfoldable pub best_lines : Recorded → List (List ℕ) → List ℕ
best_lines rec [] = []
best_lines rec (l ∷ ls) = best_line (answer_for rec (time_in l) (board_in l)) ++ best_lines rec ls

-- `refused 22` and the line's number
unfoldable pub refused_line : ℕ → List ℕ
refused_line line = ascii "refused 22 " ++ (decimal line ++ (10 ∷ []))

-- only the refusal where a line is bad
abbrev pub output_for : List (List ℕ) → Recorded → List ℕ
output_for ls (readings rs) = best_lines (readings rs) ls
output_for ls (bad_line n) = refused_line n

-- THE OUTPUT of the program for an input with at most so many starts
unfoldable pub output_of : ℕ → List ℕ → List ℕ
output_of most s = output_for (input_of most s).starts (input_of most s).recording
