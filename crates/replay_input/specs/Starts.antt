-- REQUEST 110, the program's input: start lines, 18 digits each, before the recording.
use Rattle.std.specs.Prelude.{◌≡◌, ℕ, ◌-◌, min, List, map, length}
use Rattle.std.proofs.lemmas.List.Edits.{sets}
use Rattle.digits.specs.Hex.{hex_at}
use Rattle.lines.specs.Lines.{leading}

-- a start line has 18 digits 0-9 A-F: its run time (16) and its board (2)
abbrev pub time_in : List ℕ → ℕ
time_in s = hex_at 16 s 0

abbrev pub board_in : List ℕ → ℕ
board_in s = hex_at 2 s 16

-- how many more starts the two lists have places for
abbrev pub room : ℕ → List ℕ → List ℕ → ℕ
room held times boards = min (length times) (length boards) - held

-- THE PROMISE of `take_starts`: the starts stand behind those held, as many as there are places for
pub record TakesStarts (s : List ℕ) (held : ℕ) (times boards : List ℕ) (r : ℕ) (times' boards' : List ℕ) : Type 0 where
  pub count : r ≡ length (leading 18 (room held times boards) s)
  pub times'_are : times' ≡ sets times held (map time_in (leading 18 (room held times boards) s))
  pub boards'_are : boards' ≡ sets boards held (map board_in (leading 18 (room held times boards) s))
