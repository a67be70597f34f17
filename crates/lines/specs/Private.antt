-- What only private contracts need: where a line ends, and line feeds among some bytes.
use Rattle.std.specs.Prelude.{◌≡◌, Bool, List, ◌∷◌, ℕ, ◌-◌, ◌≤◌, ◌<◌, ◌==◌, length, take, drop}
use Rattle.lines.specs.Lines.{lines_in}

-- `r` is the end of the line that starts at `at`
pub record LineEnd (s : List ℕ) (at r : ℕ) : Type 0 where
  pub past : at < r
  pub within : r ≤ length s
  pub line : lines_in (drop at s) ≡ take (r - at) (drop at s) ∷ lines_in (drop r s)

-- whether a byte is a line feed
abbrev pub is_feed : ℕ → Bool
is_feed b = b == 10
