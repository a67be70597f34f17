-- Requests 110 and 113 together: what the table at year's end makes of an answer of the replay.
use Rattle.std.specs.Prelude.{◌≡◌, true, false, List, ◌∷◌, ◌++◌, ℕ, ◌<◌, ◌^◌}
use Rattle.readings.specs.declared.Reading.{Reading}
use Rattle.readings.specs.Recording.{tenths}
use Rattle.readings.specs.Replay.{Best, none, one, answer_numbers}
use Rattle.year.specs.Year.{Start, starts, has_reading, temperature}

-- a start "carries its hash and its answer"
abbrev pub answered : ℕ → Best → Start
answered hash b = record { hash = hash; answer = answer_numbers b }

pub record YearReadings : Type 0 where
  -- the answers of the replay, one behind another, are those of the starts in their order
  pub carried : (h : ℕ) (hs : List ℕ) (b : Best) (more : List ℕ) → starts (h ∷ hs) (answer_numbers b ++ more) ≡ answered h b ∷ starts hs more
  -- a reading, whose temperature has 16 bits, counts with its tenths; none counts as none
  pub reading : (h : ℕ) (r : Reading) → r.temperature < 2 ^ 16
      → (has_reading (answered h (one r)) ≡ true) × (temperature (answered h (one r)) ≡ tenths r.temperature)
  pub no_reading : (h : ℕ) → has_reading (answered h none) ≡ false
