-- An answer's four numbers are taken as they stand, and 16 bits are their own low 16 bits.
use mathlib.Core.Path.{◌≡◌, refl, ap}
use mathlib.Core.List.{List, ◌∷◌, ◌++◌}
use Prim.Native.Nat.{ℕ}
use native.Mathlib.Nat.{mod-eq_of_lt}
use Rattle.readings.specs.Recording.{tenths}
use Rattle.readings.specs.Replay.{Best, none, one, answer_numbers}
use Rattle.year.specs.Year.{starts}
use Rattle.claims.specs.YearReadings.{answered, YearReadings}

carried : (h : ℕ) (hs : List ℕ) (b : Best) (more : List ℕ) → starts (h ∷ hs) (answer_numbers b ++ more) ≡ answered h b ∷ starts hs more
unfolding starts
carried h hs none more = refl
carried h hs (one r) more = refl

pub year_readings : YearReadings
year_readings = record { carried = carried; reading = λ h r l. (refl, ap tenths (mod-eq_of_lt l)); no_reading = λ h. refl }
