-- Request 106: the run times of the acceptance record, one statement over every version's constants.
use Rattle.std.specs.Prelude.{◌≡◌, List, [], ◌∷◌, ℕ, ◌+◌, ◌*◌, ◌≤◌, ◌<◌, get_or}
use Rattle.little_endian.specs.Number.{le}
use Rattle.layout.specs.Versions.{layout_of, run_time_at, time_count, head_end}
use Rattle.layout.specs.declared.Version.{Version}
use Rattle.layout.specs.declared.Version.TheVariants.{V17, V23, V26, V30}
use Rattle.head.specs.declared.checks.Opening.{Opening}
use Rattle.reader.specs.declared.verdict.RunTimes.{RunTimes}
use Rattle.reader.specs.Checks.{record_of}

-- the eight times of a record in their order
abbrev pub times_of : RunTimes → List ℕ
times_of t =
    t.latest ∷ t.second ∷ t.third ∷ t.fourth ∷ t.fifth ∷ t.sixth ∷ t.seventh ∷ t.eighth ∷ []

pub record Times : Type 0 where
  -- time j is the 8 bytes at the version's place + 8j where the version has so many, as they stand, sorted or not
  pub present : (o : Opening) (b : List ℕ) (chains j : ℕ) → j < 8 → j < time_count o.layout
      → get_or (times_of (record_of o b chains).times) j 0 ≡ le 8 b (run_time_at o.layout + 8 * j)
  -- and else 0
  pub absent : (o : Opening) (b : List ℕ) (chains j : ℕ) → j < 8 → time_count o.layout ≤ j → get_or (times_of (record_of o b chains).times) j 0 ≡ 0
  -- the record says how many the version has: 1 for 17 and 23, 8 for 26 and 30
  pub count : (o : Opening) (b : List ℕ) (chains : ℕ) → (record_of o b chains).times.count ≡ time_count o.layout
  pub count_17 : time_count (layout_of V17) ≡ 1
  pub count_23 : time_count (layout_of V23) ≡ 1
  pub count_26 : time_count (layout_of V26) ≡ 8
  pub count_30 : time_count (layout_of V30) ≡ 8
  -- they end by H
  pub inside : (v : Version) → run_time_at (layout_of v) + 8 * time_count (layout_of v) ≤ head_end (layout_of v)
