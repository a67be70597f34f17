-- What it means that a metrics entry, its name or a volume is shown, in plain words (document 01, "Questions about one entry").
use Rattle.std.specs.Prelude.{◌≡◌, List, ℕ, ◌+◌, ◌*◌, ◌≤◌, ◌<◌, length}
use Rattle.little_endian.specs.Number.{le}
use Rattle.layout.specs.Versions.{metrics_entry, volume_entry}
use Rattle.sections.specs.Fields.{part}
use Rattle.head.specs.declared.checks.Opening.{Opening}
use Rattle.names.specs.Names.{name_at, name_units, SoundName}
use Rattle.volumes.specs.Volumes.{entry_at}
use Rattle.volumes.specs.SoundVolume.{SoundVolume}
use Rattle.query.specs.Queries.{name_place}

pub record EntryShown (o : Opening) (p : List ℕ) (i : ℕ) : Type 0 where
  pub below : i < o.head.metrics.count
  -- the entry lies in its section, and has arrived
  pub in_section : (i + 1) * metrics_entry o.layout ≤ o.head.metrics.len
  pub in_file : o.head.metrics.at + (i + 1) * metrics_entry o.layout ≤ length p
  -- its name is sound by rule 10 in what has arrived of the strings
  pub name : SoundName (part o.head.strings p) (name_at o.layout (part o.head.metrics p) i) (name_units o.layout (part o.head.metrics p) i)

-- its name in the file, with its zero: it has arrived, it lies in the strings section, and its text is sound
pub record NamePlaced (o : Opening) (p : List ℕ) (i : ℕ) : Type 0 where
  pub in_file : (name_place o p i).at + (name_place o p i).len + 2 ≤ length p
  pub in_section : (name_place o p i).at + (name_place o p i).len + 2 ≤ o.head.strings.end
  pub text : (k : ℕ) → k < name_units o.layout (part o.head.metrics p) i → le 2 p ((name_place o p i).at + 2 * k) ≡ 0 → ⊥
  pub zero_unit_lem : le 2 p ((name_place o p i).at + (name_place o p i).len) ≡ 0

pub record VolumeShown (o : Opening) (p : List ℕ) (i : ℕ) : Type 0 where
  -- check 8
  pub room : o.head.volumes.count * volume_entry o.layout ≤ o.head.volumes.len
  pub below : i < o.head.volumes.count
  -- the whole section has arrived
  pub in_file : o.head.volumes.at + o.head.volumes.len ≤ length p
  -- 14 and 15 on volume i
  pub sound : SoundVolume (part o.head.volumes p) (entry_at o.layout i)
