-- Checks 9 and 10 of document 01 on a metrics array and a strings section.
use Rattle.std.specs.Prelude.{◌≡◌, Bool, not, ◌&&◌, List, ℕ, ◌+◌, ◌*◌, ◌≤◌, ◌<◌, leb, length}
use Rattle.lists.specs.First.{first}
use Rattle.lists.specs.Pairs.{first_of, second_of}
use Rattle.lists.specs.Count.{any_below}
use Rattle.little_endian.specs.Number.{le, zero_unit}
use Rattle.layout.specs.Head.{entry_offset}
use Rattle.layout.specs.Versions.{metrics_entry, name_offset_at, name_length_at}
use Rattle.layout.specs.declared.Layout.{Layout}
use Rattle.incremental.specs.Decision.{fault_of}
use Rattle.incremental.specs.declared.Fault.{Fault}
use Rattle.std.specs.Prelude.{Option}

-- the name of metrics entry i: its offset in the strings section, and its length in units
abbrev pub name_at : Layout → List ℕ → ℕ → ℕ
name_at l metrics i = le 4 metrics (i * metrics_entry l + name_offset_at l)

abbrev pub name_units : Layout → List ℕ → ℕ → ℕ
name_units l metrics i = le 4 metrics (i * metrics_entry l + name_length_at l)

-- the names of entries: those of a metrics array, or of a table of pairs, each of them a name offset and a name length
pub record Named : Type 0 where
  pub offset : ℕ → ℕ
  pub units : ℕ → ℕ

abbrev pub in_metrics : Layout → List ℕ → Named
in_metrics l metrics = record { offset = name_at l metrics; units = name_units l metrics }

abbrev pub in_pairs : List ℕ → Named
in_pairs pairs = record { offset = first_of pairs; units = second_of pairs }

-- where in the file the name-offset field of entry i of a metrics array stands: the field at fault of 9 and 10
abbrev pub name_field_at : Layout → ℕ → ℕ → ℕ
name_field_at l start i = entry_offset start (metrics_entry l) i + name_offset_at l

-- a name at an offset of a strings section of that size: offset + 2 x length + 2 doesn't exceed it
unfoldable pub fits : ℕ → ℕ → ℕ → Bool
fits size at units = leb (at + 2 * units + 2) size

-- 9: the first of the entries, in a metrics array from `start`, whose name doesn't fit a strings section of that size
unfoldable pub misfit_fault : Layout → ℕ → Named → ℕ → ℕ → Option Fault
misfit_fault l start names entries size = fault_of (name_field_at l start) (first (λ i. not (fits size (names.offset i) (names.units i))) entries)

-- a name that fits has no zero unit among its units, and a zero unit directly after them
unfoldable pub sound : List ℕ → ℕ → ℕ → Bool
sound strings at units =
    fits (length strings) at units && (not (any_below (λ k. zero_unit strings (at + 2 * k)) units) && zero_unit strings (at + 2 * units))

-- 10: the first of the entries whose name isn't sound
unfoldable pub unsound_fault : Layout → ℕ → Named → ℕ → List ℕ → Option Fault
unsound_fault l start names entries strings = fault_of (name_field_at l start) (first (λ i. not (sound strings (names.offset i) (names.units i))) entries)

-- in plain words: what a sound name is
pub record SoundName (strings : List ℕ) (at units : ℕ) : Type 0 where
  -- it lies in the section, with the unit after it
  pub inside : at + 2 * units + 2 ≤ length strings
  -- none of its units is zero
  pub text : (k : ℕ) → k < units → le 2 strings (at + 2 * k) ≡ 0 → ⊥
  -- the unit directly after it is
  pub end : le 2 strings (at + 2 * units) ≡ 0
