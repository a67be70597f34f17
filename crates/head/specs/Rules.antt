-- Rules 4 to 6 of document 01 in plain words: what the name and the sections of an accepted file are like.
use Rattle.std.specs.Prelude.{◌≡◌, List, ◌⊎◌, ℕ, ◌+◌, ◌*◌, ◌≤◌, ◌<◌}
use Rattle.little_endian.specs.Number.{le}
use Rattle.layout.specs.Head.{program_name_at, program_name_units}
use Rattle.layout.specs.Versions.{head_end}
use Rattle.layout.specs.declared.Layout.{Layout}
use Rattle.sections.specs.Fields.{size_in}
use Rattle.sections.specs.declared.Section.{Section}
use Rattle.sections.specs.declared.Head.{Head}

-- 4 passes: the name's first zero unit is one of its 30
pub record NameEnds (b : List ℕ) (u : ℕ) : Type 0 where
  pub short : u < program_name_units
  pub zero_unit_lem : le 2 b (program_name_at + 2 * u) ≡ 0
  pub before : (k : ℕ) → k < u → le 2 b (program_name_at + 2 * k) ≡ 0 → ⊥

-- a section is empty, or it starts at H or later and ends by S
abbrev pub Within : ℕ → ℕ → Section → Type 0
Within h size s = (s.len ≡ 0) ⊎ ((h ≤ s.at) × (s.end ≤ size))

-- 5 passes: every section is within
pub record Inside (l : Layout) (h : Head) : Type 0 where
  pub metrics : Within (head_end l) (size_in h) h.metrics
  pub trace : Within (head_end l) (size_in h) h.trace
  pub strings : Within (head_end l) (size_in h) h.strings
  pub volumes : Within (head_end l) (size_in h) h.volumes

-- of two sections one is empty, or one ends by the start of the other
abbrev pub Separate : Section → Section → Type 0
Separate s t = (s.len ≡ 0) ⊎ (t.len ≡ 0) ⊎ (t.end ≤ s.at) ⊎ (s.end ≤ t.at)

-- 6 passes: every two sections are separate
pub record Apart (h : Head) : Type 0 where
  pub metrics_trace : Separate h.metrics h.trace
  pub metrics_strings : Separate h.metrics h.strings
  pub trace_strings : Separate h.trace h.strings
  pub metrics_volumes : Separate h.metrics h.volumes
  pub trace_volumes : Separate h.trace h.volumes
  pub strings_volumes : Separate h.strings h.volumes
