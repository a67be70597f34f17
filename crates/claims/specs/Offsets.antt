-- Request 103: the file offset that goes with a refusal, as one function of its number, its index and the head; and that the field lies in
-- the prefix. So the offset says nothing that number, index and head do not.
use Rattle.std.specs.Prelude.{◌≡◌, ◌||◌, List, ℕ, ◌+◌, ◌≤◌, eqb, length}
use Rattle.lists.specs.Count.{pick}
use Rattle.little_endian.specs.Number.{le}
use Rattle.layout.specs.Head.{version_at, signature_at, declared_size_at, program_name_at, metrics_offset_at, trace_count_at, volumes_count_at, entry_offset}
use Rattle.layout.specs.Versions.{version_of, layout_of, trace_entry, volume_entry}
use Rattle.layout.specs.declared.Version.TheVariants.{V17}
use Rattle.layout.specs.declared.Layout.{Layout}
use Rattle.incremental.specs.declared.Refusal.{Refusal}
use Rattle.sections.specs.Fields.{form_in, head_of, offset_field_at}
use Rattle.sections.specs.declared.Head.{Head}
use Rattle.names.specs.Names.{name_field_at}
use Rattle.reader.specs.Checks.{ReadsPrefix, ReadsFile}
use Rattle.reader.specs.declared.verdict.Acceptance.{Acceptance}
use Rattle.std.specs.Prelude.{Err, None, Option, Result, Some}
use Rattle.incremental.specs.declared.Stop.TheVariants.{Refused}
use Rattle.incremental.specs.declared.Stop.{Stop}
use Rattle.layout.specs.declared.Version.{Version}

-- THE TABLE: 0 for 1, 4 for 2, 12 for 3, 16 for 4; for 5 and 6 the section's offset field; 96 for 7; for 8 the volume count; for 9 and
-- 10 the entry's name offset; for 11 the next index, for 12 and 13 the named entry; for 14 and 15 the volume entry; 12 for 16 and 17;
-- 84 for 21 (request 107); 0 for 20, which names no field
abbrev pub offset_of : Layout → Head → ℕ → ℕ → ℕ
offset_of l h number index =
    pick (eqb number 1) version_at
    (pick (eqb number 2) signature_at
    (pick (eqb number 3) declared_size_at
    (pick (eqb number 4) program_name_at
    (pick (eqb number 5 || eqb number 6) (offset_field_at index)
    (pick (eqb number 7) trace_count_at
    (pick (eqb number 8) volumes_count_at
    (pick (eqb number 9 || eqb number 10) (name_field_at l h.metrics.at index)
    (pick (eqb number 11 || (eqb number 12 || eqb number 13)) (entry_offset h.trace.at (trace_entry l) index)
    (pick (eqb number 14 || eqb number 15) (entry_offset h.volumes.at (volume_entry l) index)
    (pick (eqb number 16 || eqb number 17) declared_size_at
    (pick (eqb number 21) metrics_offset_at 0)))))))))))

-- the constants of the version that the first four bytes name; a version that is not known gets refusal 1, at 0 whatever they are
abbrev pub constants : Option Version → Layout
constants (Some v) = layout_of v
constants None = layout_of V17

-- and of its head form, where that is known
abbrev pub or_else : Layout → Option Layout → Layout
or_else l (Some k) = k
or_else l None = l

abbrev pub layout_in : List ℕ → Layout
layout_in p = let l = constants (version_of (le 4 p version_at)) in or_else l (form_in l p)

-- the offset by number, index and the bytes of the file
abbrev pub offset_in : List ℕ → ℕ → ℕ → ℕ
offset_in p number index = offset_of (layout_in p) (head_of (layout_in p) p) number index

pub record Offsets : Type 0 where
  -- the offset is the one that the table gives
  pub table_prefix : (p buffer : List ℕ) (v : Result Acceptance Stop) (after : List ℕ) (r : Refusal) → ReadsPrefix p buffer v after → v ≡ Err (Refused r)
      → r.offset ≡ offset_in p r.number r.index
  pub table_file : (p buffer : List ℕ) (v : Result Acceptance Refusal) (after : List ℕ) (r : Refusal) → ReadsFile p buffer v after → v ≡ Err r
      → r.offset ≡ offset_in p r.number r.index
  -- the field at fault, of four bytes at least, lies in the prefix
  pub inside : (p buffer : List ℕ) (v : Result Acceptance Stop) (after : List ℕ) (r : Refusal) → ReadsPrefix p buffer v after → v ≡ Err (Refused r)
      → r.offset + 4 ≤ length p
