-- Document 01's "Volumes" on a volumes section: checks 8, 14 and 15, and one volume's facts.
use Rattle.std.specs.Prelude.{unwrap_or, Bool, not, ◌&&◌, ◌||◌, List, [], ◌∷◌, ℕ, zero, suc, ◌+◌, ◌*◌, leb, ltb, eqb, length}
use Rattle.lists.specs.First.{first}
use Rattle.lists.specs.Answer.{Said}
use Rattle.lists.specs.Count.{pick}
use Rattle.little_endian.specs.Number.{le, zero_unit}
use Rattle.layout.specs.Head.{entry_offset}
use Rattle.layout.specs.Versions.{volume_entry}
use Rattle.layout.specs.declared.Layout.{Layout}
use Rattle.incremental.specs.Decision.{Decision, accept, refuse, refusal, fault_at, check, ◌>>◌}
use Rattle.sections.specs.Fields.{entries_fault}
use Rattle.volumes.specs.declared.Volume.{Volume}
use Rattle.volumes.specs.declared.Reference.{Reference}
use Rattle.volumes.specs.declared.Cursor.{Cursor}
use Rattle.std.specs.Prelude.{Err, Ok, Result}
use Rattle.volumes.specs.declared.StepFault.TheVariants.{Past, Unended}
use Rattle.volumes.specs.declared.StepFault.{StepFault}

-- where volume entry i starts in the section
abbrev pub entry_at : Layout → ℕ → ℕ
entry_at l i = i * volume_entry l

-- the fields of the volume entry at e
abbrev pub path_at : List ℕ → ℕ → ℕ
path_at s e = le 4 s e

abbrev pub path_count : List ℕ → ℕ → ℕ
path_count s e = le 4 s (e + 4)

abbrev pub created : List ℕ → ℕ → ℕ
created s e = le 8 s (e + 8)

abbrev pub serial : List ℕ → ℕ → ℕ
serial s e = le 4 s (e + 16)

abbrev pub references_at : List ℕ → ℕ → ℕ
references_at s e = le 4 s (e + 20)

abbrev pub references_size : List ℕ → ℕ → ℕ
references_size s e = le 4 s (e + 24)

abbrev pub directories_at : List ℕ → ℕ → ℕ
directories_at s e = le 4 s (e + 28)

abbrev pub directory_count : List ℕ → ℕ → ℕ
directory_count s e = le 4 s (e + 32)

-- the path is empty, or offset + 2 x count doesn't exceed the section size
unfoldable pub path_fits : List ℕ → ℕ → Bool
path_fits s e = eqb (path_count s e) 0 || leb (path_at s e + 2 * path_count s e) (length s)

-- n: 0 with size 0, else the number at byte 4 of the data
unfoldable pub reference_count : List ℕ → ℕ → ℕ
reference_count s e = pick (eqb (references_size s e) 0) 0 (le 4 s (references_at s e + 4))

-- size is 0, or at least 8, offset + size fits the section, and 8 + 8 x n doesn't exceed size
unfoldable pub references_fit : List ℕ → ℕ → Bool
references_fit s e =
    eqb (references_size s e) 0
    || (leb 8 (references_size s e)
    && (leb (references_at s e + references_size s e) (length s)
    && leb (8 + 8 * reference_count s e) (references_size s e)))

-- the directory string at a position: 2 bytes of length, that many units, a zero unit; then the position after it
unfoldable pub step_at : List ℕ → ℕ → Result Cursor StepFault
step_at s at =
    pick (ltb (length s) (at + 2)) (Err Past)
    (pick (ltb (length s) (at + 4 + 2 * le 2 s at)) (Err Past)
    (pick (zero_unit s (at + 2 + 2 * le 2 s at)) (Ok (record { at = at + 4 + 2 * le 2 s at }))
    (Err Unended)))

-- what each case says: 0 and the position after the string, 14 or 15
abbrev pub step_said : Result Cursor StepFault → Said
step_said (Ok c) = record { number = 0; values = c.at ∷ [] }
step_said (Err Past) = record { number = 14; values = [] }
step_said (Err Unended) = record { number = 15; values = [] }

-- what a step says of volume i: the later steps decide; 14 for one that runs past the section; 15 for a last unit that isn't zero.
-- The volume entry starts at `place` in the file: the field at fault of 14 and 15
abbrev pub on_step : ℕ → ℕ → Result Cursor StepFault → (ℕ → Decision Unit) → Decision Unit
on_step i place (Ok c) later = later c.at
on_step i place (Err Past) later = refuse (refusal 14 i place)
on_step i place (Err Unended) later = refuse (refusal 15 i place)

-- n directory strings of volume i, one after another from a position
unfoldable pub directory_checks : List ℕ → ℕ → ℕ → ℕ → ℕ → Decision Unit
directory_checks s i place zero at = accept tt
directory_checks s i place (suc n) at = on_step i place (step_at s at) (λ next. directory_checks s i place n next)

-- those of the volume entry at e
abbrev pub directories_of : List ℕ → ℕ → ℕ → ℕ → Decision Unit
directories_of s i place e = directory_checks s i place (directory_count s e) (directories_at s e)

-- 14 and 15 on volume i, whose entry is at e in the section: path, references, directories
unfoldable pub entry_checks : List ℕ → ℕ → ℕ → ℕ → Decision Unit
entry_checks s i place e = do
  check 14 (fault_at i place (not (path_fits s e)))
  check 14 (fault_at i place (not (references_fit s e)))
  directories_of s i place e

-- 14 and 15 on volume i of a section that starts at `start` in the file
abbrev pub volume_checks : List ℕ → Layout → ℕ → ℕ → Decision Unit
volume_checks s l start i = entry_checks s i (entry_offset start (volume_entry l) i) (entry_at l i)

-- the n volumes from volume i in turn
unfoldable pub volumes_from : List ℕ → Layout → ℕ → ℕ → ℕ → Decision Unit
volumes_from s l start zero i = accept tt
volumes_from s l start (suc n) i = volume_checks s l start i >> volumes_from s l start n (suc i)

-- 14 and 15 on n volumes, after check 8
unfoldable pub volumes_checks : List ℕ → Layout → ℕ → ℕ → Decision Unit
volumes_checks s l start n = check 8 (entries_fault n (volume_entry l) (length s)) >> volumes_from s l start n 0

-- the units of the path before its first zero unit, or all of them
unfoldable pub path_units : List ℕ → ℕ → ℕ
path_units s e = unwrap_or (first (λ k. zero_unit s (path_at s e + 2 * k)) (path_count s e)) (path_count s e)

-- the facts of the volume whose entry is at e. The path starts at an offset of the section, 0 where its count is 0.
unfoldable pub volume_of : List ℕ → ℕ → Volume
volume_of s e =
    record {
      created = created s e;
      serial = serial s e;
      references = reference_count s e;
      directories = directory_count s e;
      path = pick (eqb (path_count s e) 0) 0 (path_at s e);
      units = path_units s e;
    }

-- reference k of the volume whose entry is at e: a 48-bit entry index, then a 16-bit sequence number
unfoldable pub reference_of : List ℕ → ℕ → ℕ → Reference
reference_of s e k =
    record { index = le 6 s (references_at s e + 8 + 8 * k); sequence = le 2 s (references_at s e + 8 + 8 * k + 6) }
