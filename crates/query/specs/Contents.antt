-- Document 03, A1 and A2: the directories and the references of a volume, and the file reference of a metrics entry.
use Rattle.std.specs.Prelude.{List, [], ◌∷◌, ℕ, zero, suc, ◌+◌, ◌*◌, eqb}
use Rattle.lists.specs.Answer.{Said}
use Rattle.lists.specs.Count.{pick}
use Rattle.lists.specs.Pairs.{PairsListed}
use Rattle.little_endian.specs.Number.{le}
use Rattle.layout.specs.Versions.{metrics_entry, file_reference_at}
use Rattle.layout.specs.declared.Layout.{Layout}
use Rattle.incremental.specs.Plan.{run}
use Rattle.sections.specs.Fields.{part}
use Rattle.head.specs.Checks.{open_plan}
use Rattle.head.specs.declared.checks.Opening.{Opening}
use Rattle.volumes.specs.Volumes.{entry_at, directories_at, directory_count, reference_count, reference_of, step_at}
use Rattle.volumes.specs.declared.Reference.{Reference}
use Rattle.query.specs.Queries.{asked, entry_shown, volume_shown}
use Rattle.volumes.specs.declared.Cursor.{Cursor}
use Rattle.std.specs.Prelude.{Err, None, Ok, Option, Result, Some}
use Rattle.volumes.specs.declared.StepFault.{StepFault}

-- ---- A1: directories

-- the string at a position of the section, which starts at `base` in the file, by the step over it: the file offset of its first unit, two
-- bytes behind its length field's start, and the number of its units without the last zero; then those after it
abbrev pub list_step : List ℕ → ℕ → ℕ → Result Cursor StepFault → (ℕ → List ℕ) → List ℕ
list_step s base at (Ok c) later = (base + at + 2) ∷ le 2 s at ∷ later c.at
list_step s base at (Err f) later = []

-- n directory strings, one after another from a position
unfoldable pub directory_pairs : List ℕ → ℕ → ℕ → ℕ → List ℕ
directory_pairs s base zero at = []
directory_pairs s base (suc n) at = list_step s base at (step_at s at) (λ next. directory_pairs s base n next)

-- ALL DIRECTORIES of volume i in order
abbrev pub directories_in : Opening → List ℕ → ℕ → List ℕ
directories_in o p i =
    let s = part o.head.volumes p in
    directory_pairs s o.head.volumes.at (directory_count s (entry_at o.layout i)) (directories_at s (entry_at o.layout i))

-- none for a volume that can't be shown
abbrev pub directories_asked : List ℕ → ℕ → List ℕ
directories_asked p i = asked (run open_plan p) [] (λ o. pick (volume_shown o p i) (directories_in o p i) [])

abbrev pub ListsDirectories : List ℕ → ℕ → List ℕ → ℕ → List ℕ → Type 0
ListsDirectories p i before r after = PairsListed (directories_asked p i) before r after

-- ---- A1: references

-- the n references from reference k on of the volume whose entry is at e: entry index and sequence number
unfoldable pub reference_pairs : List ℕ → ℕ → ℕ → ℕ → List ℕ
reference_pairs s e zero k = []
reference_pairs s e (suc n) k = (reference_of s e k).index ∷ (reference_of s e k).sequence ∷ reference_pairs s e n (suc k)

-- ALL REFERENCES of volume i
abbrev pub references_in : Opening → List ℕ → ℕ → List ℕ
references_in o p i =
    let s = part o.head.volumes p in
    reference_pairs s (entry_at o.layout i) (reference_count s (entry_at o.layout i)) 0

abbrev pub references_asked : List ℕ → ℕ → List ℕ
references_asked p i = asked (run open_plan p) [] (λ o. pick (volume_shown o p i) (references_in o p i) [])

abbrev pub ListsReferences : List ℕ → ℕ → List ℕ → ℕ → List ℕ → Type 0
ListsReferences p i before r after = PairsListed (references_asked p i) before r after

-- ---- A2: the file reference of metrics entry i

-- both numbers where the version has the field, as they stand
unfoldable pub file_reference_of : Layout → List ℕ → ℕ → Option Reference
file_reference_of l metrics i =
    pick (eqb (file_reference_at l) 0) None
    (Some
    (record {
      index = le 6 metrics (i * metrics_entry l + file_reference_at l);
      sequence = le 2 metrics (i * metrics_entry l + file_reference_at l + 6);
    }))

-- for an entry that can be shown
abbrev pub entry_reference_asked : List ℕ → ℕ → Option (Option Reference)
entry_reference_asked p i =
    asked (run open_plan p) None (λ o. pick (entry_shown o p i) (Some (file_reference_of o.layout (part o.head.metrics p) i)) None)

-- what each case says: 1 for yes and 0 for no, and three numbers: 1 and both numbers where the version has the field; zeros where it doesn't,
-- and where the answer is no
abbrev pub entry_reference_said : Option (Option Reference) → Said
entry_reference_said (Some (Some r)) = record { number = 1; values = 1 ∷ r.index ∷ r.sequence ∷ [] }
entry_reference_said (Some None) = record { number = 1; values = 0 ∷ 0 ∷ 0 ∷ [] }
entry_reference_said None = record { number = 0; values = 0 ∷ 0 ∷ 0 ∷ [] }
