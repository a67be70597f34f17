-- Document 01's "Questions about one entry", and the number of working places.
use Rattle.std.specs.Prelude.{unwrap_or, is_none, Bool, true, false, ◌&&◌, List, [], ◌∷◌, ℕ, ◌+◌, ◌*◌, leb, ltb, length, take, drop}
use Rattle.std.specs.Borrow.{Bor}
use Rattle.lists.specs.Answer.{Said}
use Rattle.lists.specs.Part.{IsPart}
use Rattle.lists.specs.Count.{pick}
use Rattle.layout.specs.Head.{program_name_at}
use Rattle.layout.specs.Versions.{metrics_entry, volume_entry}
use Rattle.layout.specs.declared.Layout.{Layout}
use Rattle.incremental.specs.Decision.{Decision, accept, refuse}
use Rattle.incremental.specs.Plan.{Answer, decided, wants, run}
use Rattle.sections.specs.Fields.{part, link_count, entries_fault}
use Rattle.head.specs.Checks.{start_plan, open_plan}
use Rattle.head.specs.declared.checks.Opening.{Opening}
use Rattle.names.specs.Names.{sound, name_at, name_units}
use Rattle.volumes.specs.Volumes.{volume_checks, volume_of, reference_of, entry_at}
use Rattle.query.specs.declared.Place.{Place}
use Rattle.query.specs.declared.VolumeFacts.{VolumeFacts}
use Rattle.std.specs.Prelude.{None, Option, Some}
use Rattle.volumes.specs.declared.Reference.{Reference}

-- what is asked of a file whose checks accept, and a no otherwise
abbrev pub asked : {A B : Type 0} → Answer A → B → (A → B) → B
asked (decided (accept a)) none some = some a
asked (decided (refuse r)) none some = none
asked (wants k) none some = none

-- the bytes at a place of a file
abbrev pub bytes_at : Place → List ℕ → List ℕ
bytes_at w p = take w.len (drop w.at p)

-- `r` is the part of the borrowed file at that place: the very bytes, where they lie
abbrev pub ShownAt : Bor (List ℕ) → Place → Bor (List ℕ) → Type 0
ShownAt file w r = IsPart file w.at w.len r

-- ---- the number of working places: checks 1 to 6 pass; a place for each trace entry that has a next index
abbrev pub places_needed : List ℕ → Option ℕ
places_needed p = asked (run open_plan p) None (λ o. Some (link_count o.layout o.head))

-- what each case says: 1 for yes and 0 for no; the number, zero where the answer is no
abbrev pub places_said : Option ℕ → Said
places_said (Some n) = record { number = 1; values = n ∷ [] }
places_said None = record { number = 0; values = 0 ∷ [] }

-- ---- names

-- the place where a name is shown; an empty part at the start where it is not
abbrev pub place_of : Option Place → Place
place_of shown = unwrap_or shown (record { at = 0; len = 0 })

-- what each case says: 1 for yes and 0 for no; offset and length in bytes, zeros where the answer is no
abbrev pub place_said : Option Place → Said
place_said (Some w) = record { number = 1; values = w.at ∷ w.len ∷ [] }
place_said None = record { number = 0; values = 0 ∷ 0 ∷ [] }

-- ---- the program name: checks 1 to 4 pass; the units before its first zero, from byte 16
abbrev pub program_place : List ℕ → Option Place
program_place p = asked (run start_plan p) None (λ s. Some (record { at = program_name_at; len = 2 * s.name_units }))

-- ---- metrics entry i

-- i is below the count; the entry lies in the bytes lent and its section; its name, with its zero, lies in the bytes lent and
-- its section, and its text is sound by rule 10
unfoldable pub entry_shown : Opening → List ℕ → ℕ → Bool
entry_shown o p i =
    ltb i o.head.metrics.count
    && (leb ((i + 1) * metrics_entry o.layout) (length (part o.head.metrics p))
    && sound (part o.head.strings p)
    (name_at o.layout (part o.head.metrics p) i)
    (name_units o.layout (part o.head.metrics p) i))

-- where the name stands in the file, without its zero
abbrev pub name_place : Opening → List ℕ → ℕ → Place
name_place o p i =
    record {
      at = o.head.strings.at + name_at o.layout (part o.head.metrics p) i;
      len = 2 * name_units o.layout (part o.head.metrics p) i;
    }

-- checks 1 to 6 pass on the bytes lent, and the entry can be shown
abbrev pub entry_place : List ℕ → ℕ → Option Place
entry_place p i =
    asked (run open_plan p) None (λ o. pick (entry_shown o p i) (Some (name_place o p i)) None)

-- ---- volume i
abbrev pub accepts : Decision Unit → Bool
accepts (accept t) = true
accepts (refuse r) = false

-- check 8 passes, i is below the volume count, the whole volumes section is lent, and volume i passes 14 and 15
unfoldable pub volume_shown : Opening → List ℕ → ℕ → Bool
volume_shown o p i =
    is_none (entries_fault o.head.volumes.count (volume_entry o.layout) o.head.volumes.len)
    && (ltb i o.head.volumes.count
    && (leb o.head.volumes.len (length (part o.head.volumes p))
    && accepts (volume_checks (part o.head.volumes p) o.layout o.head.volumes.at i)))

-- creation time, serial number, the counts of references and directories, and the path as a place of the file
unfoldable pub volume_facts : Opening → List ℕ → ℕ → VolumeFacts
volume_facts o p i =
    let v = volume_of (part o.head.volumes p) (entry_at o.layout i) in
    record {
      created = v.created;
      serial = v.serial;
      references = v.references;
      directories = v.directories;
      path = record { at = o.head.volumes.at + v.path; len = 2 * v.units };
    }

abbrev pub volume_asked : List ℕ → ℕ → Option VolumeFacts
volume_asked p i =
    asked (run open_plan p) None (λ o. pick (volume_shown o p i) (Some (volume_facts o p i)) None)

-- the facts where a volume is shown; no: zeros and an empty part
abbrev pub volume_values : Option VolumeFacts → VolumeFacts
volume_values (Some f) = f
volume_values None =
    record { created = 0; serial = 0; references = 0; directories = 0; path = record { at = 0; len = 0 } }

-- creation time, serial number, references, directories, path offset, path length in bytes
abbrev pub volume_list : VolumeFacts → List ℕ
volume_list f = f.created ∷ f.serial ∷ f.references ∷ f.directories ∷ f.path.at ∷ f.path.len ∷ []

-- what each case says: 1 for yes and 0 for no, and the facts in that order
abbrev pub volume_said : Option VolumeFacts → Said
volume_said (Some f) = record { number = 1; values = volume_list f }
volume_said None = record { number = 0; values = volume_list (volume_values None) }

-- where its path stands in a file whose checks 1 to 6 gave that opening; an empty part at the start where it is not shown
abbrev pub path_place : Opening → List ℕ → ℕ → Place
path_place o p i = pick (volume_shown o p i) (volume_facts o p i).path (place_of None)

-- ---- reference k of volume i, where k is below n
unfoldable pub reference_shown : Opening → List ℕ → ℕ → ℕ → Bool
reference_shown o p i k = volume_shown o p i && ltb k (volume_of (part o.head.volumes p) (entry_at o.layout i)).references

abbrev pub reference_asked : List ℕ → ℕ → ℕ → Option Reference
reference_asked p i k =
    asked (run open_plan p) None
    (λ o.
    pick (reference_shown o p i k)
    (Some (reference_of (part o.head.volumes p) (entry_at o.layout i) k))
    None)

-- what each case says: 1 for yes and 0 for no; entry index and sequence number, zeros where the answer is no
abbrev pub reference_said : Option Reference → Said
reference_said (Some r) = record { number = 1; values = r.index ∷ r.sequence ∷ [] }
reference_said None = record { number = 0; values = 0 ∷ 0 ∷ [] }

-- ---- the name of an entry that lies in the metrics, as a place of the strings
unfoldable pub name_sound : Layout → List ℕ → List ℕ → ℕ → Bool
name_sound v metrics strings i = sound strings (name_at v metrics i) (name_units v metrics i)

abbrev pub name_in : Layout → List ℕ → ℕ → Place
name_in v metrics i = record { at = name_at v metrics i; len = 2 * name_units v metrics i }
