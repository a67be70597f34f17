-- What only private contracts need: the queries on an opening, and on the bytes of the sections that they look at.
use Rattle.std.specs.Prelude.{is_none, Bool, ◌&&◌, List, [], ℕ, leb, ltb, length}
use Rattle.lists.specs.Count.{pick}
use Rattle.layout.specs.Versions.{volume_entry}
use Rattle.layout.specs.declared.Layout.{Layout}
use Rattle.sections.specs.Fields.{part, entries_fault}
use Rattle.sections.specs.declared.Section.{Section}
use Rattle.head.specs.declared.checks.Opening.{Opening}
use Rattle.volumes.specs.Volumes.{volume_checks, reference_of, entry_at}
use Rattle.query.specs.Queries.{entry_shown, name_place, name_sound, name_in, accepts, volume_shown, volume_facts, reference_shown}
use Rattle.query.specs.Contents.{directories_in, references_in, file_reference_of}
use Rattle.std.specs.Prelude.{None, Option, Some}
use Rattle.query.specs.declared.Place.{Place}
use Rattle.volumes.specs.declared.Reference.{Reference}
use Rattle.query.specs.declared.VolumeFacts.{VolumeFacts}

-- ---- where checks 1 to 6 pass
abbrev pub entry_in : Opening → List ℕ → ℕ → Option Place
entry_in o p i = pick (entry_shown o p i) (Some (name_place o p i)) None

abbrev pub volume_in : Opening → List ℕ → ℕ → Option VolumeFacts
volume_in o p i = pick (volume_shown o p i) (Some (volume_facts o p i)) None

abbrev pub reference_in : Opening → List ℕ → ℕ → ℕ → Option Reference
reference_in o p i k =
    pick (reference_shown o p i k)
    (Some (reference_of (part o.head.volumes p) (entry_at o.layout i) k))
    None

-- document 03
abbrev pub directories_shown : Opening → List ℕ → ℕ → List ℕ
directories_shown o p i = pick (volume_shown o p i) (directories_in o p i) []

abbrev pub references_shown : Opening → List ℕ → ℕ → List ℕ
references_shown o p i = pick (volume_shown o p i) (references_in o p i) []

abbrev pub entry_reference_in : Opening → List ℕ → ℕ → Option (Option Reference)
entry_reference_in o p i =
    pick (entry_shown o p i) (Some (file_reference_of o.layout (part o.head.metrics p) i)) None

-- ---- the name of an entry that lies in the metrics
abbrev pub name_shown : Layout → List ℕ → List ℕ → ℕ → Option Place
name_shown v metrics strings i = pick (name_sound v metrics strings i) (Some (name_in v metrics i)) None

-- ---- volume i on the bytes of its section
unfoldable pub section_shown : Section → Layout → List ℕ → ℕ → Bool
section_shown s v b i =
    is_none (entries_fault s.count (volume_entry v) s.len) && (ltb i s.count && (leb s.len (length b) && accepts (volume_checks b v s.at i)))
