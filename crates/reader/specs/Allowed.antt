-- DEMAND 2: a file is accepted exactly when document 01's layout allows it, and then every field is the one that layout gives.
use Rattle.incremental.specs.declared.Refusal.{Refusal}
use Rattle.std.specs.Prelude.{◌≡◌, List, ◌⊎◌, ℕ, ◌*◌, ◌≤◌, ◌<◌, length}
use Rattle.little_endian.specs.Number.{le}
use Rattle.layout.specs.Versions.{version_of, layout_of, head_end, volume_entry, size_limit}
use Rattle.layout.specs.Head.{version_at, signature_at}
use Rattle.sections.specs.Fields.{declared_size, form_in, link_count, head_of, part}
use Rattle.head.specs.Rules.{NameEnds, Inside, Apart}
use Rattle.head.specs.declared.checks.Opening.{Opening}
use Rattle.names.specs.Names.{name_at, name_units, SoundName}
use Rattle.trace.specs.Links.{end, after, Cyclic, chains, predecessors}
use Rattle.volumes.specs.Volumes.{entry_at}
use Rattle.volumes.specs.SoundVolume.{SoundVolume}
use Rattle.reader.specs.declared.verdict.Acceptance.{Acceptance}
use Rattle.reader.specs.Checks.{nexts_in, record_of}
use Rattle.std.specs.Prelude.{Ok, Result, Some}

-- what the layout allows of the bytes `p`: the version, its constants, the name's length and the sections are those of `o`
pub record Allowed (p : List ℕ) (o : Opening) : Type 0 where
  -- 1: the version is 17, 23, 26 or 30
  pub version : version_of (le 4 p version_at) ≡ Some o.version
  -- 2: the signature is 53 43 43 41
  pub signature : le 4 p signature_at ≡ 0x41434353
  -- 3: S is neither below H nor above 67,108,864
  pub least : head_end (layout_of o.version) ≤ declared_size p
  pub most : declared_size p ≤ size_limit
  -- 16, 17: the file is as long as it says
  pub complete : length p ≡ declared_size p
  -- 4: the name ends within its 30 units
  pub name : NameEnds p o.name_units
  -- 21: the head form is known, and S is not below its H; a version with one form has that one
  pub form : form_in (layout_of o.version) p ≡ Some o.layout
  -- 5: no section of nonzero length starts before H or ends after S
  pub sections : o.head ≡ head_of o.layout p
  pub inside : Inside o.layout o.head
  -- 6: no two sections of nonzero length share a byte
  pub apart : Apart o.head
  -- 8: the volume entries fit their section
  pub entries : o.head.volumes.count * volume_entry o.layout ≤ o.head.volumes.len
  -- 9, 10: every name fits the strings section, has no zero unit inside and one directly after it
  pub names : (i : ℕ) → i < o.head.metrics.count
      → SoundName (part o.head.strings p) (name_at o.layout (part o.head.metrics p) i) (name_units o.layout (part o.head.metrics p) i)
  -- 11 to 13 speak of the entries that have a next index: in version 30 of none, so there they ask nothing of the trace section
  -- 11: every next index is 4,294,967,295 or an entry
  pub links : (i : ℕ) → i < link_count o.layout o.head → (after (nexts_in o p) i ≡ end) ⊎ (after (nexts_in o p) i < link_count o.layout o.head)
  -- 12: no entry is named as next by two entries
  pub unshared : (i k j : ℕ) → i < link_count o.layout o.head → k < link_count o.layout o.head → j < link_count o.layout o.head
      → after (nexts_in o p) i ≡ j → after (nexts_in o p) k ≡ j → i ≡ k
  -- 13: following next from an entry never comes back to it
  pub acyclic : (i : ℕ) → i < link_count o.layout o.head → Cyclic (nexts_in o p) i → ⊥
  -- 14, 15: every volume's path, references and directories lie in the section, and every directory ends in a zero unit
  pub volumes : (i : ℕ) → i < o.head.volumes.count → SoundVolume (part o.head.volumes p) (entry_at o.layout i)

-- the acceptance record and the table that the layout gives
abbrev pub given_record : Opening → List ℕ → Acceptance
given_record o p = record_of o p (chains (nexts_in o p))

abbrev pub given_table : Opening → List ℕ → ℕ → List ℕ
given_table o p m = predecessors (nexts_in o p) m

-- what the whole-file reader's verdict says of the layout
pub record AcceptedExactly (p buffer : List ℕ) (v : Result Acceptance Refusal) (after : List ℕ) : Type 0 where
  -- what is accepted is allowed, has a working place for each trace entry that has a next index, and every field and place is the one that the layout gives
  pub sound : (a : Acceptance) → v ≡ Ok a
      → (o : Opening) × Allowed p o × (link_count o.layout o.head ≤ length buffer) × (a ≡ given_record o p) × (after ≡ given_table o p (length buffer))
  -- what is allowed is accepted, with a working place for each trace entry that has a next index
  pub complete : (o : Opening) → Allowed p o → link_count o.layout o.head ≤ length buffer
      → (v ≡ Ok (given_record o p)) × (after ≡ given_table o p (length buffer))
