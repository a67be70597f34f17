-- EXAMPLES of files that the layout allows, so that demand 2 speaks of something: the file of 148 bytes of document 01's "Program",
-- and for each version one file with every section.
use Rattle.std.specs.Prelude.{◌≡◌, List, [], ◌∷◌, ◌++◌, ℕ, ◌+◌, ◌-◌, ◌*◌, ◌/◌, ◌%◌, ◌≤◌, length, replicate}
use Rattle.lists.specs.Count.{pick}
use Rattle.layout.specs.Versions.{layout_of, version_number, time_count, run_count_at, head_end, metrics_entry}
use Rattle.layout.specs.Versions.{name_offset_at, volume_entry, trace_entry, has_next, first_section}
use Rattle.layout.specs.declared.Version.{Version}
use Rattle.layout.specs.declared.Version.TheVariants.{V17, V23, V26, V30}
use Rattle.incremental.specs.Decision.{accept}
use Rattle.incremental.specs.Plan.{decided}
use Rattle.head.specs.declared.checks.Opening.{Opening}
use Rattle.trace.specs.Links.{end}
use Rattle.reader.specs.declared.verdict.RunTimes.{RunTimes}
use Rattle.reader.specs.declared.verdict.Acceptance.{Acceptance}
use Rattle.reader.specs.Checks.{file_answer, ReadsFile}
use Rattle.reader.specs.Allowed.{Allowed, given_record}
use Rattle.query.specs.Queries.{entry_place, volume_asked, reference_asked}
use Rattle.std.specs.Prelude.{Ok, Result, Some}
use Rattle.incremental.specs.declared.Refusal.{Refusal}

-- ---- the files
abbrev pub u16 : ℕ → List ℕ
u16 n = n % 256 ∷ n / 256 % 256 ∷ []

abbrev pub u32 : ℕ → List ℕ
u32 n = u16 n ++ u16 (n / 65_536)

abbrev pub zero_bytes : ℕ → List ℕ
zero_bytes n = replicate n 0

-- a head of H bytes, with program name A, stored hash 65, and the given 36 bytes of section offsets, counts and sizes
abbrev pub head_bytes : Version → ℕ → ℕ → List ℕ → List ℕ
head_bytes v size runs sections =
    -- 0: version, signature, 4 bytes unread, declared size
    u32 (version_number v) ++ (0x53 ∷ 0x43 ∷ 0x43 ∷ 0x41 ∷ []) ++ zero_bytes 4 ++ u32 size
    -- 16: the program name's 30 units
    ++ u16 65 ++ zero_bytes 58
    -- 76: stored hash, 4 bytes unread
    ++ u32 65 ++ zero_bytes 4
    -- 84
    ++ sections
    -- 120: run times 0, and what stands before the run count; the run count ends the head
    ++ zero_bytes (run_count_at (layout_of v) - 120) ++ u32 runs

-- so many run times, all of them 0
abbrev pub zero_times : ℕ → RunTimes
zero_times n = record { count = n; latest = 0; second = 0; third = 0; fourth = 0; fifth = 0; sixth = 0; seventh = 0; eighth = 0 }

-- 148 bytes, all section counts and sizes 0. With one run it is the file of document 01's "Program".
abbrev pub smallest : ℕ → List ℕ
smallest runs = head_bytes V17 148 runs (zero_bytes 36)

abbrev pub smallest_record : ℕ → Acceptance
smallest_record runs =
    record {
      version = 17;
      declared_size = 148;
      name_units = 1;
      stored_hash = 65;
      times = zero_times 1;
      run_count = runs;
      metrics_count = 0;
      trace_count = 0;
      volume_count = 0;
      chain_count = 0;
    }

-- one metrics entry: its name is at 0 of the strings and has one unit
abbrev metrics_bytes : Version → List ℕ
metrics_bytes v = zero_bytes (name_offset_at (layout_of v)) ++ u32 0 ++ u32 1 ++ zero_bytes (metrics_entry (layout_of v) - (name_offset_at (layout_of v) + 8))

-- two trace entries: entry 0 names entry 1 as next, and entry 1 ends the chain; in version 30 these are block counts
abbrev trace_bytes : Version → List ℕ
trace_bytes v = let rest = zero_bytes (trace_entry (layout_of v) - 4) in u32 1 ++ rest ++ u32 end ++ rest

-- the name B and its zero unit
abbrev strings_bytes : List ℕ
strings_bytes = u16 66 ++ u16 0

-- one volume, whose path, references and directories stand one after another behind its entry
abbrev volumes_bytes : Version → List ℕ
volumes_bytes v =
    -- path offset and unit count; creation time 7, serial number 9
    u32 (volume_entry (layout_of v)) ++ u32 1 ++ u32 7 ++ u32 0 ++ u32 9
    -- file references offset and byte size; directory offset and count; the rest of the entry
    ++ u32 (volume_entry (layout_of v) + 2) ++ u32 16 ++ u32 (volume_entry (layout_of v) + 18) ++ u32 1 ++ zero_bytes (volume_entry (layout_of v) - 36)
    -- the path C
    ++ u16 67
    -- the number of references at byte 4; the reference with entry index 5 and sequence number 3
    ++ u32 0 ++ u32 1 ++ u32 5 ++ u16 0 ++ u16 3
    -- the directory D: its length, its unit, a zero unit
    ++ u16 1 ++ u16 68 ++ u16 0

-- where the sections start, one after another from where Windows puts the first, and where the last ends
abbrev trace_at : Version → ℕ
trace_at v = first_section (layout_of v) + metrics_entry (layout_of v)

abbrev strings_at : Version → ℕ
strings_at v = trace_at v + 2 * trace_entry (layout_of v)

abbrev volumes_at : Version → ℕ
volumes_at v = strings_at v + 4

abbrev pub full_size : Version → ℕ
full_size V17 = 264
full_size V23 = 428
full_size V26 = 492
full_size V30 = 476

-- one metrics entry with its name, two trace entries, in a chain where they have a next index, one volume with a path, one reference and one directory
abbrev pub full : Version → List ℕ
full v =
    head_bytes v (full_size v) 1
    (u32 (first_section (layout_of v)) ++ u32 1
    ++ u32 (trace_at v) ++ u32 2
    ++ u32 (strings_at v) ++ u32 4
    ++ u32 (volumes_at v) ++ u32 1 ++ u32 (volume_entry (layout_of v) + 24))
    ++ zero_bytes (first_section (layout_of v) - head_end (layout_of v))
    ++ metrics_bytes v ++ trace_bytes v ++ strings_bytes ++ volumes_bytes v

-- one chain, and the table of predecessors: entry 0 names entry 1. Without next indexes no chain, and the buffer stays filled
abbrev pub full_chains : Version → ℕ
full_chains v = pick (has_next (layout_of v)) 1 0

abbrev pub full_table : Version → List ℕ
full_table v = end ∷ pick (has_next (layout_of v)) 0 end ∷ []

abbrev pub full_record : Version → Acceptance
full_record v =
    record {
      version = version_number v;
      declared_size = full_size v;
      name_units = 1;
      stored_hash = 65;
      times = zero_times (time_count (layout_of v));
      run_count = 1;
      metrics_count = 1;
      trace_count = 2;
      volume_count = 1;
      chain_count = full_chains v;
    }

-- ---- what holds of them

-- a file that the layout allows, and that so is accepted wherever each trace entry has a working place
pub record Example (p : List ℕ) (a : Acceptance) : Type 0 where
  pub allowed : (o : Opening) × Allowed p o × (given_record o p ≡ a)
  pub accepted : (buffer : List ℕ) (v : Result Acceptance Refusal) (after : List ℕ) → a.trace_count ≤ length buffer → ReadsFile p buffer v after → v ≡ Ok a

pub record SmallestFile : Type 0 where
  pub long : length (smallest 1) ≡ 148
  pub answer : file_answer (smallest 1) 0 ≡ decided (accept (record { fields = smallest_record 1; table = [] }))
  -- with a working place, which no entry names; and with another run count
  pub place : file_answer (smallest 1) 1 ≡ decided (accept (record { fields = smallest_record 1; table = end ∷ [] }))
  pub runs : file_answer (smallest 2) 0 ≡ decided (accept (record { fields = smallest_record 2; table = [] }))

pub record FullFile (v : Version) : Type 0 where
  pub long : length (full v) ≡ full_size v
  pub answer : file_answer (full v) 2 ≡ decided (accept (record { fields = full_record v; table = full_table v }))
  -- the metrics entry's name, the volume with its counts and its path, and its reference can be shown
  pub name : entry_place (full v) 0 ≡ Some (record { at = strings_at v; len = 2 })
  pub volume : volume_asked (full v) 0
      ≡ Some
      (record { created = 7; serial = 9; references = 1; directories = 1; path = record { at = volumes_at v + volume_entry (layout_of v); len = 2 } })
  pub reference : reference_asked (full v) 0 0 ≡ Some (record { index = 5; sequence = 3 })

pub record Examples : Type 0 where
  pub smallest_file : SmallestFile
  pub smallest_allowed : Example (smallest 1) (smallest_record 1)
  pub full_file : (v : Version) → FullFile v
  pub full_allowed : (v : Version) → Example (full v) (full_record v)
