-- The head's fields and sections, and what each of checks 2 to 8 finds wrong in them (document 01, "Head" and rows 2 to 8; request 107,
-- 21), with the file offset of the field at fault (request 103).
use Rattle.std.specs.Prelude.{List, Bool, ◌&&◌, ◌||◌, not, ℕ, ◌+◌, ◌-◌, ◌*◌, ◌/◌, eqb, ltb, length, take, drop}
use Rattle.lists.specs.First.{first, first_from}
use Rattle.lists.specs.Count.{pick, any_below}
use Rattle.little_endian.specs.Number.{le, zero_unit}
use Rattle.layout.specs.Head.{signature_at, declared_size_at, program_name_at, program_name_units, stored_hash_at, metrics_offset_at, metrics_count_at}
use Rattle.layout.specs.Head.{trace_offset_at, trace_count_at, strings_offset_at, strings_size_at, volumes_offset_at, volumes_count_at, volumes_size_at}
use Rattle.layout.specs.Versions.{size_limit, head_end, metrics_entry, trace_entry, has_next, form_required, forms, form_at}
use Rattle.layout.specs.declared.Layout.{Layout}
use Rattle.incremental.specs.Decision.{fault_at, fault_of}
use Rattle.sections.specs.declared.Section.{Section}
use Rattle.sections.specs.declared.Head.{Head}
use Rattle.incremental.specs.declared.Fault.{Fault}
use Rattle.std.specs.Prelude.{None, Option, Some}

-- 2: the signature differs from 53 43 43 41
unfoldable pub signature_fault : List ℕ → Option Fault
signature_fault b = fault_at 0 signature_at (not (eqb (le 4 b signature_at) 0x41434353))

-- S: the declared size
abbrev pub declared_size : List ℕ → ℕ
declared_size b = le 4 b declared_size_at

-- the stored hash
abbrev pub stored_hash : List ℕ → ℕ
stored_hash b = le 4 b stored_hash_at

-- 3: S below H or above 67,108,864
unfoldable pub size_fault : Layout → List ℕ → Option Fault
size_fault l b = fault_at 0 declared_size_at (ltb (declared_size b) (head_end l) || ltb size_limit (declared_size b))

-- how many of the program name's 30 units lie whole in so many bytes
unfoldable pub name_units_in : ℕ → ℕ
name_units_in n = pick (ltb n (program_name_at + 2 * program_name_units)) ((n - program_name_at) / 2) program_name_units

-- 4: the first zero unit of those of the program name's 30 that lie whole in the bytes
unfoldable pub name_end : List ℕ → Option ℕ
name_end b = first (λ i. zero_unit b (program_name_at + 2 * i)) (name_units_in (length b))

-- a head form, unless the size is below its H
abbrev pub room_for : ℕ → Option Layout → Option Layout
room_for size (Some l) = pick (ltb size (head_end l)) None (Some l)
room_for size None = None

-- 21: a version with one form has that one; of version 30, the form that is known by where the metrics array starts, unless S is below
-- its H
unfoldable pub form_in : Layout → List ℕ → Option Layout
form_in l b = pick (eqb (form_required l) 0) (Some l) (room_for (declared_size b) (form_at (le 4 b metrics_offset_at) forms))

-- a section: its offset, length, count of entries, and its end, which is H where it is empty
abbrev pub section_of : ℕ → ℕ → ℕ → ℕ → Section
section_of h at len count = record { at = at; len = len; end = pick (eqb len 0) h (at + len); count = count }

-- the declared size and the sections that the first H bytes give
unfoldable pub head_of : Layout → List ℕ → Head
head_of l b =
    record {
      declared_size = declared_size b;
      metrics = section_of (head_end l) (le 4 b metrics_offset_at) (le 4 b metrics_count_at * metrics_entry l) (le 4 b metrics_count_at);
      trace = section_of (head_end l) (le 4 b trace_offset_at) (le 4 b trace_count_at * trace_entry l) (le 4 b trace_count_at);
      strings = section_of (head_end l) (le 4 b strings_offset_at) (le 4 b strings_size_at) (le 4 b strings_size_at);
      volumes = section_of (head_end l) (le 4 b volumes_offset_at) (le 4 b volumes_size_at) (le 4 b volumes_count_at);
    }

-- S, as the head has it
abbrev pub size_in : Head → ℕ
size_in h = h.declared_size

-- the bytes of a section
abbrev pub part : Section → List ℕ → List ℕ
part s b = take s.len (drop s.at b)

-- the section of a number: 1 metrics, 2 trace, 3 strings, 4 volumes
abbrev pub numbered : Head → ℕ → Section
numbered h n = pick (eqb n 1) h.metrics (pick (eqb n 2) h.trace (pick (eqb n 3) h.strings h.volumes))

-- the offset field of a section, by its number: the field at fault of 5 and 6
abbrev pub offset_field_at : ℕ → ℕ
offset_field_at n = pick (eqb n 1) metrics_offset_at (pick (eqb n 2) trace_offset_at (pick (eqb n 3) strings_offset_at volumes_offset_at))

-- a section of nonzero length starts before H or ends after S
unfoldable pub outside : ℕ → ℕ → Section → Bool
outside h size s = not (eqb s.len 0) && (ltb s.at h || ltb size s.end)

-- 5: the first such section, of the four from 1
unfoldable pub outside_fault : Layout → Head → Option Fault
outside_fault l h = fault_of offset_field_at (first_from (λ n. outside (head_end l) (size_in h) (numbered h n)) 4 1)

-- two sections of nonzero length share a byte
unfoldable pub shares : Section → Section → Bool
shares s t = (not (eqb s.len 0) && not (eqb t.len 0)) && (ltb s.at t.end && ltb t.at s.end)

-- section n shares a byte with a lower section
abbrev pub shares_lower : Head → ℕ → Bool
shares_lower h n = any_below (λ k. shares (numbered h (k + 1)) (numbered h n)) (n - 1)

-- 6: the smallest such section
unfoldable pub overlap_fault : Head → Option Fault
overlap_fault h = fault_of offset_field_at (first_from (shares_lower h) 4 1)

-- how many trace entries have a next index: all of them, or none where the version's entries have no such field (request 107)
unfoldable pub link_count : Layout → Head → ℕ
link_count l h = pick (has_next l) h.trace.count 0

-- 7: the working buffer has fewer places than trace entries that have a next index
unfoldable pub places_fault : ℕ → ℕ → Option Fault
places_fault places count = fault_at 0 trace_count_at (ltb places count)

-- 8: volume count times entry size exceeds the volumes size
unfoldable pub entries_fault : ℕ → ℕ → ℕ → Option Fault
entries_fault count entry size = fault_at 0 volumes_count_at (ltb size (count * entry))
