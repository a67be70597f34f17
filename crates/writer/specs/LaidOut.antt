-- REQUEST 101, test files on demand: the bytes of the file that a description gives.
use Rattle.std.specs.Prelude.{List, [], ◌∷◌, ◌++◌, ℕ, zero, suc, ◌+◌, ◌-◌, ◌*◌, ◌/◌, ◌%◌, ◌^◌, ◌<◌, min, eqb, length, get_or, take, replicate}
use Rattle.lists.specs.Count.{pick}
use Rattle.lists.specs.Pairs.{first_of, second_of}
use Rattle.layout.specs.Head.{version_at, signature_at, declared_size_at, program_name_at, program_name_units, stored_hash_at, metrics_offset_at, metrics_count_at}
use Rattle.layout.specs.Head.{trace_offset_at, trace_count_at, strings_offset_at, strings_size_at, volumes_offset_at, volumes_count_at, volumes_size_at}
use Rattle.layout.specs.Versions.{version_number, layout_of, run_time_at, run_count_at, metrics_entry, name_offset_at, name_length_at, trace_entry, first_section}
use Rattle.layout.specs.declared.Version.{Version}
use Rattle.layout.specs.declared.Layout.{Layout}

-- ---- bytes

-- a number in so many bytes, the lowest first
unfoldable pub bytes_of : ℕ → ℕ → List ℕ
bytes_of zero n = []
bytes_of (suc width) n = n % 256 ∷ bytes_of width (n / 256)

-- 16-bit units one after another
unfoldable pub unit_bytes : List ℕ → List ℕ
unit_bytes [] = []
unit_bytes (u ∷ us) = bytes_of 2 u ++ unit_bytes us

-- bytes that have their place
pub record Field : Type 0 where
  pub at : ℕ
  pub bytes : List ℕ

abbrev pub number : ℕ → ℕ → ℕ → Field
number at width n = record { at = at; bytes = bytes_of width n }

-- the bytes from a place up to an end: each field where it stands, in rising order, and all other bytes zero
unfoldable pub spread : ℕ → List Field → ℕ → List ℕ
spread from [] end = replicate (end - from) 0
spread from (f ∷ fs) end = replicate (f.at - from) 0 ++ (f.bytes ++ spread (f.at + length f.bytes) fs end)

-- n entries one after another
unfoldable pub entries : (ℕ → List ℕ) → ℕ → List ℕ
entries f zero = []
entries f (suc n) = entries f n ++ f n

-- ---- what a file is made from

-- the program name in 16-bit units, tables of pairs (name offset, name length; next index, block count), and two sections in bytes
pub record Description : Type 0 where
  pub name : List ℕ
  pub stored_hash : ℕ
  pub run_time : ℕ
  pub run_count : ℕ
  pub metrics : List ℕ
  pub trace : List ℕ
  pub strings : List ℕ
  pub volumes : List ℕ
  pub volume_count : ℕ

abbrev pub description : List ℕ → ℕ → ℕ → ℕ → List ℕ → List ℕ → List ℕ → List ℕ → ℕ → Description
description name hash time count metrics trace strings volumes volume_count =
    record {
      name = name;
      stored_hash = hash;
      run_time = time;
      run_count = count;
      metrics = metrics;
      trace = trace;
      strings = strings;
      volumes = volumes;
      volume_count = volume_count;
    }

-- its numbers fit their widths
pub record Numbers (d : Description) : Type 0 where
  pub units : (k : ℕ) → get_or d.name k 0 < 65536
  pub hash : d.stored_hash < 256 ^ 4
  pub time : d.run_time < 256 ^ 8
  pub count : d.run_count < 256 ^ 4
  pub metrics : (k : ℕ) → get_or d.metrics k 0 < 256 ^ 4
  pub trace : (k : ℕ) → get_or d.trace k 0 < 256 ^ 4
  pub volumes : d.volume_count < 256 ^ 4

-- the name's units up to its first zero, or all of them
unfoldable pub before_zero : List ℕ → List ℕ
before_zero [] = []
before_zero (u ∷ us) = pick (eqb u 0) [] (u ∷ before_zero us)

-- those that the file carries: it has room for 30
abbrev pub name_kept : Description → List ℕ
name_kept d = take program_name_units (before_zero d.name)

-- how many pairs a table has; an odd last number is ignored
abbrev pub pairs : List ℕ → ℕ
pairs table = length table / 2

-- ---- where the sections stand: metrics, trace, strings, volumes, without gaps. An empty one stands where it would.
abbrev pub metrics_at : Layout → ℕ
metrics_at l = first_section l

abbrev pub trace_at : Layout → Description → ℕ
trace_at l d = metrics_at l + pairs d.metrics * metrics_entry l

abbrev pub strings_at : Layout → Description → ℕ
strings_at l d = trace_at l d + pairs d.trace * trace_entry l

abbrev pub volumes_at : Layout → Description → ℕ
volumes_at l d = strings_at l d + length d.strings

-- the file ends with the volumes
abbrev pub laid_size : Layout → Description → ℕ
laid_size l d = volumes_at l d + length d.volumes

-- ---- the file

-- the head. S has 32 bits: a size past them stands as the greatest such number, which check 3 refuses
abbrev pub head_fields : Version → Layout → Description → List Field
head_fields v l d =
    number version_at 4 (version_number v)
    ∷ number signature_at 4 0x41434353
    ∷ number declared_size_at 4 (min (laid_size l d) 4_294_967_295)
    ∷ record { at = program_name_at; bytes = unit_bytes (name_kept d) }
    ∷ number stored_hash_at 4 d.stored_hash
    ∷ number metrics_offset_at 4 (metrics_at l)
    ∷ number metrics_count_at 4 (pairs d.metrics)
    ∷ number trace_offset_at 4 (trace_at l d)
    ∷ number trace_count_at 4 (pairs d.trace)
    ∷ number strings_offset_at 4 (strings_at l d)
    ∷ number strings_size_at 4 (length d.strings)
    ∷ number volumes_offset_at 4 (volumes_at l d)
    ∷ number volumes_count_at 4 d.volume_count
    ∷ number volumes_size_at 4 (length d.volumes)
    ∷ number (run_time_at l) 8 d.run_time
    ∷ number (run_count_at l) 4 d.run_count
    ∷ []

abbrev pub head : Version → Layout → Description → List ℕ
head v l d = spread 0 (head_fields v l d) (first_section l)

-- a metrics entry: the offset and the length of its name
abbrev pub metrics_bytes : Layout → List ℕ → ℕ → List ℕ
metrics_bytes l table i = spread 0 (number (name_offset_at l) 4 (first_of table i) ∷ number (name_length_at l) 4 (second_of table i) ∷ []) (metrics_entry l)

-- a trace entry: its next index and its block count
abbrev pub trace_bytes : Layout → List ℕ → ℕ → List ℕ
trace_bytes l table i = spread 0 (number 0 4 (first_of table i) ∷ number 4 4 (second_of table i) ∷ []) (trace_entry l)

-- THE FILE, by a version's layout
unfoldable pub laid_by : Version → Layout → Description → List ℕ
laid_by v l d =
    head v l d ++ (entries (metrics_bytes l d.metrics) (pairs d.metrics)
    ++ (entries (trace_bytes l d.trace) (pairs d.trace) ++ (d.strings ++ d.volumes)))

abbrev pub laid_out : Version → Description → List ℕ
laid_out v d = laid_by v (layout_of v) d
