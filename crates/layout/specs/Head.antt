-- Document 01's "Head": where each field of the head stands, whatever the version.
use Rattle.std.specs.Prelude.{ℕ, ◌+◌, ◌*◌}

abbrev pub version_at : ℕ
version_at = 0

abbrev pub signature_at : ℕ
signature_at = 4

abbrev pub declared_size_at : ℕ
declared_size_at = 12

-- the program name, 30 units
abbrev pub program_name_at : ℕ
program_name_at = 16

abbrev pub program_name_units : ℕ
program_name_units = 30

abbrev pub stored_hash_at : ℕ
stored_hash_at = 76

abbrev pub metrics_offset_at : ℕ
metrics_offset_at = 84

abbrev pub metrics_count_at : ℕ
metrics_count_at = 88

abbrev pub trace_offset_at : ℕ
trace_offset_at = 92

abbrev pub trace_count_at : ℕ
trace_count_at = 96

abbrev pub strings_offset_at : ℕ
strings_offset_at = 100

abbrev pub strings_size_at : ℕ
strings_size_at = 104

abbrev pub volumes_offset_at : ℕ
volumes_offset_at = 108

abbrev pub volumes_count_at : ℕ
volumes_count_at = 112

abbrev pub volumes_size_at : ℕ
volumes_size_at = 116

-- where entry i of an array starts in the file: entries of that size from `start`
abbrev pub entry_offset : ℕ → ℕ → ℕ → ℕ
entry_offset start size i = start + i * size
