-- Document 01's table of versions, with version 30 (request 107): every version has its own constants, kept together.
use Rattle.std.specs.Prelude.{Bool, true, false, List, [], ◌∷◌, ℕ, eqb, Option, Some, None}
use Rattle.lists.specs.Answer.{Said}
use Rattle.lists.specs.Count.{pick}
use Rattle.layout.specs.declared.Version.{Version}
use Rattle.layout.specs.declared.Version.TheVariants.{V17, V23, V26, V30}
use Rattle.layout.specs.declared.Layout.{Layout}

-- the greatest declared size
abbrev pub size_limit : ℕ
size_limit = 67_108_864

-- one row: last run time | how many run times | run count | H | metrics entry | name offset, length in it | volume entry
-- | trace entry | whether it has a next field | first section | how many bytes tell the head form, 0 where there is one form
-- | file reference in the metrics entry (document 03, A2), 0 for none
abbrev pub row : ℕ → ℕ → ℕ → ℕ → ℕ → ℕ → ℕ → ℕ → ℕ → Bool → ℕ → ℕ → ℕ → Layout
row time times runs head metrics offset length volume trace next section form reference =
    record {
      run_time_at = time;
      time_count = times;
      run_count_at = runs;
      head_end = head;
      metrics_entry = metrics;
      name_offset_at = offset;
      name_length_at = length;
      volume_entry = volume;
      trace_entry = trace;
      has_next = next;
      first_section = section;
      form_required = form;
      file_reference_at = reference;
    }

-- of a version with several head forms, the one with the smallest H
abbrev pub layout_of : Version → Layout
layout_of V17 = row 120 1 144 148 20 8 12 40 12 true 152 0 0
layout_of V23 = row 128 1 152 156 32 12 16 104 12 true 240 0 24
layout_of V26 = row 128 8 208 212 32 12 16 104 12 true 304 0 24
layout_of V30 = row 128 8 208 212 32 12 16 96 8 false 304 88 24

-- the columns by name; H is the end of the last field read
abbrev pub run_time_at : Layout → ℕ
run_time_at l = l.run_time_at

abbrev pub time_count : Layout → ℕ
time_count l = l.time_count

abbrev pub run_count_at : Layout → ℕ
run_count_at l = l.run_count_at

abbrev pub head_end : Layout → ℕ
head_end l = l.head_end

abbrev pub metrics_entry : Layout → ℕ
metrics_entry l = l.metrics_entry

abbrev pub name_offset_at : Layout → ℕ
name_offset_at l = l.name_offset_at

abbrev pub name_length_at : Layout → ℕ
name_length_at l = l.name_length_at

abbrev pub volume_entry : Layout → ℕ
volume_entry l = l.volume_entry

abbrev pub trace_entry : Layout → ℕ
trace_entry l = l.trace_entry

-- a trace entry starts with a next index
abbrev pub has_next : Layout → Bool
has_next l = l.has_next

abbrev pub first_section : Layout → ℕ
first_section l = l.first_section

abbrev pub form_required : Layout → ℕ
form_required l = l.form_required

abbrev pub file_reference_at : Layout → ℕ
file_reference_at l = l.file_reference_at

-- THE HEAD FORMS of version 30, a row each: source document 000 names one
abbrev pub forms : List Layout
forms = layout_of V30 ∷ []

-- the form whose first section, the metrics array, starts there
abbrev pub form_at : ℕ → List Layout → Option Layout
form_at start [] = None
form_at start (l ∷ ls) = pick (eqb start (first_section l)) (Some l) (form_at start ls)

-- the number that the file has for a version
abbrev pub version_number : Version → ℕ
version_number V17 = 17
version_number V23 = 23
version_number V26 = 26
version_number V30 = 30

-- the version of a number, for 17, 23, 26 and 30
unfoldable pub version_of : ℕ → Option Version
version_of v =
    pick (eqb v 17) (Some V17) (pick (eqb v 23) (Some V23) (pick (eqb v 26) (Some V26) (pick (eqb v 30) (Some V30) None)))

-- what each case says: 1 and the version's number, or 0 and none
abbrev pub known_said : Option Version → Said
known_said (Some v) = record { number = 1; values = version_number v ∷ [] }
known_said None = record { number = 0; values = [] }
