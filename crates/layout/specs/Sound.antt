-- What holds of the constants of every version and head form, so that no proof goes by version.
use Rattle.std.specs.Prelude.{◌≡◌, ◌+◌, ◌*◌, ◌≤◌}
use Rattle.lists.specs.Count.{pick}
use Rattle.layout.specs.declared.Layout.{Layout}
use Rattle.layout.specs.Versions.{run_time_at, time_count, run_count_at, head_end, metrics_entry, name_offset_at}
use Rattle.layout.specs.Versions.{name_length_at, volume_entry, trace_entry, has_next, form_required, file_reference_at}

pub record SoundLayout (l : Layout) : Type 0 where
  -- the head's fields that every version has end by H
  pub fixed : 120 ≤ head_end l
  pub small : head_end l ≤ 212
  -- the run times that the version has end by H; it has one at least, and no more than the record
  pub run_times : run_time_at l + 8 * time_count l ≤ head_end l
  pub one_time : 1 ≤ time_count l
  pub eight_times : time_count l ≤ 8
  pub run_count_lem : run_count_at l + 4 ≤ head_end l
  pub metrics_entry_lem : metrics_entry l ≤ 32
  pub name_offset : name_offset_at l + 4 ≤ metrics_entry l
  pub name_length : name_length_at l + 4 ≤ metrics_entry l
  pub volume_entry_lem : volume_entry l ≤ 104
  pub volume_fields : 36 ≤ volume_entry l
  pub trace_entry_lem : trace_entry l ≤ 12
  pub next : 4 ≤ trace_entry l
  -- a trace entry that has a next index is 12 bytes long
  pub linked : pick (has_next l) (trace_entry l) 12 ≡ 12
  -- what tells the head form lies before the smallest H
  pub form : form_required l ≤ 88
  -- the file reference, where there is one, lies in the metrics entry
  pub file_reference : file_reference_at l + 8 ≤ metrics_entry l
