-- What is asked of a draft: a layout that is written, and a plan for a description that is within the limit.
use Rattle.std.specs.Prelude.{◌≡◌, true, ℕ, ◌+◌, ◌≤◌, ◌<◌, ltb, length, None, Option, Some}
use Rattle.lists.specs.Count.{pick}
use Rattle.layout.specs.Versions.{head_end, time_count, run_time_at, run_count_at, metrics_entry, name_offset_at, name_length_at, trace_entry}
use Rattle.layout.specs.Versions.{has_next, first_section, form_required, size_limit, layout_of}
use Rattle.layout.specs.declared.Version.{Version}
use Rattle.layout.specs.declared.Layout.{Layout}
use Rattle.writer.specs.declared.draft.Plan.{Plan}
use Rattle.writer.specs.LaidOut.{Description, Numbers, name_kept, pairs, trace_at, strings_at, volumes_at, laid_size}

-- ---- the layouts that are written

pub record Writable (l : Layout) : Type 0 where
  pub times : time_count l ≡ 1
  pub linked : has_next l ≡ true
  pub formed : form_required l ≡ 0
  pub trace : trace_entry l ≡ 12
  pub run_time : 120 ≤ run_time_at l
  pub run_count_lem : run_time_at l + 8 ≤ run_count_at l
  pub head : run_count_at l + 4 ≤ head_end l
  pub section : head_end l ≤ first_section l
  pub small : first_section l ≤ 240
  pub name_length : name_offset_at l + 4 ≤ name_length_at l
  pub metrics : name_length_at l + 4 ≤ metrics_entry l
  pub metrics_small : metrics_entry l ≤ 32

-- ---- a description

-- how many entries its tables have, where its sections stand, and the size of the file
abbrev pub plan_for : Layout → Description → Plan
plan_for l d =
    record {
      metrics = pairs d.metrics;
      trace = pairs d.trace;
      trace_at = trace_at l d;
      strings_at = strings_at l d;
      strings = length d.strings;
      volumes_at = volumes_at l d;
      volumes = length d.volumes;
      size = laid_size l d;
    }

-- 3 where the size exceeds the limit
abbrev pub planned : Layout → Description → Option Plan
planned l d = pick (ltb size_limit (laid_size l d)) None (Some (plan_for l d))

-- a version's layout, and for a description the plan and the length of its name
pub record Ready (v : Version) (l : Layout) (d : Description) (p : Plan) (units : ℕ) : Type 0 where
  pub laid : l ≡ layout_of v
  pub writable : Writable l
  pub numbers : Numbers d
  pub plan : p ≡ plan_for l d
  pub small : laid_size l d ≤ size_limit
  pub named : units ≡ length (name_kept d)
  pub short : units < 30
