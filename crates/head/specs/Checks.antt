-- Checks 1 to 6 of document 01's table in their order, and 21 of request 107 directly after 4: required length (document 01: reach),
-- number, fault with its file offset.
use Rattle.little_endian.specs.Number.{le}
use Rattle.layout.specs.Head.{version_at, program_name_at, metrics_offset_at}
use Rattle.layout.specs.Versions.{version_of, layout_of, head_end, form_required}
use Rattle.incremental.specs.Plan.{Plan, reach, check, given, done, ◌>>=◌, ◌>>◌}
use Rattle.sections.specs.Fields.{signature_fault, size_fault, name_end, form_in, head_of, outside_fault, overlap_fault}
use Rattle.head.specs.declared.checks.Start.{Start}
use Rattle.head.specs.declared.checks.Opening.{Opening}

-- CHECKS 1 TO 4
unfoldable pub start_plan : Plan Start
start_plan = do
  b ← reach 4
  v ← given 1 version_at (version_of (le 4 b version_at))
  b ← reach 8
  check 2 (signature_fault b)
  b ← reach 16
  check 3 (size_fault (layout_of v) b)
  b ← reach 76
  n ← given 4 program_name_at (name_end b)
  done (record { version = v; layout = layout_of v; name_units = n })

-- CHECK 21, where 1 to 4 gave `s`: the layout becomes that of the head form
unfoldable pub form_plan : Start → Plan Start
form_plan s = do
  b ← reach (form_required s.layout)
  l ← given 21 metrics_offset_at (form_in s.layout b)
  done (record { version = s.version; layout = l; name_units = s.name_units })

-- CHECKS 5 AND 6, by the layout of the head form; they give the sections too
unfoldable pub section_plan : Start → Plan Opening
section_plan s = do
  b ← reach (head_end s.layout)
  let h = head_of s.layout b
  check 5 (outside_fault s.layout h)
  check 6 (overlap_fault h)
  done (record { version = s.version; layout = s.layout; name_units = s.name_units; head = h })

-- CHECKS 1 TO 6, with 21 among them
unfoldable pub open_plan : Plan Opening
open_plan = do
  s ← start_plan
  formed ← form_plan s
  section_plan formed
