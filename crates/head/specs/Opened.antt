-- What is known of bytes that checks 1 to 4, and 1 to 6, accept.
use Rattle.std.specs.Prelude.{◌≡◌, List, ℕ, ◌≤◌, length, take}
use Rattle.little_endian.specs.Number.{le}
use Rattle.layout.specs.Versions.{version_of, layout_of, head_end, form_required, size_limit}
use Rattle.sections.specs.Fields.{signature_fault, declared_size, name_end, form_in, head_of, outside_fault, overlap_fault}
use Rattle.head.specs.declared.checks.Start.{Start}
use Rattle.head.specs.declared.checks.Opening.{Opening}
use Rattle.std.specs.Prelude.{None, Some}

-- what checks 1 to 4 gave, of what 1 to 6 gave
abbrev pub start_in : Opening → Start
start_in o = record { version = o.version; layout = layout_of o.version; name_units = o.name_units }

-- WHAT CHECKS 1 TO 4 ACCEPT
pub record StartFacts (p : List ℕ) (s : Start) : Type 0 where
  pub laid : s.layout ≡ layout_of s.version
  pub least : head_end s.layout ≤ declared_size p
  pub most : declared_size p ≤ size_limit
  pub known : version_of (le 4 p 0) ≡ Some s.version
  pub ended : name_end (take 76 p) ≡ Some s.name_units
  pub named : 76 ≤ length p
  pub signed : signature_fault p ≡ None

-- WHAT CHECKS 1 TO 6 ACCEPT
pub record OpenFacts (p : List ℕ) (o : Opening) : Type 0 where
  pub start : StartFacts p (start_in o)
  pub told : form_required (layout_of o.version) ≤ length p
  pub formed : form_in (layout_of o.version) p ≡ Some o.layout
  pub least : head_end o.layout ≤ declared_size p
  pub whole : head_end o.layout ≤ length p
  pub fields : o.head ≡ head_of o.layout (take (head_end o.layout) p)
  pub inside : outside_fault o.layout o.head ≡ None
  pub apart : overlap_fault o.head ≡ None
  pub metrics : o.head.metrics.end ≤ declared_size p
  pub trace : o.head.trace.end ≤ declared_size p
  pub strings : o.head.strings.end ≤ declared_size p
  pub volumes : o.head.volumes.end ≤ declared_size p
