-- Document 01's point marked P on the catalogue line, which is an old line now, and its new form.
use Rattle.std.specs.Prelude.{◌≡◌, List, ℕ, ◌≤◌, length, Result}
use Rattle.text.specs.Ascii.{ascii}
use Rattle.catalogue.specs.declared.Fields.{Fields}
use Rattle.catalogue.specs.declared.Unwritten.{Unwritten}
use Rattle.catalogue.specs.Line.{reading, Writing}
use Rattle.catalogue.specs.RoundTrip.{Rewritten}

-- the line that is shown there
unfoldable pub example : List ℕ
example = ascii "000094000000410000000111\n"

-- the same with eight digits for the size
unfoldable pub new_example : List ℕ
new_example = ascii "00000094000000410000000111\n"

-- the fields of both
abbrev pub example_fields : Fields
example_fields = record { size = 148; hash = 65; runs = 1; version = 17 }

pub record LinePoints : Type 0 where
  pub line_read : reading example ≡ record { number = 0; fields = example_fields }
  pub new_line_read : reading new_example ≡ record { number = 0; fields = example_fields }
  -- writing the fields gives the new line
  pub line_written : (before : List ℕ) (w : Result (Unit {0}) Unwritten) (after : List ℕ)
      → 27 ≤ length before
      → Writing example_fields before w after
      → Rewritten new_example before w after
