-- Document 01's "Catalogue line", with the new line of request 111. In all of it w is the number of size digits: 8 in a new line, 6 in an
-- old one. Both are read, and only new lines are written.
use Rattle.std.specs.Prelude.{◌≡◌, Bool, false, ◌&&◌, List, [], ◌∷◌, ◌++◌, ℕ, ◌+◌, leb, length, drop, Result, Ok, Err}
use Rattle.lists.specs.Count.{pick}
use Rattle.digits.specs.Hex.{hex_at, hex_digits}
use Rattle.lines.specs.Lines.{is_line}
use Rattle.layout.specs.Versions.{version_of, layout_of, head_end, size_limit}
use Rattle.catalogue.specs.declared.Fields.{Fields}
use Rattle.catalogue.specs.declared.NoLine.{NoLine}
use Rattle.catalogue.specs.declared.Unwritten.{Unwritten}
use Rattle.catalogue.specs.declared.Unwritten.TheVariants as unwritten
use Rattle.std.specs.Prelude.{None, Option, Some}
use Rattle.layout.specs.declared.Version.{Version}

-- the limit for the size of an old line
abbrev pub old_size_limit : ℕ
old_size_limit = 16_777_215

-- digits and a line feed: size w, stored hash 8, run count 8, version 2
unfoldable pub line_of : ℕ → Fields → List ℕ
line_of w f = hex_digits w f.size ++ (hex_digits 8 f.hash ++ (hex_digits 8 f.runs ++ (hex_digits 2 f.version ++ (10 ∷ []))))

-- the fields that such a line has
unfoldable pub fields_in : ℕ → List ℕ → Fields
fields_in w s = record { size = hex_at w s 0; hash = hex_at 8 s w; runs = hex_at 8 s (w + 8); version = hex_at 2 s (w + 16) }

-- the size lies between the version's H and the limit
abbrev pub size_in_range : ℕ → Option Version → ℕ → Bool
size_in_range limit (Some v) size = leb (head_end (layout_of v)) size && leb size limit
size_in_range limit None size = false

-- the version is one of those known, and the size lies in its range
unfoldable pub can_form : ℕ → Fields → Bool
can_form limit f = size_in_range limit (version_of f.version) f.size

-- a good line: w + 18 digits, 26 in a new line and 24 in an old one, whose fields can form it
unfoldable pub is_good : ℕ → ℕ → List ℕ → Bool
is_good w limit s = is_line (w + 18) s && can_form limit (fields_in w s)

-- what a call answers: 0 or the number of its refusal, and the fields
pub record LineAnswer : Type 0 where
  pub number : ℕ
  pub fields : Fields

-- with a refusal every field is zero
abbrev pub no_fields : Fields
no_fields = record { size = 0; hash = 0; runs = 0; version = 0 }

-- reading: the fields of a good new line, or of a good old one with the old limit; refusal 18 with zeros for any other bytes
unfoldable pub reading : List ℕ → LineAnswer
reading s =
    pick (is_good 8 size_limit s) (record { number = 0; fields = fields_in 8 s })
    (pick (is_good 6 old_size_limit s) (record { number = 0; fields = fields_in 6 s }) (record { number = 18; fields = no_fields }))

-- the one value of `NoLine`
abbrev pub no_line : NoLine
no_line = record {}

-- what the result of reading says
abbrev pub read_answer : Result Fields NoLine → LineAnswer
read_answer (Ok f) = record { number = 0; fields = f }
read_answer (Err e) = record { number = 18; fields = no_fields }

-- a line can be written: the output has 27 bytes, and the fields can form a new line
unfoldable pub can_write : Fields → ℕ → Bool
can_write f room = leb 27 room && can_form size_limit f

-- what the result of writing says
abbrev pub written_number : Result (Unit {0}) Unwritten → ℕ
written_number (Ok u) = 0
written_number (Err e) = 19

-- why no line is written
abbrev pub reason : ℕ → Unwritten
reason room = pick (leb 27 room) unwritten.NoLine unwritten.NoRoom

-- writing: 0, and the first 27 bytes of the output are the new line; or 19, and the output is as it was
pub record Writing (f : Fields) (before : List ℕ) (r : Result (Unit {0}) Unwritten) (after : List ℕ) : Type 0 where
  pub number : written_number r ≡ pick (can_write f (length before)) 0 19
  pub why : (e : Unwritten) → r ≡ Err e → e ≡ reason (length before)
  pub output : after ≡ pick (can_write f (length before)) (line_of 8 f ++ drop 27 before) before
