-- Document 01's point marked P on the catalogue line, and its new form.
use mathlib.Core.Path.{◌≡◌, refl, sym}
use lib.ListN.{length}
use Rattle.lists.specs.Count.{any_below}
use Rattle.digits.specs.Hex.{is_digit, digit_value, hex_at, are_digits}
use Rattle.layout.specs.Versions.{version_of}
use Rattle.lines.specs.Lines.{is_line}
use Rattle.catalogue.specs.Line.{reading, is_good, can_form, fields_in}
use Rattle.catalogue.specs.Points.{example, new_example, example_fields, LinePoints}
use Rattle.catalogue.proofs.RoundTrip.{round_trip}

new_read : reading new_example ≡ record { number = 0; fields = example_fields }
unfolding new_example reading is_good is_line can_form fields_in are_digits is_digit digit_value hex_at any_below version_of
new_read = refl

new_length : length new_example ≡ 27
unfolding new_example
new_length = refl

pub line_points : LinePoints
unfolding example reading is_good is_line can_form fields_in are_digits is_digit digit_value hex_at any_below version_of
line_points =
    record {
      line_read = refl;
      new_line_read = new_read;
      line_written = λ before w after. round_trip.writes_again new_example example_fields before w after new_length (sym new_read);
    }
