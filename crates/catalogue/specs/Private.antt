-- Reading for either number w of size digits.
use Rattle.std.specs.Prelude.{List, ℕ}
use Rattle.lists.specs.Count.{pick}
use Rattle.catalogue.specs.Line.{LineAnswer, is_good, fields_in, no_fields}

-- reading bytes whose length tells w, and so the limit
unfoldable pub reading_as : ℕ → ℕ → List ℕ → LineAnswer
reading_as w limit s = pick (is_good w limit s) (record { number = 0; fields = fields_in w s }) (record { number = 18; fields = no_fields })
