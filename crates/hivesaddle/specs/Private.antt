-- What only private contracts need: what a reply says.
use Rattle.std.specs.Prelude.{List, [], ◌∷◌, ℕ, Result}
use Rattle.std.specs.Result.{result_unwrap_or}
use Rattle.lists.specs.Answer.{Said}
use Rattle.reader.specs.Verdict.{Values}
use Rattle.reader.specs.declared.verdict.Acceptance.{Acceptance}
use Rattle.year.specs.declared.YearRefusal.{YearRefusal}
use Rattle.year.specs.Year.{refused_by}
use Rattle.hivesaddle.specs.declared.replies.Reply.{Reply}

-- its number and its values
abbrev pub said_by : {N : ℕ} → Reply N → Said
said_by r = record { number = r.number; values = r.values }

abbrev pub saying : ℕ → List ℕ → Said
saying number values = record { number = number; values = values }

-- a verdict's values by what they are made from
abbrev pub values_with : ℕ → ℕ → ℕ → ℕ → ℕ → Acceptance → Values
values_with kind number index offset wanted a =
    record { kind = kind; number = number; index = index; offset = offset; wanted = wanted; fields = a }

-- what the table at year's end answers, with the number of rows: after a refusal none
abbrev pub rows_said : Result ℕ YearRefusal → Said
rows_said r = saying (refused_by r).number ((refused_by r).place ∷ result_unwrap_or r 0 ∷ [])
