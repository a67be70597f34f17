-- The first index that passes a test: every check that names "the first such entry" is one of these.
use Rattle.std.specs.Prelude.{Bool, ℕ, zero, suc, ltb}
use Rattle.lists.specs.Count.{pick}
use Rattle.std.specs.Prelude.{None, Option, Some}

-- the first of the n indexes from i that passes the test
unfoldable pub first_from : (ℕ → Bool) → ℕ → ℕ → Option ℕ
first_from test zero i = None
first_from test (suc n) i = pick (test i) (Some i) (first_from test n (suc i))

-- the first of the indexes below n that passes the test
abbrev pub first : (ℕ → Bool) → ℕ → Option ℕ
first test n = first_from test n 0

-- what a number says that is below n where an index was found
abbrev pub found_below : ℕ → ℕ → Option ℕ
found_below n r = pick (ltb r n) (Some r) None
