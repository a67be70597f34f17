-- The indexes that pass a test.
use Rattle.std.specs.Prelude.{Bool, List, [], ◌∷◌, ◌++◌, ℕ, zero, suc}
use Rattle.lists.specs.Count.{pick}

-- those below n, in rising order
unfoldable pub those : (ℕ → Bool) → ℕ → List ℕ
those test zero = []
those test (suc n) = those test n ++ pick (test n) (n ∷ []) []
