-- An answer that is the one promised says the same.
use mathlib.Core.Path.{◌≡◌, ap}
use Rattle.lists.specs.Answer.{Said, Answers}

pub answers : {A : Type 0} (said : A → Said) (d r : A) → r ≡ d → Answers said d r
answers said d r e = record { says = ap said e; answer = e }
