-- DEMAND 3: what the prefix reader accepts or refuses early stands.
use Rattle.std.specs.Prelude.{◌≡◌, List, ◌↔◌, ℕ, ◌≤◌, ◌<◌, length}
use Rattle.incremental.specs.declared.Refusal.{Refusal}
use Rattle.sections.specs.Fields.{declared_size}
use Rattle.reader.specs.declared.verdict.Acceptance.{Acceptance}
use Rattle.std.specs.Prelude.{Err, Ok, Result}
use Rattle.incremental.specs.declared.Stop.TheVariants.{Refused, Wanted}
use Rattle.incremental.specs.declared.Stop.{Stop}

-- ---- the demand

-- what the verdict `v` on the prefix `p`, with the working buffer left as `after`, says of those on a prefix `q` that is at least as long
pub record EarlyStands (p q : List ℕ) (v w : Result Acceptance Stop) (after after' : List ℕ) : Type 0 where
  -- an acceptance or refusal is given again, the same in every field, number and index, and the working buffers end equal
  pub accepted : (a : Acceptance) → v ≡ Ok a → (w ≡ Ok a) × (after ≡ after')
  pub refused : (r : Refusal) → v ≡ Err (Refused r) → (w ≡ Err (Refused r)) × (after ≡ after')
  -- a request exceeds the prefix, and the second prefix gets it exactly when it is shorter
  pub asks_more : (k : ℕ) → v ≡ Err (Wanted k) → length p < k
  pub asks_again : (k : ℕ) → v ≡ Err (Wanted k) → (w ≡ Err (Wanted k) ↔ length q < k)
  -- sixteen bytes, and as many as the declared size, get no request
  pub asks_no_more : 16 ≤ length p → declared_size p ≤ length p → (k : ℕ) → v ≡ Err (Wanted k) → ⊥
