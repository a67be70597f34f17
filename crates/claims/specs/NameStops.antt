-- Request 104: the search for the program name's zero unit stops at the first. `name_end` takes any part of a file's first bytes; unit k
-- of the name stands at 16 + 2k, so the first k + 1 units end at 18 + 2k.
use Rattle.std.specs.Prelude.{◌≡◌, false, List, ◌↔◌, ℕ, ◌+◌, ◌*◌, ◌≤◌, ◌<◌, length, take}
use Rattle.lists.specs.First.{first}
use Rattle.little_endian.specs.Number.{zero_unit}
use Rattle.sections.specs.Fields.{name_end}
use Rattle.std.specs.Prelude.{None, Some}

pub record NameStops : Type 0 where
  -- "lent a part of the name that ends with that zero, it gives the answer it gives on all thirty units"
  pub part : (b : List ℕ) (k : ℕ) → (name_end b ≡ Some k) ↔ (name_end (take (18 + 2 * k) b) ≡ Some k)
  -- what lies behind the zero unit changes no answer
  pub behind : (b c : List ℕ) (k : ℕ) → take (18 + 2 * k) b ≡ take (18 + 2 * k) c → name_end b ≡ Some k → name_end c ≡ Some k
  -- a part none of whose whole units is zero has no end
  pub none : (b : List ℕ) → ((k : ℕ) → k < 30 → 18 + 2 * k ≤ length b → zero_unit b (16 + 2 * k) ≡ false) → name_end b ≡ None
  -- "Every answer is the same": on the 76 bytes that check 4 waits for it is the first zero unit of the thirty
  pub whole : (b : List ℕ) → 76 ≤ length b → name_end b ≡ first (λ i. zero_unit b (16 + 2 * i)) 30
