-- Little-endian numbers in a list of bytes: one definition over the width, and its laws.
use Rattle.std.specs.Prelude.{Bool, List, ℕ, zero, suc, ◌+◌, ◌*◌, eqb, get_or}

-- the number that `width` bytes from `at` form, the lowest byte first; a byte past the end counts as 0
unfoldable pub le : ℕ → List ℕ → ℕ → ℕ
le zero bytes at = 0
le (suc width) bytes at = get_or bytes at 0 + 256 * le width bytes (at + 1)

-- the 16-bit unit at an offset is zero
abbrev pub zero_unit : List ℕ → ℕ → Bool
zero_unit s at = eqb (le 2 s at) 0
