-- Document 01's "Path hashes" over a list of numbers. The numbers of a text are its bytes (request 102).
use Rattle.std.specs.Prelude.{ℕ, zero, suc, ◌+◌, ◌-◌, ◌*◌, ◌%◌, ◌^◌, true, false, List, [], ◌∷◌, length, drop, nat_lt, slice_index, unsigned_abs}
use Rattle.std.specs.Int.{w32}
use Rattle.std.proofs.Common.{to_z}

-- the plain step: 37h + c mod 4,294,967,296
unfoldable pub step : ℕ → ℕ → ℕ
step h c = (37 * h + c) % 2 ^ 32

-- the plain step at each number of a list
unfoldable pub plain : ℕ → List ℕ → ℕ
plain h [] = h
plain h (c ∷ cs) = plain (step h c) cs

-- the Vista hash: from 314159, no end step
abbrev pub vista : List ℕ → ℕ
vista cs = plain 314159 cs

-- 32 bits read as a signed number, made positive: -2147483648 becomes 2147483648
abbrev pub magnitude : ℕ → ℕ
magnitude x = unsigned_abs (to_z w32 x)

-- the end step of the XP hash after the multiplication
abbrev pub signed_remainder : ℕ → ℕ
signed_remainder x = magnitude x % 1000000007

-- the end step of the XP hash
unfoldable pub xp_end : ℕ → ℕ
xp_end h = signed_remainder (314159269 * h % 2 ^ 32)

-- the XP hash: from 0, then the end step
abbrev pub xp : List ℕ → ℕ
xp cs = xp_end (plain 0 cs)

-- a - b, wrapping at 32 bits
unfoldable pub wrap_sub : ℕ → ℕ → ℕ
wrap_sub a b = (a + (2 ^ 32 - b % 2 ^ 32)) % 2 ^ 32

-- the number c that eight numbers form
unfoldable pub eight_sum : ℕ → ℕ → ℕ → ℕ → ℕ → ℕ → ℕ → ℕ → ℕ
eight_sum c0 c1 c2 c3 c4 c5 c6 c7 = ((((((37 * c1 + c2) * 37 + c3) * 37 + c4) * 37 + c5) * 37 + c6) * 37) + 442596621 * c0 + c7

-- the eight-number step: c - 803794207h, wrapping at 32 bits
unfoldable pub eight : ℕ → ℕ → ℕ → ℕ → ℕ → ℕ → ℕ → ℕ → ℕ → ℕ
eight h c0 c1 c2 c3 c4 c5 c6 c7 = wrap_sub (eight_sum c0 c1 c2 c3 c4 c5 c6 c7) (803794207 * h)

-- the eight-number step at the eight numbers of a list from k
abbrev pub eight_at : ℕ → List ℕ → ℕ → ℕ
eight_at h s k =
    eight h (slice_index s k) (slice_index s (k + 1)) (slice_index s (k + 2)) (slice_index s (k + 3)) (slice_index s (k + 4)) (slice_index s (k + 5))
    (slice_index s (k + 6)) (slice_index s (k + 7))

-- while more than eight numbers remain, eight are taken; the rest take the plain step. `n` bounds the number of turns.
unfoldable pub eights : ℕ → ℕ → List ℕ → ℕ
eights zero h s = plain h s
eights (suc n) h s = elim (nat_lt 8 (length s)) [ true ↦ eights n (eight_at h s 0) (drop 8 s) | false ↦ plain h s ]

-- the 2008 hash: from 314159. Each turn takes eight numbers, so the length is turns enough.
unfoldable pub hash2008 : List ℕ → ℕ
hash2008 cs = eights (length cs) 314159 cs
