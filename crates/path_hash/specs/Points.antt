-- Document 01's points marked P on the path hashes, and those of request 102: by bytes "A" is 65, 0.
use Rattle.std.specs.Prelude.{◌≡◌, [], ◌∷◌}
use Rattle.path_hash.specs.Hash.{vista, xp, hash2008, signed_remainder}

pub record HashPoints : Type 0 where
  pub xp_nothing : xp [] ≡ 0
  pub vista_nothing : vista [] ≡ 314159
  pub vista_A : vista (65 ∷ []) ≡ 11623948
  pub hash2008_A : hash2008 (65 ∷ []) ≡ 11623948
  pub vista_AB : vista (65 ∷ 66 ∷ []) ≡ 430086142
  pub xp_A : xp (65 ∷ []) ≡ 54483988
  pub least_signed : signed_remainder 2147483648 ≡ 147483634
  pub minus_one : signed_remainder 4294967295 ≡ 1
  pub xp_A_bytes : xp (65 ∷ 0 ∷ []) ≡ 361202151
  pub vista_A_bytes : vista (65 ∷ 0 ∷ []) ≡ 430086076
  -- E9 00: a byte of 128 or more is positive
  pub xp_high_byte : xp (0xE9 ∷ 0 ∷ []) ≡ 757305720
  pub vista_high_byte : vista (0xE9 ∷ 0 ∷ []) ≡ 430092292
