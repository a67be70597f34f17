-- Document 01's points marked P on the path hashes.
use Rattle.std.proofs.Common.{refl}
use Rattle.path_hash.specs.Hash.{step, plain, xp_end, wrap_sub, eight_sum, eight, eights, hash2008}
use Rattle.path_hash.specs.Points.{HashPoints}

pub hash_points : HashPoints
unfolding step plain xp_end wrap_sub eight_sum eight eights hash2008
hash_points =
    record {
      xp_nothing = refl;
      vista_nothing = refl;
      vista_A = refl;
      hash2008_A = refl;
      vista_AB = refl;
      xp_A = refl;
      least_signed = refl;
      minus_one = refl;
      xp_A_bytes = refl;
      vista_A_bytes = refl;
      xp_high_byte = refl;
      vista_high_byte = refl;
    }
