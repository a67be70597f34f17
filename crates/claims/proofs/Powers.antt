-- The second engine and the swap, by their crate's theorems.
use Rattle.power_hash.proofs.Sum.{powers_vista}
use Rattle.power_hash.proofs.Swaps.{swap_joined}
use Rattle.claims.specs.Powers.{Powers}

pub powers : Powers
powers = record { same = powers_vista; joined = swap_joined }
