-- Request 109: the second engine, and the swap of a path's start.
use Rattle.std.specs.Prelude.{◌≡◌, List, ◌++◌, ℕ, ◌≤◌, length, drop}
use Rattle.path_hash.specs.Hash.{vista}
use Rattle.power_hash.specs.Powers.{hash_powers, swap_hash}

pub record Powers : Type 0 where
  -- the engine gives the Vista answer on every list
  pub same : (s : List ℕ) → hash_powers s ≡ vista s
  -- where the old hash is that of the old list, the swap equals hashing the joined result
  pub joined : (old start : List ℕ) (p : ℕ) → p ≤ length old → swap_hash (vista old) old p start ≡ vista (start ++ drop p old)
