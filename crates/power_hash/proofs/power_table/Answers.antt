-- The rule is one test, computed here over the whole table.
use Rattle.std.proofs.Common.{refl}
use Rattle.power_hash.proofs.Table.{powers_table}
use Rattle.power_hash.proofs.power_table.Goals as goal

pub returns : goal.returns
returns c = powers_table _ tt refl
