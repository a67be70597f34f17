-- Both sums run over the entries that are whole, and the sections end below the size limit, so no sum wraps.
use Rattle.query.proofs.Sums.{costs}
use Rattle.query.proofs.costs.cost_in.Goals as goal

pub names_cost-requires : goal.names_cost-requires
names_cost-requires c = search costs

pub whole_entries-requires-2 : goal.whole_entries-requires-2
whole_entries-requires-2 c = search costs

pub whole_entries-requires : goal.whole_entries-requires
whole_entries-requires c = search costs

pub directories_cost-requires : goal.directories_cost-requires
directories_cost-requires c = search costs

pub returns : goal.returns
returns c = search costs
