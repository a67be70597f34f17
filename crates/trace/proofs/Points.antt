-- The points of document 01 on links.
use mathlib.Core.Path.{refl}
use Rattle.lists.specs.First.{first_from}
use Rattle.lists.specs.Table.{tabulate}
use Rattle.lists.specs.Count.{any_below, count}
use Rattle.trace.specs.Links.{follow, namers, cyclic, chains, predecessor, predecessors, link_checks}
use Rattle.trace.specs.Points.{TracePoints}

pub trace_points : TracePoints
unfolding link_checks first_from any_below count cyclic namers follow chains predecessors predecessor tabulate
trace_points = record { one_chain = λ at. refl; one_chain_table = refl; own_next = λ at. refl; named_twice = λ at. refl }
