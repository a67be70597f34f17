-- Document 03, A4: what a file costs to read.
use Rattle.std.specs.Prelude.{List, [], ◌∷◌, ℕ, ◌+◌, ◌*◌, ◌/◌, min, length}
use Rattle.lists.specs.Answer.{Said}
use Rattle.lists.specs.Count.{pick, sum_below}
use Rattle.layout.specs.Versions.{metrics_entry, volume_entry}
use Rattle.layout.specs.declared.Layout.{Layout}
use Rattle.incremental.specs.Plan.{run}
use Rattle.sections.specs.Fields.{part}
use Rattle.head.specs.Checks.{open_plan}
use Rattle.head.specs.declared.checks.Opening.{Opening}
use Rattle.names.specs.Names.{fits, name_at, name_units}
use Rattle.volumes.specs.Volumes.{entry_at, directory_count}
use Rattle.query.specs.Queries.{asked}
use Rattle.query.specs.declared.costs.FileCost.{FileCost}
use Rattle.std.specs.Prelude.{None, Option, Some}

-- the entries of an array that lie whole in the bytes lent of its section, those below the count
abbrev pub whole_entries : List ℕ → ℕ → ℕ → ℕ
whole_entries b size count = min count (length b / size)

-- NAMES: 2 x length + 2 of each entry whose name passes rule 9 against the strings size as the head declares it
abbrev pub name_cost : Layout → List ℕ → ℕ → ℕ → ℕ
name_cost l metrics size i = pick (fits size (name_at l metrics i) (name_units l metrics i)) (2 * name_units l metrics i + 2) 0

unfoldable pub names_cost : Opening → List ℕ → ℕ
names_cost o p =
    let metrics = part o.head.metrics p in
    sum_below (name_cost o.layout metrics o.head.strings.len) (whole_entries metrics (metrics_entry o.layout) o.head.metrics.count)

-- DIRECTORIES: of each volume entry the lesser of 4 x directory count and the volumes size
abbrev pub directory_cost : Layout → List ℕ → ℕ → ℕ → ℕ
directory_cost l volumes size i = min (4 * directory_count volumes (entry_at l i)) size

unfoldable pub directories_cost : Opening → List ℕ → ℕ
directories_cost o p =
    let volumes = part o.head.volumes p in
    sum_below (directory_cost o.layout volumes o.head.volumes.len) (whole_entries volumes (volume_entry o.layout) o.head.volumes.count)

-- both, on bytes that pass checks 1 to 6
abbrev pub cost_asked : List ℕ → Option FileCost
cost_asked p =
    asked (run open_plan p) None (λ o. Some (record { names = names_cost o p; directories = directories_cost o p }))

-- what each case says: 1 for yes and 0 for no, and both numbers, zeros where the answer is no
abbrev pub cost_said : Option FileCost → Said
cost_said (Some c) = record { number = 1; values = c.names ∷ c.directories ∷ [] }
cost_said None = record { number = 0; values = 0 ∷ 0 ∷ [] }
