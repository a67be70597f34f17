-- What has to be unfolded to compute the checks and the queries on given bytes, in one place: to unfold one of these is to unfold
-- all that its line names.
use mathlib.Core.List.{List}
use Prim.Native.Nat.{ℕ}
use Rattle.lists.specs.First.{first_from}
use Rattle.lists.specs.Table.{tabulate}
use Rattle.lists.specs.Count.{any_below, count}
use Rattle.little_endian.specs.Number.{le}
use Rattle.layout.specs.Versions.{version_of}
use Rattle.layout.specs.declared.Layout.{Layout}
use Rattle.incremental.specs.Decision.{Decision}
use Rattle.incremental.specs.Plan.{Answer, run, and_then, reach, check, given}
use Rattle.sections.specs.Fields.{signature_fault, size_fault, name_units_in, name_end, form_in, link_count, head_of, outside, outside_fault}
use Rattle.sections.specs.Fields.{shares, overlap_fault, places_fault, entries_fault}
use Rattle.head.specs.Checks.{start_plan, form_plan, section_plan, open_plan}
use Rattle.head.specs.declared.checks.Start.{Start}
use Rattle.head.specs.declared.checks.Opening.{Opening}
use Rattle.names.specs.Names.{fits, sound, misfit_fault, unsound_fault}
use Rattle.trace.specs.Links.{nexts, follow, namers, cyclic, chains, predecessor, predecessors}
use Rattle.volumes.specs.Volumes.{path_fits, reference_count, references_fit, step_at, directory_checks, entry_checks, volumes_from, path_units, volume_of, reference_of}
use Rattle.reader.specs.Verdict.{Acceptable}
use Rattle.reader.specs.Checks.{record_of, counts_plan, fits_plan, texts_plan, trace_plan, volumes_plan, rest_plan, read_plan, file_answer}
use Rattle.query.specs.Queries.{entry_shown, volume_shown, volume_facts, reference_shown}

-- checks 1 to 4, and 1 to 6
unfoldable started : List ℕ → Answer Start
unfolding run and_then reach check given le start_plan signature_fault size_fault name_units_in name_end version_of first_from
started p = run start_plan p

unfoldable opened : List ℕ → Answer Opening
unfolding started open_plan form_plan section_plan form_in head_of outside outside_fault shares overlap_fault any_below
opened p = run open_plan p

-- 11 to 13; 14 and 15
unfoldable linked : List ℕ → ℕ
unfolding link_count nexts tabulate any_below count cyclic namers follow chains predecessors predecessor
linked s = chains s

unfoldable in_volumes : List ℕ → Layout → ℕ → ℕ → ℕ → Decision Unit
unfolding volumes_from entry_checks path_fits references_fit reference_count directory_checks step_at
in_volumes s l start n i = volumes_from s l start n i

-- all checks
unfoldable pub answered : List ℕ → ℕ → Answer Acceptable
unfolding opened linked in_volumes counts_plan fits_plan texts_plan trace_plan volumes_plan rest_plan read_plan record_of places_fault entries_fault misfit_fault unsound_fault fits sound
answered p m = file_answer p m

-- and the queries
unfoldable pub shown : List ℕ → ℕ → Answer Acceptable
unfolding answered entry_shown volume_shown volume_facts volume_of path_units reference_shown reference_of
shown p m = file_answer p m
