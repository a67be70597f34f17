-- The proof of each claim, by the theorem that has it.
use Rattle.incremental.proofs.Plan.{stands, begins_take}
use Rattle.catalogue.proofs.RoundTrip.{round_trip}
use Rattle.sections.proofs.Name.{name_part, name_behind, name_none, name_whole}
use Rattle.head.proofs.Facts.{open_facts, open_sound}
use Rattle.trace.proofs.Predecessors.{working_buffer}
use Rattle.trace.proofs.OneChain.{one_chain}
use Rattle.trace.proofs.Chains.{chains_ends}
use Rattle.trace.proofs.Cycles.{cycle_law}
use Rattle.reader.proofs.Allowed.{demand_2}
use Rattle.reader.proofs.Early.{demand_3, after_size}
use Rattle.query.proofs.Entries.{entry_shown_law, name_placed}
use Rattle.query.proofs.Volumes.{volume_shown_law, path_placed}
use Rattle.path_search.proofs.Laws.{path_found_law, found_path_law, path_not_found_law, own_path_law}
use Rattle.text.proofs.Decimal.{decimal_law, decimal_only}
use Rattle.claims.proofs.Buffer.{not_accepted_filled, allowed_linked}
use Rattle.claims.proofs.Contents.{contents}
use Rattle.claims.proofs.EveryName.{every_name}
use Rattle.claims.proofs.Offsets.{offsets}
use Rattle.claims.proofs.Numbers.{numbers, path_not_open}
use Rattle.claims.proofs.OneHash.{one_hash}
use Rattle.claims.proofs.Powers.{powers}
use Rattle.claims.proofs.Times.{times}
use Rattle.claims.proofs.WithoutNext.{without_next}
use Rattle.walk.proofs.EveryEntry.{every_entry}
use Rattle.readings.proofs.BestReading.{best_reading}
use Rattle.readings.proofs.Points.{recording_points}
use Rattle.readings.proofs.Runs.{pieces}
use Rattle.replay_input.proofs.Program.{program}
use Rattle.claims.proofs.Walks.{walks_say}
use Rattle.claims.proofs.Writer.{writers_say}
use Rattle.claims.proofs.YearReadings.{year_readings}
use Rattle.claims.proofs.Places.{places_say}
use Rattle.claims.proofs.EmptyPrograms.{empty_programs}
use Rattle.claims.proofs.Examples.{examples}
use Rattle.claims.proofs.Points.{points}
use Rattle.claims.proofs.Settled.{settled}
use Rattle.year.proofs.Facts.{year_facts}
use Rattle.claims.specs.Claims.{Claims}
use Rattle.reader.specs.Verdict.{verdict_in, values_of}
use mathlib.Core.Path.{ap}
use Rattle.reader.proofs.Values.{same_verdicts}
use Rattle.std.specs.Prelude.{Ok}

pub claims : Claims
claims =
    record {
      filled_prefix = λ p buffer. not_accepted_filled _ _;
      filled_file = λ p buffer v after r n. not_accepted_filled _ _ (verdict_in v) after r (λ a e. n a (same_verdicts v (Ok a) (ap values_of e)));
      demand_2 = demand_2;
      demand_3 = demand_3;
      offsets = offsets;
      after_size = after_size;
      stands = λ t xs i j h. stands t _ _ (begins_take xs i j h);
      every_name = every_name;
      times = times;
      name_stops = record { part = name_part; behind = name_behind; none = name_none; whole = name_whole };
      without_next = without_next;
      places = places_say;
      linked = allowed_linked;
      working_buffer = λ s places l room. working_buffer l.at s l.count places l.short room l.passes;
      one_chain = λ s l. one_chain l.at s l.count l.short l.passes;
      chains_ends = λ s l. chains_ends l.at s l.count l.short l.passes;
      every_entry = λ s l. every_entry l.at s l.count l.short l.passes;
      walks = walks_say;
      best_reading = best_reading;
      pieces = pieces;
      program = program;
      recording_points = recording_points;
      cycles = cycle_law;
      round_trip = round_trip;
      decimal_is = decimal_law;
      decimal_only = decimal_only;
      one_hash = one_hash;
      numbers = numbers;
      own_path = own_path_law;
      powers = powers;
      year_table = year_facts;
      year_readings = year_readings;
      path_found_lem = λ o p i n a. (path_found_law o p i n a, found_path_law o p i n a);
      path_not_found = path_not_found_law;
      path_not_open = path_not_open;
      entry_shown_lem = λ o p i e. entry_shown_law o p i (open_sound p o ((open_facts p).holds o e));
      name_placed = λ o p i e. name_placed o p i ((open_facts p).holds o e);
      volume_shown_lem = λ o p i e. volume_shown_law o p i (open_sound p o ((open_facts p).holds o e));
      path_placed = λ o p i e. path_placed o p i ((open_facts p).holds o e);
      contents = contents;
      writes = writers_say;
      empty_programs = empty_programs;
      settled = settled;
      examples = examples;
      points = points;
    }
