-- ALL THAT IS CLAIMED, on one page: the demands of document 00, and what document 01 says of its own rules. Each field is a statement
-- about every input; `claims` in proofs/Claims.antt names the theorem that proves it. What one call gives back is its contract in
-- src/: `ReadsPrefix` and `ReadsFile` are those of the prefix reader and of the whole-file reader.
use Rattle.std.specs.Prelude.{◌≡◌, true, false, ◌&&◌, List, ◌↔◌, ℕ, ◌+◌, ◌≤◌, ◌<◌, length, take}
use Rattle.incremental.specs.Decision.{accept}
use Rattle.incremental.specs.Plan.{Plan, decided, run, Stands}
use Rattle.catalogue.specs.RoundTrip.{RoundTrip}
use Rattle.sections.specs.Fields.{declared_size}
use Rattle.head.specs.Checks.{open_plan}
use Rattle.head.specs.declared.checks.Opening.{Opening}
use Rattle.lists.specs.Filled.{filled}
use Rattle.trace.specs.Links.{end, namers, cyclic, Cyclic, chains, predecessors, link_checks}
use Rattle.trace.specs.OneChain.{OneChain}
use Rattle.trace.specs.WorkingBuffer.{WorkingBuffer}
use Rattle.reader.specs.declared.verdict.Acceptance.{Acceptance}
use Rattle.reader.specs.Checks.{nexts_in, prefix_answer, ReadsPrefix, ReadsFile}
use Rattle.reader.specs.Allowed.{Allowed, AcceptedExactly}
use Rattle.reader.specs.Early.{EarlyStands}
use Rattle.walk.specs.EveryEntry.{EveryEntry}
use Rattle.readings.specs.declared.Reading.{Reading}
use Rattle.readings.specs.BestReading.{BestReading}
use Rattle.readings.specs.Points.{RecordingPoints}
use Rattle.readings.specs.Feeding.{Pieces}
use Rattle.replay_input.specs.Program.{Program}
use Rattle.query.specs.Queries.{entry_shown, volume_shown, volume_facts}
use Rattle.query.specs.Shown.{EntryShown, NamePlaced, VolumeShown}
use Rattle.path_search.specs.Search.{matches_by, least_pair, path_found, PathFound}
use Rattle.path_search.specs.From.{path_of, takes_part, path_found_from}
use Rattle.text.specs.Decimal.{decimal, IsDecimal}
use Rattle.year.specs.Facts.{YearFacts}
use Rattle.claims.specs.NameStops.{NameStops}
use Rattle.claims.specs.Contents.{Contents}
use Rattle.claims.specs.EveryName.{EveryName}
use Rattle.claims.specs.Offsets.{Offsets}
use Rattle.claims.specs.Numbers.{Numbers}
use Rattle.claims.specs.OneHash.{OneHash}
use Rattle.claims.specs.Powers.{Powers}
use Rattle.claims.specs.Times.{Times}
use Rattle.claims.specs.WithoutNext.{WithoutNext}
use Rattle.claims.specs.Places.{PlacesSay}
use Rattle.claims.specs.Walks.{WalksSay}
use Rattle.claims.specs.Writer.{WritersSay}
use Rattle.claims.specs.YearReadings.{YearReadings}
use Rattle.claims.specs.EmptyPrograms.{EmptyPrograms}
use Rattle.claims.specs.Examples.{Examples}
use Rattle.claims.specs.Points.{Points}
use Rattle.claims.specs.Settled.{Settled}
use Rattle.std.specs.Prelude.{None, Ok, Result, Some}
use Rattle.incremental.specs.declared.Stop.{Stop}
use Rattle.path_search.specs.Search.{path_entry}
use Rattle.incremental.specs.declared.Refusal.{Refusal}

-- a refusal or a request
abbrev pub NotAccepted : {E : Type 0} → Result Acceptance E → Type 0
NotAccepted v = (a : Acceptance) → v ≡ Ok a → ⊥

-- checks 1 to 6 pass on the bytes `p`; the version, its constants, the name's length and the sections are those of `o`
abbrev pub Opens : List ℕ → Opening → Type 0
Opens p o = run open_plan p ≡ decided (accept o)

-- checks 11 to 13 pass on the next indexes `s`, which are no more than 4,294,967,295, wherever in the file the entries stand
pub record Linked (s : List ℕ) : Type 0 where
  pub short : length s ≤ end
  pub at : ℕ → ℕ
  pub count : ℕ
  pub passes : link_checks at s ≡ accept count

pub record Claims : Type 1 where
  -- ---- the demands of document 00
  -- Demand 1: whatever isn't an acceptance leaves the working buffer filled with 4,294,967,295.
  pub filled_prefix : (p buffer : List ℕ) (v : Result Acceptance Stop) (after : List ℕ) → ReadsPrefix p buffer v after → NotAccepted v → after ≡ filled (length buffer)
  pub filled_file : (p buffer : List ℕ) (v : Result Acceptance Refusal) (after : List ℕ) → ReadsFile p buffer v after → NotAccepted v → after ≡ filled (length buffer)
  -- Demand 2: with a working place for each trace entry that has a next index, a file is accepted exactly when the layout allows it, and every field is
  -- the one that the layout gives.
  pub demand_2 : (p buffer : List ℕ) (v : Result Acceptance Refusal) (after : List ℕ) → ReadsFile p buffer v after → AcceptedExactly p buffer v after
  -- Demand 3: take any bytes, any two prefixes of them, the second at least as long as the first, and two working buffers of equal
  -- length, whatever they hold. What the prefix reader accepts or refuses early stands.
  pub demand_3 : (xs : List ℕ) (i j : ℕ) (buffer buffer' : List ℕ) (v w : Result Acceptance Stop) (after after' : List ℕ)
      → i ≤ j
      → length buffer ≡ length buffer'
      → ReadsPrefix (take i xs) buffer v after
      → ReadsPrefix (take j xs) buffer' w after'
      → EarlyStands (take i xs) (take j xs) v w after after'
  -- Request 103, "demand 3 covers the place too": it does as it stands, since it speaks of whole refusals, number, index and file
  -- offset. The offset is that of the request's table.
  pub offsets : Offsets
  -- "Beyond the first sixteen, bytes after S are never looked at by the prefix reader": bytes that agree up to there get one answer.
  pub after_size : (p q : List ℕ) (places n : ℕ)
      → 16 ≤ n
      → declared_size p ≤ n
      → n ≤ length p
      → n ≤ length q
      → take n p ≡ take n q
      → prefix_answer p places ≡ prefix_answer q places
  -- Demand 3 of any plan at all whose checks see the bytes up to their required length and no others: what it decides early stands.
  pub stands : {A : Type 0} (t : Plan A) (xs : List ℕ) (i j : ℕ)
      → i ≤ j
      → Stands (take i xs) (take j xs) (run t (take i xs)) (run t (take j xs))
  -- Demand 2, "every field, name": in an accepted file every name, volume and reference can be shown, where the layout has it.
  pub every_name : EveryName
  -- Request 106: the record's run times are those that the version has, as they stand, and zeros.
  pub times : Times
  -- Request 104: the search for the program name's end stops at the first zero unit, and check 4's answers are the same.
  pub name_stops : NameStops
  -- Request 107: without next indexes nothing is asked of the trace section and of the working buffer, and neither matters.
  -- No head form has a smaller H than the one that check 3 and the catalogue take.
  pub without_next : WithoutNext
  -- ---- the working buffer and the trace links
  -- Refusal 7: with as many working places as `places` says it is never given, with fewer it is.
  pub places : PlacesSay
  -- Refusals 11 to 13: the links of every allowed file pass. The next three are of links that pass.
  pub linked : (p : List ℕ) (o : Opening) → Allowed p o → Linked (nexts_in o p)
  -- "Working buffer": after an acceptance, place j holds the entry that names j as next, and 4,294,967,295 where none does.
  pub working_buffer : (s : List ℕ) (places : ℕ) → Linked s → length s ≤ places → WorkingBuffer s (predecessors s places)
  -- "The chain count": every entry is on exactly one chain, and there are as many chains as entries whose next is 4,294,967,295.
  pub one_chain : (s : List ℕ) → Linked s → (i : ℕ) → i < length s → OneChain s i
  pub chains_ends : (s : List ℕ) → Linked s → chains s ≡ namers s (length s) end
  -- Request 112: the walk over such links visits every entry once; its length is their number, and what is added up along it is the
  -- plain total. There are as many heads as ends.
  pub every_entry : (s : List ℕ) → Linked s → EveryEntry s
  -- The walk of a file: its steps, its total, and what it gives where trace entries have no next index.
  pub walks : WalksSay
  -- Refusal 13, "following next from an entry comes back to it": a test of as many steps as there are entries finds every cycle.
  pub cycles : (s : List ℕ) (i : ℕ) → i < length s → length s ≤ end → (cyclic s i ≡ true) ↔ Cyclic s i
  -- ---- the catalogue line, decimal numbers, the hashes
  -- Demand 2: a catalogue line written reads back equal, and a new line that reads is the one we would write. Request 111: an old
  -- line, read and written, comes out as the new line of equal fields.
  pub round_trip : RoundTrip
  -- "Program", "other numbers are decimal": these digits are the number, with no leading zero, and no other bytes are.
  pub decimal_is : (n : ℕ) → IsDecimal n (decimal n)
  pub decimal_only : (n : ℕ) (s : List ℕ) → IsDecimal n s → s ≡ decimal n
  -- Request 108: Vista and 2008 are equal on every list of numbers, so version 23 needs one of them only.
  pub one_hash : OneHash
  -- Request 105: the search's answer is the first of all pairs, and an entry is in one at most.
  pub numbers : Numbers
  -- Document 03, A3, "with the volume's own path as the start, the answer is that of #105 over the entries that take part".
  pub own_path : (o : Opening) (p : List ℕ) (v : ℕ) → Opens p o
      → path_found_from p v (path_of o p v) ≡ least_pair (λ n i. takes_part o p v i && matches_by o p n i) o.head.metrics.count
  -- Request 109: the powers of 37 give the Vista hash, and a swapped start the hash of the joined list.
  pub powers : Powers
  -- ---- the replay
  -- Request 110: the answer for a start is a reading of its board not after it, none such is later in time, and among equal times
  -- none is later in the file; none exactly when there is no such reading.
  pub best_reading : (time board : ℕ) (rs : List Reading) → BestReading time board rs
  -- "How the steps fall changes nothing": `begin`, `feed` for each piece and `finish`, however the bytes are cut and whatever the lists
  -- held before, give what the promise of `replay` gives on all the bytes, for the starts that `begin` says are served.
  pub pieces : Pieces
  -- The program's whole output: however its input, starts and then the recording, is cut into pieces of at least one byte that fit the
  -- buffer, it writes a line for each start, or only the refusal, as `output_of` says of all the bytes. Fewer than 23 bytes wait, so that
  -- there is always room to read.
  pub program : Program
  -- The lines and the temperatures that the request names.
  pub recording_points : RecordingPoints
  -- Request 113: any order of the same lines and starts gives the same table; its rows rise strictly by their hashes, at most 1,024;
  -- mean times number plus remainder is the sum, with a remainder below the number; no number wraps. Answers that
  -- end early go on with zeros.
  pub year_table : YearFacts
  -- Requests 110 and 113: an answer of the replay is a reading of the table, with its tenths, or none.
  pub year_readings : YearReadings
  -- ---- the path search and the queries, in words
  -- "Path search", with request 105: the least number for which any metrics entry that can be shown matches, and then the first such
  -- entry, or none; and none on bytes that don't pass checks 1 to 6.
  pub path_found_lem : (o : Opening) (p : List ℕ) (i n : ℕ) → Opens p o → (path_found p ≡ Some (path_entry i n)) ↔ PathFound o p i n
  pub path_not_found : (o : Opening) (p : List ℕ) → Opens p o → path_found p ≡ None
      → (n i : ℕ) → n < 9 → i < o.head.metrics.count → matches_by o p n i ≡ false
  pub path_not_open : (p : List ℕ) → ((o : Opening) → Opens p o → ⊥) → path_found p ≡ None
  -- "Whether metrics entry i can be shown": what the test means; and its name with its zero lies in the bytes lent and within its
  -- section, and its text is sound by rule 10.
  pub entry_shown_lem : (o : Opening) (p : List ℕ) (i : ℕ) → Opens p o → (entry_shown o p i ≡ true) ↔ EntryShown o p i
  pub name_placed : (o : Opening) (p : List ℕ) (i : ℕ) → Opens p o → EntryShown o p i → NamePlaced o p i
  -- "Volume i can be shown": what the test means; and its path lies within its section and in the bytes lent.
  pub volume_shown_lem : (o : Opening) (p : List ℕ) (i : ℕ) → Opens p o → (volume_shown o p i ≡ true) ↔ VolumeShown o p i
  pub path_placed : (o : Opening) (p : List ℕ) (i : ℕ) → Opens p o → VolumeShown o p i
      → ((volume_facts o p i).path.at + (volume_facts o p i).path.len ≤ o.head.volumes.end)
      × ((volume_facts o p i).path.at + (volume_facts o p i).path.len ≤ length p)
  -- Document 03, A1 and A4: in an accepted file every directory and every reference of every volume is listed, as many as are counted;
  -- where no byte is in two names, or in directories of two volumes, the cost is no more than the section's size.
  pub contents : Contents
  -- ---- test files on demand
  -- Request 101: after a success the place has the laid-out file and then what it held, the whole-file reader gives the same record and
  -- working buffer on it, its numbers, its program name, its metrics and its trace entries are those given; what the reader refuses is refused alike.
  pub writes : WritersSay
  -- ---- that the promises say something, and can be kept
  -- "What the contracts have to settle": no empty program meets the readers' promises.
  pub empty_programs : EmptyPrograms
  -- Every public promise determines its answer and every lent place afterwards.
  pub settled : Settled
  -- The promises can be met: files that the layout allows, each accepted with the record that stands beside it.
  pub examples : Examples
  -- "Points on either edge": all that are marked P.
  pub points : Points
