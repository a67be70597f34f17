-- What the readers answer: document 01's number and values for each case, and the working buffer afterwards.
use Rattle.std.specs.Prelude.{◌≡◌, List, ℕ}
use Rattle.incremental.specs.Decision.{accept, refuse}
use Rattle.incremental.specs.declared.Refusal.{Refusal}
use Rattle.incremental.specs.Plan.{Answer, decided, wants}
use Rattle.lists.specs.Filled.{filled}
use Rattle.reader.specs.declared.verdict.RunTimes.{RunTimes}
use Rattle.reader.specs.declared.verdict.Acceptance.{Acceptance}
use Rattle.std.specs.Prelude.{Err, Ok, Result}
use Rattle.incremental.specs.declared.Stop.TheVariants.{Refused, Wanted}
use Rattle.incremental.specs.declared.Stop.{Stop}

-- what all checks give: the acceptance record, and the table of predecessors
pub record Acceptable : Type 0 where
  pub fields : Acceptance
  pub table : List ℕ

-- with any other answer every field is zero
abbrev pub no_times : RunTimes
no_times =
    record { count = 0; latest = 0; second = 0; third = 0; fourth = 0; fifth = 0; sixth = 0; seventh = 0; eighth = 0 }

abbrev pub no_record : Acceptance
no_record =
    record {
      version = 0;
      declared_size = 0;
      name_units = 0;
      stored_hash = 0;
      times = no_times;
      run_count = 0;
      metrics_count = 0;
      trace_count = 0;
      volume_count = 0;
      chain_count = 0;
    }

-- a verdict in numbers. Its kind is 0 for an acceptance, 1 for a refusal with its number, index and file offset, and 2 for a request.
pub record Values : Type 0 where
  pub kind : ℕ
  pub number : ℕ
  pub index : ℕ
  pub offset : ℕ
  pub wanted : ℕ
  pub fields : Acceptance

abbrev pub accepted_values : Acceptance → Values
accepted_values a = record { kind = 0; number = 0; index = 0; offset = 0; wanted = 0; fields = a }

abbrev pub refused_values : Refusal → Values
refused_values r = record { kind = 1; number = r.number; index = r.index; offset = r.offset; wanted = 0; fields = no_record }

abbrev pub wanted_values : ℕ → Values
wanted_values k = record { kind = 2; number = 0; index = 0; offset = 0; wanted = k; fields = no_record }

-- what each case of the verdict says
abbrev pub values_of : Result Acceptance Stop → Values
values_of (Ok a) = accepted_values a
values_of (Err (Refused r)) = refused_values r
values_of (Err (Wanted k)) = wanted_values k

-- a whole-file reader's verdict makes no request
abbrev pub verdict_in : Result Acceptance Refusal → Result Acceptance Stop
verdict_in (Ok a) = Ok a
verdict_in (Err r) = Err (Refused r)

-- what the checks say
abbrev pub answer_values : Answer Acceptable → Values
answer_values (decided (accept x)) = accepted_values x.fields
answer_values (decided (refuse r)) = refused_values r
answer_values (wants k) = wanted_values k

-- the working buffer of m places afterwards: the table after an acceptance, and filled after anything else
abbrev pub buffer_after : Answer Acceptable → ℕ → List ℕ
buffer_after (decided (accept x)) m = x.table
buffer_after (decided (refuse r)) m = filled m
buffer_after (wants k) m = filled m

-- THE PROMISE of a reader whose checks answer so: its verdict, and the working buffer of m places afterwards
pub record Reads (answer : Answer Acceptable) (m : ℕ) (v : Result Acceptance Stop) (after : List ℕ) : Type 0 where
  pub verdict : values_of v ≡ answer_values answer
  pub buffer : after ≡ buffer_after answer m
