-- What only private contracts need: what each stage answers, and what is known after it.
use Rattle.std.specs.Prelude.{◌≡◌, List, ℕ, ◌*◌, ◌≤◌}
use Rattle.layout.specs.Versions.{volume_entry}
use Rattle.incremental.specs.Decision.{accept, refuse, refusal}
use Rattle.layout.specs.Head.{declared_size_at}
use Rattle.head.specs.Checks.{open_plan}
use Rattle.reader.specs.Checks.{file_answer}
use Rattle.incremental.specs.Plan.{Answer, decided, wants, run}
use Rattle.incremental.specs.declared.Refusal.{Refusal}
use Rattle.head.specs.declared.checks.Opening.{Opening}
use Rattle.trace.specs.Links.{chains, predecessors}
use Rattle.reader.specs.Verdict.{Acceptable}
use Rattle.reader.specs.declared.verdict.Acceptance.{Acceptance}
use Rattle.std.specs.Prelude.{Err, Ok, Result}
use Rattle.incremental.specs.declared.Stop.TheVariants.{Refused, Wanted}
use Rattle.incremental.specs.declared.Stop.{Stop}

-- what the code answers to checks 11 to 13, and the buffer of m places afterwards: the table where they pass
pub record TraceAnswer (x : Answer (List ℕ)) (m : ℕ) (r : Result ℕ Stop) (buffer : List ℕ) : Type 0 where
  pub passed : (n : ℕ) → r ≡ Ok n → (s : List ℕ) × (x ≡ decided (accept s)) × (n ≡ chains s) × (buffer ≡ predecessors s m)
  pub refused : (f : Refusal) → r ≡ Err (Refused f) → x ≡ decided (refuse f)
  pub wanted : (k : ℕ) → r ≡ Err (Wanted k) → x ≡ wants k

-- 8 has passed
abbrev pub EntriesFit : Opening → Type 0
EntriesFit o = o.head.volumes.count * volume_entry o.layout ≤ o.head.volumes.len

-- a stage's verdict, where the working buffer ends as `after`
abbrev pub verdict_of : Result Acceptance Stop → List ℕ → Answer Acceptable
verdict_of (Ok a) after = decided (accept (record { fields = a; table = after }))
verdict_of (Err (Refused r)) after = decided (refuse r)
verdict_of (Err (Wanted k)) after = wants k

-- what stops the checks on a prefix, said of a whole file
abbrev pub whole_stop : Stop → Refusal
whole_stop (Refused r) = r
whole_stop (Wanted k) = refusal 16 0 declared_size_at

-- all checks on a whole file, with a buffer of m places that ends as `after`
pub record WholeAnswer (p : List ℕ) (m : ℕ) (r : Result (Acceptance × Opening) Refusal) (after : List ℕ) : Type 0 where
  pub refused : (f : Refusal) → r ≡ Err f → file_answer p m ≡ decided (refuse f)
  pub accepted : (a : Acceptance) (o : Opening) → r ≡ Ok (a, o)
      → (file_answer p m ≡ decided (accept (record { fields = a; table = after }))) × (run open_plan p ≡ decided (accept o))
