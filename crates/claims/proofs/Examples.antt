-- The example files: the checks are computed on them, and demand 2 gives that they are allowed.
use mathlib.Core.Path.{◌≡◌, refl, sym, ap, ◌∙◌}
use mathlib.Core.List.{List, []}
use Prim.Native.Nat.{ℕ}
use native.Mathlib.Omega.{arith}
use lib.ListN.{length}
use Rattle.layout.specs.declared.Version.{Version}
use Rattle.layout.specs.declared.Version.TheVariants.{V17, V23, V26, V30}
use Rattle.sections.proofs.Cases.{links_low}
use Rattle.incremental.specs.Decision.{accept}
use Rattle.incremental.specs.Plan.{decided}
use Rattle.reader.specs.declared.verdict.Acceptance.{Acceptance}
use Rattle.reader.specs.Checks.{record_of, file_answer, ReadsFile}
use Rattle.reader.proofs.Allowed.{demand_2}
use Rattle.claims.proofs.Computed.{answered, shown}
use Rattle.claims.specs.Examples.{zero_bytes, smallest, smallest_record, full, full_table, full_record, Example, SmallestFile, FullFile, Examples}
use Rattle.std.specs.Prelude.{Ok}

smallest_computed : SmallestFile
unfolding answered
smallest_computed = record { long = refl; answer = refl; place = refl; runs = refl }

full_computed : (v : Version) → FullFile v
unfolding shown
full_computed V17 = record { long = refl; answer = refl; name = refl; volume = refl; reference = refl }
full_computed V23 = record { long = refl; answer = refl; name = refl; volume = refl; reference = refl }
full_computed V26 = record { long = refl; answer = refl; name = refl; volume = refl; reference = refl }
full_computed V30 = record { long = refl; answer = refl; name = refl; volume = refl; reference = refl }

-- what the checks accept with some buffer is allowed, and accepted with every buffer that is long enough, by demand 2
example : (p buffer : List ℕ) (a : Acceptance) (t : List ℕ) → file_answer p (length buffer) ≡ decided (accept (record { fields = a; table = t }))
    → Example p a
unfolding record_of
example p buffer a t e =
    let r : ReadsFile p buffer (Ok a) t = rw e (record { verdict = refl; buffer = refl }) in
    let s = (demand_2 p buffer (Ok a) t r).sound a refl in
    let few = links_low s.0.layout s.0.head in
    let n : s.0.head.trace.count ≡ a.trace_count = ap (λ (b : Acceptance). b.trace_count) (sym s.3) in
    record {
      allowed = (s.0, s.1, sym s.3);
      accepted = λ buffer v after l r. ((demand_2 p buffer v after r).complete s.0 s.1 (omega (arith, few))).0 ∙ ap Ok (sym s.3);
    }

pub examples : Examples
examples =
    record {
      smallest_file = smallest_computed;
      smallest_allowed = example (smallest 1) [] (smallest_record 1) [] smallest_computed.answer;
      full_file = full_computed;
      full_allowed = λ v. example (full v) (zero_bytes 2) (full_record v) (full_table v) (full_computed v).answer;
    }
