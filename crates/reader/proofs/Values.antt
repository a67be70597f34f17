-- A verdict and the checks' answer are known by their values.
use mathlib.Core.Path.{◌≡◌, refl, sym, ◌∙◌, ap}
use Prim.Native.Nat.{ℕ, zero, suc}
use native.Mathlib.Omega.{arith}
use Rattle.incremental.specs.Decision.{accept, refuse, refusal}
use Rattle.incremental.specs.Plan.{Answer, decided, wants}
use Rattle.incremental.specs.declared.Refusal.{Refusal}
use Rattle.reader.specs.declared.verdict.Acceptance.{Acceptance}
use Rattle.reader.specs.Verdict.{Acceptable, Values, values_of, verdict_in, answer_values, accepted_values, refused_values, wanted_values}
use Rattle.std.specs.Prelude.{Err, Ok, Result}
use Rattle.incremental.specs.declared.Stop.TheVariants.{Refused, Wanted}
use Rattle.incremental.specs.declared.Stop.{Stop}

-- an acceptance is made exactly where the checks make it
pub accepted_answer : (y : Answer Acceptable) (a : Acceptance) → accepted_values a ≡ answer_values y
    → (x : Acceptable) × (y ≡ decided (accept x)) × (a ≡ x.fields)
accepted_answer (decided (accept x)) a e = (x, refl, ap (λ (w : Values). w.fields) e)
accepted_answer (decided (refuse r)) a e = absurd (omega (arith, ap (λ (w : Values). w.kind) e))
accepted_answer (wants k) a e = absurd (omega (arith, ap (λ (w : Values). w.kind) e))

-- and so is a refusal
pub refused_answer : (y : Answer Acceptable) (r : Refusal) → refused_values r ≡ answer_values y → y ≡ decided (refuse r)
refused_answer (decided (accept x)) r e = absurd (omega (arith, ap (λ (w : Values). w.kind) e))
refused_answer (decided (refuse s)) r e =
    let n : s.number ≡ r.number = sym (ap (λ (w : Values). w.number) e) in
    let i : s.index ≡ r.index = sym (ap (λ (w : Values). w.index) e) in
    let o : s.offset ≡ r.offset = sym (ap (λ (w : Values). w.offset) e) in
    λ j. decided (refuse (record { number = n j; index = i j; offset = o j }))
refused_answer (wants k) r e = absurd (omega (arith, ap (λ (w : Values). w.kind) e))

-- and a request
pub wanted_answer : (y : Answer Acceptable) (k : ℕ) → wanted_values k ≡ answer_values y → y ≡ wants k
wanted_answer (decided (accept x)) k e = absurd (omega (arith, ap (λ (w : Values). w.kind) e))
wanted_answer (decided (refuse r)) k e = absurd (omega (arith, ap (λ (w : Values). w.kind) e))
wanted_answer (wants j) k e = ap wants (sym (ap (λ (w : Values). w.wanted) e))

-- the verdict that has these values
abbrev verdict_by : ℕ → Values → Result Acceptance Stop
verdict_by zero x = Ok x.fields
verdict_by (suc zero) x = Err (Refused (record { number = x.number; index = x.index; offset = x.offset }))
verdict_by (suc (suc k)) x = Err (Wanted x.wanted)

values_back : (v : Result Acceptance Stop) → verdict_by (values_of v).kind (values_of v) ≡ v
values_back (Ok a) = refl
values_back (Err (Refused r)) = refl
values_back (Err (Wanted k)) = refl

pub same_values : (v w : Result Acceptance Stop) → values_of v ≡ values_of w → v ≡ w
same_values v w e = sym (values_back v) ∙ ap (λ (x : Values). verdict_by x.kind x) e ∙ values_back w

-- and a whole-file reader's verdict
abbrev full_by : Result Acceptance Stop → Result Acceptance Refusal
full_by (Ok a) = Ok a
full_by (Err (Refused r)) = Err r
full_by (Err (Wanted k)) = Err (refusal 0 0 0)

full_back : (v : Result Acceptance Refusal) → full_by (verdict_in v) ≡ v
full_back (Ok a) = refl
full_back (Err r) = refl

pub same_verdicts : (v w : Result Acceptance Refusal) → values_of (verdict_in v) ≡ values_of (verdict_in w) → v ≡ w
same_verdicts v w e = sym (full_back v) ∙ ap full_by (same_values (verdict_in v) (verdict_in w) e) ∙ full_back w
