-- Answers over the C boundary: values laid into an output that takes as many as fit.
use mathlib.Core.Path.{◌≡◌, sym, ap, ◌∙◌}
use mathlib.Core.List.{List, [], ◌∷◌, ◌++◌}
use mathlib.Core.Logic.{◌⊎◌, ⊎_elim}
use Prim.Native.Nat.{ℕ, ◌+◌, ◌≤◌}
use native.Mathlib.Nat.{zero-add}
use native.Mathlib.Omega.{arith}
use lib.ListN.{length, drop, drop_of_length-le}
use lib.Seq.{paste, take_all}
use Rattle.catalogue.specs.declared.Fields.{Fields}
use Rattle.std.specs.Prelude.{Result}
use Rattle.catalogue.specs.declared.Unwritten.{Unwritten}
use Rattle.catalogue.specs.Line.{Writing, written_number}
use Rattle.std.specs.Prelude.{Result, Ok, Err}
use Rattle.year.specs.declared.YearRefusal.{YearRefusal}
use Rattle.year.specs.Year.{rows_of, RowsPut}
use Rattle.year.proofs.Filling.{rows_none}
use Rattle.hivesaddle.specs.Output.{overlay, LineWriting, year_said}
use Rattle.hivesaddle.specs.Private.{saying, rows_said}

-- a copy that stops at the shorter of the two
pub overlay-done : (out values now : List ℕ) (i : ℕ) → i ≤ length out → i ≤ length values → (length out ≤ i) ⊎ (length values ≤ i)
    → now ≡ paste out 0 values i → now ≡ overlay out values
overlay-done out values now i a b o e =
    ⊎_elim
    (λ l.
    let q : i ≡ length out = omega arith in
    e ∙ rw (q, drop_of_length-le out {i = 0 + length out} (omega arith), drop_of_length-le out {i = length values} (omega arith)))
    (λ l.
    let q : i ≡ length values = omega arith in
    e ∙ rw (q, take_all (length values) values (omega arith), take_all (length out) values (omega arith))
    (ap (λ (k : ℕ). values ++ drop k out) (zero-add (length values))))
    o

pub writing_is : (f : Fields) (before after : List ℕ) (w : Result (Unit {0}) Unwritten) (r : ℕ) → Writing f before w after → written_number w ≡ r
    → LineWriting f before r after
writing_is f before after w r h e = record { number = sym e ∙ h.number; output = h.output }

-- the table at year's end: after a refusal there is no row
pub year_says : (bytes hashes answers before : List ℕ) (r : Result ℕ YearRefusal) (after : List ℕ) → RowsPut bytes hashes answers before r after
    → rows_said r ≡ year_said bytes hashes answers
year_says bytes hashes answers before (Ok n) after w =
    λ i. saying (w.refusal i).number ((w.refusal i).place ∷ w.count i ∷ [])
year_says bytes hashes answers before (Err e) after w =
    let z : 0 ≡ length (rows_of bytes hashes answers) = sym (ap length (rows_none bytes hashes answers e w.refusal)) in
    λ i. saying (w.refusal i).number ((w.refusal i).place ∷ z i ∷ [])
