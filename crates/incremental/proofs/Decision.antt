-- A check, by the fault that was found.
use mathlib.Core.Path.{◌≡◌, refl, sym, ap, ◌∙◌}
use mathlib.Core.Bool.{Bool, true, false}
use Prim.Native.Nat.{ℕ}
use Rattle.lists.proofs.Tests.{never}
use Rattle.incremental.specs.declared.Refusal.{Refusal}
use Rattle.incremental.specs.Decision.{Decision, accept, refuse, refusal, fault, fault_at, fault_of, check, ◌>>◌, decision_of}
use Rattle.std.specs.Result.{IsErrAnd}
use Rattle.std.proofs.lemmas.Result.{err_from_is_err_and}
use Rattle.incremental.specs.declared.Fault.{Fault}
use Rattle.std.specs.Prelude.{None, Option, Some, Result}

-- the two ways of a check that others follow: `d` is what a call for the fault gave, and the check of that refused or passed
module _ {A : Type 0} (n : ℕ) (f d : Option Fault) (later : Decision A) (e : d ≡ f) where
  pub check_stops : (r : Refusal) → refuse r ≡ check n d → refuse r ≡ (check n f >> later)
  check_stops r h = rw (← e, ← h)

  pub check_goes : (t : Unit) → accept t ≡ check n d → (check n f >> later) ≡ later
  check_goes t h = rw (← e, ← h)

-- the two ways of a check where the fault was matched on; `x` is the refusal that was made
pub check_at : {A : Type 0} (n i at : ℕ) (f r : Option Fault) (later : Decision A) (x : Refusal) → r ≡ f → r ≡ Some (fault i at) → x ≡ refusal n i at
    → refuse x ≡ (check n f >> later)
check_at n i at f r later x e q h = rw (sym e ∙ q, h)

pub check_nowhere : {A : Type 0} (n : ℕ) (f r : Option Fault) (later d : Decision A) → r ≡ f → r ≡ None → d ≡ later → d ≡ (check n f >> later)
check_nowhere n f r later d e q h = rw (sym e ∙ q) h

-- the way out of a `?`: `r` is what the function returns there
pub exit_refusal : {A : Type 0} (f : Refusal) (r : Result A Refusal) (d : Decision A) → IsErrAnd r (λ y. y ≡ f) → refuse f ≡ d → decision_of r ≡ d
exit_refusal f r d e h = let q = err_from_is_err_and r e in rw (q.1, q.2) h

-- a fault says its index and its offset
pub fault_same : (i at j x : ℕ) → Some (fault i at) ≡ Some (fault j x) → (i ≡ j) × (at ≡ x)
fault_same i at j x e = let q : fault i at ≡ fault j x = cc in (ap (λ (f : Fault). f.index) q, ap (λ (f : Fault). f.offset) q)

pub at_nowhere : (i at : ℕ) → Some (fault i at) ≡ None → ⊥
at_nowhere i at e = never cc

-- where there is no fault, the test failed and the search found nothing
pub fault_clear : (i at : ℕ) (b : Bool) → fault_at i at b ≡ None → b ≡ false
fault_clear i at true e = absurd (at_nowhere i at e)
fault_clear i at false e = refl

pub fault_nothing : (at : ℕ → ℕ) (f : Option ℕ) → fault_of at f ≡ None → f ≡ None
fault_nothing at (Some i) e = absurd (at_nowhere i (at i) e)
fault_nothing at None e = refl

-- what a search found, for a function that makes the fault: `x` is the file offset that it took
pub fault_hit : (at : ℕ → ℕ) (f : Option ℕ) (i x : ℕ) → f ≡ Some i → x ≡ at i → Some (fault i x) ≡ fault_of at f
fault_hit at f i x e h = rw (e, h)

pub fault_none : (at : ℕ → ℕ) (f : Option ℕ) → f ≡ None → None ≡ fault_of at f
fault_none at f e = rw e
