-- What checks find and decide: a fault with its index and the file offset of its field, an acceptance or a refusal (document 01,
-- "Refusal numbers and the order of checks").
use Rattle.std.specs.Prelude.{Bool, ℕ, Option, Some, None, Result, Ok, Err}
use Rattle.lists.specs.Count.{pick}
use Rattle.incremental.specs.declared.Refusal.{Refusal}
use Rattle.incremental.specs.declared.Fault.{Fault}

-- a fault at an index, in the field at a file offset
abbrev pub fault : ℕ → ℕ → Fault
fault i at = record { index = i; offset = at }

-- where the test holds
abbrev pub fault_at : ℕ → ℕ → Bool → Option Fault
fault_at i at test = pick test (Some (fault i at)) None

-- the fault that a search found; `at` says where in the file the field of each index stands
abbrev pub fault_of : (ℕ → ℕ) → Option ℕ → Option Fault
fault_of at (Some i) = Some (fault i (at i))
fault_of at None = None

pub data Decision (A : Type 0) : Type 0 where
  accept : A → Decision A
  refuse : Refusal → Decision A

-- refusal n with an index and a file offset
abbrev pub refusal : ℕ → ℕ → ℕ → Refusal
refusal n i at = record { number = n; index = i; offset = at }

-- CHECK n: a fault is refused with its index and file offset, and else nothing stands in the way
abbrev pub check : ℕ → Option Fault → Decision Unit
check n (Some f) = refuse (refusal n f.index f.offset)
check n None = accept tt

-- check n on what has to be there, which is handed on: where there is none, refused with index 0 and the field's file offset
abbrev pub given : {A : Type 0} → ℕ → ℕ → Option A → Decision A
given n at (Some a) = accept a
given n at None = refuse (refusal n 0 at)

-- one decision after another: the first that refuses answers
infixl 10 ◌>>=◌
abbrev pub ◌>>=◌ : {A B : Type 0} → Decision A → (A → Decision B) → Decision B
◌>>=◌ (accept a) f = f a
◌>>=◌ (refuse r) f = refuse r

infixl 10 ◌>>◌
abbrev pub ◌>>◌ : {A : Type 0} → Decision Unit → Decision A → Decision A
◌>>◌ d later = d >>= λ _. later

-- what each case of an answer says
abbrev pub decision_of : {A : Type 0} → Result A Refusal → Decision A
decision_of (Ok a) = accept a
decision_of (Err r) = refuse r
