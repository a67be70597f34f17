-- A plan of checks over a prefix (document 01, "Refusal numbers and the order of checks"). A check sees the bytes up to its required
-- length and no others, so what a plan decides early stands, whatever its checks are.
use Rattle.std.specs.Prelude.{◌≡◌, List, ℕ, ◌<◌, leb, length, take, Option, Result, Ok, Err}
use Rattle.lists.specs.Count.{pick}
use Rattle.incremental.specs.Decision.{Decision, accept, refuse, check as check_now, given as given_now}
use Rattle.incremental.specs.declared.Fault.{Fault}
use Rattle.incremental.specs.declared.Stop.TheVariants.{Refused, Wanted}
use Rattle.incremental.specs.declared.Stop.{Stop}

pub data Plan (A : Type 0) : Type 0 where
  decide : Decision A → Plan A
  -- so many bytes are required; the plan goes on by those bytes
  await : ℕ → (List ℕ → Plan A) → Plan A

pub data Answer (A : Type 0) : Type 0 where
  decided : Decision A → Answer A
  wants : ℕ → Answer A

-- what a plan answers on a prefix
unfoldable pub run : {A : Type 0} → Plan A → List ℕ → Answer A
run (decide d) p = decided d
run (await k next) p = pick (leb k (length p)) (run (next (take k p)) p) (wants k)

-- one plan after another: the first that is not passed answers
unfoldable pub and_then : {A B : Type 0} → Plan A → (A → Plan B) → Plan B
and_then (decide (accept a)) f = f a
and_then (decide (refuse r)) f = decide (refuse r)
and_then (await k next) f = await k (λ b. and_then (next b) f)

infixl 10 ◌>>=◌
abbrev pub ◌>>=◌ : {A B : Type 0} → Plan A → (A → Plan B) → Plan B
◌>>=◌ t f = and_then t f

infixl 10 ◌>>◌
abbrev pub ◌>>◌ : {A : Type 0} → Plan Unit → Plan A → Plan A
◌>>◌ t later = and_then t (λ _. later)

-- the first k bytes; document 01's reach of the checks that look at them
unfoldable pub reach : ℕ → Plan (List ℕ)
reach k = await k (λ b. decide (accept b))

-- check n on what has been reached: a fault is refused with its index and file offset
unfoldable pub check : ℕ → Option Fault → Plan Unit
check n f = decide (check_now n f)

-- check n on what has to be there, which is handed on: where there is none, refused with index 0 and the field's file offset
unfoldable pub given : {A : Type 0} → ℕ → ℕ → Option A → Plan A
given n at o = decide (given_now n at o)

-- all checks are passed
abbrev pub done : {A : Type 0} → A → Plan A
done a = decide (accept a)

-- what each case of an answer says
abbrev pub answer_of : {A : Type 0} → Result A Stop → Answer A
answer_of (Ok a) = decided (accept a)
answer_of (Err (Refused r)) = decided (refuse r)
answer_of (Err (Wanted k)) = wants k

-- what the answer `x` on a prefix `p` says of the answer `y` on a prefix `q` that `p` begins
pub record Stands {A : Type 0} (p q : List ℕ) (x y : Answer A) : Type 0 where
  pub kept : (d : Decision A) → x ≡ decided d → y ≡ decided d
  pub longer : (k : ℕ) → x ≡ wants k → length p < k
  pub again : (k : ℕ) → x ≡ wants k → y ≡ wants k → length q < k
  pub still : (k : ℕ) → x ≡ wants k → length q < k → y ≡ wants k
