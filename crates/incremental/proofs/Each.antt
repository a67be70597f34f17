-- What holds of whatever a plan accepts, P, and of every refusal that it gives, Q: one law for each line of a plan, so that a statement
-- about all refusals is one walk down its lines.
use mathlib.Core.Path.{◌≡◌, refl}
use mathlib.Core.List.{List}
use Prim.Native.Nat.{ℕ, ◌≤◌}
use lib.Dec.{leb}
use lib.ListN.{length, take}
use borrow.Author.Tests.{leb-true, leb-false}
use Rattle.incremental.specs.declared.Refusal.{Refusal}
use Rattle.incremental.specs.Decision.{Decision, accept, refuse, refusal, check as check_now, ◌>>◌ as ◌then◌}
use Rattle.incremental.specs.Plan.{Plan, decide, Answer, decided, wants, run, and_then, reach, check, given}
use Rattle.incremental.proofs.Plan.{onward, run_then, reach_here, reach_short}
use Rattle.lists.proofs.Tests.{by_test, never}
use Rattle.incremental.specs.declared.Fault.{Fault}
use Rattle.std.specs.Prelude.{None, Option, Some}
use Rattle.incremental.specs.Decision.{fault}

-- ---- decisions
pub record Fair {A : Type 0} (Q : Refusal → Type 0) (d : Decision A) : Type 0 where
  pub refuses : (r : Refusal) → d ≡ refuse r → Q r

module _ (Q : Refusal → Type 0) where
  pub fair_accept : {A : Type 0} (a : A) → Fair Q (accept a)
  fair_accept a = record { refuses = λ r e. never cc }

  pub fair_refuse : {A : Type 0} (r : Refusal) → Q r → Fair {A = A} Q (refuse r)
  fair_refuse r h = record { refuses = λ s e. let q : r ≡ s = cc in rw (← q) h }

  pub fair_check : {A : Type 0} (n : ℕ) (f : Option Fault) (later : Decision A) → ((i at : ℕ) → f ≡ Some (fault i at) → Q (refusal n i at)) → Fair Q later
      → Fair Q (check_now n f then later)
  fair_check n (Some w) later h k = fair_refuse (refusal n w.index w.offset) (h w.index w.offset refl)
  fair_check n None later h k = k

  pub fair_then : {A : Type 0} (d : Decision Unit) (later : Decision A) → Fair Q d → Fair Q later → Fair Q (d then later)
  fair_then (accept t) later f k = k
  fair_then (refuse r) later f k = fair_refuse r (f.refuses r refl)

-- ---- plans
pub record Each {A : Type 0} (P : A → Type 0) (Q : Refusal → Type 0) (x : Answer A) : Type 0 where
  pub accepts : (a : A) → x ≡ decided (accept a) → P a
  pub refuses : (r : Refusal) → x ≡ decided (refuse r) → Q r

pub each_refuse : {A : Type 0} (P : A → Type 0) (Q : Refusal → Type 0) (r : Refusal) → Q r → Each P Q (decided (refuse r))
each_refuse P Q r s =
    record {
      accepts = λ a e. never cc;
      refuses = λ q e. let i : r ≡ q = cc in rw (← i) s;
    }

pub each_accept : {A : Type 0} (P : A → Type 0) (Q : Refusal → Type 0) (a : A) → P a → Each P Q (decided (accept a))
each_accept P Q a s =
    record {
      accepts = λ b e. let i : a ≡ b = cc in rw (← i) s;
      refuses = λ q e. never cc;
    }

pub each_wants : {A : Type 0} (P : A → Type 0) (Q : Refusal → Type 0) (k : ℕ) → Each P Q (wants k)
each_wants P Q k =
    record {
      accepts = λ a q. never cc;
      refuses = λ r q. never cc;
    }

module _ {B : Type 0} (P : B → Type 0) (Q : Refusal → Type 0) where
  pub each_done : (b : B) (p : List ℕ) → P b → Each P Q (run (decide (accept b)) p)
  unfolding run
  each_done b p s = each_accept P Q b s

  pub each_reach : (k : ℕ) (f : List ℕ → Plan B) (p : List ℕ) → (k ≤ length p → Each P Q (run (f (take k p)) p)) → Each P Q (run (and_then (reach k) f) p)
  each_reach k f p h =
      by_test (leb k (length p)) (λ e. rw (reach_here k f p (leb-true _ _ e)) (h (leb-true _ _ e)))
      (λ e. rw (reach_short k f p (leb-false _ _ e)) (each_wants P Q k))

  pub each_check : (n : ℕ) (f : Option Fault) (g : Unit → Plan B) (p : List ℕ) → ((i at : ℕ) → f ≡ Some (fault i at) → Q (refusal n i at))
      → (f ≡ None → Each P Q (run (g tt) p)) → Each P Q (run (and_then (check n f) g) p)
  unfolding check and_then run
  each_check n (Some w) g p h k = each_refuse P Q (refusal n w.index w.offset) (h w.index w.offset refl)
  each_check n None g p h k = k refl

  pub each_found : {A : Type 0} (n at : ℕ) (o : Option A) (g : A → Plan B) (p : List ℕ) → (o ≡ None → Q (refusal n 0 at))
      → ((a : A) → o ≡ Some a → Each P Q (run (g a) p)) → Each P Q (run (and_then (given n at o) g) p)
  unfolding given and_then run
  each_found n at (Some a) g p h k = k a refl
  each_found n at None g p h k = each_refuse P Q (refusal n 0 at) (h refl)

  pub each_given : {A : Type 0} (n at : ℕ) (o : Option A) (g : A → Plan B) (p : List ℕ) → Q (refusal n 0 at)
      → ((a : A) → o ≡ Some a → Each P Q (run (g a) p)) → Each P Q (run (and_then (given n at o) g) p)
  each_given n at o g p h k = each_found n at o g p (λ _. h) k

  pub each_decide : (d : Decision Unit) (g : Unit → Plan B) (p : List ℕ) → Fair Q d → Each P Q (run (g tt) p) → Each P Q (run (and_then (decide d) g) p)
  unfolding and_then run
  each_decide (accept t) g p h k = k
  each_decide (refuse r) g p h k = each_refuse P Q r (h.refuses r refl)

  pub each_then : {A : Type 0} (t : Plan A) (f : A → Plan B) (p : List ℕ) → Each (λ _. Unit) Q (run t p)
      → ((a : A) → run t p ≡ decided (accept a) → Each P Q (run (f a) p)) → Each P Q (run (and_then t f) p)
  each_then {A = A} t f p h k = rw (run_then t f p) (go (run t p) h k)
    where
      go : (x : Answer A) → Each (λ _. Unit) Q x → ((a : A) → x ≡ decided (accept a) → Each P Q (run (f a) p)) → Each P Q (onward x (λ a. run (f a) p))
      go (decided (accept a)) h k = k a refl
      go (decided (refuse r)) h k = each_refuse P Q r (h.refuses r refl)
      go (wants j) h k = each_wants P Q j
