-- A plan of checks over a prefix. A check sees the bytes up to its required length and no others, so what a plan decides
-- early stands, whatever its checks are.
use mathlib.Core.Path.{◌≡◌, refl, ap, sym, ◌∙◌}
use mathlib.Core.List.{List}
use Prim.Native.Nat.{ℕ, ◌<◌, ◌≤◌, min}
use native.Mathlib.Omega.{arith}
use native.Mathlib.Nat.{le_trans}
use lib.Dec.{leb}
use lib.ListN.{length, take, length-take}
use lib.Seq.{take-take}
use borrow.Author.Tests.{leb-true, leb-false, le-leb, lt-leb}
use Rattle.lists.proofs.Tests.{by_test, never}
use Rattle.incremental.specs.Decision.{Decision, accept, refuse, refusal, check as check_now, given as given_now}
use Rattle.incremental.specs.declared.Refusal.{Refusal}
use Rattle.incremental.specs.Plan.{Plan, decide, await, Answer, decided, wants, run, and_then, reach, check, given, Stands}
use Rattle.incremental.specs.declared.Fault.{Fault}
use Rattle.std.specs.Prelude.{None, Option, Some}
use Rattle.incremental.specs.Decision.{fault}
use Rattle.std.specs.Prelude.{Result, Err}
use Rattle.std.specs.Result.{IsErrAnd}
use Rattle.std.proofs.lemmas.Result.{err_from_is_err_and}
use Rattle.incremental.specs.declared.Stop.{Stop}
use Rattle.incremental.specs.declared.Stop.TheVariants.{Refused, Wanted}
use Rattle.incremental.specs.Plan.{answer_of}

-- the same of answers
abbrev pub onward : {A B : Type 0} → Answer A → (A → Answer B) → Answer B
onward (decided (accept a)) g = g a
onward (decided (refuse r)) g = decided (refuse r)
onward (wants k) g = wants k

-- the answer where the required length is there, and where it is not
pub run_here : {A : Type 0} (k : ℕ) (next : List ℕ → Plan A) (p : List ℕ) → k ≤ length p → run (await k next) p ≡ run (next (take k p)) p
unfolding run
run_here k next p h = rw (le-leb k (length p) h)

pub run_short : {A : Type 0} (k : ℕ) (next : List ℕ → Plan A) (p : List ℕ) → length p < k → run (await k next) p ≡ wants k
unfolding run
run_short k next p h = rw (lt-leb k (length p) h)

pub run_decide : {A : Type 0} (d : Decision A) (p : List ℕ) → run (decide d) p ≡ decided d
unfolding run
run_decide d p = refl

-- the second plan answers where the first accepts
pub run_then : {A B : Type 0} (t : Plan A) (f : A → Plan B) (p : List ℕ) → run (and_then t f) p ≡ onward (run t p) (λ a. run (f a) p)
unfolding run and_then
run_then (decide (accept a)) f p = refl
run_then (decide (refuse r)) f p = refl
run_then (await k next) f p = by_test (leb k (length p)) (λ e. rw e (run_then (next (take k p)) f p)) (λ e. rw e)

-- `p` begins `q`: it is no longer, and each start of it starts `q`
pub record Begins (p q : List ℕ) : Type 0 where
  pub shorter : length p ≤ length q
  pub same : (k : ℕ) → k ≤ length p → take k p ≡ take k q

pub begins_take : (xs : List ℕ) (m n : ℕ) → m ≤ n → Begins (take m xs) (take n xs)
begins_take xs m n h =
    record {
      shorter = simp length-take (omega arith);
      same = λ k l. let l' : k ≤ min m (length xs) = rw (← length-take m xs) l in
          take-take k m xs (omega arith) ∙ sym (take-take k n xs (omega arith));
    }

-- a request is for more than there is
pub wants_more : {A : Type 0} (t : Plan A) (p : List ℕ) (k : ℕ) → run t p ≡ wants k → length p < k
unfolding run
wants_more (decide d) p k e = never cc
wants_more (await j next) p k e =
    by_test (leb j (length p)) (λ q. wants_more (next (take j p)) p k (sym (run_here j next p (leb-true _ _ q)) ∙ e))
    (λ q. let i : j ≡ k = cc (run_short j next p (leb-false _ _ q)) in omega (arith, leb-false j (length p) q))

-- WHAT IS DECIDED EARLY STANDS
pub stands : {A : Type 0} (t : Plan A) (p q : List ℕ) → Begins p q → Stands p q (run t p) (run t q)
unfolding run
stands (decide d) p q b =
    record { kept = λ c e. e; longer = wants_more (decide d) p; again = λ k e f. wants_more (decide d) q k f; still = λ k e l. e }
stands (await j next) p q b =
    by_test (leb j (length p))
    (λ e.
    let h : j ≤ length p = leb-true _ _ e in
    rw (run_here j next p h, run_here j next q (le_trans h b.shorter), ← b.same j h) (stands (next (take j p)) p q b))
    (λ e.
    let h : length p < j = leb-false _ _ e in
    rw (run_short j next p h)
    (record {
      kept = λ c f. cc;
      longer = λ k f. let i : j ≡ k = cc in omega arith;
      again = λ k f g. wants_more (await j next) q k g;
      still = λ k f l. let i : j ≡ k = cc in run_short j next q (omega arith) ∙ f;
    }))

-- no request is made
pub record Decided {A : Type 0} (x : Answer A) : Type 0 where
  pub never : (k : ℕ) → x ≡ wants k → ⊥

-- The steps by which a plan is shown to make no request: only the required lengths are looked at
pub decided_decide : {A : Type 0} (d : Decision A) (p : List ℕ) → Decided (run (decide d) p)
unfolding run
decided_decide d p = record { never = λ k e. never cc }

pub decided_then : {A B : Type 0} (t : Plan A) (f : A → Plan B) (p : List ℕ) → Decided (run t p)
    → ((a : A) → run t p ≡ decided (accept a) → Decided (run (f a) p)) → Decided (run (and_then t f) p)
decided_then {A = A} t f p d h = rw (run_then t f p) (go (run t p) d h)
  where
    go : (x : Answer A) → Decided x → ((a : A) → x ≡ decided (accept a) → Decided (run (f a) p)) → Decided (onward x (λ a. run (f a) p))
    go (decided (accept a)) d h = h a refl
    go (decided (refuse r)) d h = record { never = λ k e. never cc }
    go (wants j) d h = record { never = λ k e. d.never j refl }

-- what holds of whatever a plan accepts
pub record AnswerHolds {A : Type 0} (P : A → Type 0) (x : Answer A) : Type 0 where
  pub holds : (a : A) → x ≡ decided (accept a) → P a

pub holds_accept : {A : Type 0} (P : A → Type 0) (a : A) (p : List ℕ) → P a → AnswerHolds P (run (decide (accept a)) p)
unfolding run
holds_accept P a p h = record { holds = λ b e. let q : a ≡ b = cc in rw (← q) h }

pub holds_refuse : {A : Type 0} (P : A → Type 0) (r : Refusal) (p : List ℕ) → AnswerHolds P (run (decide (refuse r)) p)
unfolding run
holds_refuse P r p = record { holds = λ b e. never cc }

pub holds_await : {A : Type 0} (P : A → Type 0) (k : ℕ) (next : List ℕ → Plan A) (p : List ℕ) → (k ≤ length p → AnswerHolds P (run (next (take k p)) p))
    → AnswerHolds P (run (await k next) p)
holds_await P k next p h =
    by_test (leb k (length p)) (λ e. rw (run_here k next p (leb-true _ _ e)) (h (leb-true _ _ e)))
    (λ e. rw (run_short k next p (leb-false _ _ e)) (record { holds = λ b q. never cc }))

pub holds_then : {A B : Type 0} (P : B → Type 0) (t : Plan A) (f : A → Plan B) (p : List ℕ)
    → ((a : A) → run t p ≡ decided (accept a) → AnswerHolds P (run (f a) p)) → AnswerHolds P (run (and_then t f) p)
holds_then {A = A} P t f p h = rw (run_then t f p) (go (run t p) h)
  where
    go : (x : Answer A) → ((a : A) → x ≡ decided (accept a) → AnswerHolds P (run (f a) p)) → AnswerHolds P (onward x (λ a. run (f a) p))
    go (decided (accept a)) h = h a refl
    go (decided (refuse r)) h = record { holds = λ b q. never cc }
    go (wants j) h = record { holds = λ b q. never cc }

-- a plan whose answer is known, and what follows it
pub answer_then : {A B : Type 0} (t : Plan A) (g : A → Plan B) (p : List ℕ) (x : Answer A) → run t p ≡ x → onward x (λ a. run (g a) p) ≡ run (and_then t g) p
answer_then t g p x e = sym (run_then t g p ∙ ap (λ y. onward y (λ a. run (g a) p)) e)

-- ---- the lines of a plan: what is reached, and what is checked there

module _ {B : Type 0} (k : ℕ) (f : List ℕ → Plan B) (p : List ℕ) where
  pub reach_here : k ≤ length p → run (and_then (reach k) f) p ≡ run (f (take k p)) p
  unfolding reach and_then
  reach_here h = run_here k f p h

  pub reach_short : length p < k → run (and_then (reach k) f) p ≡ wants k
  unfolding reach and_then
  reach_short h = run_short k f p h

  pub holds_reach : (P : B → Type 0) → (k ≤ length p → AnswerHolds P (run (f (take k p)) p)) → AnswerHolds P (run (and_then (reach k) f) p)
  unfolding reach and_then
  holds_reach P h = holds_await P k f p h

  pub decided_reach : k ≤ length p → Decided (run (f (take k p)) p) → Decided (run (and_then (reach k) f) p)
  decided_reach h d = rw (reach_here h) d

  -- for `search` at a function's returns: `b` is what a call for the bytes gave
  pub reach_wants : length p < k → wants k ≡ run (and_then (reach k) f) p
  reach_wants h = sym (reach_short h)

  pub reach_on : (b : List ℕ) (v : Answer B) → k ≤ length p → b ≡ take k p → v ≡ run (f b) p → v ≡ run (and_then (reach k) f) p
  reach_on b v h q e = rw (reach_here h, ← q) e

module _ {B : Type 0} (n : ℕ) (f : Option Fault) (g : Unit → Plan B) (p : List ℕ) where
  pub check_fault : (i at : ℕ) → f ≡ Some (fault i at) → run (and_then (check n f) g) p ≡ decided (refuse (refusal n i at))
  unfolding check and_then run
  check_fault i at e = rw e

  pub check_passed : f ≡ None → run (and_then (check n f) g) p ≡ run (g tt) p
  unfolding check and_then run
  check_passed e = rw e

  -- for `search` at a function's returns: `d` is what a call for the fault gave, and the check of that refused or passed
  pub check_refused : (d : Option Fault) (r : Refusal) → refuse r ≡ check_now n d → d ≡ f → decided (refuse r) ≡ run (and_then (check n f) g) p
  unfolding check and_then run
  check_refused d r e q = rw (← q, ← e)

  pub check_on : (d : Option Fault) (t : Unit) (v : Answer B) → accept t ≡ check_now n d → d ≡ f → v ≡ run (g tt) p → v ≡ run (and_then (check n f) g) p
  unfolding check and_then run
  check_on d t v e q h = rw (← q, ← e) h

pub holds_check : {B : Type 0} (P : B → Type 0) (n : ℕ) (f : Option Fault) (g : Unit → Plan B) (p : List ℕ)
    → (f ≡ None → AnswerHolds P (run (g tt) p)) → AnswerHolds P (run (and_then (check n f) g) p)
unfolding check and_then
holds_check P n (Some w) g p h = holds_refuse P (refusal n w.index w.offset) p
holds_check P n None g p h = h refl

pub decided_check : {B : Type 0} (n : ℕ) (f : Option Fault) (g : Unit → Plan B) (p : List ℕ)
    → (f ≡ None → Decided (run (g tt) p)) → Decided (run (and_then (check n f) g) p)
unfolding check and_then
decided_check n (Some w) g p h = decided_decide (refuse (refusal n w.index w.offset)) p
decided_check n None g p h = h refl

-- what has to be there is, or is not
module _ {A B : Type 0} (n at : ℕ) (o : Option A) (g : A → Plan B) (p : List ℕ) where
  pub given_some : (a : A) → o ≡ Some a → run (and_then (given n at o) g) p ≡ run (g a) p
  unfolding given and_then run
  given_some a e = rw e

  pub given_none : o ≡ None → run (and_then (given n at o) g) p ≡ decided (refuse (refusal n 0 at))
  unfolding given and_then run
  given_none e = rw e

-- the same of what has to be there
module _ {A B : Type 0} (n at : ℕ) (o : Option A) (g : A → Plan B) (p : List ℕ) where
  pub given_refused : (d : Option A) (r : Refusal) → refuse r ≡ given_now n at d → d ≡ o → decided (refuse r) ≡ run (and_then (given n at o) g) p
  unfolding given and_then run
  given_refused d r e q = rw (← q, ← e)

  pub given_on : (d : Option A) (a : A) (v : Answer B) → accept a ≡ given_now n at d → d ≡ o → v ≡ run (g a) p → v ≡ run (and_then (given n at o) g) p
  unfolding given and_then run
  given_on d a v e q h = rw (← q, ← e) h

pub holds_given : {A B : Type 0} (P : B → Type 0) (n at : ℕ) (o : Option A) (g : A → Plan B) (p : List ℕ)
    → ((a : A) → o ≡ Some a → AnswerHolds P (run (g a) p)) → AnswerHolds P (run (and_then (given n at o) g) p)
unfolding given and_then
holds_given P n at (Some a) g p h = h a refl
holds_given P n at None g p h = holds_refuse P (refusal n 0 at) p

pub decided_given : {A B : Type 0} (n at : ℕ) (o : Option A) (g : A → Plan B) (p : List ℕ)
    → ((a : A) → o ≡ Some a → Decided (run (g a) p)) → Decided (run (and_then (given n at o) g) p)
unfolding given and_then
decided_given n at (Some a) g p h = h a refl
decided_given n at None g p h = decided_decide (refuse (refusal n 0 at)) p

-- a decision, as the last line
pub decide_it : {A : Type 0} (d e : Decision A) (p : List ℕ) → d ≡ e → decided d ≡ run (decide e) p
unfolding run
decide_it d e p q = ap decided q

-- the way out of a `?`: `r` is what the function returns there, by a refusal or a stop that a call gave
pub exit_stop : {A : Type 0} (s : Stop) (r : Result A Stop) (v : Answer A) → IsErrAnd r (λ y. y ≡ s) → answer_of {A = A} (Err s) ≡ v → answer_of r ≡ v
exit_stop s r v e h = let q = err_from_is_err_and r e in rw (q.1, q.2) h

pub exit_wanted : {A : Type 0} (s : Stop) (k : ℕ) (r : Result A Stop) (v : Answer A) → IsErrAnd r (λ y. y ≡ s) → s ≡ Wanted k → wants k ≡ v → answer_of r ≡ v
exit_wanted s k r v e q h = exit_stop s r v e (rw q h)

pub exit_refused : {A : Type 0} (f : Refusal) (r : Result A Stop) (v : Answer A) → IsErrAnd r (λ y. y ≡ Refused f) → decided (refuse f) ≡ v → answer_of r ≡ v
exit_refused f r v e h = exit_stop (Refused f) r v e h

pub ruleset run_steps = (reach_wants, reach_on, check_refused, check_on, given_refused, given_on, decide_it, exit_wanted, exit_refused)

-- plans that follow others: a call for the first was stopped, or gave `a`
module _ {A B : Type 0} (t : Plan A) (f : A → Plan B) (p : List ℕ) where
  pub then_stops : (s : Stop) → answer_of (Err s) ≡ run t p → answer_of (Err s) ≡ run (and_then t f) p
  then_stops (Refused r) e = answer_then t f p _ (sym e)
  then_stops (Wanted k) e = answer_then t f p _ (sym e)

  pub then_on : (a : A) (v : Answer B) → decided (accept a) ≡ run t p → v ≡ run (f a) p → v ≡ run (and_then t f) p
  then_on a v e h = h ∙ answer_then t f p _ (sym e)
