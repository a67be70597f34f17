-- What is asked of a file is told by what a call for its checks gave: an opening, a refusal or a request for more.
use mathlib.Core.Path.{◌≡◌, refl, sym, ap, ◌∙◌}
use mathlib.Core.List.{List, []}
use Prim.Native.Nat.{ℕ}
use Rattle.lists.specs.Answer.{Said, Answers}
use Rattle.lists.proofs.Answers.{answers}
use Rattle.incremental.specs.Plan.{Plan, run}
use Rattle.incremental.specs.Plan.{answer_of}
use Rattle.head.proofs.Facts.{open_met}
use Rattle.head.specs.declared.checks.Opening.{Opening}
use Rattle.query.specs.Queries.{asked}
use Rattle.lists.specs.Pairs.{PairsListed}
use Rattle.std.specs.Prelude.{Result, Ok, Err, Option, Some, None}
use Rattle.std.specs.Result.{result_ok}
use Rattle.incremental.specs.declared.Stop.TheVariants.{Refused, Wanted}
use Rattle.head.specs.Checks.{open_plan}
use Rattle.head.specs.Opened.{OpenFacts}
use Rattle.lists.proofs.Tests.{never}
use Rattle.incremental.specs.declared.Stop.{Stop}

-- `r` is what a call for the checks gave, `k` what it is where only an acceptance counts: one, or none
module _ {A : Type 0} (t : Plan A) (p : List ℕ) (r : Result A Stop) (k : Option A) (e : answer_of r ≡ run t p) (f : k ≡ result_ok r) where
  pub asked_none : {B : Type 0} (said : B → Said) (none v : B) (some : A → B) → k ≡ None → v ≡ none → Answers said (asked (run t p) none some) v
  asked_none said none v some q h = answers said _ v (rw (← e) (go r (sym f ∙ q)))
    where
      go : (x : Result A Stop) → result_ok x ≡ None → v ≡ asked (answer_of x) none some
      go (Ok a) q = never cc
      go (Err (Refused x)) q = h
      go (Err (Wanted n)) q = h

  pub asked_some : {B : Type 0} (said : B → Said) (none v : B) (some : A → B) (a : A) → k ≡ Some a → v ≡ some a → Answers said (asked (run t p) none some) v
  asked_some said none v some a q h = answers said _ v (rw (← e) (go r (sym f ∙ q)))
    where
      go : (x : Result A Stop) → result_ok x ≡ Some a → v ≡ asked (answer_of x) none some
      go (Ok b) q = let w : b ≡ a = cc in rw w h
      go (Err x) q = never cc

  pub was_ok : (a : A) → k ≡ Some a → r ≡ Ok a
  was_ok a q = go r (sym f ∙ q)
    where
      go : (x : Result A Stop) → result_ok x ≡ Some a → x ≡ Ok a
      go (Ok b) q = let w : b ≡ a = cc in ap (λ (c : A). Ok c) w
      go (Err x) q = never cc

-- the same by the call's own answer
module _ {A B : Type 0} (t : Plan A) (p : List ℕ) (r : Result A Stop) (said : B → Said) (none v : B) (some : A → B) (e : answer_of r ≡ run t p) where
  pub asked_ok : (a : A) → r ≡ Ok a → v ≡ some a → Answers said (asked (run t p) none some) v
  asked_ok a q h = asked_some t p r (result_ok r) e refl said none v some a (ap result_ok q) h

  pub asked_err : (s : Stop) → r ≡ Err s → v ≡ none → Answers said (asked (run t p) none some) v
  asked_err s q h = asked_none t p r (result_ok r) e refl said none v some (ap result_ok q) h

-- what checks 1 to 6 gave is what holds of an opening
pub opened_met : (p : List ℕ) (r : Result Opening Stop) (k : Option Opening) (o : Opening) → answer_of r ≡ run open_plan p → k ≡ result_ok r → k ≡ Some o → OpenFacts p o
opened_met p r k o e f q = open_met p r o e (was_ok open_plan p r k e f o q)

pub ruleset asking = (asked_none, asked_some, opened_met)

-- what is listed of a file, by what a call for its checks gave: an opening, or not
pub open_listed : (t : Plan Opening) (p : List ℕ) (r : Result Opening Stop) (o : Opening) (some : Opening → List ℕ) {before after : List ℕ} {n : ℕ}
    → answer_of r ≡ run t p → r ≡ Ok o → PairsListed (some o) before n after → PairsListed (asked (run t p) [] some) before n after
open_listed t p r o some e q h = rw (← e, q) h

pub none_open : (t : Plan Opening) (p : List ℕ) (r : Result Opening Stop) (s : Stop) (some : Opening → List ℕ) {before after : List ℕ} {n : ℕ}
    → answer_of r ≡ run t p → r ≡ Err s → PairsListed [] before n after → PairsListed (asked (run t p) [] some) before n after
none_open t p r s some {before} {after} {n} e q h = rw (← e, q) (go s)
  where
    go : (x : Stop) → PairsListed (asked (answer_of {A = Opening} (Err x)) [] some) before n after
    go (Refused f) = h
    go (Wanted k) = h
