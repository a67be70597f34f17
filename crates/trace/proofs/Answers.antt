-- What the functions of the crate promise: what the pass and the walks found, the checks from 11 on, and the buffer.
use mathlib.Core.Path.{◌≡◌, refl, sym, ap, ◌∙◌}
use mathlib.Core.Bool.{Bool, true}
use mathlib.Core.List.{List}
use Prim.Native.Nat.{ℕ, ◌≤◌}
use native.Mathlib.Omega.{arith}
use lib.ListN.{length}
use Rattle.std.specs.Prelude.{Err, None, Ok, Option, Result, Some, OnOk}
use Rattle.std.specs.Result.{IsErrAnd}
use Rattle.std.proofs.lemmas.Result.{err_from_is_err_and}
use Rattle.lists.proofs.Tests.{never}
use Rattle.lists.specs.Filled.{filled}
use Rattle.incremental.specs.Decision.{Decision, accept, refuse, fault_of, check, ◌>>◌, decision_of}
use Rattle.incremental.specs.declared.Fault.{Fault}
use Rattle.incremental.specs.declared.Refusal.{Refusal}
use Rattle.sections.specs.Fields.{places_fault}
use Rattle.sections.proofs.Cases.{places_met}
use Rattle.trace.specs.declared.Broken.{Broken}
use Rattle.trace.specs.declared.Pass.{Pass}
use Rattle.trace.specs.Links.{end, predecessors, chains, link_checks, trace_checks, held, LinkListAnswer}
use Rattle.trace.specs.Private.{ends, first_astray, first_shared, first_cyclic, pass_of, cycles_of, links_of, refusal_of}
use Rattle.trace.specs.Private.{Distinct, Forward, LinkedBuffer, Passed, CyclesAnswered, LinksAnswered}
use Rattle.trace.proofs.Accepted.{sound, once, distinct}
use Rattle.trace.proofs.Chains.{chains_are_ends}
use Rattle.trace.proofs.Forward.{forward_acyclic}

-- an exit by `?`: what the call refused is what the function answers
exit : {A : Type 0} (r : Result A Broken) (x : Broken) → IsErrAnd r (λ y. y ≡ x) → r ≡ Err x
exit r x i = let p = err_from_is_err_and r i in p.1 ∙ ap Err p.2

-- a refusal says nothing of the buffer
err_holds : {A : Type 0} (P : Type 0) (r : Result A Broken) (x : Broken) → r ≡ Err x → OnOk r P
err_holds P r x e = rw e tt

-- what the pass for checks 11 and 12 says: a refusal, or that both found nothing
told_err : (f g h : Option ℕ) (n k : ℕ) (b : Bool) (x : Broken) → Err x ≡ pass_of f g n b → Err x ≡ links_of f g h k
told_err (Some i) g h n k b x e = cc
told_err None (Some i) h n k b x e = cc
told_err None None h n k b x e = never cc

told_ok : (f g : Option ℕ) (n : ℕ) (b : Bool) (p : Pass) → Ok p ≡ pass_of f g n b → (f ≡ None) × (g ≡ None) × (p ≡ record { ends = n; forward = b })
told_ok (Some i) g n b p e = never cc
told_ok None (Some i) n b p e = never cc
told_ok None None n b p e = (refl, refl, cc)

-- both found nothing: the table is built, and check 13 is left
pub record Built (s : List ℕ) (p : Pass) (m : ℕ) (buffer : List ℕ) : Type 0 where
  pub none_astray : first_astray s ≡ None
  pub none_shared : first_shared s ≡ None
  pub counted : p.ends ≡ ends s
  pub leads : p.forward ≡ true → Forward s
  pub small : length s ≤ end
  pub table : buffer ≡ predecessors s m

module _ (s : List ℕ) (m : ℕ) (p : Pass) {before : List ℕ} (w : Passed s m (Ok p) before) where
  pub passed_built : Built s p m before
  passed_built =
      let x = told_ok (first_astray s) (first_shared s) (ends s) w.forward p w.found in
      record {
        none_astray = x.0;
        none_shared = x.1;
        counted = ap (λ (q : Pass). q.ends) x.2;
        leads = λ z. w.leads (sym (ap (λ (q : Pass). q.forward) x.2) ∙ z);
        small = w.small;
        table = w.holds (sound s x.0);
      }

  pub passed_linked : length s ≤ m → length before ≡ m → LinkedBuffer s before × Distinct s
  passed_linked l e =
      let b = passed_built in
      let i = sound s b.none_astray in
      (record { room = omega arith; sound = i }, distinct s i (once s b.none_shared))

  -- the rest is what the search for check 13 found
  rest : (h : Option ℕ) (k : ℕ) → links_of (first_astray s) (first_shared s) h k ≡ links_of None None h k
  rest h k = let b = passed_built in rw (b.none_astray, b.none_shared)

  -- none is on a cycle: there are as many chains as entries that end one
  links_free : (buffer : List ℕ) → first_cyclic s ≡ None → buffer ≡ predecessors s m → LinksAnswered s m (Ok p.ends) buffer
  links_free buffer e h =
      let b = passed_built in
      let n = chains_are_ends s b.small (sound s b.none_astray) (once s b.none_shared) in
      record {
        found = ap Ok (b.counted ∙ sym n) ∙ sym (rest (first_cyclic s) (chains s) ∙ ap (λ (o : Option ℕ). links_of None None o (chains s)) e);
        holds = h;
      }

  pub links_forward : p.forward ≡ true → LinksAnswered s m (Ok p.ends) before
  links_forward e =
      let b = passed_built in
      links_free before (forward_acyclic s b.small (sound s b.none_astray) (b.leads e)) b.table

  -- check 13 found one, or none
  pub links_walked : (k : ℕ) (t : Unit) (buffer : List ℕ) → k ≡ m → CyclesAnswered s k (Ok t) buffer → LinksAnswered s m (Ok p.ends) buffer
  links_walked k t buffer e w = links_free buffer (none (first_cyclic s) w.found) (w.holds ∙ ap (predecessors s) e)
    where
      none : (h : Option ℕ) → Ok t ≡ cycles_of h → h ≡ None
      none (Some i) z = never cc
      none None z = refl

  pub links_cycle : (k : ℕ) (x : Broken) (r : Result ℕ Broken) (after buffer : List ℕ) → CyclesAnswered s k (Err x) after → IsErrAnd r (λ y. y ≡ x)
      → LinksAnswered s m r buffer
  links_cycle k x r after buffer w i =
      record { found = exit r x i ∙ cyclic (first_cyclic s) w.found ∙ sym (rest (first_cyclic s) (chains s)); holds = err_holds _ r x (exit r x i) }
    where
      cyclic : (h : Option ℕ) → Err x ≡ cycles_of h → Err x ≡ links_of None None h (chains s)
      cyclic (Some j) z = cc
      cyclic None z = never cc

pub links_refused : (s : List ℕ) (m : ℕ) (x : Broken) (before : List ℕ) (r : Result ℕ Broken) (buffer : List ℕ) → Passed s m (Err x) before
    → IsErrAnd r (λ y. y ≡ x) → LinksAnswered s m r buffer
links_refused s m x before r buffer w i =
    record {
      found = exit r x i ∙ told_err (first_astray s) (first_shared s) (first_cyclic s) (ends s) (chains s) w.forward x w.found;
      holds = err_holds _ r x (exit r x i);
    }

-- what checks 11 to 13 say, as a decision
decided : (ℕ → ℕ) → Result ℕ Broken → Decision ℕ
decided at (Ok n) = accept n
decided at (Err x) = refuse (refusal_of at x)

checks_say : (at : ℕ → ℕ) (f g h : Option ℕ) (n : ℕ)
    → decided at (links_of f g h n) ≡ (check 11 (fault_of at f) >> (check 12 (fault_of at g) >> (check 13 (fault_of at h) >> accept n)))
unfolding decided
checks_say at (Some i) g h n = refl
checks_say at None (Some i) h n = refl
checks_say at None None (Some i) n = refl
checks_say at None None None n = refl

-- the whole answer on a list of n next indexes: check 7 refuses, or the later checks decide
module _ (at : ℕ → ℕ) (s : List ℕ) (n m : ℕ) (e : length s ≡ n) (f : Option Fault) (buffer : List ℕ) (q : f ≡ places_fault m n) where
  seven : (d : Decision Unit) → d ≡ check 7 f → check 7 (places_fault m (length s)) ≡ d
  seven d w = ap (check 7) (ap (places_fault m) e ∙ sym q) ∙ sym w

  -- `a` is what the function returns where the check's refusal leaves it by `?`
  pub answer_few : (a : Result ℕ Refusal) (x : Refusal) → IsErrAnd a (λ y. y ≡ x) → refuse x ≡ check 7 f → buffer ≡ filled m → LinkListAnswer at s m a buffer
  unfolding trace_checks
  answer_few a x i w h =
      let p = err_from_is_err_and a i in
      let d : decision_of a ≡ trace_checks at s m =
      ap decision_of (p.1 ∙ ap Err p.2) ∙ sym (ap (λ (c : Decision Unit). c >> link_checks at s) (seven (refuse x) w)) in
      record { answer = d; holds = h ∙ ap (λ (c : Decision ℕ). held c s m) (sym (ap decision_of (p.1 ∙ ap Err p.2)) ∙ d) }

  -- check 7 has passed: the later ones decide
  module _ (t : Unit) (w : accept t ≡ check 7 f) where
    later : link_checks at s ≡ trace_checks at s m
    unfolding trace_checks
    later = sym (ap (λ (c : Decision Unit). c >> link_checks at s) (seven (accept t) w))

    decides : (r : Result ℕ Broken) → r ≡ links_of (first_astray s) (first_shared s) (first_cyclic s) (chains s) → decided at r ≡ trace_checks at s m
    unfolding link_checks
    decides r h = ap (decided at) h ∙ checks_say at (first_astray s) (first_shared s) (first_cyclic s) (chains s) ∙ later

    pub answer_chains : (c : ℕ) → LinksAnswered s m (Ok c) buffer → LinkListAnswer at s m (Ok c) buffer
    unfolding decided
    answer_chains c h =
        let d : accept c ≡ trace_checks at s m = decides (Ok c) h.found in
        record { answer = d; holds = h.holds ∙ ap (λ (c : Decision ℕ). held c s m) d }

    pub answer_broken : (x : Broken) (a : Refusal) (b : List ℕ) → LinksAnswered s m (Err x) b → a ≡ refusal_of at x → buffer ≡ filled m
        → LinkListAnswer at s m (Err a) buffer
    unfolding decided
    answer_broken x a b h e q =
        let d : refuse a ≡ trace_checks at s m = ap refuse e ∙ decides (Err x) h.found in
        record { answer = d; holds = q ∙ ap (λ (c : Decision ℕ). held c s m) d }

  -- a place for each entry
  pub answer_room : (t : Unit) → accept t ≡ check 7 f → n ≤ m
  answer_room t w = places_met _ _ f q (passed_none f w)
    where
      passed_none : (g : Option Fault) → accept t ≡ check 7 g → g ≡ None
      passed_none (Some x) z = never cc
      passed_none None z = refl
