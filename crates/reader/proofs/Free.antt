-- Checks 11 to 13 in words, in both directions: no fault is found exactly where links lead to entries or end, apart and without a cycle.
use mathlib.Core.Path.{◌≡◌, sym, ◌∙◌, ap}
use mathlib.Core.Bool.{Bool, true, false}
use mathlib.Core.List.{List}
use mathlib.Core.Logic.{◌⊎◌, ⊎_elim}
use Prim.Native.Nat.{ℕ, zero, suc, ◌≤◌, ◌<◌}
use native.Mathlib.Nat.{le_refl}
use native.Mathlib.Omega.{arith}
use borrow.Author.Tests.{le-ltb, eqb-true}
use lib.Dec.{eqb}
use lib.ListN.{length}
use Rattle.lists.proofs.First.{first_is_nothing}
use Rattle.lists.specs.Count.{count}
use Rattle.lists.proofs.Count.{count_yes, count_no, count-zero, true-false}
use Rattle.lists.proofs.Tests.{by_test}
use Rattle.incremental.specs.Decision.{accept, fault_of}
use Rattle.trace.specs.Links.{end, after, Cyclic, cyclic, namers, shared}
use Rattle.trace.specs.Links.{astray, astray_fault, shared_fault, cyclic_fault, link_checks}
use Rattle.trace.proofs.Accepted.{accepted, astray-end, astray_below}
use Rattle.trace.proofs.Cycles.{cycle_law}
use Rattle.std.specs.Prelude.{None}

-- at most one number below n passes a test that no two pass
none_pass : (test : ℕ → Bool) (n : ℕ) → ((a : ℕ) → a < n → test a ≡ true → ⊥) → count test n ≡ 0
none_pass test zero f = count-zero test
none_pass test (suc n) f =
    by_test (test n) (λ q. absurd (f n (le_refl (suc n)) q)) (λ q. count_no test n q ∙ none_pass test n (λ a l. f a (omega arith)))

one_passes : (test : ℕ → Bool) (n : ℕ) → ((a b : ℕ) → a < n → b < n → test a ≡ true → test b ≡ true → a ≡ b) → count test n ≤ 1
one_passes test zero f = omega (arith, count-zero test)
one_passes test (suc n) f =
    let ih = one_passes test n (λ a b l m. f a b (omega arith) (omega arith)) in
    by_test (test n)
    (λ q.
    let z = none_pass test n (λ a l e. let y : a ≡ n = f a n (omega arith) (le_refl (suc n)) e q in omega arith) in
    omega (arith, count_yes test n q))
    (λ q. omega (arith, count_no test n q))

-- what checks 11, 12 and 13 let pass of n next indexes
pub record Free (s : List ℕ) (n : ℕ) : Type 0 where
  pub links : (i : ℕ) → i < n → (after s i ≡ end) ⊎ (after s i < n)
  pub unshared : (i k j : ℕ) → i < n → k < n → j < n → after s i ≡ j → after s k ≡ j → i ≡ k
  pub acyclic : (i : ℕ) → i < n → Cyclic s i → ⊥

module _ (s : List ℕ) (n : ℕ) (size : length s ≡ n) (small : n ≤ end) where
  pub free : (at : ℕ → ℕ) (c : ℕ) → link_checks at s ≡ accept c → Free s n
  free at c e =
      let a = accepted at s c e in
      record {
        links = λ i l. rw size at (a.sound i (omega arith));
        unshared = λ i k j li lk lj x y. a.distinct i k (omega arith) (omega arith) (x ∙ sym y) (λ z. omega arith);
        acyclic = λ i l t. true-false (sym ((cycle_law s i (omega arith) (omega arith)).1 t) ∙ a.acyclic i (omega arith));
      }

  named-once : Free s n → (j : ℕ) → j < length s → namers s (length s) j ≤ 1
  unfolding namers
  named-once f j l =
      one_passes (λ k. eqb (after s k) j) (length s)
      (λ a b la lb x y. f.unshared a b j (omega arith) (omega arith) (omega arith) (eqb-true _ _ x) (eqb-true _ _ y))

  not-cyclic : Free s n → (i : ℕ) → i < length s → cyclic s i ≡ false
  not-cyclic f i l = by_test (cyclic s i) (λ q. absurd (f.acyclic i (omega arith) ((cycle_law s i l (omega arith)).0 q))) (λ q. q)

  pub free_clear : (at : ℕ → ℕ) → Free s n → (astray_fault at s ≡ None) × (shared_fault at s ≡ None) × (cyclic_fault at s ≡ None)
  free_clear at f = (
    ap (fault_of at) (first_is_nothing (astray s) (length s) (λ i l. ⊎_elim (astray-end s i) (λ h. astray_below s i (omega arith)) (f.links i (omega arith)))),
    ap (fault_of at) (first_is_nothing (shared s) (length s) (λ j l. le-ltb 1 _ (named-once f j l))),
    ap (fault_of at) (first_is_nothing (cyclic s) (length s) (not-cyclic f)),
  )
