-- Links that only lead on: where every next index is above its own, no entry is on a cycle.
use mathlib.Core.Path.{◌≡◌, refl}
use mathlib.Core.Bool.{Bool, true, false, ◌&&◌}
use mathlib.Core.List.{List}
use mathlib.Core.Logic.{⊎_elim}
use Prim.Native.Nat.{ℕ, zero, suc, ◌+◌, ◌≤◌, ◌<◌}
use native.Mathlib.Nat.{le_refl, le_trans}
use native.Mathlib.Omega.{arith}
use borrow.Author.Count.{below_more}
use borrow.Author.Tests.{ne_eqb, ltb-true, ltb-false}
use lib.Dec.{eqb, ltb}
use lib.ListN.{length, get_or-eq_default}
use Rattle.lists.specs.First.{first}
use Rattle.lists.proofs.First.{first_is_nothing}
use Rattle.lists.proofs.Count.{any_no}
use Rattle.lists.proofs.Tests.{by_test, never}
use Rattle.trace.specs.Links.{end, after, follow, cyclic, InRange}
use Rattle.trace.specs.Private.{Forward}
use Rattle.std.specs.Prelude.{None}

-- each of the first i entries names one above itself: at the start of a pass, and when entry i was looked at too
abbrev pub LeadsOn : List ℕ → ℕ → Type 0
LeadsOn s i = (k : ℕ) → k < i → k < after s k

pub leads_none : (s : List ℕ) → LeadsOn s 0
leads_none s k l = absurd (omega arith)

pub leads_more : (s : List ℕ) (i next : ℕ) (b : Bool) → next ≡ after s i → (b ≡ true → LeadsOn s i) → (b && ltb i next) ≡ true → LeadsOn s (i + 1)
leads_more s i next true e f h = below_more _ _ (f refl) (omega (arith, e, ltb-true i next h))
leads_more s i next false e f h = never cc

module _ (s : List ℕ) (l : length s ≤ end) (sound : InRange s) (f : Forward s) where
  -- a step leads on, and not past the end
  step-on : (j : ℕ) → j ≤ end → (j ≤ after s j) × (after s j ≤ end)
  step-on j h =
      by_test (ltb j (length s))
      (λ q.
      let k = ltb-true j (length s) q in
      (omega (arith, f j k), ⊎_elim (λ (e : after s j ≡ end). omega arith) (λ (e : after s j < length s). omega arith) (sound j k)))
      (λ q. let e : after s j ≡ end = get_or-eq_default s end (ltb-false _ _ q) in omega arith)

  follow-on : (k j : ℕ) → j ≤ end → j ≤ follow s k j
  unfolding follow
  follow-on zero j h = le_refl j
  follow-on (suc k) j h = let t = step-on j h in le_trans t.0 (follow-on k (after s j) t.1)

  pub forward_acyclic : first (cyclic s) (length s) ≡ None
  unfolding cyclic follow
  forward_acyclic =
      first_is_nothing (cyclic s) (length s) (λ i q.
      any_no (λ k. eqb (follow s (suc k) i) i) (length s) (λ k _.
      ne_eqb (follow s k (after s i)) i (λ e.
      let t = step-on i (omega arith) in
      let b : after s i ≤ follow s k (after s i) = follow-on k (after s i) t.1 in
      omega (arith, f i q, e))))
