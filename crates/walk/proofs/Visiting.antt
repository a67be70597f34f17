-- The chains of the heads so far: each is written behind the others.
use mathlib.Core.Path.{◌≡◌, refl, sym, ap, ◌∙◌}
use mathlib.Core.Bool.{true, false}
use mathlib.Core.List.{List, ◌++◌}
use Prim.Native.Nat.{ℕ, suc, ◌+◌, ◌≤◌, ◌<◌}
use native.Mathlib.Omega.{arith}
use borrow.Author.Tests.{eq-eqb, ne_eqb}
use lib.ListN.{length, get_or, length-append}
use Rattle.lists.specs.Those.{those}
use Rattle.trace.specs.Links.{end, namers, predecessor}
use Rattle.trace.proofs.Accepted.{accepted}
use Rattle.trace.proofs.Predecessors.{by_named, at_predecessors}
use Rattle.walk.specs.declared.Visits.{Visits}
use Rattle.walk.specs.Walk.{is_head, chain_of, flat_map, along}
use Rattle.walk.specs.Private.{written, ChainFits, WalkFits, After, no_visits}
use Rattle.walk.proofs.Chain.{reach-end, along-append, below, below_head, below_other}
use Rattle.walk.proofs.Written.{written-append}
use Rattle.walk.proofs.EveryEntry.{below_long}

-- one list of entries after another
pub after-append : (counts xs ys : List ℕ) (v w r : Visits) (order order' order'' : List ℕ) → After counts xs v order w order'
    → After counts ys w order' r order'' → After counts (xs ++ ys) v order r order''
after-append counts xs ys v w r order order' order'' a b =
    record {
      steps = omega (arith, a.steps, b.steps, length-append xs ys);
      total = omega (arith, a.total, b.total, along-append counts xs ys);
      placed =
          b.placed
          ∙ (λ i. written (a.placed i) (a.steps i) ys)
          ∙ sym (written-append order v.steps xs ys);
      low = b.low;
    }

pub none_yet : (s counts order : List ℕ) → After counts (below s 0) no_visits order no_visits order
unfolding those flat_map along written
none_yet s counts order = record { steps = refl; total = refl; placed = refl; low = omega arith }

-- one entry more: the chain of a head is written, and nothing else
module _ (s counts order₀ : List ℕ) (h : ℕ) (v : Visits) (order : List ℕ) (a : After counts (below s h) no_visits order₀ v order) where
  pub visit_head : (r : Visits) (order' : List ℕ) → is_head s h ≡ true → After counts (chain_of s h) v order r order'
      → After counts (below s (h + 1)) no_visits order₀ r order'
  visit_head r order' e b =
      let q : h + 1 ≡ suc h = omega arith in
      rw (q, below_head s h e) (after-append counts (below s h) (chain_of s h) no_visits v r order₀ order order' a b)

  pub visit_other : is_head s h ≡ false → After counts (below s (h + 1)) no_visits order₀ v order
  visit_other e = let q : h + 1 ≡ suc h = omega arith in rw (q, below_other s h e) a

-- the table tells the heads
module _ (s table : List ℕ) (room h : ℕ) (f : WalkFits s table room) (l : h < length s) where
  entry_is : (d : ℕ) → get_or table h d ≡ predecessor s (length s) h
  entry_is d = ap (λ (t : List ℕ). get_or t h d) f.holds ∙ at_predecessors s (length table) h d (omega (arith, f.places)) l

  pub head_yes : (d r : ℕ) → r ≡ get_or table h d → r ≡ end → is_head s h ≡ true
  head_yes d r e q = by_named s (length s) h (λ p k. eq-eqb _ _ k) (λ p a k. absurd (omega (arith, e, q, entry_is d, f.small)))

  pub head_no : (d r : ℕ) → r ≡ get_or table h d → (r ≡ end → ⊥) → is_head s h ≡ false
  head_no d r e q =
      by_named s (length s) h (λ p k. absurd (q (e ∙ entry_is d ∙ p))) (λ p a k. ne_eqb _ _ (λ (z : namers s (length s) h ≡ 0). omega arith))

  -- there is room for the chain of a head behind the others
  pub chain_fits : (counts order order' : List ℕ) (v : Visits) → is_head s h ≡ true → length order' ≡ room → After counts (below s h) no_visits order v order'
      → ChainFits s h v (length order')
  chain_fits counts order order' v e q a =
      let c = accepted f.at s f.chains f.passes in
      let m : length (below s (suc h)) ≤ length s = below_long f.at s f.chains f.small f.passes (suc h) l in
      let k : v.steps + length (chain_of s h) ≡ length (below s (suc h)) =
      omega (arith, a.steps, ap length (below_head s h e), length-append (below s h) (chain_of s h)) in
      record {
        entry = l;
        small = f.small;
        sound = c.sound;
        ends = reach-end f.at s f.chains f.small f.passes h l;
        fits = omega (arith, f.fits);
        short = omega arith;
        low = a.low;
      }
