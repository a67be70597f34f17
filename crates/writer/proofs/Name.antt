-- The name that a file carries ends where the description's does: its units are not zero, and a zero unit follows.
use mathlib.Core.Path.{◌≡◌, refl, sym, ◌∙◌}
use mathlib.Core.Bool.{Bool, true, false}
use mathlib.Core.List.{List, [], ◌∷◌}
use Prim.Native.Nat.{ℕ, zero, suc, ◌≤◌, ◌<◌}
use native.Mathlib.Nat.{not-suc-le-zero, le_of_suc-le-suc}
use native.Mathlib.Omega.{arith}
use borrow.Author.Tests.{eqb-false}
use lib.Dec.{eqb}
use lib.ListN.{length, get_or, take, length-take}
use lib.Seq.{get_or-take}
use Rattle.lists.specs.Count.{pick}
use Rattle.writer.specs.LaidOut.{before_zero}

-- the units before the first zero are not zero, and are the name's
before_nonzero : (us : List ℕ) (i : ℕ) → i < length (before_zero us) → get_or (before_zero us) i 0 ≡ 0 → ⊥
unfolding before_zero
before_nonzero [] i l e = not-suc-le-zero l
before_nonzero (u ∷ us) i l e = go (eqb u 0) refl (before_nonzero us) i l e
  where
    go : (b : Bool) → eqb u 0 ≡ b → ((i : ℕ) → i < length (before_zero us) → get_or (before_zero us) i 0 ≡ 0 → ⊥) → (i : ℕ) → i < length
        (pick b [] (u ∷ before_zero us)) → get_or (pick b [] (u ∷ before_zero us)) i 0 ≡ 0 → ⊥
    go true q ih i l e = not-suc-le-zero l
    go false q ih zero l e = eqb-false u 0 q e
    go false q ih (suc i) l e = ih i (le_of_suc-le-suc l) e

before_low : (us : List ℕ) (n i : ℕ) → 0 < n → ((k : ℕ) → get_or us k 0 < n) → get_or (before_zero us) i 0 < n
unfolding before_zero
before_low [] n i z h = z
before_low (u ∷ us) n i z h = go (eqb u 0) (λ j. before_low us n j z (λ k. h (suc k))) i
  where
    go : (b : Bool) → ((j : ℕ) → get_or (before_zero us) j 0 < n) → (i : ℕ) → get_or (pick b [] (u ∷ before_zero us)) i 0 < n
    go true ih i = z
    go false ih zero = h 0
    go false ih (suc i) = ih i

-- the same of the units that the file carries
module _ (us : List ℕ) where
  pub carried_most : length (take 30 (before_zero us)) ≤ 30
  carried_most = simp length-take (omega arith)

  pub carried_nonzero : (i : ℕ) → i < length (take 30 (before_zero us)) → get_or (take 30 (before_zero us)) i 0 ≡ 0 → ⊥
  carried_nonzero i l e =
      let s = length-take 30 (before_zero us) in
      before_nonzero us i (omega arith) (sym (get_or-take 30 (before_zero us) i 0 (omega arith)) ∙ e)

  pub carried_low : ((k : ℕ) → get_or us k 0 < 65536) → (i : ℕ) → i < length (take 30 (before_zero us)) → get_or (take 30 (before_zero us)) i 0 < 65536
  carried_low h i l =
      let s = length-take 30 (before_zero us) in
      rw (get_or-take 30 (before_zero us) i 0 (omega arith)) (before_low us 65536 i (omega arith) h)
