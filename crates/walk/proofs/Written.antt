-- A list of numbers written into another.
use mathlib.Core.Path.{◌≡◌, refl, ap, ◌∙◌}
use mathlib.Core.List.{List, [], ◌∷◌, ◌++◌}
use Prim.Native.Nat.{ℕ, suc, ◌+◌, ◌≤◌}
use native.Mathlib.Nat.{le_of_suc-le-suc, not-suc-le-zero, add-zero}
use native.Mathlib.Omega.{arith}
use lib.ListN.{length, set, drop, length-set}
use Rattle.walk.specs.Private.{written}

pub length-written : (order : List ℕ) (at : ℕ) (list : List ℕ) → length (written order at list) ≡ length order
unfolding written
length-written order at [] = refl
length-written order at (i ∷ is) = length-written (set order at i) (suc at) is ∙ length-set order at i

pub written-append : (order : List ℕ) (at : ℕ) (xs ys : List ℕ)
    → written order at (xs ++ ys) ≡ written (written order at xs) (at + length xs) ys
unfolding written
written-append order at [] ys = rw (add-zero at)
written-append order at (x ∷ xs) ys =
    written-append (set order at x) (suc at) xs ys
    ∙ ap (λ (m : ℕ). written (written (set order at x) (suc at) xs) m ys) (omega arith)

-- what stands before the place is kept
written-cons : (y : ℕ) (order : List ℕ) (at : ℕ) (list : List ℕ) → written (y ∷ order) (suc at) list ≡ y ∷ written order at list
unfolding written
written-cons y order at [] = refl
written-cons y order at (i ∷ is) = written-cons y (set order at i) (suc at) is

pub written_all : (order list : List ℕ) → length list ≤ length order → written order 0 list ≡ list ++ drop (length list) order
unfolding written
written_all order [] h = refl
written_all [] (x ∷ list) h = absurd (not-suc-le-zero h)
written_all (y ∷ order) (x ∷ list) h =
    written-cons x order 0 list ∙ ap (λ (l : List ℕ). x ∷ l) (written_all order list (le_of_suc-le-suc h))
