-- The table of the digits' values: one computed test over all of it.
use mathlib.Core.Path.{◌≡◌, refl, sym, ap, ◌∙◌}
use mathlib.Core.Bool.{Bool, true, false, not, and-false}
use mathlib.Core.List.{List, [], ◌∷◌}
use Prim.Native.Nat.{ℕ, ◌+◌, ◌-◌, ◌≤◌, ◌<◌}
use native.Mathlib.Omega.{arith}
use lib.Dec.{eqb, leb}
use lib.ListN.{get_or}
use borrow.Author.Tests.{eqb-true, not-false, lt-leb}
use Rattle.std.specs.Prelude.{Some, None}
use Rattle.lists.proofs.Tests.{by_test}
use Rattle.lists.specs.Count.{pick, any_below}
use Rattle.lists.proofs.Count.{any_false}
use Rattle.digits.specs.Hex.{is_digit, digit_value}
use Rattle.digits.specs.Private.{value_of}
use Rattle.digits.proofs.Hex.{digit_law}

-- the table, as the prover sees it
abbrev pub values : List ℕ
values = 0 ∷ 1 ∷ 2 ∷ 3 ∷ 4 ∷ 5 ∷ 6 ∷ 7 ∷ 8 ∷ 9 ∷ 16 ∷ 16 ∷ 16 ∷ 16 ∷ 16 ∷ 16 ∷ 16 ∷ 10 ∷ 11 ∷ 12 ∷ 13 ∷ 14 ∷ 15 ∷ []

-- what it has of a byte
value_or16 : ℕ → ℕ
value_or16 c = pick (is_digit c) (digit_value c) 16

-- a byte whose entry is not its value
wrong : ℕ → Bool
wrong k = not (eqb (get_or values k 0) (value_or16 (48 + k)))

-- there is none, which is computed here
none_wrong : any_below wrong 23 ≡ false
unfolding any_below is_digit digit_value value_or16 wrong
none_wrong = refl

right : (c : ℕ) → 48 ≤ c → c ≤ 70 → get_or values (c - 48) 0 ≡ value_or16 c
unfolding wrong
right c l m =
    let q : 48 + (c - 48) ≡ c = omega arith in
    let e : get_or values (c - 48) 0 ≡ value_or16 (48 + (c - 48)) = eqb-true _ _ (not-false _ (any_false wrong 23 none_wrong (c - 48) (omega arith))) in
    rw q at e

by_value : (c v : ℕ) → v ≡ value_or16 c → ((v ≡ 16 → ⊥) → Some v ≡ value_of c) × (v ≡ 16 → None ≡ value_of c)
unfolding value_of value_or16
by_value c v e =
    by_test (is_digit c)
    (λ d.
    let q : v ≡ digit_value c = e ∙ rw d refl in
    (λ l. rw d (ap Some q), λ l. absurd (omega (arith, q, (digit_law c d).small))))
    (λ d. let q : v ≡ 16 = e ∙ rw d refl in (λ l. absurd (l q), λ l. rw d refl))

module _ (c : ℕ) (l : 48 ≤ c) (m : c ≤ 70) where
  pub value_some : (get_or values (c - 48) 0 ≡ 16 → ⊥) → Some (get_or values (c - 48) 0) ≡ value_of c
  value_some = (by_value c _ (right c l m)).0

  pub value_none : get_or values (c - 48) 0 ≡ 16 → None ≡ value_of c
  value_none = (by_value c _ (right c l m)).1

-- bytes outside it are no digits
pub value_low : (c : ℕ) → c < 48 → None ≡ value_of c
unfolding value_of is_digit
value_low c l = rw (lt-leb 48 c l, lt-leb 65 c (omega arith))

pub value_high : (c : ℕ) → 70 < c → None ≡ value_of c
unfolding value_of is_digit
value_high c l = rw (lt-leb c 57 (omega arith), lt-leb c 70 l, and-false (leb 48 c), and-false (leb 65 c))

pub ruleset table = (value_some, value_none, value_low, value_high)

-- what it says of a byte
pub record Valued (c v : ℕ) : Type 0 where
  pub digit : is_digit c ≡ true
  pub value : v ≡ digit_value c

pub value_digit : (c v : ℕ) → value_of c ≡ Some v → Valued c v
unfolding value_of
value_digit c v e = by_test (is_digit c) (λ d. record { digit = d; value = sym (cc (rw d at e)) }) (λ d. absurd (cc (rw d at e)))

pub value_other : (c : ℕ) → value_of c ≡ None → is_digit c ≡ false
unfolding value_of
value_other c e = by_test (is_digit c) (λ d. absurd (cc (rw d at e))) (λ d. d)
