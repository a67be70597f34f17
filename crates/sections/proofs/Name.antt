-- The program name's end: the search sees the units that lie whole in the bytes, and stops at the first zero unit.
use mathlib.Core.Path.{◌≡◌, sym, ap, ◌∙◌}
use mathlib.Core.Bool.{true, false}
use mathlib.Core.Logic.{◌↔◌}
use mathlib.Core.List.{List}
use Prim.Native.Nat.{ℕ, ◌+◌, ◌-◌, ◌*◌, ◌/◌, ◌≤◌, ◌<◌}
use native.Mathlib.Nat.{min-le_right}
use native.Mathlib.Omega.{arith}
use lib.Dec.{eqb, ltb}
use lib.ListN.{length, take, length-take}
use lib.Seq.{length-take-le, take-take}
use borrow.Author.Tests.{lt-ltb, le-ltb, ltb-true, ltb-false}
use Rattle.lists.specs.First.{first}
use Rattle.lists.proofs.First.{first_at, first_is_at, first_is_nothing}
use Rattle.lists.proofs.Tests.{by_test}
use Rattle.little_endian.specs.Number.{le, zero_unit}
use Rattle.little_endian.proofs.Number.{le-take}
use Rattle.sections.specs.Fields.{name_units_in, name_end}
use Rattle.std.specs.Prelude.{None, Option, Some}

-- how many units lie whole in n bytes: fewer than 76 bytes have fewer than 30
pub units-part : (n : ℕ) → n < 76 → (n - 16) / 2 ≡ name_units_in n
unfolding name_units_in
units-part n l = rw (lt-ltb n 76 l)

pub units-whole : (n : ℕ) → 76 ≤ n → 30 ≡ name_units_in n
unfolding name_units_in
units-whole n l = rw (le-ltb n 76 l)

pub units-none : (n : ℕ) → n < 16 → 0 ≡ name_units_in n
units-none n l = let e : n - 16 ≡ 0 = omega arith in rw (← units-part n (omega arith), e)

-- the search over that many
pub name_searched : (b : List ℕ) (n : ℕ) (r : Option ℕ) → n ≡ name_units_in (length b) → r ≡ first (λ i. zero_unit b (16 + 2 * i)) n → r ≡ name_end b
unfolding name_end
name_searched b n r e q = rw (← e) q

-- a unit counts exactly where it is one of the 30 and lies whole in the bytes
pub units_in : (n k : ℕ) → (k < name_units_in n) ↔ ((k < 30) × (18 + 2 * k ≤ n))
units_in n k =
    by_test (ltb n 76)
    (λ e. let l : n < 76 = ltb-true n 76 e in rw (← units-part n l) (λ h. (omega arith, omega arith), λ h. omega arith))
    (λ e. let l : 76 ≤ n = ltb-false n 76 e in rw (← units-whole n l) (λ h. (h, omega arith), λ h. h.0))

-- unit k is the name's first zero unit
pub record EndsAt (b : List ℕ) (k : ℕ) : Type 0 where
  pub short : k < 30
  pub whole : 18 + 2 * k ≤ length b
  pub zero_unit_lem : zero_unit b (16 + 2 * k) ≡ true
  pub before : (j : ℕ) → j < k → zero_unit b (16 + 2 * j) ≡ false

pub ends_at : (b : List ℕ) (k : ℕ) → (name_end b ≡ Some k) ↔ EndsAt b k
unfolding name_end
ends_at b k = (there, back)
  where
    there : name_end b ≡ Some k → EndsAt b k
    there e =
        let r = first_at (λ i. zero_unit b (16 + 2 * i)) (name_units_in (length b)) 0 k e in
        let u = (units_in (length b) k).0 (omega (arith, r.1)) in
        record { short = u.0; whole = u.1; zero_unit_lem = r.2; before = λ j l. r.3 j (omega arith) l }

    back : EndsAt b k → name_end b ≡ Some k
    back q = first_is_at (λ i. zero_unit b (16 + 2 * i)) (name_units_in (length b)) k ((units_in (length b) k).1 (q.short, q.whole)) q.zero_unit_lem q.before

-- bytes that agree up to the end of unit k
ends_same : (b c : List ℕ) (k : ℕ) → take (18 + 2 * k) b ≡ take (18 + 2 * k) c → EndsAt b k → EndsAt c k
ends_same b c k e q =
    let same : (j : ℕ) → j ≤ k → zero_unit c (16 + 2 * j) ≡ zero_unit b (16 + 2 * j) =
    λ j l.
    ap (λ n. eqb n 0)
    (sym (le-take 2 (18 + 2 * k) c (16 + 2 * j) (omega arith)) ∙ ap (λ s. le 2 s (16 + 2 * j)) (sym e) ∙ le-take 2 (18 + 2 * k) b (16 + 2 * j) (omega arith))
    in
    let n : length (take (18 + 2 * k) c) ≡ 18 + 2 * k = ap length (sym e) ∙ length-take-le (18 + 2 * k) b q.whole in
    record {
      short = q.short;
      whole = omega (arith, n, length-take (18 + 2 * k) c, min-le_right (18 + 2 * k) (length c));
      zero_unit_lem = same k (omega arith) ∙ q.zero_unit_lem;
      before = λ j l. same j (omega arith) ∙ q.before j l;
    }

-- THE SEARCH STOPS at the first zero unit: what lies behind it changes no answer
pub name_behind : (b c : List ℕ) (k : ℕ) → take (18 + 2 * k) b ≡ take (18 + 2 * k) c → name_end b ≡ Some k → name_end c ≡ Some k
name_behind b c k e h = (ends_at c k).1 (ends_same b c k e ((ends_at b k).0 h))

-- the whole name ends at k exactly when its first k + 1 units do
pub name_part : (b : List ℕ) (k : ℕ) → (name_end b ≡ Some k) ↔ (name_end (take (18 + 2 * k) b) ≡ Some k)
name_part b k =
    let e : take (18 + 2 * k) (take (18 + 2 * k) b) ≡ take (18 + 2 * k) b = take-take (18 + 2 * k) (18 + 2 * k) b (omega arith) in
    (name_behind b (take (18 + 2 * k) b) k (sym e), name_behind (take (18 + 2 * k) b) b k e)

-- a part without a zero unit gives none
pub name_none : (b : List ℕ) → ((k : ℕ) → k < 30 → 18 + 2 * k ≤ length b → zero_unit b (16 + 2 * k) ≡ false) → name_end b ≡ None
unfolding name_end
name_none b h = first_is_nothing _ (name_units_in (length b)) (λ k l. let u = (units_in (length b) k).0 l in h k u.0 u.1)

-- on 76 bytes the answer is the first zero unit of the thirty
pub name_whole : (b : List ℕ) → 76 ≤ length b → name_end b ≡ first (λ i. zero_unit b (16 + 2 * i)) 30
unfolding name_end
name_whole b l = rw (← units-whole (length b) l)
