-- The digits of a number, from those of its tenth; that they are the number in decimal, and the only bytes that are.
use mathlib.Core.Path.{◌≡◌, refl, sym, ap, ◌∙◌}
use mathlib.Core.List.{List, [], ◌∷◌, ◌++◌, append_assoc, append-nil}
use Prim.Native.Nat.{ℕ, zero, suc, ◌+◌, ◌-◌, ◌*◌, ◌/◌, ◌%◌, ◌^◌, ◌≤◌, ◌<◌}
use native.Mathlib.Nat.{pow-suc, div-lt_iff_lt-mul}
use native.Mathlib.Decide.{dec_lt, ℕ_discrete}
use native.Mathlib.Omega.{arith}
use borrow.Author.Tests.{ltb-false, lt-ltb, le-ltb}
use lib.Dec.{ltb}
use lib.ListN.{length, get_or, length-append, get_or-append}
use lib.Seq.{get_or-append-add}
use Rattle.lists.proofs.Tests.{by_test}
use Rattle.text.specs.Decimal.{decimal, decimal_in, decimal_from, decimal_value, Digit, IsDecimal}

-- more turns than there are digits change nothing
turns_enough : (a b n : ℕ) → n < a → n < b → decimal_in a n ≡ decimal_in b n
unfolding decimal_in
turns_enough zero b n h l = absurd (omega arith)
turns_enough (suc a) zero n h l = absurd (omega arith)
turns_enough (suc a) (suc b) n h l =
    by_test (ltb n 10) (λ e. rw e)
    (λ e.
    let m = ltb-false n 10 e in
    rw e (ap (λ (s : List ℕ). s ++ ((48 + n % 10) ∷ [])) (turns_enough a b (n / 10) (omega arith) (omega arith))))

pub decimal_digit : (n : ℕ) → n < 10 → decimal n ≡ (48 + n) ∷ []
unfolding decimal decimal_in
decimal_digit n l = rw (lt-ltb n 10 l)

pub decimal_more : (n : ℕ) → 10 ≤ n → decimal n ≡ decimal (n / 10) ++ ((48 + n % 10) ∷ [])
unfolding decimal decimal_in
decimal_more n l = rw (le-ltb n 10 l, turns_enough n (suc (n / 10)) (n / 10) (omega arith) (omega arith))

-- a number below 10 ^ k has at most k digits
pub decimal_short : (k n : ℕ) → n < 10 ^ suc k → length (decimal n) ≤ suc k
decimal_short zero n l = rw (decimal_digit n (omega arith)) (omega arith)
decimal_short (suc k) n l =
    elim (dec_lt n 10) [
      | yes m ↦ rw (decimal_digit n m) (omega arith)
      | no m ↦
          let h : n < 10 ^ suc k * 10 = rw (← pow-suc 10 (suc k)) l in
          rw (decimal_more n (omega arith), length-append) (omega (arith, decimal_short k (n / 10) ((div-lt_iff_lt-mul (omega arith)).1 h)))
    ]

-- ---- the digits are the number in decimal
from_last : (n : ℕ) (s : List ℕ) (c : ℕ) → decimal_from n (s ++ (c ∷ [])) ≡ 10 * decimal_from n s + (c - 48)
unfolding decimal_from
from_last n [] c = refl
from_last n (b ∷ s) c = from_last (10 * n + (b - 48)) s c

one_digit : (n : ℕ) → n < 10 → IsDecimal n ((48 + n) ∷ [])
unfolding decimal_value decimal_from
one_digit n l =
    record { value = omega arith; digits = digits; nonempty = omega arith; no_leading_zero = λ e. let z : n ≡ 0 = omega arith in (z, rw z) }
  where
    digits : (k : ℕ) → k < 1 → Digit (get_or ((48 + n) ∷ []) k 0)
    digits zero m = record { low = omega arith; high = omega arith }
    digits (suc k) m = absurd (omega arith)

-- one digit more after those of a number above 0
module _ (n m d : ℕ) (s : List ℕ) (h : IsDecimal m s) (p : 0 < m) (q : d < 10) (e : n ≡ 10 * m + d) where
  last-digit : (k : ℕ) → k < length (s ++ ((48 + d) ∷ [])) → Digit (get_or (s ++ ((48 + d) ∷ [])) k 0)
  last-digit k l =
      elim (dec_lt k (length s)) [
        | yes a ↦ rw (get_or-append s ((48 + d) ∷ []) 0 k a) (h.digits k a)
        | no a ↦
            let i : k ≡ length s + 0 = omega (arith, length-append s ((48 + d) ∷ [])) in
            rw (i, get_or-append-add s ((48 + d) ∷ []) 0 0) (record { low = omega arith; high = omega arith })
      ]

  digit-more : IsDecimal n (s ++ ((48 + d) ∷ []))
  unfolding decimal_value
  digit-more =
      let first : get_or (s ++ ((48 + d) ∷ [])) 0 0 ≡ get_or s 0 0 = get_or-append s ((48 + d) ∷ []) 0 0 h.nonempty in
      record {
        value = omega (arith, from_last 0 s (48 + d), h.value);
        digits = last-digit;
        nonempty = omega (arith, length-append s ((48 + d) ∷ []));
        no_leading_zero = λ z. let o = (h.no_leading_zero (sym first ∙ z)).0 in absurd (omega arith);
      }

law_below : (bound n : ℕ) → n < bound → IsDecimal n (decimal n)
law_below zero n l = absurd (omega arith)
law_below (suc bound) n l =
    elim (dec_lt n 10) [
      | yes m ↦ rw (decimal_digit n m) (one_digit n m)
      | no m ↦
          let h = law_below bound (n / 10) (omega arith) in
          rw (decimal_more n (omega arith)) (digit-more n (n / 10) (n % 10) (decimal (n / 10)) h (omega arith) (omega arith) (omega arith))
    ]

-- THE DIGITS OF A NUMBER ARE IT IN DECIMAL
pub decimal_law : (n : ℕ) → IsDecimal n (decimal n)
decimal_law n = law_below (suc n) n (omega arith)

-- ---- no other bytes are

-- digits after those of a number above 0
decimal_from_lem : (n : ℕ) (s : List ℕ) → 0 < n → ((k : ℕ) → k < length s → Digit (get_or s k 0)) → decimal (decimal_from n s) ≡ decimal n ++ s
unfolding decimal_from
decimal_from_lem n [] p h = sym (append-nil (decimal n))
decimal_from_lem n (c ∷ s) p h =
    let d = h 0 (omega arith) in
    let m = 10 * n + (c - 48) in
    let a : m / 10 ≡ n = omega (arith, d.low, d.high) in
    let b : 48 + m % 10 ≡ c = omega (arith, d.low, d.high) in
    let more : decimal m ≡ decimal n ++ (c ∷ []) = decimal_more m (omega arith) ∙ rw (a, b) in
    decimal_from_lem m s (omega arith) (λ k l. h (suc k) (omega arith)) ∙ rw more (append_assoc (decimal n) (c ∷ []) s)

-- bytes that are a number in decimal are its digits, so there is one way to write it
pub decimal_only : (n : ℕ) (s : List ℕ) → IsDecimal n s → s ≡ decimal n
unfolding decimal_value decimal_from
decimal_only n [] h = absurd (omega (arith, h.nonempty))
decimal_only n (c ∷ s) h =
    elim (ℕ_discrete c 48) [
      | yes e ↦ let o = h.no_leading_zero e in o.1 ∙ sym (rw o.0 (decimal_digit 0 (omega arith)))
      | no e ↦
          let d = h.digits 0 (omega arith) in
          let m : ℕ = 10 * 0 + (c - 48) in
          let v : decimal_from m s ≡ n = h.value in
          let first : decimal m ≡ c ∷ [] = decimal_digit m (omega (arith, d.high)) ∙ ap (λ (x : ℕ). x ∷ []) (omega (arith, d.low)) in
          let all : decimal (decimal_from m s) ≡ decimal m ++ s = decimal_from_lem m s (omega (arith, d.low)) (λ k l. h.digits (suc k) (omega arith)) in
          sym (ap decimal (sym v) ∙ all ∙ ap (λ (x : List ℕ). x ++ s) first)
    ]
