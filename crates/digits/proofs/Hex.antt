-- Digits 0-9 A-F, one and several: the digits of a number form it, and the number that digits form has these digits, at any width.
use mathlib.Core.Path.{◌≡◌, refl, sym, ap, ◌∙◌}
use mathlib.Core.Bool.{true, and-false}
use mathlib.Core.List.{List}
use Prim.Native.Nat.{ℕ, zero, suc, ◌+◌, ◌-◌, ◌*◌, ◌/◌, ◌%◌, ◌^◌, ◌≤◌, ◌<◌}
use native.Mathlib.Nat.{add-zero, pow-zero, pow-suc, one-le-pow, pow-le-pow_right, div-eq_of_lt, mod-one, mod-eq_of_lt, mul_comm, mul_assoc, add-mul-div_left}
use native.Mathlib.Numerals.{add-one}
use lib.Arith.{mod-mul, digits_div}
use lib.Seq.{drop-cons}
use borrow.Author.Tests.{leb-true, ltb-true, ltb-false, lt-ltb, le-ltb, le-leb, lt-leb}
use native.Mathlib.Omega.{arith}
use lib.Dec.{ltb, leb}
use lib.ListN.{length, get_or, take, drop}
use Rattle.lists.proofs.Tests.{by_test}
use Rattle.lists.proofs.Count.{true-false}
use Rattle.digits.specs.Hex.{is_digit, digit_value, digit_of, hex_at, hex_digits}
use Rattle.digits.specs.Private.{Digits}

-- ---- one digit

-- what holds of a digit
pub record Digit (c : ℕ) : Type 0 where
  pub low : 48 ≤ c
  pub small : digit_value c < 16
  pub back : digit_of (digit_value c) ≡ c

pub digit_law : (c : ℕ) → is_digit c ≡ true → Digit c
unfolding is_digit digit_value digit_of
digit_law c e =
    by_test (leb c 57)
    (λ b.
    let m = leb-true c 57 b in
    by_test (leb 48 c)
    (λ a.
    let l = leb-true 48 c a in
    record { low = l; small = rw b (omega arith); back = rw (b, lt-ltb (c - 48) 10 (omega arith)) (omega arith) })
    (λ a. absurd (true-false (sym (rw (a, lt-leb 65 c (omega arith)) at e)))))
    (λ b.
    by_test (leb 65 c)
    (λ d.
    by_test (leb c 70)
    (λ f.
    let l = leb-true 65 c d in
    let m = leb-true c 70 f in
    record { low = omega arith; small = rw b (omega arith); back = rw (b, le-ltb (c - 55) 10 (omega arith)) (omega arith) })
    (λ f. absurd (true-false (sym (rw (b, d, f, and-false (leb 48 c)) at e)))))
    (λ d. absurd (true-false (sym (rw (b, d, and-false (leb 48 c)) at e)))))

pub digit_of_digit : (d : ℕ) → d < 16 → is_digit (digit_of d) ≡ true
unfolding is_digit digit_of
digit_of_digit d l =
    by_test (ltb d 10) (λ e. let m = ltb-true d 10 e in rw (e, le-leb 48 (48 + d) (omega arith), le-leb (48 + d) 57 (omega arith)))
    (λ e.
    let m = ltb-false d 10 e in
    rw (e, le-leb 48 (55 + d) (omega arith), lt-leb (55 + d) 57 (omega arith), le-leb 65 (55 + d) (omega arith), le-leb (55 + d) 70 (omega arith)))

pub value_of_digit : (d : ℕ) → d < 16 → digit_value (digit_of d) ≡ d
unfolding digit_value digit_of
value_of_digit d l =
    by_test (ltb d 10) (λ e. let m = ltb-true d 10 e in rw (e, le-leb (48 + d) 57 (omega arith)) (omega arith))
    (λ e. let m = ltb-false d 10 e in rw (e, lt-leb (55 + d) 57 (omega arith)) (omega arith))

pub hex_lt : (w : ℕ) (s : List ℕ) (at : ℕ) → Digits s at w → hex_at w s at < 16 ^ w
unfolding hex_at
hex_lt zero s at h = rw pow-zero (omega arith)
hex_lt (suc w) s at h =
    let ih = hex_lt w s at (λ k l. h k (omega arith)) in
    rw pow-suc (omega (arith, (digit_law _ (h w (omega arith))).small))

-- the first digit weighs most
pub hex_first : (w : ℕ) (s : List ℕ) (at : ℕ) → hex_at (suc w) s at ≡ digit_value (get_or s at 0) * 16 ^ w + hex_at w s (at + 1)
unfolding hex_at
hex_first zero s at = rw (add-zero, pow-zero) (omega arith)
hex_first (suc w) s at =
    let ih = hex_first w s at in
    let e : at + suc w ≡ at + 1 + w = omega arith in
    rw (pow-suc, e) (omega (arith, ih))

-- the digits of a number form it
pub hex_digits_lem : (w x : ℕ) (s : List ℕ) (at : ℕ) → ((k : ℕ) → k < w → get_or s (at + k) 0 ≡ get_or (hex_digits w x) k 0) → hex_at w s at ≡ x % 16 ^ w
unfolding hex_digits hex_at
hex_digits_lem zero x s at h = omega (arith, mod-one x)
hex_digits_lem (suc w) x s at h =
    let a : get_or s at 0 ≡ digit_of (x / 16 ^ w % 16) = simp add-zero at (h 0 (omega arith)) in
    let ih = hex_digits_lem w x s (at + 1) (λ k l. ap (λ (i : ℕ). get_or s i 0) (omega arith) ∙ h (suc k) (omega arith)) in
    let p : 0 < 16 ^ w = one-le-pow w 16 (omega arith) in
    let d : x / 16 ^ w % 16 < 16 = omega arith in
    hex_first w s at
    ∙ rw (a, value_of_digit (x / 16 ^ w % 16) d, ih, pow-suc, mul_comm (16 ^ w) 16) (sym (mod-mul x {m = 16} {c = 16 ^ w} (omega arith) p))

-- only the lowest digits are written
pub digits_low : (w x y : ℕ) → hex_digits w (x + 16 ^ w * y) ≡ hex_digits w x
unfolding hex_digits
digits_low zero x y = refl
digits_low (suc w) x y =
    let p : 0 < 16 ^ w = one-le-pow w 16 (omega arith) in
    let e : 16 ^ suc w * y ≡ 16 ^ w * (16 * y) = rw pow-suc (mul_assoc (16 ^ w) 16 y) in
    let d : (x + 16 ^ w * (16 * y)) / 16 ^ w % 16 ≡ x / 16 ^ w % 16 = rw (add-mul-div_left x (16 * y) p) (omega arith) in
    rw (e, d, digits_low w x (16 * y))

-- the number that digits form has these digits
pub digits_hex : (w : ℕ) (s : List ℕ) (at : ℕ) → at + w ≤ length s → Digits s at w → hex_digits w (hex_at w s at) ≡ take w (drop at s)
unfolding hex_digits
digits_hex zero s at l h = refl
digits_hex (suc w) s at l h =
    let p : 0 < 16 ^ w = one-le-pow w 16 (omega arith) in
    let f : Digits s (at + 1) w = λ k m. ap (λ (i : ℕ). is_digit (get_or s i 0)) (omega arith) ∙ h (suc k) (omega arith) in
    let g = digit_law (get_or s at 0) (ap (λ (i : ℕ). is_digit (get_or s i 0)) (omega arith) ∙ h 0 (omega arith)) in
    let v = digit_value (get_or s at 0) in
    let y = hex_at w s (at + 1) in
    let m : y < 16 ^ w = hex_lt w s (at + 1) f in
    let a : digit_of (hex_at (suc w) s at / 16 ^ w % 16) ≡ get_or s at 0 =
    rw (hex_first w s at, digits_div v m) (ap digit_of (mod-eq_of_lt g.small) ∙ g.back) in
    let e : hex_at (suc w) s at ≡ y + 16 ^ w * v = omega (arith, hex_first w s at, mul_comm v (16 ^ w)) in
    let b : hex_digits w (hex_at (suc w) s at) ≡ take w (drop (suc at) s) =
    ap (hex_digits w) e
    ∙ digits_low w y v
    ∙ digits_hex w s (at + 1) (omega arith) f
    ∙ ap (λ (i : ℕ). take w (drop i s)) (add-one at) in
    rw (drop-cons s at 0 (omega arith), a, b)

pub length_digits : (w x : ℕ) → length (hex_digits w x) ≡ w
unfolding hex_digits
length_digits zero x = refl
length_digits (suc w) x = ap suc (length_digits w x)

-- digit j of a number of `w` digits
pub get_or_digits : (w x j : ℕ) → j < w → get_or (hex_digits w x) j 0 ≡ digit_of (x / 16 ^ (w - 1 - j) % 16)
unfolding hex_digits
get_or_digits zero x j l = absurd (omega arith)
get_or_digits (suc w) x zero l = ap (λ (k : ℕ). digit_of (x / 16 ^ k % 16)) (omega arith)
get_or_digits (suc w) x (suc j) l = get_or_digits w x j (omega arith) ∙ ap (λ (k : ℕ). digit_of (x / 16 ^ k % 16)) (omega arith)

-- every byte of it is a digit
pub digits_are : (w x j : ℕ) → j < w → is_digit (get_or (hex_digits w x) j 0) ≡ true
digits_are w x j l = rw (get_or_digits w x j l) (digit_of_digit (x / 16 ^ (w - 1 - j) % 16) (omega arith))

-- one digit more of at most sixteen fits 64 bits
pub hex_room : (k : ℕ) (s : List ℕ) (at : ℕ) → k < 16 → Digits s at k → 16 * hex_at k s at + 15 < 2 ^ 64
hex_room k s at l h =
    let q : k ≤ 15 = omega arith in
    let p : 16 ^ k ≤ 16 ^ 15 = pow-le-pow_right (omega arith) q in
    omega (arith, hex_lt k s at h)

-- a number of 64 bits has a zero at each place from 16
pub zero_digit : (x k : ℕ) → x < 2 ^ 64 → 16 ≤ k → digit_of (x / 16 ^ k % 16) ≡ 48
unfolding digit_of
zero_digit x k l m =
    let p : 16 ^ 16 ≤ 16 ^ k = pow-le-pow_right (omega arith) m in
    let e : x / 16 ^ k ≡ 0 = div-eq_of_lt (omega arith) in
    rw e

-- four bits are a digit
pub hex_bits : (k : ℕ) → 16 ^ k ≡ 2 ^ (4 * k)
hex_bits zero = refl
hex_bits (suc k) =
    let e : 4 * suc k ≡ suc (suc (suc (suc (4 * k)))) = omega arith in
    rw (pow-suc, hex_bits k, e, pow-suc, pow-suc, pow-suc, pow-suc) (omega arith)
