-- What the tests of the definitions come to, for bytes that are digits and for others.
use mathlib.Core.Path.{◌≡◌, refl, sym, ap, ◌∙◌}
use mathlib.Core.Bool.{true, false, not, ◌&&◌, and-false, not-not}
use mathlib.Core.List.{List}
use Prim.Native.Nat.{ℕ, zero, suc, ◌+◌, ◌-◌, ◌≤◌, ◌<◌}
use native.Mathlib.Omega.{arith}
use lib.Dec.{leb}
use lib.ListN.{length, get_or, take, drop, length-take, length-drop}
use lib.Seq.{paste, length-paste, take-suc, take_all, get_or-take, get_or-drop}
use native.Mathlib.Nat.{zero-add}
use Rattle.std.specs.List.{fold}
use Rattle.std.proofs.lemmas.List.Sums.{fold_push}
use borrow.Author.Tests.{leb-true, le-leb, lt-leb, not-false}
use Rattle.lists.proofs.Tests.{by_test}
use Rattle.lists.specs.Count.{pick, any_below}
use Rattle.std.specs.Prelude.{Option, Some, None}
use Rattle.std.specs.Option.{unwrap_or}
use Rattle.lists.proofs.Count.{any_yes, any_no, any_more, any_false, true-false}
use Rattle.digits.specs.Hex.{is_digit, hex_at, hex_digits, are_digits, number_in, written}
use Rattle.digits.specs.Private.{Digits}
use Rattle.digits.proofs.Hex.{length_digits}

-- ---- whether bytes are digits
module _ (s : List ℕ) (at w : ℕ) where
  pub digits_outside : length s < at + w → are_digits s at w ≡ false
  unfolding are_digits
  digits_outside l = rw (lt-leb (at + w) (length s) l)

  pub digits_other : (k : ℕ) → at + w ≤ length s → k < w → is_digit (get_or s (at + k) 0) ≡ false → are_digits s at w ≡ false
  unfolding are_digits
  digits_other k l m d = rw (le-leb (at + w) (length s) l, any_yes (λ j. not (is_digit (get_or s (at + j) 0))) w k m (ap not d))

  pub digits_all : at + w ≤ length s → Digits s at w → are_digits s at w ≡ true
  unfolding are_digits
  digits_all l h = rw (le-leb (at + w) (length s) l, any_no (λ j. not (is_digit (get_or s (at + j) 0))) w (λ k m. ap not (h k m)))

  -- none of no bytes is no digit, and one byte more
  pub digits_none : at ≤ length s → are_digits s at 0 ≡ true
  unfolding are_digits any_below
  digits_none l = rw (le-leb (at + 0) (length s) (omega arith))

  pub digits_more : at + suc w ≤ length s → are_digits s at (suc w) ≡ are_digits s at w && is_digit (get_or s (at + w) 0)
  unfolding are_digits
  digits_more l =
      rw (le-leb (at + suc w) (length s) l, le-leb (at + w) (length s) (omega arith), any_more (λ j. not (is_digit (get_or s (at + j) 0))) w)
      (by_test (any_below (λ j. not (is_digit (get_or s (at + j) 0))) w) (λ q. rw q) (λ q. rw q (not-not (is_digit (get_or s (at + w) 0)))))

  -- and back
  pub digits_true : are_digits s at w ≡ true → (at + w ≤ length s) × Digits s at w
  unfolding are_digits
  digits_true e =
      by_test (leb (at + w) (length s))
      (λ p.
      by_test (any_below (λ k. not (is_digit (get_or s (at + k) 0))) w) (λ q. absurd (true-false (sym (rw (p, q) at e))))
      (λ q. (leb-true _ _ p, λ k l. not-false _ (any_false (λ k. not (is_digit (get_or s (at + k) 0))) w q k l))))
      (λ p. absurd (true-false (sym (rw p at e))))

  -- ---- reading
  pub number_wide : 16 < w → 0 ≡ number_in s at w
  unfolding number_in
  number_wide l = rw (lt-leb w 16 l)

  pub number_other : are_digits s at w ≡ false → 0 ≡ number_in s at w
  unfolding number_in
  number_other e = rw (e, and-false (leb w 16))

  pub number_digits : w ≤ 16 → are_digits s at w ≡ true → number_in s at w ≡ hex_at w s at
  unfolding number_in
  number_digits l e = rw (le-leb w 16 l, e)

  -- ---- writing
  pub written_outside : (x : ℕ) → length s < at + w → s ≡ written s at w x
  unfolding written
  written_outside x l = rw (lt-leb (at + w) (length s) l)

  pub written_fits : (x : ℕ) → at + w ≤ length s → written s at w x ≡ paste s at (hex_digits w x) w
  unfolding written
  written_fits x l = rw (le-leb (at + w) (length s) l)

  pub written_length : (x : ℕ) → length (written s at w x) ≡ length s
  unfolding written
  written_length x =
      by_test (leb (at + w) (length s))
      (λ e. rw e (length-paste s at (hex_digits w x) w (leb-true _ _ e) (omega (arith, length_digits w x)))) (λ e. rw e)

-- digits among digits
pub digits_within : (s : List ℕ) (at w from k : ℕ) → Digits s at w → at ≤ from → from + k ≤ at + w → Digits s from k
digits_within s at w from k h l m j n = ap (λ (i : ℕ). is_digit (get_or s i 0)) (omega arith) ∙ h (from + j - at) (omega arith)

-- ---- so many bytes from `at`, taken for themselves
module _ (s : List ℕ) (at : ℕ) where
  -- byte after byte
  pub fold_digits : (w : ℕ) → at + w ≤ length s → fold (λ all b. all && is_digit b) true (take w (drop at s)) ≡ are_digits s at w
  fold_digits zero l = let m : at ≤ length s = omega arith in sym (digits_none s at 0 m)
  fold_digits (suc w) l =
      let h : w < length (drop at s) = omega (arith, length-drop at s) in
      let m : at + w ≤ length s = omega arith in
      rw (take-suc (drop at s) w 0 h, fold_push, fold_digits w m, get_or-drop at s w 0) (sym (digits_more s at w l))

module _ (s : List ℕ) (at w : ℕ) (t : List ℕ) (l : at + w ≤ length s) (e : t ≡ take w (drop at s)) where
  pub part_length : length t ≡ w
  part_length = ap length e ∙ omega (arith, length-take w (drop at s), length-drop at s)

  pub part_digits : are_digits t 0 (length t) ≡ are_digits s at w
  part_digits =
      let q : take (length t) (drop 0 t) ≡ t = take_all (length t) t (omega arith) in
      sym (fold_digits t 0 (length t) (omega arith)) ∙ ap (fold (λ all b. all && is_digit b) true) (q ∙ e) ∙ fold_digits s at w l

  part-hex : (k : ℕ) → k ≤ w → hex_at k t 0 ≡ hex_at k s at
  unfolding hex_at
  part-hex zero h = refl
  part-hex (suc k) h =
      let q : get_or t (0 + k) 0 ≡ get_or s (at + k) 0 =
      rw (zero-add k, e) (get_or-take w (drop at s) k 0 (omega arith) ∙ get_or-drop at s k 0) in
      rw (part-hex k (omega arith), q)

  pub part_hex : hex_at (length t) t 0 ≡ hex_at w s at
  part_hex = rw part_length (part-hex w (omega arith))

  pub number_part : (r : Option ℕ) → r ≡ pick (are_digits t 0 (length t)) (Some (hex_at (length t) t 0)) None → w ≤ 16
      → unwrap_or r 0 ≡ number_in s at w
  number_part r q m =
      by_test (are_digits s at w) (λ d. rw (q, part_digits, d, part_hex) (sym (number_digits s at w m d)))
      (λ d. rw (q, part_digits, d) (number_other s at w d))
