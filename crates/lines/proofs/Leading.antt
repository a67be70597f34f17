-- The lines of n digits that some bytes start with: each has n + 1 bytes, and what comes after them starts with none.
use mathlib.Core.Path.{◌≡◌, refl, sym, ap, ◌∙◌}
use mathlib.Core.Bool.{true, false}
use mathlib.Core.List.{List, [], ◌∷◌, ◌++◌}
use Prim.Native.Nat.{ℕ, zero, suc, ◌+◌, ◌*◌, ◌-◌, ◌≤◌, ◌<◌, min}
use native.Mathlib.Nat.{mul-zero, mul-suc}
use native.Mathlib.Omega.{arith}
use lib.ListN.{length, take, drop, length-take, length-drop}
use lib.Seq.{drop-drop, take_at, drop_at, take_all, take-append-le, drop-append-le}
use native.Mathlib.Decide.{dec_lt}
use Rattle.lists.proofs.Tests.{by_test}
use Rattle.lines.specs.Lines.{is_line, leading}
use Rattle.lines.proofs.Lines.{line_size, line_true}

module _ (n : ℕ) where
  pub line_long : (s : List ℕ) → is_line n (take (suc n) s) ≡ true → suc n ≤ length s
  line_long s e = omega (arith, (line_true n (take (suc n) s) e).size, length-take (suc n) s)

  pub short_no_line : (s : List ℕ) → length s < suc n → is_line n (take (suc n) s) ≡ false
  short_no_line s l = line_size n (take (suc n) s) (λ e. omega (arith, length-take (suc n) s))

  -- one line more, and none
  pub leading_more : (k : ℕ) (s : List ℕ) → is_line n (take (suc n) s) ≡ true → leading n (suc k) s ≡ take (suc n) s ∷ leading n k (drop (suc n) s)
  unfolding leading
  leading_more k s e = rw e

  pub leading_none : (k : ℕ) (s : List ℕ) → is_line n (take (suc n) s) ≡ false → leading n k s ≡ []
  unfolding leading
  leading_none zero s e = refl
  leading_none (suc k) s e = rw e

  -- the bytes that k lines take, and one more
  pub width_more : (k : ℕ) → suc n * suc k ≡ suc n + suc n * k
  width_more k = mul-suc (suc n) k ∙ omega arith

  pub leading_fit : (k : ℕ) (s : List ℕ) → suc n * length (leading n k s) ≤ length s
  unfolding leading
  leading_fit zero s = rw (mul-zero (suc n)) (omega arith)
  leading_fit (suc k) s =
      let ih = leading_fit k (drop (suc n) s) in
      by_test (is_line n (take (suc n) s))
      (λ e. rw (e, leading) (rw (width_more (length (leading n k (drop (suc n) s)))) (omega (arith, line_long s e, length-drop (suc n) s))))
      (λ e. rw (e, leading) (rw (mul-zero (suc n)) (omega arith)))

  pub drop_more : (k : ℕ) (s : List ℕ) → drop (suc n * suc k) s ≡ drop (suc n * k) (drop (suc n) s)
  drop_more k s = rw (width_more k) (sym (drop-drop (suc n * k) (suc n) s))

  -- after them comes no other
  pub leading_stop : (k : ℕ) (s : List ℕ) → length s ≤ k → is_line n (take (suc n) (drop (suc n * length (leading n k s)) s)) ≡ false
  unfolding leading
  leading_stop zero s l = rw (mul-zero (suc n)) (short_no_line (drop 0 s) (omega (arith, length-drop 0 s)))
  leading_stop (suc k) s l =
      by_test (is_line n (take (suc n) s))
      (λ e.
      rw (e, leading)
      (rw (drop_more (length (leading n k (drop (suc n) s))) s)
      (leading_stop k (drop (suc n) s) (omega (arith, length-drop (suc n) s, line_long s e)))))
      (λ e. rw (e, leading) (rw (mul-zero (suc n)) e))

  pub leading_few : (k : ℕ) (s : List ℕ) → length (leading n k s) ≤ k
  unfolding leading
  leading_few zero s = omega arith
  leading_few (suc k) s =
      let ih = leading_few k (drop (suc n) s) in
      by_test (is_line n (take (suc n) s)) (λ e. rw (e, leading) (omega arith)) (λ e. rw (e, leading) (omega arith))

  -- ---- with more bytes x behind
  line-behind : (s x : List ℕ) → is_line n (take (suc n) s) ≡ true → is_line n (take (suc n) (s ++ x)) ≡ true
  line-behind s x e = ap (is_line n) (take-append-le (suc n) s x (line_long s e)) ∙ e

  -- they are still the first, and the others come behind them
  pub leading_front : (k : ℕ) (s x : List ℕ)
      → leading n k (s ++ x) ≡ leading n k s ++ leading n (k - length (leading n k s)) (drop (suc n * length (leading n k s)) s ++ x)
  unfolding leading
  leading_front zero s x = refl
  leading_front (suc k) s x =
      let ks = leading n k (drop (suc n) s) in
      by_test (is_line n (take (suc n) s))
      (λ e.
      let l = line_long s e in
      let i : suc k - suc (length ks) ≡ k - length ks = omega arith in
      rw (e, leading)
      (leading_more k (s ++ x) (line-behind s x e)
      ∙ rw (take-append-le (suc n) s x l, drop-append-le (suc n) s x l, leading_front k (drop (suc n) s) x) (rw (i, drop_more (length ks) s))))
      (λ e. let i : suc k - 0 ≡ suc k = omega arith in rw (e, leading) (rw (i, mul-zero (suc n))))

  -- bytes enough for one more show that there is none
  pub leading_shown : (k : ℕ) (s x : List ℕ) → suc n ≤ length (drop (suc n * length (leading n k s)) s)
      → leading n (k - length (leading n k s)) (drop (suc n * length (leading n k s)) s ++ x) ≡ []
  unfolding leading
  leading_shown zero s x l = refl
  leading_shown (suc k) s x l =
      let ks = leading n k (drop (suc n) s) in
      by_test (is_line n (take (suc n) s))
      (λ e.
      let i : suc k - suc (length ks) ≡ k - length ks = omega arith in
      rw (e, leading) (rw (i, drop_more (length ks) s) (leading_shown k (drop (suc n) s) x (rw (drop_more (length ks) s) at (rw (e, leading) at l)))))
      (λ e.
      let z : drop (suc n * 0) s ≡ s = rw (mul-zero (suc n)) in
      rw (e, leading) (rw z (leading_none (suc k - 0) (s ++ x) (ap (is_line n) (take-append-le (suc n) s x (rw z at (rw (e, leading) at l))) ∙ e))))

  -- ---- passing them: m of them before `at`
  pub record Passing (s : List ℕ) (at : ℕ) : Type 0 where
    pub m : ℕ
    pub place : at ≡ suc n * m
    pub few : m ≤ at
    pub within : at ≤ length s
    pub count : length (leading n (length s) s) ≡ m + length (leading n (length s - m) (drop at s))

  pub passing_start : (s : List ℕ) → Passing s 0
  passing_start s =
      record {
        m = 0;
        place = sym (mul-zero (suc n));
        few = omega arith;
        within = omega arith;
        count = let e : length s - 0 ≡ length s = omega arith in rw e (omega arith);
      }

  module _ (s : List ℕ) (at : ℕ) (p : Passing s at) where
    pub passing_stop : is_line n (take (suc n) (drop at s)) ≡ false → at ≡ suc n * length (leading n (length s) s)
    passing_stop e =
        p.place ∙ ap (λ (k : ℕ). suc n * k) (let z = ap length (leading_none (length s - p.m) (drop at s) e) in omega (arith, p.count, z))

    pub passing_end : length s ≤ at → at ≡ suc n * length (leading n (length s) s)
    passing_end l = passing_stop (short_no_line (drop at s) (omega (arith, length-drop at s)))

    pub passing_fits : is_line n (take (suc n) (drop at s)) ≡ true → at + suc n ≤ length s
    passing_fits e = omega (arith, line_long (drop at s) e, length-drop at s, p.within)

    pub passing_step : is_line n (take (suc n) (drop at s)) ≡ true → Passing s (at + suc n)
    passing_step e =
        let l = passing_fits e in
        let d : length s - p.m ≡ suc (length s - (p.m + 1)) = omega (arith, p.few) in
        let f : length (leading n (length s - p.m) (drop at s)) ≡ suc (length (leading n (length s - (p.m + 1)) (drop (at + suc n) s))) =
        ap (λ (k : ℕ). length (leading n k (drop at s))) d
        ∙ ap length (leading_more (length s - (p.m + 1)) (drop at s) e)
        ∙ ap (λ (x : List ℕ). suc (length (leading n (length s - (p.m + 1)) x))) (drop-drop (suc n) at s) in
        let w : suc n * (p.m + 1) ≡ suc n + suc n * p.m = ap (λ (k : ℕ). suc n * k) (omega arith) ∙ width_more p.m in
        record { m = p.m + 1; place = omega (arith, p.place, w); few = omega (arith, p.few); within = l; count = omega (arith, p.count, f) }

  -- ---- the next line, cut off as a chunk of what is left
  pub record Left (s : List ℕ) (size : ℕ) (left : List ℕ) (at : ℕ) : Type 0 where
    pub width : size ≡ suc n
    pub is : left ≡ drop at s
    pub passed : Passing s at

  module _ (s : List ℕ) (at size : ℕ) (left : List ℕ) (p : Left s size left at) where
    pub left_none : length left ≡ 0 → at ≡ suc n * length (leading n (length s) s)
    left_none e = passing_end s at p.passed (omega (arith, ap length p.is, length-drop at s))

    module _ (line rest : List ℕ) (q : left ≡ line ++ rest) (m : length line ≡ min size (length left)) where
      chunk : line ≡ take (suc n) (drop at s)
      chunk =
          let front : take (length line) left ≡ line = ap (take (length line)) q ∙ take_at line rest (length line) refl in
          rw (← p.is)
          (elim (dec_lt n (length left)) [
            | yes l ↦ let e : suc n ≡ length line = omega (arith, p.width) in rw e (sym front)
            | no l ↦ sym front ∙ take_all (length line) left (omega (arith, p.width)) ∙ sym (take_all (suc n) left (omega arith))
          ])

      pub left_stop : is_line n line ≡ false → at ≡ suc n * length (leading n (length s) s)
      left_stop e = passing_stop s at p.passed (ap (is_line n) (sym chunk) ∙ e)

      pub left_more : (width : ℕ) → width ≡ size → is_line n line ≡ true → Left s width rest (at + length line)
      left_more width z e =
          let l : length line ≡ suc n = (line_true n line e).size in
          record {
            width = z ∙ p.width;
            is = sym (drop_at line rest (length line) refl) ∙ ap (drop (length line)) (sym q ∙ p.is) ∙ drop-drop (length line) at s;
            passed = rw l (passing_step s at p.passed (ap (is_line n) (sym chunk) ∙ e));
          }

  pub none_leading : (s : List ℕ) → length s ≤ n → 0 ≡ suc n * length (leading n (length s) s)
  none_leading s l = passing_stop s 0 (passing_start s) (short_no_line s (omega arith))
