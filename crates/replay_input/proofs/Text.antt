-- Which line an answer has, and as many whole lines as fit, one behind the other.
use Rattle.std.proofs.Common.{◌≡◌, ℕ, zero, suc, ◌+◌, ◌-◌, ◌*◌, ◌<◌, ◌≤◌, List, [], ◌∷◌, ◌++◌, length, get_or, take, drop, sym, refl, ap, ◌∙◌, append_assoc, append-nil, arith, length-append, length-drop, take_all, drop-drop, take_at, drop_at, eq-eqb, ne_eqb, le-leb, Option, None, Some}
use borrow.Author.Tests.{lt-leb}
use Rattle.digits.specs.Hex.{hex_digits}
use Rattle.digits.proofs.Hex.{length_digits}
use Rattle.text.specs.Ascii.{ascii}
use Rattle.text.specs.Decimal.{decimal}
use Rattle.text.specs.Put.{Put, Puts}
use Rattle.text.specs.declared.Text.{Text}
use Rattle.text.proofs.Growth.{puts_then}
use Rattle.replay_input.specs.declared.Written.{Written}
use Rattle.lists.proofs.Tests.{by_test, never}
use Rattle.replay_input.specs.Private.{answer_held}
use Rattle.replay_input.specs.Text.{is_none, answer_line, answer_lines, fitting_lines, PutsAnswers}
use Rattle.replay_input.specs.Input.{refused_line}

-- ---- a line

-- the line of a time, a board and a temperature
abbrev pub digits : ℕ × ℕ × ℕ → List ℕ
digits t = hex_digits 16 t.0 ++ (hex_digits 2 t.1 ++ (hex_digits 4 t.2 ++ (10 ∷ [])))

pub digits_size : (t : ℕ × ℕ × ℕ) → length (digits t) ≡ 23
digits_size t = simp length-append (omega (arith, length_digits 16 t.0, length_digits 2 t.1, length_digits 4 t.2))

pub digits_put : (t : ℕ × ℕ × ℕ) {x u v w y : Text} → Puts x (hex_digits 16 t.0) u → Puts u (hex_digits 2 t.1) v → Puts v (hex_digits 4 t.2) w → Puts w (10 ∷ []) y
    → Puts x (digits t) y
digits_put t f g k j = puts_then f (puts_then g (puts_then k j))

module _ (a : List ℕ) (i : ℕ) where
  -- an answer whose four numbers are there
  pub held_zero : 4 * i + 3 < length a → get_or a (4 * i) 0 ≡ 0 → None ≡ answer_held a i
  held_zero l e = rw (lt-leb (length a) (4 * i + 3) l, eq-eqb (get_or a (4 * i) 0) 0 e)

  pub held_some : 4 * i + 3 < length a → (get_or a (4 * i) 0 ≡ 0 → ⊥)
      → Some (get_or a (4 * i + 1) 0, get_or a (4 * i + 2) 0, get_or a (4 * i + 3) 0) ≡ answer_held a i
  held_some l h = rw (lt-leb (length a) (4 * i + 3) l, ne_eqb (get_or a (4 * i) 0) 0 h)

  pub line_none : answer_held a i ≡ None → ascii "none\n" ≡ answer_line a i
  unfolding answer_line
  line_none e = by_test (is_none a i) (λ q. rw q) (λ q. never (cc (rw q at e)))

  pub line_held : (t : ℕ × ℕ × ℕ) → answer_held a i ≡ Some t → digits t ≡ answer_line a i
  unfolding answer_line
  line_held t e =
      by_test (is_none a i) (λ q. never (cc (rw q at e)))
      (λ q.
      let f : ◌≡◌ {A = Option (ℕ × ℕ × ℕ)} (Some (get_or a (4 * i + 1) 0, get_or a (4 * i + 2) 0, get_or a (4 * i + 3) 0)) (Some t) = rw q at e in
      let z : (get_or a (4 * i + 1) 0, get_or a (4 * i + 2) 0, get_or a (4 * i + 3) 0) ≡ t = cc in
      rw q (ap digits (sym z)))

pub refused_line_lem : (line : ℕ) {t u v w : Text} → Puts t (ascii "refused 22 ") u → Puts u (decimal line) v → Puts v (10 ∷ []) w
    → Puts t (refused_line line) w
unfolding refused_line
refused_line_lem line f g k = puts_then f (puts_then g k)

-- ---- lines

pub lines_split : (a : List ℕ) (k m n : ℕ) → answer_lines a k (m + n) ≡ answer_lines a k m ++ answer_lines a (k + m) n
unfolding answer_lines
lines_split a k zero n =
    let e : 0 + n ≡ n = omega arith in
    let f : k + 0 ≡ k = omega arith in
    ap (answer_lines a k) e ∙ sym (ap (λ (j : ℕ). answer_lines a j n) f)
lines_split a k (suc m) n =
    let e : suc m + n ≡ suc (m + n) = omega arith in
    let f : k + 1 + m ≡ k + suc m = omega arith in
    ap (answer_lines a k) e
    ∙ ap (λ (x : List ℕ). answer_line a k ++ x) (lines_split a (k + 1) m n)
    ∙ sym (append_assoc (answer_line a k) (answer_lines a (k + 1) m) (answer_lines a (k + 1 + m) n))
    ∙ ap (λ (j : ℕ). (answer_line a k ++ answer_lines a (k + 1) m) ++ answer_lines a j n) f

lines_more : (a : List ℕ) (k m : ℕ) → answer_lines a k (m + 1) ≡ answer_lines a k m ++ answer_line a (k + m)
unfolding answer_lines
lines_more a k m = lines_split a k m 1 ∙ ap (λ (x : List ℕ). answer_lines a k m ++ x) (append-nil (answer_line a (k + m)))

module _ (a : List ℕ) (room k n : ℕ) (l : 0 < n) where
  more : n ≡ suc (n - 1)
  more = omega arith

  one-fits : length (answer_line a k) ≤ room → fitting_lines a room k n ≡ suc (fitting_lines a (room - length (answer_line a k)) (k + 1) (n - 1))
  unfolding fitting_lines
  one-fits h = ap (fitting_lines a room k) more ∙ rw (le-leb (length (answer_line a k)) room h)

  none-fits : room < length (answer_line a k) → fitting_lines a room k n ≡ 0
  unfolding fitting_lines
  none-fits h = ap (fitting_lines a room k) more ∙ rw (lt-leb (length (answer_line a k)) room h)

-- what was put lies in the buffer
pub puts_within : (a : List ℕ) (starts from : ℕ) (out : List ℕ) (r : Written) (out' : List ℕ) → PutsAnswers a starts from out r out' → r.bytes ≤ length out'
puts_within a starts from out r out' h =
    omega (arith, h.bytes, ap length h.output, length-append (answer_lines a from (fitting_lines a (length out) from (starts - from))) (drop r.bytes out))

-- some lines have been put, up to the answer `next` and the position `at`
pub record Putting (a : List ℕ) (starts from : ℕ) (out₀ : List ℕ) (next at : ℕ) (out : List ℕ) : Type 0 where
  pub count : ℕ
  pub next_is : next ≡ from + count
  pub at_is : at ≡ length (answer_lines a from count)
  pub within : at ≤ length out₀
  pub output : out ≡ answer_lines a from count ++ drop at out₀
  pub left : fitting_lines a (length out₀) from (starts - from) ≡ count + fitting_lines a (length out₀ - at) next (starts - next)

pub putting_start : (a : List ℕ) (starts from : ℕ) (out : List ℕ) → Putting a starts from out from 0 out
unfolding answer_lines
putting_start a starts from out =
    let e : length out - 0 ≡ length out = omega arith in
    record {
      count = 0;
      next_is = omega arith;
      at_is = refl;
      within = omega arith;
      output = refl;
      left = ap (λ (n : ℕ). fitting_lines a n from (starts - from)) (sym e) ∙ omega arith;
    }

module _ (a : List ℕ) (starts from : ℕ) (out₀ : List ℕ) (next at : ℕ) (out : List ℕ) (c : Putting a starts from out₀ next at out) where
  put : List ℕ
  put = answer_lines a from c.count

  pub putting_size : length out ≡ length out₀
  putting_size =
      ap length c.output ∙ length-append (answer_lines a from c.count) (drop at out₀) ∙ omega (arith, c.at_is, c.within, length-drop at out₀)

  pub putting_step : next < starts → length (answer_line a next) ≤ length out - at → (at' : ℕ) (out' : List ℕ) → Put out at (answer_line a next) at' out'
      → Putting a starts from out₀ (next + 1) at' out'
  unfolding put
  putting_step l z at' out' h =
      let line = answer_line a next in
      let fit : take (length out - at) line ≡ line = take_all (length out - at) line z in
      let p : at' ≡ at + length line = rw fit at h.position in
      let lines : answer_lines a from (c.count + 1) ≡ put ++ line =
      lines_more a from c.count ∙ ap (λ (j : ℕ). put ++ answer_line a j) (sym c.next_is) in
      let t : take at out ≡ put = ap (take at) c.output ∙ take_at put (drop at out₀) at (sym c.at_is) in
      let d : drop at out ≡ drop at out₀ = ap (drop at) c.output ∙ drop_at put (drop at out₀) at (sym c.at_is) in
      let e : drop at' out ≡ drop at' out₀ =
      ap (λ (i : ℕ). drop i out) p
      ∙ sym (drop-drop (length line) at out)
      ∙ ap (drop (length line)) d
      ∙ drop-drop (length line) at out₀
      ∙ ap (λ (i : ℕ). drop i out₀) (sym p) in
      let s = putting_size in
      let i : length out₀ - at - length line ≡ length out₀ - at' = omega arith in
      let j : starts - next - 1 ≡ starts - (next + 1) = omega arith in
      let f : suc (fitting_lines a (length out₀ - at - length line) (next + 1) (starts - next - 1))
      ≡ suc (fitting_lines a (length out₀ - at') (next + 1) (starts - (next + 1))) = rw (i, j) in
      record {
        count = c.count + 1;
        next_is = omega (arith, c.next_is);
        at_is = omega (arith, p, c.at_is, ap length lines, length-append put line);
        within = omega (arith, p, s, c.within);
        output = h.output ∙ rw (t, fit, e, lines) (sym (append_assoc put line (drop at' out₀)));
        left =
            c.left
            ∙ ap (λ (x : ℕ). c.count + x)
            (one-fits a (length out₀ - at) next (starts - next) (omega arith) (omega (arith, s)) ∙ f)
            ∙ omega arith;
      }

  -- no line more fits, or none is left
  ended : fitting_lines a (length out₀ - at) next (starts - next) ≡ 0 → PutsAnswers a starts from out₀ (record { next = next; bytes = at }) out
  ended e =
      let n : fitting_lines a (length out₀) from (starts - from) ≡ c.count = c.left ∙ rw e (omega arith) in
      record { next = rw n c.next_is; bytes = rw n c.at_is; output = rw n c.output }

  pub putting_full : next < starts → length out - at < length (answer_line a next) → PutsAnswers a starts from out₀ (record { next = next; bytes = at }) out
  putting_full l z = ended (none-fits a (length out₀ - at) next (starts - next) (omega arith) (omega (arith, putting_size)))

  pub putting_all : starts ≤ next → PutsAnswers a starts from out₀ (record { next = next; bytes = at }) out
  unfolding fitting_lines
  putting_all l = ended (let e : starts - next ≡ 0 = omega arith in rw e)
