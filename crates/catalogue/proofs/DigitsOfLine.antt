-- What a line of digits says, for any number w of size digits: each number stands between the others, so its digits are found at its place.
use mathlib.Core.Path.{◌≡◌, refl, sym, ap, ◌∙◌}
use mathlib.Core.Bool.{true}
use mathlib.Core.List.{List, [], ◌∷◌, ◌++◌, append_assoc}
use Prim.Native.Nat.{ℕ, suc, ◌+◌, ◌-◌, ◌%◌, ◌≤◌, ◌<◌, ◌^◌}
use native.Mathlib.Nat.{zero-add}
use native.Mathlib.Omega.{arith}
use lib.ListN.{length, get_or, take, drop, length-append, get_or-append, take-append-drop, drop_of_length-le}
use lib.Seq.{drop-drop, drop-cons, get_or_at, get_or-append-add}
use native.Mathlib.Decide.{dec_lt}
use Rattle.digits.specs.Hex.{is_digit, hex_at, hex_digits}
use Rattle.digits.proofs.Hex.{length_digits, digits_are, hex_digits_lem, digits_hex}
use Rattle.digits.proofs.Laws.{digits_all}
use Rattle.catalogue.specs.declared.Fields.{Fields}
use Rattle.catalogue.specs.Line.{line_of, fields_in}
use Rattle.lines.specs.Lines.{is_line}
use Rattle.lines.proofs.Lines.{Line, line_true, line_part}

-- what stands between a start of a list and its rest
between : (p q r : List ℕ) (at k : ℕ) → length p ≡ at → length q ≡ k → (j : ℕ) → j < k → get_or (p ++ (q ++ r)) (at + j) 0 ≡ get_or q j 0
between p q r at k lp lq j l =
    ap (λ (i : ℕ). get_or (p ++ (q ++ r)) i 0) (omega arith) ∙ get_or-append-add p (q ++ r) j 0 ∙ get_or-append q r 0 j (omega arith)

-- so many digits of a number, and a start of a list before them
module _ (k x : ℕ) (p r : List ℕ) (at : ℕ) (lp : length p ≡ at) where
  digits_between : (j : ℕ) → at ≤ j → j < at + k → is_digit (get_or (p ++ (hex_digits k x ++ r)) j 0) ≡ true
  digits_between j a b =
      ap (λ (i : ℕ). is_digit (get_or (p ++ (hex_digits k x ++ r)) i 0)) (omega arith)
      ∙ ap is_digit (between p (hex_digits k x) r at k lp (length_digits k x) (j - at) (omega arith))
      ∙ digits_are k x (j - at) (omega arith)

  number-between : hex_at k (p ++ (hex_digits k x ++ r)) at ≡ x % 16 ^ k
  number-between = hex_digits_lem k x (p ++ (hex_digits k x ++ r)) at (between p (hex_digits k x) r at k lp (length_digits k x))

-- the parts of a line
module _ (w : ℕ) (f : Fields) where
  abbrev p : List ℕ
  p = hex_digits w f.size

  abbrev q : List ℕ
  q = hex_digits 8 f.hash

  abbrev r : List ℕ
  r = hex_digits 8 f.runs

  abbrev t : List ℕ
  t = hex_digits 2 f.version

  abbrev feed : List ℕ
  feed = 10 ∷ []

  lp : length p ≡ w
  lp = length_digits w f.size

  lpq : length (p ++ q) ≡ w + 8
  lpq = rw (length-append p q, lp, length_digits 8 f.hash)

  lpqr : length ((p ++ q) ++ r) ≡ w + 16
  lpqr = rw (length-append (p ++ q) r, lpq, length_digits 8 f.runs) (omega arith)

  lall : length (((p ++ q) ++ r) ++ t) ≡ w + 18
  lall = rw (length-append ((p ++ q) ++ r) t, lpqr, length_digits 2 f.version) (omega arith)

  -- the line, seen from each of its parts
  from-size : line_of w f ≡ [] ++ (p ++ (q ++ (r ++ (t ++ feed))))
  unfolding line_of
  from-size = refl

  from-runs : line_of w f ≡ (p ++ q) ++ (r ++ (t ++ feed))
  from-runs = from-size ∙ simp append_assoc

  from-version : line_of w f ≡ ((p ++ q) ++ r) ++ (t ++ feed)
  from-version = from-size ∙ simp append_assoc

  from-feed : line_of w f ≡ (((p ++ q) ++ r) ++ t) ++ feed
  from-feed = from-size ∙ simp append_assoc

  pub line_size : length (line_of w f) ≡ w + 19
  line_size = rw (from-feed, length-append (((p ++ q) ++ r) ++ t) feed, lall) (omega arith)

  line_feed : get_or (line_of w f) (w + 18) 0 ≡ 10
  line_feed = rw from-feed (get_or_at (((p ++ q) ++ r) ++ t) 10 [] 0 (w + 18) lall)

  line_digits : (j : ℕ) → j < w + 18 → is_digit (get_or (line_of w f) j 0) ≡ true
  line_digits j l = go (dec_lt j w) (dec_lt j (w + 8)) (dec_lt j (w + 16))
    where
      go : Dec (j < w) → Dec (j < w + 8) → Dec (j < w + 16) → is_digit (get_or (line_of w f) j 0) ≡ true
      go (yes a) b c = rw from-size (digits_between w f.size [] (q ++ (r ++ (t ++ feed))) 0 refl j (omega arith) (omega arith))
      go (no a) (yes b) c = rw from-size (digits_between 8 f.hash p (r ++ (t ++ feed)) w lp j (omega arith) (omega arith))
      go (no a) (no b) (yes c) = rw from-runs (digits_between 8 f.runs (p ++ q) (t ++ feed) (w + 8) lpq j (omega arith) (omega arith))
      go (no a) (no b) (no c) = rw from-version (digits_between 2 f.version ((p ++ q) ++ r) feed (w + 16) lpqr j (omega arith) (omega arith))

  pub line_of_digits : Line (w + 18) (line_of w f)
  line_of_digits =
      record {
        size = line_size ∙ omega arith;
        digits = digits_all (line_of w f) 0 (w + 18) (omega (arith, line_size)) (λ j l. rw (zero-add j) (line_digits j l));
        feed = line_feed;
      }

  -- each number of the line, as far as its digits hold it
  pub number_size : hex_at w (line_of w f) 0 ≡ f.size % 16 ^ w
  number_size = rw from-size (number-between w f.size [] (q ++ (r ++ (t ++ feed))) 0 refl)

  pub number_hash : hex_at 8 (line_of w f) w ≡ f.hash % 16 ^ 8
  number_hash = rw from-size (number-between 8 f.hash p (r ++ (t ++ feed)) w lp)

  pub number_runs : hex_at 8 (line_of w f) (w + 8) ≡ f.runs % 16 ^ 8
  number_runs = rw from-runs (number-between 8 f.runs (p ++ q) (t ++ feed) (w + 8) lpq)

  pub number_version : hex_at 2 (line_of w f) (w + 16) ≡ f.version % 16 ^ 2
  number_version = rw from-version (number-between 2 f.version ((p ++ q) ++ r) feed (w + 16) lpqr)

-- the bytes of a line of digits are those of its fields and a line feed
pub digits_line : (w : ℕ) (s : List ℕ) → is_line (w + 18) s ≡ true → s ≡ line_of w (fields_in w s)
unfolding line_of fields_in
digits_line w s z =
    let f = line_true (w + 18) s z in
    let field : (at k : ℕ) → at + k ≤ w + 18 → hex_digits k (hex_at k s at) ≡ take k (drop at s) =
    λ at k l. digits_hex k s at (omega (arith, f.size)) (line_part (w + 18) s z at k l) in
    let e : drop (w + 18) s ≡ 10 ∷ [] =
    drop-cons s (w + 18) 0 (omega (arith, f.size)) ∙ rw (f.feed, drop_of_length-le s {i = suc (w + 18)} (omega (arith, f.size))) in
    rw (field 0 w (omega arith), field w 8 (omega arith), field (w + 8) 8 (omega arith), field (w + 16) 2 (omega arith), ← e)
    (sym
    (ap (λ (x : List ℕ). take w s ++ (take 8 (drop w s) ++ (take 8 (drop (w + 8) s) ++ x))) (rest (w + 16) 2 (w + 18) (omega arith))
    ∙ ap (λ (x : List ℕ). take w s ++ (take 8 (drop w s) ++ x)) (rest (w + 8) 8 (w + 16) (omega arith))
    ∙ ap (λ (x : List ℕ). take w s ++ x) (rest w 8 (w + 8) (omega arith))
    ∙ take-append-drop w s))
  where
    rest : (at k end : ℕ) → at + k ≡ end → take k (drop at s) ++ drop end s ≡ drop at s
    rest at k end e = ap (λ (x : List ℕ). take k (drop at s) ++ x) (ap (λ (i : ℕ). drop i s) (sym e) ∙ sym (drop-drop k at s)) ∙ take-append-drop k (drop at s)
