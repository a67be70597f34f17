-- A text that grows: what is put, and what is put after it, is put as one; and where all fits, all stands there.
use mathlib.Core.Path.{◌≡◌, refl, sym, ap, ◌∙◌}
use mathlib.Core.List.{List, [], ◌∷◌, ◌++◌, append_assoc, append-nil}
use Prim.Native.Nat.{ℕ, zero, suc, ◌+◌, ◌-◌, ◌/◌, ◌%◌, ◌^◌, ◌≤◌, ◌<◌}
use native.Mathlib.Nat.{zero-sub, sub-zero}
use native.Mathlib.Numerals.{add-one}
use native.Mathlib.Decide.{dec_lt}
use native.Mathlib.Omega.{arith}
use lib.ListN.{length, get_or, take, drop, length-take, length-drop, length-append, take-append-drop}
use lib.Seq.{take_all, take-nil, take-suc, take_at, drop_at, drop-drop}
use Rattle.digits.specs.Hex.{hex_digits, digit_of}
use Rattle.digits.proofs.Hex.{length_digits, get_or_digits}
use Rattle.text.specs.Decimal.{decimal}
use Rattle.text.specs.Put.{fitting, Put, Puts}
use Rattle.text.specs.declared.Text.{Text}
use Rattle.text.proofs.Decimal.{decimal_digit, decimal_more}

-- the first bytes of two lists
take-append : (n : ℕ) (a b : List ℕ) → take n (a ++ b) ≡ take n a ++ take (n - length a) b
take-append zero a b = rw (zero-sub (length a))
take-append (suc n) [] b = rw (sub-zero (suc n))
take-append (suc n) (x ∷ a) b =
    let e : suc n - suc (length a) ≡ n - length a = omega arith in
    ap (λ (l : List ℕ). x ∷ l) (take-append n a b) ∙ rw e

-- the buffer keeps its length
pub put_length : (o : List ℕ) (at : ℕ) (s : List ℕ) (r : ℕ) (n : List ℕ) → Put o at s r n → length n ≡ length o
put_length o at s r n h =
    ap length h.output ∙ simp (length-append, length-drop, length-take) (omega (arith, h.position, length-take (length o - at) s))

-- nothing is put
pub put_none : (o : List ℕ) (at : ℕ) → Put o at [] at o
put_none o at =
    let e : fitting o at [] ≡ [] = take-nil (length o - at) in
    record { position = rw e (omega arith); output = rw e (sym (take-append-drop at o)) }

-- one part after another
module _ {o : List ℕ} {at : ℕ} {a : List ℕ} {r : ℕ} {p b : List ℕ} {q : ℕ} {n : List ℕ} (g : Put o at a r p) (h : Put p r b q n) where
  room-left : length p - r ≡ length o - at - length a
  room-left = omega (arith, put_length o at a r p g, g.position, length-take (length o - at) a)

  both-fit : fitting o at (a ++ b) ≡ fitting o at a ++ fitting p r b
  both-fit = rw room-left (take-append (length o - at) a b)

  -- the buffer after both parts: where the first is inside the buffer, and where there is no room at all
  both-inside : at ≤ length o → n ≡ take at o ++ ((fitting o at a ++ fitting p r b) ++ drop q o)
  both-inside l =
      let f = take at o ++ fitting o at a in
      let e : length f ≡ r = simp (length-append, length-take) (omega (arith, g.position, length-take (length o - at) a)) in
      let w : p ≡ f ++ drop r o = g.output ∙ sym (append_assoc (take at o) (fitting o at a) (drop r o)) in
      let t : take r p ≡ f = ap (take r) w ∙ take_at f (drop r o) r e in
      let d : drop r p ≡ drop r o = ap (drop r) w ∙ drop_at f (drop r o) r e in
      let z : drop q p ≡ drop q o =
      ap (λ (i : ℕ). drop i p) h.position
      ∙ sym (drop-drop (length (fitting p r b)) r p)
      ∙ ap (drop (length (fitting p r b))) d
      ∙ drop-drop (length (fitting p r b)) r o
      ∙ ap (λ (i : ℕ). drop i o) (sym h.position) in
      h.output ∙ rw (t, z) (simp append_assoc)

  both-outside : length o < at → n ≡ take at o ++ ((fitting o at a ++ fitting p r b) ++ drop q o)
  both-outside l =
      let k : length p - r ≡ 0 = room-left ∙ omega arith in
      let e : fitting p r b ≡ [] = rw k in
      let z : q ≡ r = h.position ∙ rw e (omega arith) in
      h.output ∙ rw (e, z) (take-append-drop r p ∙ rw (append-nil (fitting o at a)) g.output)

  pub put_then : Put o at (a ++ b) q n
  put_then =
      record {
        position = h.position ∙ rw (both-fit, length-append (fitting o at a) (fitting p r b)) (omega (arith, g.position));
        output = rw both-fit (elim (dec_lt (length o) at) [ yes l ↦ both-outside l | no l ↦ both-inside (omega arith) ]);
      }

-- ---- what a text that was put says
module _ (o : List ℕ) (at : ℕ) (s : List ℕ) (r : ℕ) (n : List ℕ) (h : Put o at s r n) (l : at ≤ length o) where
  -- the position stays in the buffer
  pub put_within : r ≤ length n
  put_within = omega (arith, h.position, length-take (length o - at) s, put_length o at s r n h)

  -- where there is room for all of it, all of it stands there
  pub put_whole : at + length s ≤ length o → take (r - at) (drop at n) ≡ s
  put_whole m =
      let f : fitting o at s ≡ s = take_all (length o - at) s (omega arith) in
      let e : r - at ≡ length s = omega (arith, rw f at h.position) in
      let t : length (take at o) ≡ at = length-take at o ∙ omega arith in
      rw (h.output, f, drop_at (take at o) (s ++ drop r o) at t, e) (take_at s (drop r o) (length s) refl)

-- ---- the same of a text
pub puts_none : (t : Text) → Puts t [] t
puts_none t = record { buffer = refl; text = put_none t.out.now t.at }

pub puts_then : {a b c : Text} {s t : List ℕ} → Puts a s b → Puts b t c → Puts a (s ++ t) c
puts_then g h = record { buffer = h.buffer ∙ g.buffer; text = put_then g.text h.text }

-- the bytes of a list, one after another
pub puts_next : (a b c : Text) (s : List ℕ) (i : ℕ) → i < length s → Puts a (take i s) b → Puts b (get_or s i 0 ∷ []) c → Puts a (take (i + 1) s) c
puts_next a b c s i l g h = rw (add-one, take-suc s i 0 l) (puts_then g h)

pub puts_end : (a b : Text) (s : List ℕ) (i : ℕ) → length s ≤ i → Puts a (take i s) b → Puts a s b
puts_end a b s i l g = rw (take_all i s l) at g

-- digits 0-9 A-F: so many places are left
pub hex_next : (a b c : Text) (w x p d : ℕ) → p < w → d ≡ digit_of (x / 16 ^ p % 16)
    → Puts a (take (w - suc p) (hex_digits w x)) b → Puts b (d ∷ []) c → Puts a (take (w - p) (hex_digits w x)) c
hex_next a b c w x p d l e g h =
    let k : w - 1 - (w - suc p) ≡ p = omega arith in
    let n : w - p ≡ w - suc p + 1 = omega arith in
    let z : d ≡ get_or (hex_digits w x) (w - suc p) 0 =
    e ∙ ap (λ (j : ℕ). digit_of (x / 16 ^ j % 16)) (sym k) ∙ sym (get_or_digits w x (w - suc p) (omega arith)) in
    rw n (puts_next a b c (hex_digits w x) (w - suc p) (omega (arith, length_digits w x)) g (rw z at h))

pub hex_end : (a b : Text) (w x p : ℕ) → p ≡ 0 → Puts a (take (w - p) (hex_digits w x)) b → Puts a (hex_digits w x) b
hex_end a b w x p e g = puts_end a b (hex_digits w x) (w - p) (omega (arith, length_digits w x)) g

-- a decimal number: its one digit, or the digits of its tenth and the last
pub decimal_one : (a b : Text) (n : ℕ) → n < 10 → Puts a ((48 + n % 10) ∷ []) b → Puts a (decimal n) b
decimal_one a b n l g = let e : n % 10 ≡ n = omega arith in rw (decimal_digit n l, ← e) g

pub decimal_then : (a b c : Text) (n : ℕ) → 10 ≤ n → Puts a (decimal (n / 10)) b → Puts b ((48 + n % 10) ∷ []) c → Puts a (decimal n) c
decimal_then a b c n l g h = rw (decimal_more n l) (puts_then g h)

-- what was put stands in the buffer that the text has
pub puts_from : {at : ℕ} {o s : List ℕ} (t u : Text) → t.out.now ≡ o → t.at ≡ at → Puts t s u → (r : ℕ) (o' : List ℕ) → r ≡ u.at → o' ≡ u.out.now
    → Put o at s r o'
puts_from t u b z g r o' q w = rw (q, w) (rw (b, z) at g.text)
