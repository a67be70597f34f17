-- A number laid out in bytes is read again: in a field, in a row of units, and among entries of one size.
use mathlib.Core.Path.{◌≡◌, refl, sym, ap, ◌∙◌}
use mathlib.Core.List.{List, [], ◌∷◌, ◌++◌}
use mathlib.Core.Logic.{⊎_elim}
use Prim.Native.Nat.{ℕ, zero, suc, ◌+◌, ◌*◌, ◌/◌, ◌%◌, ◌^◌, ◌≤◌, ◌<◌}
use native.Mathlib.Nat.{pow-zero, pow-suc, suc-mul, zero-mul, not-suc-le-zero, le_of_suc-le-suc, eq-or-lt_of_le, mul-le-mul_right}
use native.Mathlib.Omega.{arith}
use lib.ListN.{length, get_or, replicate, length-append}
use lib.Seq.{take-append_seam, drop-append_seam}
use Rattle.little_endian.specs.Number.{le}
use Rattle.little_endian.proofs.Number.{le-take, le-drop}
use Rattle.writer.specs.LaidOut.{bytes_of, unit_bytes, entries}

pub length_bytes : (w n : ℕ) → length (bytes_of w n) ≡ w
unfolding bytes_of
length_bytes zero n = refl
length_bytes (suc w) n = ap suc (length_bytes w (n / 256))

-- ---- reads in joined lists
pub le_left : (w : ℕ) (x y : List ℕ) (a : ℕ) → a + w ≤ length x → le w (x ++ y) a ≡ le w x a
le_left w x y a l = sym (le-take w (length x) (x ++ y) a l) ∙ ap (λ (s : List ℕ). le w s a) (take-append_seam x y)

pub le_right : (w : ℕ) (x y : List ℕ) (a : ℕ) → le w (x ++ y) (length x + a) ≡ le w y a
le_right w x y a = sym (le-drop w (length x) (x ++ y) a) ∙ ap (λ (s : List ℕ). le w s a) (drop-append_seam x y)

pub le-cons : (w x : ℕ) (s : List ℕ) (a : ℕ) → le w (x ∷ s) (a + 1) ≡ le w s a
le-cons w x s a = ap (le w (x ∷ s)) (omega arith) ∙ sym (le-drop w 1 (x ∷ s) a)

-- ---- a number
pub le_bytes : (w n : ℕ) → n < 256 ^ w → le w (bytes_of w n) 0 ≡ n
unfolding bytes_of le
le_bytes zero n l = let z : n < 1 = rw pow-zero at l in omega arith
le_bytes (suc w) n l =
    let z : n < 256 ^ w * 256 = rw pow-suc at l in
    let q : n / 256 < 256 ^ w = omega arith in
    rw (le-cons w (n % 256) (bytes_of w (n / 256)) 0, le_bytes w (n / 256) q) (omega arith)

pub le-number : (w n : ℕ) (s : List ℕ) → n < 256 ^ w → le w (bytes_of w n ++ s) 0 ≡ n
le-number w n s l = le_left w (bytes_of w n) s 0 (omega (arith, length_bytes w n)) ∙ le_bytes w n l

-- zeros
pub le_zeros : (w n a : ℕ) → le w (replicate n 0) a ≡ 0
unfolding le
le_zeros zero n a = refl
le_zeros (suc w) n a = rw (le_zeros w n (a + 1), zero-at n a)
  where
    zero-at : (n a : ℕ) → ◌≡◌ {A = ℕ} (get_or (replicate n 0) a 0) 0
    zero-at zero a = refl
    zero-at (suc n) zero = refl
    zero-at (suc n) (suc a) = zero-at n a

-- ---- units
pub length-units : (us : List ℕ) → length (unit_bytes us) ≡ 2 * length us
unfolding unit_bytes
length-units [] = refl
length-units (u ∷ us) = length-append (bytes_of 2 u) (unit_bytes us) ∙ omega (arith, length_bytes 2 u, length-units us)

pub le-units : (us : List ℕ) (i : ℕ) → ((k : ℕ) → k < length us → get_or us k 0 < 65536) → i < length us → le 2 (unit_bytes us) (2 * i) ≡ get_or us i 0
unfolding unit_bytes
le-units [] i h l = absurd (not-suc-le-zero l)
le-units (u ∷ us) zero h l = le-number 2 u (unit_bytes us) (h 0 l)
le-units (u ∷ us) (suc i) h l =
    ap (le 2 (bytes_of 2 u ++ unit_bytes us)) (omega (arith, length_bytes 2 u))
    ∙ le_right 2 (bytes_of 2 u) (unit_bytes us) (2 * i)
    ∙ le-units us i (λ k m. h (suc k) (omega arith)) (le_of_suc-le-suc l)

-- ---- entries of one size
module _ (f : ℕ → List ℕ) (w : ℕ) (size : (k : ℕ) → length (f k) ≡ w) where
  pub length_entries : (n : ℕ) → length (entries f n) ≡ n * w
  unfolding entries
  length_entries zero = sym (zero-mul w)
  length_entries (suc n) = length-append (entries f n) (f n) ∙ omega (arith, suc-mul n w, length_entries n, size n)

  pub le_entry : (c n i a : ℕ) → i < n → a + c ≤ w → le c (entries f n) (i * w + a) ≡ le c (f i) a
  unfolding entries
  le_entry c zero i a l h = absurd (not-suc-le-zero l)
  le_entry c (suc n) i a l h = ⊎_elim
      (λ (e : i ≡ n). rw e (ap (le c (entries f n ++ f n)) (omega (arith, length_entries n)) ∙ le_right c (entries f n) (f n) a))
      (λ (m : i < n). let z : suc i * w ≤ n * w = mul-le-mul_right w m in
      le_left c (entries f n) (f n) (i * w + a) (omega (arith, length_entries n, suc-mul i w)) ∙ le_entry c n i a m h)
      (eq-or-lt_of_le (le_of_suc-le-suc l))
