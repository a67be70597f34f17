-- Little-endian numbers in a list of bytes: one definition over the width, and its laws.
use mathlib.Core.Path.{◌≡◌, refl, ap, ◌∙◌}
use mathlib.Core.List.{List}
use Prim.Native.Nat.{ℕ, zero, suc, ◌+◌, ◌*◌, ◌^◌, ◌≤◌, ◌<◌}
use native.Mathlib.Nat.{add-zero, zero-add, one-mul, pow-zero, pow-suc, suc-add}
use native.Mathlib.Omega.{arith}
use lib.ListN.{length, get_or, take, drop, get_or-eq_default}
use lib.Seq.{get_or-take, get_or-drop}
use Rattle.little_endian.specs.Number.{le}

-- the first `m` bytes, and the `n` bytes after them
pub le_split : (m n : ℕ) (s : List ℕ) (at : ℕ) → le (m + n) s at ≡ le m s at + 256 ^ m * le n s (at + m)
unfolding le
le_split zero n s at = simp (zero-add, add-zero, pow-zero, one-mul)
le_split (suc m) n s at =
    let ih = le_split m n s (at + 1) in
    let e : at + suc m ≡ at + 1 + m = omega arith in
    rw (suc-add, pow-suc, e) (omega (arith, ih))

-- a number of `w` bytes is below 256 ^ w
pub le-lt : (w : ℕ) (s : List ℕ) (at : ℕ) → ((i : ℕ) → get_or s i 0 < 256) → le w s at < 256 ^ w
unfolding le
le-lt zero s at h = rw pow-zero (omega arith)
le-lt (suc w) s at h = let ih = le-lt w s (at + 1) h in rw pow-suc (omega (arith, h at))

-- equal bytes form equal numbers, wherever they stand
pub le_ext : (w : ℕ) (s t : List ℕ) (a b : ℕ) → ((i : ℕ) → i < w → get_or s (a + i) 0 ≡ get_or t (b + i) 0) → le w s a ≡ le w t b
unfolding le
le_ext zero s t a b h = refl
le_ext (suc w) s t a b h =
    let x : get_or s a 0 ≡ get_or t b 0 = simp add-zero at (h 0 (omega arith)) in
    let y = le_ext w s t (a + 1) (b + 1)
    (λ i l. ap (λ (k : ℕ). get_or s k 0) (omega arith) ∙ h (suc i) (omega arith) ∙ ap (λ (k : ℕ). get_or t k 0) (omega arith)) in
    rw (x, y)

-- past the end there is nothing
pub le_past : (w : ℕ) (s : List ℕ) (at : ℕ) → length s ≤ at → le w s at ≡ 0
unfolding le
le_past zero s at l = refl
le_past (suc w) s at l = rw (get_or-eq_default s 0 l, le_past w s (at + 1) (omega arith))

-- in a part of a list
pub le-take : (w n : ℕ) (s : List ℕ) (a : ℕ) → a + w ≤ n → le w (take n s) a ≡ le w s a
le-take w n s a l = le_ext w (take n s) s a a (λ i h. get_or-take n s (a + i) 0 (omega arith))

pub le-drop : (w n : ℕ) (s : List ℕ) (a : ℕ) → le w (drop n s) a ≡ le w s (n + a)
le-drop w n s a = le_ext w (drop n s) s a (n + a) (λ i h. get_or-drop n s (a + i) 0 ∙ ap (λ (k : ℕ). get_or s k 0) (omega arith))
