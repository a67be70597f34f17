-- Bytes put one behind another into a list are put as one.
use mathlib.Core.Path.{◌≡◌, refl, sym, ap, ◌∙◌}
use mathlib.Core.List.{List, [], ◌∷◌, ◌++◌, append_assoc, append-nil}
use Prim.Native.Nat.{ℕ, zero, suc, ◌+◌, ◌/◌, ◌%◌, ◌^◌, ◌≤◌, ◌<◌}
use native.Mathlib.Nat.{div-one, div-div-eq-div-mul, pow-zero, pow-suc}
use native.Mathlib.Omega.{arith}
use borrow.Rule.Slice.PartMut.{put_mid}
use lib.ListN.{length, get_or, set, take, drop, length-append, length-take}
use lib.Seq.{take-suc, sets, length-sets, take_at, drop_at, drop-append-add}
use Rattle.std.specs.Int.{byte_at, bytes_low_first}
use Rattle.std.proofs.lemmas.List.Edits.{sets-eq}
use Rattle.std.proofs.lemmas.List.{drop-drop}
use Rattle.writer.specs.LaidOut.{bytes_of, unit_bytes}
use Rattle.writer.specs.Private.{patch}

-- a write to a part of the list
pub part_put : (a k : ℕ) (o ys zs : List ℕ) → ys ≡ zs → k ≡ length zs → a + length zs ≤ length o → put_mid a k o ys ≡ patch o a zs
unfolding patch
part_put a k o ys zs e n h =
    rw (e, n) (ap (λ (t : List ℕ). take a o ++ (zs ++ t)) (drop-drop (length zs) a o)
    ∙ sym (append_assoc (take a o) zs (drop (a + length zs) o))
    ∙ sym (sets-eq zs o a h))

pub patch_join : (o : List ℕ) (at : ℕ) (x y : List ℕ) (next : ℕ) → next ≡ at + length x → patch (patch o at x) next y ≡ patch o at (x ++ y)
unfolding patch
patch_join o at [] y next e = let q : next ≡ at = omega arith in ap (λ (k : ℕ). sets o k y) q
patch_join o at (v ∷ x) y next e = patch_join (set o at v) (suc at) x y next (omega arith)

-- bytes put over as many of those that were put
pub put_over : (o x q r y : List ℕ) (at : ℕ) → length y ≡ length q → at + length (x ++ (q ++ r)) ≤ length o
    → patch (patch o at (x ++ (q ++ r))) (at + length x) y ≡ patch o at (x ++ (y ++ r))
unfolding patch
put_over o x q r y at n h =
    let s = sets o at (x ++ (q ++ r)) in
    let a = take at o in
    let d = drop (at + length (x ++ (q ++ r))) o in
    let whole : length (x ++ (q ++ r)) ≡ length x + (length q + length r) = length-append x (q ++ r) ∙ ap (λ (k : ℕ). length x + k) (length-append q r) in
    let again : length (x ++ (y ++ r)) ≡ length x + (length y + length r) = length-append x (y ++ r) ∙ ap (λ (k : ℕ). length x + k) (length-append y r) in
    let front : length (a ++ x) ≡ at + length x = length-append a x ∙ omega (arith, length-take at o) in
    let f : (a ++ (x ++ (q ++ r))) ++ d ≡ (a ++ x) ++ (q ++ (r ++ d)) = simp append_assoc in
    let e : s ≡ (a ++ x) ++ (q ++ (r ++ d)) = sets-eq (x ++ (q ++ r)) o at h ∙ f in
    let t : take (at + length x) s ≡ a ++ x = ap (take (at + length x)) e ∙ take_at (a ++ x) (q ++ (r ++ d)) _ front in
    let b : at + length x + length y ≡ length (a ++ x) + length q = omega (arith, front, n) in
    let u : drop (at + length x + length y) s ≡ r ++ d =
    ap (drop (at + length x + length y)) e ∙ ap (λ (k : ℕ). drop k ((a ++ x) ++ (q ++ (r ++ d)))) b
    ∙ drop-append-add (a ++ x) (q ++ (r ++ d)) (length q) ∙ drop_at q (r ++ d) _ refl in
    let m : ((a ++ x) ++ y) ++ (r ++ d) ≡ (a ++ (x ++ (y ++ r))) ++ d = simp append_assoc in
    let same : length (x ++ (q ++ r)) ≡ length (x ++ (y ++ r)) = omega (arith, whole, again, n) in
    sets-eq y s (at + length x) (omega (arith, length-sets o at (x ++ (q ++ r)), whole, n, h))
    ∙ ap (λ (z : List ℕ). (z ++ y) ++ drop (at + length x + length y) s) t
    ∙ ap (λ (z : List ℕ). ((a ++ x) ++ y) ++ z) u
    ∙ m
    ∙ ap (λ (k : ℕ). (a ++ (x ++ (y ++ r))) ++ drop (at + k) o) same
    ∙ sym (sets-eq (x ++ (y ++ r)) o at (omega (arith, same, h)))

-- nothing
pub patch-none : (o : List ℕ) (at : ℕ) → o ≡ patch o at []
unfolding patch
patch-none o at = refl

-- `x` is there from `at` on, and `y` is put behind it
pub then_laid : (o output output' x y z : List ℕ) (at next : ℕ) → output ≡ patch o at x → output' ≡ patch output next y → next ≡ at + length x
    → x ++ y ≡ z → output' ≡ patch o at z
then_laid o output output' x y z at next e f n j =
    f ∙ ap (λ (s : List ℕ). patch s next y) e ∙ patch_join o at x y next n ∙ ap (patch o at) j

pub patch_one : (o : List ℕ) (at v : ℕ) → set o at v ≡ patch o at (v ∷ [])
unfolding patch
patch_one o at v = refl

pub laid_long : (o output x : List ℕ) (at : ℕ) → output ≡ patch o at x → length output ≡ length o
unfolding patch
laid_long o output x at e = ap length e ∙ length-sets o at x

-- the bytes of a number, as the library gives them
pub low_first : (k i n : ℕ) → bytes_low_first i k n ≡ bytes_of k (n / 256 ^ i)
unfolding bytes_of
low_first zero i n = refl
low_first (suc k) i n =
    let a : byte_at i n ≡ n / 256 ^ i % 256 = lowest i in
    let b : n / 256 ^ suc i ≡ n / 256 ^ i / 256 = rw pow-suc (sym (div-div-eq-div-mul n (256 ^ i) 256)) in
    rw (a, low_first k (suc i) n, b)
  where
    lowest : (i : ℕ) → byte_at i n ≡ n / 256 ^ i % 256
    lowest zero = rw (pow-zero, div-one) refl
    lowest (suc i) = refl

pub low_bytes : (k n : ℕ) → bytes_low_first 0 k n ≡ bytes_of k n
low_bytes k n = let e : n / 256 ^ 0 ≡ n = rw (pow-zero, div-one) refl in low_first k 0 n ∙ ap (bytes_of k) e

-- the units of the first i + 1
units_join : (us vs : List ℕ) → unit_bytes (us ++ vs) ≡ unit_bytes us ++ unit_bytes vs
unfolding unit_bytes
units_join [] vs = refl
units_join (u ∷ us) vs = ap (λ (s : List ℕ). bytes_of 2 u ++ s) (units_join us vs) ∙ sym (append_assoc (bytes_of 2 u) (unit_bytes us) (unit_bytes vs))

pub bytes_more : (s : List ℕ) (i : ℕ) → i < length s → take i s ++ get_or s i 0 ∷ [] ≡ take (i + 1) s
bytes_more s i h = let e : suc i ≡ i + 1 = omega arith in sym (take-suc s i 0 h) ∙ ap (λ (k : ℕ). take k s) e

pub units_more : (us : List ℕ) (i : ℕ) → i < length us → unit_bytes (take i us) ++ bytes_of 2 (get_or us i 0) ≡ unit_bytes (take (i + 1) us)
unfolding unit_bytes
units_more us i h =
    ap (λ (s : List ℕ). unit_bytes (take i us) ++ s) (sym (append-nil (bytes_of 2 (get_or us i 0))))
    ∙ sym (units_join (take i us) (get_or us i 0 ∷ []))
    ∙ ap unit_bytes (bytes_more us i h)

-- three pieces one behind another, and more
pub three_laid : (o o₁ o₂ o₃ x y z w : List ℕ) (at p q : ℕ) → o₁ ≡ patch o at x → o₂ ≡ patch o₁ p y → o₃ ≡ patch o₂ q z → p ≡ at + length x
    → q ≡ p + length y → (x ++ y) ++ z ≡ w → o₃ ≡ patch o at w
three_laid o o₁ o₂ o₃ x y z w at p q e f g a b j =
    then_laid o o₂ o₃ (x ++ y) z w at q (then_laid o o₁ o₂ x y (x ++ y) at p e f a refl) g (omega (arith, length-append x y)) j

pub four_laid : (o o₁ o₂ o₃ o₄ x y z u w : List ℕ) (at p q r : ℕ) → o₁ ≡ patch o at x → o₂ ≡ patch o₁ p y → o₃ ≡ patch o₂ q z → o₄ ≡ patch o₃ r u
    → p ≡ at + length x → q ≡ p + length y → r ≡ q + length z → ((x ++ y) ++ z) ++ u ≡ w → o₄ ≡ patch o at w
four_laid o o₁ o₂ o₃ o₄ x y z u w at p q r e f g h a b c j =
    then_laid o o₃ o₄ ((x ++ y) ++ z) u w at r (three_laid o o₁ o₂ o₃ x y z ((x ++ y) ++ z) at p q e f g a b refl) h
    (omega (arith, length-append (x ++ y) z, length-append x y)) j

pub five_laid : (o o₁ o₂ o₃ o₄ o₅ x y z u t w : List ℕ) (at p q r s : ℕ) → o₁ ≡ patch o at x → o₂ ≡ patch o₁ p y → o₃ ≡ patch o₂ q z → o₄ ≡ patch o₃ r u
    → o₅ ≡ patch o₄ s t → p ≡ at + length x → q ≡ p + length y → r ≡ q + length z → s ≡ r + length u
    → (((x ++ y) ++ z) ++ u) ++ t ≡ w → o₅ ≡ patch o at w
five_laid o o₁ o₂ o₃ o₄ o₅ x y z u t w at p q r s e f g h i a b c d j =
    then_laid o o₄ o₅ (((x ++ y) ++ z) ++ u) t w at s (four_laid o o₁ o₂ o₃ o₄ x y z u (((x ++ y) ++ z) ++ u) at p q r e f g h a b c refl) i
    (omega (arith, length-append ((x ++ y) ++ z) u, length-append (x ++ y) z, length-append x y)) j
