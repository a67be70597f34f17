-- Eight bytes of one number, joined in lanes, take the eight-number step.
use Rattle.std.proofs.Common.{◌≡◌, ℕ, ◌+◌, ◌-◌, ◌*◌, ◌/◌, ◌%◌, ◌^◌, ◌<◌, List, get_or, take, ap, ◌∙◌, arith, lit<, get_or-take}
use lib.Bits.{bit_and, and_block, and_le_r, and_mask}
use lib.Pow.{low}
use Rattle.std.specs.Int.{w64, from_le_bytes}
use Rattle.path_hash.specs.Hash.{eight_sum, eight, eight_at}
use Rattle.path_hash.proofs.Laws.{same-mod, wrap_add, eight_first}

-- a mask keeps the lower half of the lowest lane
lane : (k e o w m : ℕ) → e < 2 ^ k → o * 2 ^ k + e < 2 ^ (k + k) → 2 ^ k - 1 < 2 ^ (k + k)
    → bit_and (w * 2 ^ (k + k) + (o * 2 ^ k + e)) (m * 2 ^ (k + k) + (2 ^ k - 1)) ≡ bit_and w m * 2 ^ (k + k) + e
lane k e o w m l h j =
    and_block (k + k) w m (o * 2 ^ k + e) (2 ^ k - 1) h j
    ∙ ap (λ (n : ℕ). bit_and w m * 2 ^ (k + k) + n) (and_mask (o * 2 ^ k + e) k ∙ low o k l)

-- four lanes of 16 bits, and two of 32
lanes_16 : (a b c d p q r s : ℕ) → a < 256 → b < 256 → c < 256 → d < 256 → p < 256 → q < 256 → r < 256
    → bit_and ((((s * 256 + r) * 65536 + (q * 256 + p)) * 65536 + (d * 256 + c)) * 65536 + (b * 256 + a)) 71777214294589695
    ≡ ((r * 65536 + p) * 65536 + c) * 65536 + a
lanes_16 a b c d p q r s la lb lc ld lp lq lr =
    lane 8 a b (((s * 256 + r) * 65536 + (q * 256 + p)) * 65536 + (d * 256 + c)) 1095233372415 la (omega arith) (lit< tt)
    ∙ ap (λ (n : ℕ). n * 65536 + a)
    (lane 8 c d ((s * 256 + r) * 65536 + (q * 256 + p)) 16711935 lc (omega arith) (lit< tt)
    ∙ ap (λ (n : ℕ). n * 65536 + c)
    (lane 8 p q (s * 256 + r) 255 lp (omega arith) (lit< tt) ∙ ap (λ (n : ℕ). n * 65536 + p) (and_mask (s * 256 + r) 8 ∙ low s 8 lr)))

lanes_32 : (a b c d : ℕ) → a < 65536 → b < 65536 → c < 65536
    → bit_and ((d * 65536 + c) * 4294967296 + (b * 65536 + a)) 281470681808895 ≡ c * 4294967296 + a
lanes_32 a b c d la lb lc =
    lane 16 a b (d * 65536 + c) 65535 la (omega arith) (lit< tt)
    ∙ ap (λ (n : ℕ). n * 4294967296 + a) (and_mask (d * 65536 + c) 16 ∙ low d 16 lc)

-- what the code makes of a number of eight bytes
abbrev pub pairs_of : ℕ → ℕ
pairs_of x = 37 * bit_and x 71777214294589695 + bit_and (x / 256) 71777214294589695

abbrev pub fours_of : ℕ → ℕ
fours_of y = 1369 * bit_and y 281470681808895 + bit_and (y / 65536) 281470681808895

abbrev pub step_of : ℕ → ℕ → ℕ
step_of h z = (3491173089 * h + 1874161 * (z % 2 ^ 32) + z / 2 ^ 32) % 2 ^ 32

pub pairs_fit : (x : ℕ) → pairs_of x < 2 ^ 64
pairs_fit x = omega (arith, and_le_r x 71777214294589695, and_le_r (x / 256) 71777214294589695)

pub fours_fit : (y : ℕ) → fours_of y < 2 ^ 64
fours_fit y = omega (arith, and_le_r y 281470681808895, and_le_r (y / 65536) 281470681808895)

module _ (a b c d p q r s : ℕ) (la : a < 256) (lb : b < 256) (lc : c < 256) (ld : d < 256) (lp : p < 256) (lq : q < 256) (lr : r < 256) (ls : s < 256) where
  pairs : (x : ℕ) → x ≡ a + 256 * (b + 256 * (c + 256 * (d + 256 * (p + 256 * (q + 256 * (r + 256 * s))))))
      → pairs_of x ≡ ((37 * r + s) * 65536 + (37 * p + q)) * 4294967296 + ((37 * c + d) * 65536 + (37 * a + b))
  pairs x e =
      let y : x ≡ (((s * 256 + r) * 65536 + (q * 256 + p)) * 65536 + (d * 256 + c)) * 65536 + (b * 256 + a) = omega arith in
      let z : x / 256 ≡ (((0 * 256 + s) * 65536 + (r * 256 + q)) * 65536 + (p * 256 + d)) * 65536 + (c * 256 + b) = omega arith in
      let u : bit_and x 71777214294589695 ≡ ((r * 65536 + p) * 65536 + c) * 65536 + a = rw y (lanes_16 a b c d p q r s la lb lc ld lp lq lr) in
      let v : bit_and (x / 256) 71777214294589695 ≡ ((s * 65536 + q) * 65536 + d) * 65536 + b = rw z (lanes_16 b c d p q r s 0 lb lc ld lp lq lr ls) in
      omega arith

  fours : (y : ℕ) → y ≡ ((37 * r + s) * 65536 + (37 * p + q)) * 4294967296 + ((37 * c + d) * 65536 + (37 * a + b))
      → fours_of y ≡ (37 ^ 3 * a + 37 ^ 2 * b + 37 * c + d) + 2 ^ 32 * (37 ^ 3 * p + 37 ^ 2 * q + 37 * r + s)
  fours y e =
      let z : y / 65536 ≡ (0 * 65536 + (37 * r + s)) * 4294967296 + ((37 * p + q) * 65536 + (37 * c + d)) = omega arith in
      let u : bit_and y 281470681808895 ≡ (37 * p + q) * 4294967296 + (37 * a + b) =
      rw e (lanes_32 (37 * a + b) (37 * c + d) (37 * p + q) (37 * r + s) (omega arith) (omega arith) (omega arith)) in
      let v : bit_and (y / 65536) 281470681808895 ≡ (37 * r + s) * 4294967296 + (37 * c + d) =
      rw z (lanes_32 (37 * c + d) (37 * p + q) (37 * r + s) 0 (omega arith) (omega arith) (omega arith)) in
      omega arith

  -- 37 ^ 8 is 3491173089, and 37 ^ 7 is 442596621, modulo 2 ^ 32
  stepped : (h z : ℕ) → z ≡ (37 ^ 3 * a + 37 ^ 2 * b + 37 * c + d) + 2 ^ 32 * (37 ^ 3 * p + 37 ^ 2 * q + 37 * r + s)
      → step_of h z ≡ eight h a b c d p q r s
  unfolding eight eight_sum
  stepped h z e =
      let u : z % 2 ^ 32 ≡ 37 ^ 3 * a + 37 ^ 2 * b + 37 * c + d = omega arith in
      let v : z / 2 ^ 32 ≡ 37 ^ 3 * p + 37 ^ 2 * q + 37 * r + s = omega arith in
      rw (u, v, wrap_add)
      (same-mod
      (3491173089 * h + 1874161 * (37 ^ 3 * a + 37 ^ 2 * b + 37 * c + d) + (37 ^ 3 * p + 37 ^ 2 * q + 37 * r + s))
      (37 ^ 8 * h + eight_sum a b c d p q r s)
      (817 * h) (22 * a) (omega arith))

le-eight : (s : List ℕ)
    → from_le_bytes w64 s
    ≡ get_or s 0 0
    + 256 * (get_or s 1 0 + 256 * (get_or s 2 0 + 256 * (get_or s 3 0 + 256 * (get_or s 4 0 + 256 * (get_or s 5 0 + 256 * (get_or s 6 0 + 256 * get_or s 7 0))))))
le-eight s = omega arith

-- THE FIRST EIGHT BYTES OF A TEXT TAKE THE EIGHT-NUMBER STEP
pub text_eight : (s t : List ℕ) (h : ℕ) → ((k : ℕ) → get_or s k 0 < 256) → t ≡ take 8 s
    → step_of h (fours_of (pairs_of (from_le_bytes w64 t))) ≡ eight_at h s 0
text_eight s t h fits e =
    let l : (k : ℕ) → k < 8 → get_or t k 0 < 256 = λ k j. rw (e, get_or-take 8 s k 0 j) (fits k) in
    let a = l 0 (lit< tt) in
    let b = l 1 (lit< tt) in
    let c = l 2 (lit< tt) in
    let d = l 3 (lit< tt) in
    let p = l 4 (lit< tt) in
    let q = l 5 (lit< tt) in
    let r = l 6 (lit< tt) in
    let o = l 7 (lit< tt) in
    stepped _ _ _ _ _ _ _ _ a b c d p q r o h _ (fours _ _ _ _ _ _ _ _ a b c d p q r o _ (pairs _ _ _ _ _ _ _ _ a b c d p q r o _ (le-eight t)))
    ∙ eight_first s t h e
