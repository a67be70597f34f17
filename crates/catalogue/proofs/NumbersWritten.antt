-- Four numbers and a line feed, written one behind the other: each leaves a front that is done and the rest as it was.
use mathlib.Core.Path.{◌≡◌, refl, sym, ap, ◌∙◌}
use mathlib.Core.List.{List, [], ◌∷◌, ◌++◌, append_assoc}
use Prim.Native.Nat.{ℕ, suc, ◌+◌, ◌≤◌, ◌<◌}
use native.Mathlib.Omega.{arith}
use lib.ListN.{length, get_or, take, drop, set, length-append, length-drop}
use lib.Seq.{take_at, drop_at, drop-drop, take_all, drop-cons, set_at}
use Rattle.digits.specs.Hex.{hex_digits, written}
use Rattle.digits.proofs.Hex.{length_digits}
use Rattle.digits.proofs.Laws.{written_fits}
use Rattle.catalogue.specs.declared.Fields.{Fields}
use Rattle.catalogue.specs.Line.{line_of}

-- an output that starts with `front`, up to `at`, and from there is as the output o was
record Begun (o front : List ℕ) (at : ℕ) (s : List ℕ) : Type 0 where
  size : length front ≡ at
  bytes : s ≡ front ++ drop at o

-- a number written there
begun_number : (o front : List ℕ) (at : ℕ) (s : List ℕ) (k x end : ℕ) (t : List ℕ) → Begun o front at s → at + k ≡ end → end ≤ length o
    → t ≡ written s at k x
    → Begun o (front ++ hex_digits k x) end t
begun_number o front at s k x end t b e l h =
    let ds = hex_digits k x in
    let n : length s ≡ length o = rw (b.bytes, length-append front (drop at o), length-drop at o) (omega (arith, b.size)) in
    let m : length ds ≡ k = length_digits k x in
    let f : take at s ≡ front = rw b.bytes (take_at front (drop at o) at b.size) in
    let g : drop (at + k) s ≡ drop end o =
    sym (drop-drop k at s)
    ∙ ap (drop k) (rw b.bytes (drop_at front (drop at o) at b.size))
    ∙ drop-drop k at o
    ∙ ap (λ (i : ℕ). drop i o) e in
    record {
      size = rw (length-append front ds, b.size, m) e;
      bytes = h ∙ written_fits s at k x (omega arith) ∙ rw (f, take_all k ds (omega arith), g);
    }

-- a byte written there
begun_byte : (o front : List ℕ) (at : ℕ) (s : List ℕ) (x : ℕ) → Begun o front at s → at < length o → set s at x ≡ front ++ (x ∷ drop (suc at) o)
begun_byte o front at s x b l = rw (b.bytes, drop-cons o at 0 l) (set_at front (get_or o at 0) (drop (suc at) o) x at b.size)

-- what the four numbers and the line feed leave of an output
pub line_written : (w : ℕ) (f : Fields) (o a b c d : List ℕ) → w + 19 ≤ length o
    → a ≡ written o 0 w f.size
    → b ≡ written a w 8 f.hash
    → c ≡ written b (w + 8) 8 f.runs
    → d ≡ written c (w + 16) 2 f.version
    → set d (w + 18) 10 ≡ line_of w f ++ drop (w + 19) o
unfolding line_of
line_written w f o a b c d l wa wb wc wd =
    let start : Begun o [] 0 o = record { size = refl; bytes = refl } in
    let size = begun_number o _ 0 o w f.size w a start (omega arith) (omega arith) wa in
    let hash = begun_number o _ w a 8 f.hash (w + 8) b size (omega arith) (omega arith) wb in
    let runs = begun_number o _ (w + 8) b 8 f.runs (w + 16) c hash (omega arith) (omega arith) wc in
    let all = begun_number o _ (w + 16) c 2 f.version (w + 18) d runs (omega arith) (omega arith) wd in
    let e : suc (w + 18) ≡ w + 19 = omega arith in
    begun_byte o _ (w + 18) d 10 all (omega arith) ∙ rw e (simp append_assoc)
