-- A part of a list, where the list ends before it, within it and after it.
use mathlib.Core.Path.{◌≡◌, sym, ap, ◌∙◌}
use mathlib.Core.List.{List, [], ◌∷◌}
use Prim.Native.Nat.{ℕ, zero, suc, ◌+◌, ◌-◌, ◌≤◌, ◌<◌}
use native.Mathlib.Nat.{zero-add, suc-add, add-zero}
use borrow.Author.Tests.{le-leb, lt-leb}
use denote.Ref.{Bor}
use native.Mathlib.Omega.{arith}
use lib.ListN.{length, take, drop, length-drop, drop_of_length-le}
use lib.Seq.{take_all, take-nil, take-take, drop-drop}
use Rattle.lists.specs.Part.{IsPart}

pub part_none : (b : List ℕ) (at len : ℕ) → length b ≤ at → [] ≡ take len (drop at b)
part_none b at len h = rw (drop_of_length-le b h) (sym (take-nil len))

pub part_rest : (b : List ℕ) (at len : ℕ) → length b - at ≤ len → take (length b - at) (drop at b) ≡ take len (drop at b)
part_rest b at len h =
    let e : length (drop at b) ≡ length b - at = length-drop at b in
    take_all (length b - at) (drop at b) (omega arith) ∙ sym (take_all len (drop at b) (omega arith))

pub part-whole : (b : List ℕ) (at len : ℕ) → take (at + len - at) (drop at b) ≡ take len (drop at b)
part-whole b at len =
    let e : at + len - at ≡ len = omega arith in
    rw e

pub drop-take : (a n : ℕ) (l : List ℕ) → drop a (take (a + n) l) ≡ take n (drop a l)
drop-take zero n l = rw zero-add
drop-take (suc a) n [] = rw (suc-add, take-nil n)
drop-take (suc a) n (x ∷ l) = rw suc-add (drop-take a n l)

-- a part of a part
pub part-part : (b : List ℕ) (start size at len : ℕ) → at + len ≤ size → take len (drop at (take size (drop start b))) ≡ take len (drop (start + at) b)
part-part b start size at len h =
    let e : size ≡ at + (size - at) = omega arith in
    let d : drop at (take size (drop start b)) ≡ take (size - at) (drop at (drop start b)) =
    ap (λ (n : ℕ). drop at (take n (drop start b))) e ∙ drop-take at (size - at) (drop start b) in
    rw (d, drop-drop at start b) (take-take len (size - at) (drop (start + at) b) (omega arith))

-- the three ways to make one: past the end, up to the end, and within
module _ (s r : Bor (List ℕ)) (at len : ℕ) (block : r.ref_ptr.0 ≡ s.ref_ptr.0) where
  pub is_part_none : length s.now < at → r.now ≡ [] → r.ref_ptr.1 ≡ s.ref_ptr.1 → IsPart s at len r
  is_part_none h e o =
      record {
        contents = e ∙ part_none s.now at len (omega arith);
        allocation = block;
        offset = o ∙ rw (lt-leb at (length s.now) h) (sym (add-zero s.ref_ptr.1));
      }

  pub is_part_rest : at ≤ length s.now → length s.now - at ≤ len → r.now ≡ take (length s.now - at) (drop at s.now)
      → r.ref_ptr.1 ≡ s.ref_ptr.1 + at → IsPart s at len r
  is_part_rest h l e o =
      record { contents = e ∙ part_rest s.now at len l; allocation = block; offset = o ∙ rw (le-leb at (length s.now) h) }

  pub is_part_whole : at ≤ length s.now → r.now ≡ take (at + len - at) (drop at s.now) → r.ref_ptr.1 ≡ s.ref_ptr.1 + at → IsPart s at len r
  is_part_whole h e o =
      record { contents = e ∙ part-whole s.now at len; allocation = block; offset = o ∙ rw (le-leb at (length s.now) h) }
