-- A part of a borrowed slice: its bytes, and where they lie. What is handed back as the very bytes of the caller's file is one.
use Rattle.std.specs.Prelude.{◌≡◌, List, ℕ, ◌+◌, leb, length, take, drop}
use Rattle.std.specs.Borrow.{Bor}
use Rattle.lists.specs.Count.{pick}

-- where a part begins in its slice: at an offset that the slice reaches, and else at the slice's own start, where it is empty
abbrev pub start_in : ℕ → List ℕ → ℕ
start_in at bytes = pick (leb at (length bytes)) at 0

-- `r` is the part of `s` of so many bytes from an offset, or as many of them as there are: its contents, the allocation that it
-- lies in, and its offset there
pub record IsPart (s : Bor (List ℕ)) (at len : ℕ) (r : Bor (List ℕ)) : Type 0 where
  pub contents : r.now ≡ take len (drop at s.now)
  pub allocation : r.ref_ptr.0 ≡ s.ref_ptr.0
  pub offset : r.ref_ptr.1 ≡ s.ref_ptr.1 + start_in at s.now
