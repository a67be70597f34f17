-- A text that is written into a buffer from a position: the lines of document 01's "Program" are built so, piece after piece.
use Rattle.std.specs.Prelude.{◌≡◌, List, ◌++◌, ℕ, ◌+◌, ◌-◌, length, take, drop}
use Rattle.std.specs.Borrow.{MutBor}
use Rattle.text.specs.declared.Text.{Text}

-- as many of the bytes as the buffer has room for from a position
abbrev pub fitting : List ℕ → ℕ → List ℕ → List ℕ
fitting before at bytes = take (length before - at) bytes

-- THE PROMISE of each function that writes: `r` is the position after the bytes that fit, which stand from `at`; the others stay
pub record Put (before : List ℕ) (at : ℕ) (bytes : List ℕ) (r : ℕ) (after : List ℕ) : Type 0 where
  pub position : r ≡ at + length (fitting before at bytes)
  pub output : after ≡ take at before ++ (fitting before at bytes ++ drop r before)

-- it is the same buffer
abbrev pub Same : MutBor (List ℕ) → MutBor (List ℕ) → Type 0
Same a b = b.ghost_name ≡ a.ghost_name

-- a text that begins at a position of a buffer
pub record Begun (out : MutBor (List ℕ)) (at : ℕ) (t : Text) : Type 0 where
  pub buffer : Same out t.out
  pub bytes : t.out.now ≡ out.now
  pub position : t.at ≡ at

-- the same of a text that grows in its buffer
pub record Puts (before : Text) (bytes : List ℕ) (after : Text) : Type 0 where
  pub buffer : Same before.out after.out
  pub text : Put before.out.now before.at bytes after.at after.out.now
