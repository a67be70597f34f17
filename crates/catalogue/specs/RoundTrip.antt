-- A line that is written reads back equal, a new line that reads is the one that writing its fields gives, and an old line that reads
-- is written as the new line of equal fields: `round_trip`.
use Rattle.std.specs.Prelude.{◌≡◌, List, ℕ, ◌≤◌, ◌<◌, ◌^◌, length, take, drop, Result, Ok, Err}
use Rattle.catalogue.specs.declared.Fields.{Fields}
use Rattle.catalogue.specs.declared.NoLine.{NoLine}
use Rattle.catalogue.specs.declared.Unwritten.{Unwritten}
use Rattle.catalogue.specs.Line.{line_of, reading, read_answer, Writing}

-- The stored hash and the run count fit 32 bits. The code's types give this to each call of `write_line`: both are a `u32`. In a
-- definition they are plain numbers, and a larger one would lose its upper digits. A size and a version that form a line fit theirs.
pub record Sized (f : Fields) : Type 0 where
  pub hash : f.hash < 2 ^ 32
  pub runs : f.runs < 2 ^ 32

-- ---- the same of the two calls

-- a line was written: the output's first 27 bytes are the line and the others as before
pub record Rewritten (s before : List ℕ) (w : Result (Unit {0}) Unwritten) (after : List ℕ) : Type 0 where
  pub written : w ≡ Ok tt
  pub line : take 27 after ≡ s
  pub rest : drop 27 after ≡ drop 27 before

-- the old line s of the fields f was written: as the new line of these fields, which reads as s did
pub record Renewed (s : List ℕ) (f : Fields) (before : List ℕ) (w : Result (Unit {0}) Unwritten) (after : List ℕ) : Type 0 where
  pub rewritten : Rewritten (line_of 8 f) before w after
  pub reads_equal : reading (take 27 after) ≡ reading s

-- THE ROUND TRIP, from nothing but what `write_line` and `read_line` promise
pub record RoundTrip : Type 0 where
  -- a line that was written reads back with equal fields
  pub reads_back : (f : Fields) (before after : List ℕ) (r : Result Fields NoLine)
      → Sized f
      → Writing f before (Ok tt) after
      → read_answer r ≡ reading (take 27 after)
      → r ≡ Ok f
  -- a new line that reads is the one that its fields give when they are written, which is not refused where there is room
  pub writes_again : (s : List ℕ) (f : Fields) (before : List ℕ) (w : Result (Unit {0}) Unwritten) (after : List ℕ)
      → length s ≡ 27
      → read_answer (Ok f) ≡ reading s
      → 27 ≤ length before
      → Writing f before w after
      → Rewritten s before w after
  -- an old line that reads, written where there is room, comes out as the new line of equal fields
  pub renewed : (s : List ℕ) (f : Fields) (before : List ℕ) (w : Result (Unit {0}) Unwritten) (after : List ℕ)
      → length s ≡ 25
      → read_answer (Ok f) ≡ reading s
      → 27 ≤ length before
      → Writing f before w after
      → Renewed s f before w after
  -- fields that are refused for another reason than room are those of no line
  pub refused_unread : (s : List ℕ) (f : Fields) (before : List ℕ) (e : Unwritten) (after : List ℕ)
      → 27 ≤ length before
      → Writing f before (Err e) after
      → read_answer (Ok f) ≡ reading s
      → ⊥
