-- The start lines that some bytes begin with are those of all bytes, whatever comes behind, since a line is seen whole or not at all; and
-- their numbers are stored behind the first ones.
use Rattle.std.proofs.Common.{◌≡◌, ℕ, zero, suc, ◌+◌, ◌-◌, ◌*◌, ◌^◌, ◌<◌, ◌≤◌, List, [], ◌∷◌, ◌++◌, map, length, get_or, take, drop, sym, ap, ◌∙◌, append_assoc, append-nil, arith, length-append, drop-drop, take_at}
use mathlib.Core.List.{map-append}
use lib.ListN.{length-map}
use lib.Seq.{sets, sets-eq, drop-append-le}
use Rattle.lists.proofs.Tests.{by_test}
use Rattle.lines.specs.Lines.{lines_in, is_line, leading}
use Rattle.lines.proofs.Lines.{line_below}
use Rattle.lines.proofs.Leading.{short_no_line, leading_none, leading_fit, leading_front, leading_shown}
use Rattle.readings.specs.Recording.{recorded_from}
use Rattle.replay_input.specs.Starts.{time_in}
use Rattle.replay_input.specs.Input.{InputRead}

-- their times have 64 bits
abbrev pub Small : List (List ℕ) → Type 0
Small [] = Unit
Small (l ∷ ls) = (time_in l < 2 ^ 64) × Small ls

pub small_append : (ls ks : List (List ℕ)) → Small ls → Small ks → Small (ls ++ ks)
small_append [] ks x y = y
small_append (l ∷ ls) ks x y = (x.0, small_append ls ks x.1 y)

pub small_leading : (n : ℕ) (s : List ℕ) → Small (leading 18 n s)
unfolding leading
small_leading zero s = tt
small_leading (suc n) s =
    by_test (is_line 18 (take 19 s))
    (λ e. rw (e, leading) (line_below 18 (take 19 s) e 0 16 (omega arith), small_leading n (drop 19 s))) (λ e. rw (e, leading) tt)

pub small_at : (ls : List (List ℕ)) → Small ls → (i : ℕ) → get_or (map time_in ls) i 0 < 2 ^ 64
small_at [] h i = omega arith
small_at (l ∷ ls) h zero = h.0
small_at (l ∷ ls) h (suc i) = small_at ls h.1 i

-- numbers stored behind the first ones
pub stored : (l : List ℕ) (f : List ℕ → ℕ) (xs ys : List (List ℕ)) → length xs + length ys ≤ length l → take (length xs) l ≡ map f xs
    → take (length (xs ++ ys)) (sets l (length xs) (map f ys)) ≡ map f (xs ++ ys)
stored l f xs ys h q =
    let n = length xs in
    let k : n + length (map f ys) ≤ length l = omega (arith, length-map ys f) in
    let z = drop (n + length (map f ys)) l in
    ap (take (length (xs ++ ys)))
    (sets-eq (map f ys) l n k ∙ ap (λ (x : List ℕ). x ++ map f ys ++ z) q ∙ ap (λ (x : List ℕ). x ++ z) (sym (map-append f xs ys)))
    ∙ take_at (map f (xs ++ ys)) z (length (xs ++ ys)) (length-map (xs ++ ys) f)

-- ---- the input from some bytes on

-- behind the starts ls come the bytes s, which begin with the starts ks
abbrev from : List (List ℕ) → List (List ℕ) → List ℕ → InputRead
from ls ks s = record { starts = ls ++ ks; recording = recorded_from (length (ls ++ ks) + 1) (lines_in (drop (19 * length ks) s)) }

from_none : (ls : List (List ℕ)) (s : List ℕ) → record { starts = ls; recording = recorded_from (length ls + 1) (lines_in s) } ≡ from ls [] s
from_none ls s = rw (append-nil ls)

from_more : (ls ks js : List (List ℕ)) (s : List ℕ) → from ls (ks ++ js) s ≡ from (ls ++ ks) js (drop (19 * length ks) s)
from_more ls ks js s =
    let j : 19 * (length ks + length js) ≡ 19 * length ks + 19 * length js = omega arith in
    rw (length-append ks js, j, append_assoc ls ks js, drop-drop (19 * length js) (19 * length ks) s)

-- what comes of them, where s are all the bytes from there on
abbrev pub onward : ℕ → List (List ℕ) → List ℕ → InputRead
onward most ls s = from ls (leading 18 (most - length ls) s) s

-- the starts that the bytes begin with, and what comes behind them
abbrev pub starts_in : ℕ → List (List ℕ) → List ℕ → List (List ℕ)
starts_in most ls s = leading 18 (most - length ls) s

abbrev pub behind : ℕ → List (List ℕ) → List ℕ → List ℕ
behind most ls s = drop (19 * length (starts_in most ls s)) s

module _ (most : ℕ) (ls : List (List ℕ)) (s x : List ℕ) where
  abbrev ks : List (List ℕ)
  ks = starts_in most ls s

  abbrev rest : List ℕ
  rest = behind most ls s

  pub more_is : onward most (ls ++ ks) (rest ++ x) ≡ onward most ls (s ++ x)
  more_is =
      let n = most - length ls in
      let i : most - length (ls ++ ks) ≡ n - length ks = omega (arith, length-append ls ks) in
      ap (λ (k : ℕ). from (ls ++ ks) (leading 18 k (rest ++ x)) (rest ++ x)) i
      ∙ sym
      (ap (λ (js : List (List ℕ)). from ls js (s ++ x)) (leading_front 18 n s x)
      ∙ from_more ls ks (leading 18 (n - length ks) (rest ++ x)) (s ++ x)
      ∙ ap (from (ls ++ ks) (leading 18 (n - length ks) (rest ++ x))) (drop-append-le (19 * length ks) s x (leading_fit 18 n s)))

  -- enough bytes are left to see that no start comes
  pub recording_is : 19 ≤ length rest
      → record { starts = ls ++ ks; recording = recorded_from (length (ls ++ ks) + 1) (lines_in (rest ++ x)) } ≡ onward most ls (s ++ x)
  recording_is h =
      let n = most - length ls in
      let i : most - length (ls ++ ks) ≡ n - length ks = omega (arith, length-append ls ks) in
      from_none (ls ++ ks) (rest ++ x)
      ∙ ap (λ (js : List (List ℕ)). from (ls ++ ks) js (rest ++ x)) (sym (leading_shown 18 n s x h) ∙ ap (λ (k : ℕ). leading 18 k (rest ++ x)) (sym i))
      ∙ more_is

pub none_is : (most : ℕ) (ls : List (List ℕ)) (s : List ℕ) → length s < 19
    → record { starts = ls; recording = recorded_from (length ls + 1) (lines_in s) } ≡ onward most ls s
none_is most ls s h = from_none ls s ∙ ap (λ (js : List (List ℕ)). from ls js s) (sym (leading_none 18 (most - length ls) s (short_no_line 18 s h)))
