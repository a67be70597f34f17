-- REQUEST 110, the text that the program writes from the numbers of the answers, a buffer at a time.
use Rattle.std.specs.Prelude.{◌≡◌, ℕ, zero, suc, ◌+◌, ◌-◌, ◌*◌, Bool, ◌||◌, List, [], ◌∷◌, ◌++◌, length, drop, ◌==◌, nat_le, slice_index}
use Rattle.lists.specs.Count.{pick}
use Rattle.digits.specs.Hex.{hex_digits}
use Rattle.text.specs.Ascii.{ascii}
use Rattle.replay_input.specs.declared.Written.{Written}

-- the answer of start i is none: its first number is 0, or it is past the end
abbrev pub is_none : List ℕ → ℕ → Bool
is_none answers i = nat_le (length answers) (4 * i + 3) || slice_index answers (4 * i) == 0

-- its line
unfoldable pub answer_line : List ℕ → ℕ → List ℕ
answer_line answers i =
    pick (is_none answers i) (ascii "none\n")
    (hex_digits 16 (slice_index answers (4 * i + 1))
    ++ (hex_digits 2 (slice_index answers (4 * i + 2)) ++ (hex_digits 4 (slice_index answers (4 * i + 3)) ++ (10 ∷ []))))

-- the lines of n answers from answer k on
unfoldable pub answer_lines : List ℕ → ℕ → ℕ → List ℕ
answer_lines answers k zero = []
answer_lines answers k (suc n) = answer_line answers k ++ answer_lines answers (k + 1) n

-- how many whole lines of n answers from answer k on fit so many bytes
unfoldable pub fitting_lines : List ℕ → ℕ → ℕ → ℕ → ℕ
fitting_lines answers room k zero = 0
fitting_lines answers room k (suc n) =
    pick (nat_le (length (answer_line answers k)) room) (suc (fitting_lines answers (room - length (answer_line answers k)) (k + 1) n)) 0

-- THE PROMISE of `put_answers`: as many whole lines as fit, from answer `from` on and below `starts`; how many bytes they are, and which
-- answer is next. The other bytes stay.
pub record PutsAnswers (answers : List ℕ) (starts from : ℕ) (out : List ℕ) (r : Written) (out' : List ℕ) : Type 0 where
  pub next : r.next ≡ from + fitting_lines answers (length out) from (starts - from)
  pub bytes : r.bytes ≡ length (answer_lines answers from (fitting_lines answers (length out) from (starts - from)))
  pub output : out' ≡ answer_lines answers from (fitting_lines answers (length out) from (starts - from)) ++ drop r.bytes out
