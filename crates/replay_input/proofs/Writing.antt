-- The lines written, a buffer at a time, are those of all answers; and those of a replay's answers are the best readings' lines.
use Rattle.std.proofs.Common.{◌≡◌, ℕ, zero, suc, ◌+◌, ◌-◌, ◌*◌, ◌/◌, ◌%◌, ◌<◌, ◌≤◌, leb, List, [], ◌∷◌, ◌++◌, map, length, get_or, take, drop, sym, refl, ap, ◌∙◌, arith, length-append, take_at}
use lib.ListN.{length-map, get_or-append, get_or-map}
use Rattle.lists.specs.Table.{tabulate}
use Rattle.lists.proofs.Tests.{by_test}
use Rattle.lists.proofs.Table.{length-tabulate, get_or_tabulate, get_or_any}
use Rattle.readings.specs.Recording.{Recorded}
use Rattle.readings.specs.Replay.{Best, none, one, answer_numbers, answer_for, place_of}
use Rattle.replay_input.specs.Starts.{time_in, board_in}
use Rattle.replay_input.specs.Input.{best_line, best_lines}
use Rattle.replay_input.specs.Text.{answer_line, answer_lines, fitting_lines}
use Rattle.replay_input.specs.Program.{WritesFrom}
use Rattle.replay_input.proofs.Text.{held_zero, held_some, line_none, line_held, lines_split}

-- ---- a buffer at a time

fitting_few : (a : List ℕ) (room k n : ℕ) → fitting_lines a room k n ≤ n
unfolding fitting_lines
fitting_few a room k zero = omega arith
fitting_few a room k (suc n) =
    let h = fitting_few a (room - length (answer_line a k)) (k + 1) n in
    by_test (leb (length (answer_line a k)) room) (λ q. rw (q, fitting_lines) (omega arith)) (λ q. rw (q, fitting_lines) (omega arith))

pub writes_lines : (a : List ℕ) (starts k : ℕ) (buffer : List ℕ) (afters : List (List ℕ)) (output : List ℕ) → WritesFrom a starts k buffer afters output
    → output ≡ answer_lines a k (starts - k)
unfolding WritesFrom answer_lines
writes_lines a starts k buffer [] output w = let z : starts - k ≡ 0 = omega (arith, w.0) in w.1 ∙ sym (ap (answer_lines a k) z)
writes_lines a starts k buffer (after ∷ afters) output w =
    let r = w.0 in
    let more = w.1 in
    let p = w.3 in
    let f = fitting_lines a (length buffer) k (starts - k) in
    let l = fitting_few a (length buffer) k (starts - k) in
    let front : take r.bytes after ≡ answer_lines a k f =
    ap (take r.bytes) p.output ∙ take_at (answer_lines a k f) (drop r.bytes buffer) r.bytes (sym p.bytes) in
    let rest : more ≡ answer_lines a r.next (starts - r.next) = writes_lines a starts r.next after afters more w.5 in
    let i : starts - r.next ≡ starts - k - f = omega (arith, p.next) in
    let j : f + (starts - k - f) ≡ starts - k = omega arith in
    w.4
    ∙ ap (λ (x : List ℕ). x ++ more) front
    ∙ ap (λ (x : List ℕ). answer_lines a k f ++ x) (rest ∙ ap (answer_lines a r.next) i ∙ ap (λ (n : ℕ). answer_lines a n (starts - k - f)) p.next)
    ∙ sym (lines_split a k f (starts - k - f))
    ∙ ap (answer_lines a k) j

-- ---- the best readings' lines

-- an answer's line, of its four numbers
line-best : (a : List ℕ) (i : ℕ) (b : Best) → 4 * i + 3 < length a → ((j : ℕ) → j < 4 → get_or a (4 * i + j) 0 ≡ get_or (answer_numbers b) j 0)
    → answer_line a i ≡ best_line b
unfolding best_line
line-best a i none l h =
    let e : 4 * i ≡ 4 * i + 0 = omega arith in
    sym (line_none a i (sym (held_zero a i l (ap (λ (k : ℕ). get_or a k 0) e ∙ h 0 (omega arith)))))
line-best a i (one r) l h =
    let e : 4 * i ≡ 4 * i + 0 = omega arith in
    let f : get_or a (4 * i) 0 ≡ 1 = ap (λ (k : ℕ). get_or a k 0) e ∙ h 0 (omega arith) in
    sym (line_held a i _ (sym (held_some a i l (λ z. omega (arith, f))))) ∙ rw (h 1 (omega arith), h 2 (omega arith), h 3 (omega arith))

-- the start at place i of some lines
abbrev answer_in : Recorded → List (List ℕ) → ℕ → Best
answer_in rec ls i = answer_for rec (time_in (get_or ls i [])) (board_in (get_or ls i []))

lines_from : (rec : Recorded) (ls : List (List ℕ)) (a : List ℕ) (k : ℕ) → ((i : ℕ) → i < length ls → answer_line a (k + i) ≡ best_line (answer_in rec ls i))
    → answer_lines a k (length ls) ≡ best_lines rec ls
unfolding answer_lines best_lines
lines_from rec [] a k h = refl
lines_from rec (l ∷ ls) a k h =
    let e : k ≡ k + 0 = omega arith in
    ap (λ (x : List ℕ). x ++ answer_lines a (k + 1) (length ls)) (ap (answer_line a) e ∙ h 0 (omega arith))
    ∙ ap (λ (x : List ℕ). best_line (answer_for rec (time_in l) (board_in l)) ++ x)
    (lines_from rec ls a (k + 1) (λ i m. let f : k + 1 + i ≡ k + suc i = omega arith in ap (answer_line a) f ∙ h (suc i) (omega arith)))

map_at : (f : List ℕ → ℕ) (ls : List (List ℕ)) (i : ℕ) → i < length ls → get_or (map f ls) i 0 ≡ f (get_or ls i [])
map_at f ls i l = get_or_any (map f ls) i 0 (f []) (omega (arith, length-map ls f)) ∙ get_or-map f ls i []

pub lines_best : (rec : Recorded) (ls : List (List ℕ)) (x : List ℕ)
    → answer_lines (tabulate (4 * length ls) (place_of rec (map time_in ls) (map board_in ls)) ++ x) 0 (length ls) ≡ best_lines rec ls
unfolding place_of
lines_best rec ls x = lines_from rec ls a 0 at
  where
    n : ℕ
    n = length ls

    t : List ℕ
    t = tabulate (4 * n) (place_of rec (map time_in ls) (map board_in ls))

    a : List ℕ
    a = t ++ x

    long : length t ≡ 4 * n
    long = length-tabulate (4 * n) (place_of rec (map time_in ls) (map board_in ls))

    number : (i : ℕ) → i < n → (j : ℕ) → j < 4 → get_or a (4 * i + j) 0 ≡ get_or (answer_numbers (answer_in rec ls i)) j 0
    number i l j m =
        let q : (4 * i + j) / 4 ≡ i = omega arith in
        let r : (4 * i + j) % 4 ≡ j = omega arith in
        get_or-append t x 0 (4 * i + j) (omega (arith, long))
        ∙ get_or_tabulate (4 * n) (place_of rec (map time_in ls) (map board_in ls)) (4 * i + j) 0 (omega arith)
        ∙ rw (q, r, map_at time_in ls i l, map_at board_in ls i l)

    at : (i : ℕ) → i < n → answer_line a (0 + i) ≡ best_line (answer_in rec ls i)
    at i l =
        let e : 0 + i ≡ i = omega arith in
        ap (answer_line a) e ∙ line-best a i (answer_in rec ls i) (omega (arith, long, length-append t x)) (number i l)
