-- THE PROGRAM: however its input is cut, it writes the output of the whole. The end of a run gives the answers, whose lines are the best
-- readings', or the refusal, which the buffer has room for.
use Rattle.std.proofs.Common.{◌≡◌, ℕ, suc, ◌+◌, ◌-◌, ◌*◌, ◌^◌, ◌<◌, ◌≤◌, min, Bool, true, false, eqb, List, [], ◌∷◌, ◌++◌, map, length, take, drop, refl, ap, ◌∙◌, arith, length-append, length-drop, length-take-le, Result, Ok, Err}
use Rattle.lists.specs.Answer.{Said}
use Rattle.lists.specs.Count.{pick}
use Rattle.lists.proofs.Tests.{never}
use Rattle.lists.specs.Table.{tabulate}
use Rattle.lines.specs.Lines.{lead, lines_in, is_line, leading}
use Rattle.lines.proofs.Leading.{leading_fit}
use Rattle.text.specs.Ascii.{ascii}
use Rattle.text.specs.Decimal.{decimal}
use Rattle.text.proofs.Decimal.{decimal_short}
use Rattle.text.proofs.Growth.{put_whole}
use Rattle.readings.specs.declared.BadLine.{BadLine}
use Rattle.readings.specs.Recording.{Recorded, readings, bad_line, before, reading_in, recorded_from}
use Rattle.readings.specs.Replay.{place_of, said_of, saying_of}
use Rattle.readings.specs.Feeding.{joined}
use Rattle.replay_input.specs.declared.steps.Input.{Input}
use Rattle.replay_input.specs.Starts.{time_in, board_in}
use Rattle.replay_input.specs.Input.{InputRead, input_of, refused_line, output_for, output_of}
use Rattle.replay_input.specs.Text.{answer_lines}
use Rattle.replay_input.specs.Program.{fitting_stage, nothing_read, Lists, HasRoom, TakesAll, WritesResult, ProgramRuns, Program}
use Rattle.replay_input.proofs.Taking.{bytes_used}
use Rattle.replay_input.proofs.Writing.{writes_lines, lines_best}
use Rattle.replay_input.proofs.StartLines.{onward}
use Rattle.replay_input.proofs.Running.{Starting, runs}

-- ---- the number of a bad line

bad_below : (n : ℕ) (ls : List (List ℕ)) (k : ℕ) → recorded_from n ls ≡ bad_line k → k < n + length ls
unfolding recorded_from
bad_below n [] k e = never cc
bad_below n (x ∷ xs) k e = go (is_line 22 x) (recorded_from (suc n) xs) (bad_below (suc n) xs) e
  where
    go : (t : Bool) (r : Recorded) → ((k : ℕ) → r ≡ bad_line k → k < suc n + length xs) → pick t (before (reading_in x) r) (bad_line n) ≡ bad_line k
        → k < n + suc (length xs)
    go true (readings us) ih e = never cc
    go true (bad_line j) ih e = omega (arith, ih k e)
    go false r ih e = let z : n ≡ k = cc in omega arith

-- there are no more lines than bytes
lines_few : (s : List ℕ) → length (lines_in s) ≤ length s
unfolding lines_in
lines_few [] = omega arith
lines_few (b ∷ s) = go (eqb b 10) (lines_in s) (lines_few s)
  where
    go : (t : Bool) (ls : List (List ℕ)) → length ls ≤ length s → length (pick t ((b ∷ []) ∷ ls) (lead b ls)) ≤ suc (length s)
    go true ls h = omega arith
    go false [] h = omega arith
    go false (l ∷ ls) h = omega arith

refused_size : (n : ℕ) → n < 10 ^ 20 → length (refused_line n) ≤ 32
unfolding refused_line
refused_size n l =
    let a : length (ascii "refused 22 ") ≡ 11 = refl in
    omega (arith, a, decimal_short 19 n l, length-append (ascii "refused 22 ") (decimal n ++ (10 ∷ [])), length-append (decimal n) (10 ∷ []))

-- ---- what is written

module _ (ls : List (List ℕ)) (starts : ℕ) (given buffer : List ℕ) (afters : List (List ℕ)) (output : List ℕ) (s : starts ≡ length ls)
    (room : 32 ≤ length buffer) where
  writes_output : (r : Result Unit BadLine) (rec : Recorded) → said_of r ≡ saying_of rec → (x : List ℕ)
      → given ≡ tabulate (4 * length ls) (place_of rec (map time_in ls) (map board_in ls)) ++ x → ((n : ℕ) → rec ≡ bad_line n → n < 10 ^ 20)
      → WritesResult r starts given buffer afters output → output ≡ output_for ls rec
  writes_output (Ok _) (readings rs) e x g b w =
      let i : starts - 0 ≡ length ls = omega arith in
      writes_lines given starts 0 buffer afters output w
      ∙ ap (answer_lines given 0) i
      ∙ ap (λ (a : List ℕ). answer_lines a 0 (length ls)) g
      ∙ lines_best (readings rs) ls x
  writes_output (Ok _) (bad_line n) e x g b w = absurd (omega (arith, ap (λ (y : Said). y.number) e))
  writes_output (Err line) (readings rs) e x g b w = absurd (omega (arith, ap (λ (y : Said). y.number) e))
  writes_output (Err line) (bad_line n) e x g b w =
      let v : ◌≡◌ {A = List ℕ} (line.number ∷ []) (n ∷ []) = ap (λ (y : Said). y.values) e in
      let z : line.number ≡ n = cc in
      let i : w.0 ≡ w.0 - 0 = omega arith in
      w.3
      ∙ ap (λ (k : ℕ). take k w.1) i
      ∙ put_whole buffer 0 (refused_line line.number) w.0 w.1 w.2 (omega arith) (omega (arith, room, refused_size line.number (rw z (b n refl))))
      ∙ ap refused_line z

-- nothing has been taken: the whole input is to come
whole_is : (most : ℕ) (s : List ℕ) → onward most [] s ≡ input_of most s
unfolding input_of
whole_is most s = let i : most - 0 ≡ most = omega arith in rw i

line-fits : (most : ℕ) (s : List ℕ) (n : ℕ) → length s < 2 ^ 64 → (onward most [] s).recording ≡ bad_line n → n < 10 ^ 20
line-fits most s n b e =
    let ls = leading 18 (most - 0) s in
    let y = drop (19 * length ls) s in
    omega (arith, b, bad_below (length ls + 1) (lines_in y) n e, lines_few y, length-drop (19 * length ls) s, leading_fit 18 (most - 0) s)

writes : (most : ℕ) (l : Lists) (ps : List (List ℕ)) (output : List ℕ) → HasRoom most l → most < 2 ^ 32 → 32 ≤ length l.buffer
    → length (joined ps) < 2 ^ 64 → ProgramRuns l ps output → output ≡ output_of most (joined ps)
unfolding output_of
writes most l ps output h m k b run =
    let c : Starting most [] [] nothing_read l =
    record {
      stage = refl;
      room_is = h;
      few = omega arith;
      timed = refl;
      boarded = refl;
      small = tt;
      kept = refl;
      waiting = refl;
      short = omega arith;
    } in
    let g = runs most m ps [] [] nothing_read l run.last run.held c (omega arith) run.takes in
    let e = g.ends run.answer run.working run.given run.ends in
    let q = onward most [] (joined ps) in
    writes_output q.starts run.last.stage.starts run.given run.held.buffer run.afters output g.starts (omega (arith, g.size_is))
    run.answer q.recording e.0 e.1 e.2 (λ n. line-fits most (joined ps) n b) run.writes
    ∙ ap (λ (q : InputRead). output_for q.starts q.recording) (whole_is most (joined ps))

-- ---- what waits can still become a line
kept_short : (pieces : List (List ℕ)) (input : Input) (l : Lists) (last : Input) (held : Lists) → input.kept < 23 → TakesAll input l pieces last held
    → last.kept < 23
unfolding TakesAll
kept_short [] input l last held h w = rw w.0 h
kept_short (piece ∷ pieces) input l last held h w =
    let read = w.0 in
    let n = min (input.kept + length piece) (length read) in
    let g = bytes_used (fitting_stage input.stage l.times l.boards) (take n read) l.times l.boards l.work l.answers in
    let e = ap (λ (x : Input). x.kept) w.4.says in
    kept_short pieces w.1 w.2 last held (omega (arith, e, g.1, length-take-le n read (omega arith))) w.5

pub program : Program
program = record { output = writes; waiting = λ l pieces last held w. kept_short pieces nothing_read l last held (omega arith) w }
