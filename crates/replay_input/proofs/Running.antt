-- A whole run of the program: the start lines of the bytes at hand are those of all bytes, whatever comes behind, and once the recording has
-- begun the steps are its pieces, so that the end gives the answers of the whole input.
use Rattle.std.proofs.Common.{◌≡◌, ℕ, ◌+◌, ◌-◌, ◌*◌, ◌%◌, ◌^◌, ◌<◌, ◌≤◌, true, false, ltb, List, [], ◌∷◌, ◌++◌, map, length, take, drop, sym, refl, ap, ◌∙◌, subst, append_assoc, append-nil, arith, length-append, length-drop, length-take-le, drop-drop, ltb-false, ltb-true, Result}
use lib.ListN.{length-map}
use lib.Seq.{sets, length-sets}
use Rattle.lists.specs.Table.{tabulate}
use Rattle.lists.specs.Filled.{filled}
use Rattle.lists.proofs.Tests.{by_test}
use Rattle.lines.specs.Lines.{lines_in}
use Rattle.lines.proofs.Leading.{leading_fit, leading_few}
use Rattle.readings.specs.declared.pieces.Progress.{Progress}
use Rattle.readings.specs.declared.BadLine.{BadLine}
use Rattle.readings.specs.Recording.{Recorded, recorded_from}
use Rattle.readings.specs.Replay.{place_of, answer_count, said_of, saying_of}
use Rattle.readings.specs.Feeding.{Midway, served_count, begun_work, begun_answers, fed_by, fed_answers, Finishes, FeedsAll, joined}
use Rattle.readings.proofs.Runs.{runs_from}
use Rattle.replay_input.specs.declared.steps.Stage.{Stage}
use Rattle.replay_input.specs.declared.steps.Input.{Input}
use Rattle.replay_input.specs.Starts.{time_in, board_in, room}
use Rattle.replay_input.specs.Input.{InputRead}
use Rattle.replay_input.specs.Program.{end_work, end_begun, recording_begun, used_more, starts_taken, stage_ended, Steps, Ends, Lists, HasRoom, PieceRead, TakesAll}
use Rattle.replay_input.specs.Private.{StartsFit}
use Rattle.replay_input.proofs.Taking.{bytes_starting}
use Rattle.replay_input.proofs.OneStep.{Stepped, fitting_is, stepped}
use Rattle.replay_input.proofs.RecordingPieces.{mid, Goes, goes}
use Rattle.replay_input.proofs.StartLines.{Small, small_append, small_leading, small_at, stored, onward, starts_in, behind, more_is, recording_is, none_is}

-- ---- the end

-- what the end of a run gives
pub record Gives (q : InputRead) (size : ℕ) (last : Input) (held : Lists) : Type 0 where
  pub starts : last.stage.starts ≡ length q.starts
  pub size_is : length held.buffer ≡ size
  pub ends : (r : Result Unit BadLine) (work' answers' : List ℕ) → Ends last held.times held.boards held.work held.answers r work' answers'
      → (said_of r ≡ saying_of q.recording)
      × (x : List ℕ)
      × (answers' ≡ tabulate (4 * length q.starts) (place_of q.recording (map time_in q.starts) (map board_in q.starts)) ++ x)

module _ (last : Input) (held : Lists) (f : StartsFit last.stage.starts held.times held.boards) (r : Result Unit BadLine) (work' answers' : List ℕ)
    (e : Ends last held.times held.boards held.work held.answers r work' answers') where
  abbrev t : Stage
  t = last.stage

  abbrev T : List ℕ
  T = take t.starts held.times

  abbrev B : List ℕ
  B = take t.starts held.boards

  given_is : answers' ≡ stage_ended t last.kept held.times held.boards held.work held.answers
  given_is =
      e.given
      ∙ ap (λ (x : Stage). stage_ended x last.kept held.times held.boards held.work held.answers)
      (fitting_is t held.times held.boards f)

  finishes : Finishes t.progress last.kept T B (end_work t held.times held.boards held.work held.answers)
      (end_begun t held.times held.boards held.work held.answers) r
      (filled (length (end_work t held.times held.boards held.work held.answers))) answers'
  finishes = record { says = e.says; given = given_is; working = refl }

-- every start is served
served_all : (most : ℕ) (ls : List (List ℕ)) (work answers : List ℕ) → length ls ≤ most → most < 2 ^ 32 → length work ≡ most → length answers ≡ 4 * most
    → served_count (map time_in ls) (map board_in ls) work answers ≡ length ls
unfolding served_count answer_count
served_all most ls work answers l m w a = omega (arith, length-map ls time_in, length-map ls board_in)

-- the answers for all starts ks, from the bytes s that wait on
module _ (most : ℕ) (ks : List (List ℕ)) (l : Lists) (room_is : HasRoom most l) (few : length ks ≤ most) (most-few : most < 2 ^ 32) (small : Small ks)
    (s : List ℕ) (ps : List (List ℕ)) where
  abbrev times : List ℕ
  times = map time_in ks

  abbrev boards : List ℕ
  boards = map board_in ks

  abbrev order : List ℕ
  order = begun_work times boards l.work l.answers

  abbrev rec : Recorded
  rec = recorded_from (length ks + 1) (lines_in (s ++ joined ps))

  pieces-give : length s < 23 → 2 * length ks + length s + length (joined ps) < 2 ^ 64 → (last : Midway)
      → FeedsAll times boards order
      (record { progress = record { lines = length ks; bad = 0 }; waiting = s; answers = begun_answers times boards l.work l.answers }) ps last
      → (r : Result Unit BadLine) (answers' : List ℕ)
      → Finishes last.progress (length last.waiting) times boards order last.answers r (filled (length order)) answers'
      → (said_of r ≡ saying_of rec) × (x : List ℕ) × (answers' ≡ tabulate (4 * length ks) (place_of rec times boards) ++ x)
  pieces-give h b last f r answers' g =
      let n = served_count times boards l.work l.answers in
      let z = runs_from (length ks) s ps times boards l.work l.answers n refl h b (small_at ks small) last f r _ answers' g in
      let y : n ≡ length ks = served_all most ks l.work l.answers few most-few room_is.working room_is.given in
      (z.says, drop (4 * length ks) l.answers, rw y at z.given)

-- ---- while more starts may come

-- the starts ls stand in the lists, and the bytes s wait
pub record Starting (most : ℕ) (ls : List (List ℕ)) (s : List ℕ) (input : Input) (l : Lists) : Type 0 where
  pub stage : input.stage ≡ record { starts = length ls; starting = true; progress = record { lines = length ls; bad = 0 } }
  pub room_is : HasRoom most l
  pub few : length ls ≤ most
  pub timed : take (length ls) l.times ≡ map time_in ls
  pub boarded : take (length ls) l.boards ≡ map board_in ls
  pub small : Small ls
  pub kept : input.kept ≡ length s
  pub waiting : take input.kept l.buffer ≡ s
  pub short : length s < 19

starts_fit : (most : ℕ) (ls : List (List ℕ)) (s : List ℕ) (input : Input) (l : Lists) → Starting most ls s input l
    → StartsFit input.stage.starts l.times l.boards
starts_fit most ls s input l c =
    rw c.stage (record { timed = omega (arith, c.few, c.room_is.timed); boarded = omega (arith, c.few, c.room_is.boarded) })

-- the input ends there
ends_there : (most : ℕ) (ls : List (List ℕ)) (s : List ℕ) (input : Input) (l : Lists) → Starting most ls s input l → most < 2 ^ 32
    → 19 * length ls + length s < 2 ^ 64 → Gives (onward most ls s) (length l.buffer) input l
unfolding FeedsAll joined
ends_there most ls s input l c m b =
    subst (λ (q : InputRead). Gives q (length l.buffer) input l) (none_is most ls s c.short)
    (record {
      starts = ap (λ (x : Stage). x.starts) c.stage;
      size_is = refl;
      ends =
          λ r work' answers' e.
          rw (append-nil s) at
          (pieces-give most ls l c.room_is c.few m c.small s [] (omega (arith, c.short)) (omega arith) _ refl r answers'
          (rw (c.stage, c.timed, c.boarded, c.kept) at (finishes input l (starts_fit most ls s input l c) r work' answers' e)));
    })

-- one step
module _ (most : ℕ) (ls : List (List ℕ)) (s : List ℕ) (input : Input) (l : Lists) (c : Starting most ls s input l) (small : most < 2 ^ 32)
    (piece read : List ℕ) (next : Input) (m : Lists) (p : PieceRead input.kept piece l.buffer read)
    (st : Steps read (input.kept + length piece) input l.times l.boards l.work l.answers next m.buffer m.times m.boards m.work
    m.answers) where
  abbrev js : List (List ℕ)
  js = starts_in most ls (s ++ piece)

  abbrev d : List ℕ
  d = behind most ls (s ++ piece)

  abbrev k : ℕ
  k = length js

  starts-taken : Stepped (starts_taken js (length ls) (length ls) (s ++ piece) l.times l.boards l.work l.answers) (s ++ piece)
      (length l.buffer) next m
  starts-taken =
      let t : Stage = record { starts = length ls; starting = true; progress = record { lines = length ls; bad = 0 } } in
      let g = rw (c.waiting, c.stage) at (stepped input l piece read next m (starts_fit most ls s input l c) p st) in
      let e : room (length ls) l.times l.boards ≡ most - length ls = omega (arith, c.room_is.timed, c.room_is.boarded) in
      rw (bytes_starting t (s ++ piece) l.times l.boards l.work l.answers refl, e) at g

  count : length (ls ++ js) ≡ length ls + k
  count = length-append ls js

  few : length ls + k ≤ most
  few = omega (arith, c.few, leading_few 18 (most - length ls) (s ++ piece))

  lines : (length ls + k) % 2 ^ 64 ≡ length ls + k
  lines = omega (arith, few, small)

  -- the lists hold the starts
  times-now : take (length (ls ++ js)) (sets l.times (length ls) (map time_in js)) ≡ map time_in (ls ++ js)
  times-now = stored l.times time_in ls js (omega (arith, few, c.room_is.timed)) c.timed

  boards-now : take (length (ls ++ js)) (sets l.boards (length ls) (map board_in js)) ≡ map board_in (ls ++ js)
  boards-now = stored l.boards board_in ls js (omega (arith, few, c.room_is.boarded)) c.boarded

  small-now : Small (ls ++ js)
  small-now = small_append ls js c.small (small_leading (most - length ls) (s ++ piece))

  times-size : length (sets l.times (length ls) (map time_in js)) ≡ most
  times-size = length-sets l.times (length ls) (map time_in js) ∙ c.room_is.timed

  boards-size : length (sets l.boards (length ls) (map board_in js)) ≡ most
  boards-size = length-sets l.boards (length ls) (map board_in js) ∙ c.room_is.boarded

  -- more starts may come
  still-starting : ltb (length d) 19 ≡ true → Starting most (ls ++ js) d next m × (length m.buffer ≡ length l.buffer)
  still-starting q =
      let g = rw q at starts-taken in
      let h : length d ≡ length (s ++ piece) - 19 * k = length-drop (19 * k) (s ++ piece) in (
        record {
          stage = g.stage ∙ rw (lines, count);
          room_is =
              record {
                timed = ap length g.timed ∙ times-size;
                boarded = ap length g.boarded ∙ boards-size;
                working = ap length g.working ∙ c.room_is.working;
                given = ap length g.given ∙ c.room_is.given;
              };
          few = omega (arith, few, count);
          timed = ap (take (length (ls ++ js))) g.timed ∙ times-now;
          boarded = ap (take (length (ls ++ js))) g.boarded ∙ boards-now;
          small = small-now;
          kept = g.kept ∙ sym h;
          waiting = g.waiting;
          short = ltb-true (length d) 19 q;
        },
        g.size_is,
      )

  -- the recording begins
  module _ (pieces : List (List ℕ)) (last : Input) (held : Lists) (w : TakesAll next m pieces last held)
      (b : 19 * length ls + length (s ++ piece) + length (joined pieces) < 2 ^ 64) (q : ltb (length d) 19 ≡ false) where
    abbrev T' : List ℕ
    T' = map time_in (ls ++ js)

    abbrev B' : List ℕ
    B' = map board_in (ls ++ js)

    abbrev P' : Progress
    P' = record { lines = length (ls ++ js); bad = 0 }

    abbrev W' : List ℕ
    W' = begun_work T' B' l.work l.answers

    g : Stepped
        (used_more (19 * k)
        (recording_begun (length ls + k) ((length ls + k) % 2 ^ 64) d (sets l.times (length ls) (map time_in js))
        (sets l.boards (length ls) (map board_in js)) l.work l.answers))
        (s ++ piece) (length l.buffer) next m
    g = rw q at starts-taken

    fit : StartsFit next.stage.starts m.times m.boards
    fit = rw (g.stage, g.timed, g.boarded) (record { timed = omega (arith, few, times-size); boarded = omega (arith, few, boards-size) })

    going : Goes next m pieces last held
    going = goes pieces next m last held (ap (λ (x : Stage). x.starting) g.stage) fit g.within w

    -- its first piece is what comes behind the starts
    fed : FeedsAll T' B' W' (record { progress = P'; waiting = []; answers = begun_answers T' B' l.work l.answers }) (d ∷ pieces) (mid last held)
    unfolding FeedsAll
    fed =
        let f = rw (g.stage, g.waiting, g.given, g.timed, g.boarded, g.working) at going.feeds in
        let h = rw (lines, ← count, times-now, boards-now, ← drop-drop (fed_by P' d).used (19 * k) (s ++ piece)) at f in
        (fed_by P' d, fed_answers P' d T' B' W' (begun_answers T' B' l.work l.answers), record { says = refl; given = refl }, h)

    begun-gives : Gives (record { starts = ls ++ js; recording = recorded_from (length (ls ++ js) + 1) (lines_in (d ++ joined pieces)) }) (length l.buffer)
        last held
    unfolding joined
    begun-gives =
        record {
          starts = going.starts ∙ ap (λ (x : Stage). x.starts) g.stage ∙ sym count;
          size_is = going.size_is ∙ g.size_is;
          ends =
              λ r work' answers' e.
              pieces-give most (ls ++ js) l c.room_is (omega (arith, few, count)) small small-now [] (d ∷ pieces) (omega arith)
              (omega (arith, b, count, leading_fit 18 (most - length ls) (s ++ piece), length-drop (19 * k) (s ++ piece), length-append d (joined pieces)))
              (mid last held) fed r answers'
              (rw (length-take-le last.kept held.buffer going.within)
              (rw (
                going.begun,
                going.starts,
                going.timed,
                going.boarded,
                going.working,
                g.stage,
                g.timed,
                g.boarded,
                g.working,
                ← count,
                times-now,
                boards-now,
              ) at
              (finishes last held (rw (going.starts, going.timed, going.boarded) fit) r work' answers' e)));
        }

-- A RUN, from the starts ls and the bytes s that wait on
pub runs : (most : ℕ) → most < 2 ^ 32 → (pieces : List (List ℕ)) (ls : List (List ℕ)) (s : List ℕ) (input : Input) (l : Lists) (last : Input) (held : Lists)
    → Starting most ls s input l → 19 * length ls + length s + length (joined pieces) < 2 ^ 64 → TakesAll input l pieces last held
    → Gives (onward most ls (s ++ joined pieces)) (length l.buffer) last held
unfolding TakesAll joined
runs most small [] ls s input l last held c b w = rw (w.0, w.1, append-nil s) (ends_there most ls s input l c small (omega arith))
runs most small (piece ∷ pieces) ls s input l last held c b w =
    let x = joined pieces in
    let js = starts_in most ls (s ++ piece) in
    let d = behind most ls (s ++ piece) in
    let bytes : 19 * length ls + length (s ++ piece) + length x < 2 ^ 64 = omega (arith, length-append s piece, length-append piece x) in
    let whole : onward most ls ((s ++ piece) ++ x) ≡ onward most ls (s ++ (piece ++ x)) = ap (onward most ls) (append_assoc s piece x) in
    by_test (ltb (length d) 19)
    (λ q.
    let y = still-starting most ls s input l c small piece w.0 w.1 w.2 w.3 w.4 q in
    let i : 19 * length (ls ++ js) + length d + length x < 2 ^ 64 =
    omega (arith, bytes, length-append ls js, leading_fit 18 (most - length ls) (s ++ piece), length-drop (19 * length js) (s ++ piece)) in
    subst (λ (q : InputRead). Gives q (length l.buffer) last held) (more_is most ls (s ++ piece) x ∙ whole)
    (rw y.1 at (runs most small pieces (ls ++ js) d w.1 w.2 last held y.0 i w.5)))
    (λ q.
    subst (λ (q : InputRead). Gives q (length l.buffer) last held) (recording_is most ls (s ++ piece) x (ltb-false (length d) 19 q) ∙ whole)
    (begun-gives most ls s input l c small piece w.0 w.1 w.2 w.3 w.4 pieces last held w.5 bytes q))
