-- What the steps leave, of what the functions that they call leave; and how many of the bytes are used.
use Rattle.std.proofs.Common.{◌≡◌, ℕ, ◌+◌, ◌-◌, ◌*◌, ◌%◌, ◌^◌, ◌<◌, ◌≤◌, min, true, false, eqb, ltb, List, map, length, take, drop, refl, ap, ◌∙◌, arith, length-drop, take_all, ltb-true, le-ltb, lt-ltb}
use lib.Seq.{length-sets}
use Rattle.lists.proofs.Tests.{by_test}
use Rattle.lines.specs.Lines.{leading}
use Rattle.lines.proofs.Leading.{leading_fit, leading_few}
use Rattle.readings.specs.declared.pieces.Progress.{Progress}
use Rattle.readings.specs.declared.pieces.Fed.{Fed}
use Rattle.readings.specs.Feeding.{frame_count, waits, fed_by}
use Rattle.replay_input.specs.declared.steps.Stage.{Stage}
use Rattle.replay_input.specs.declared.steps.Input.{Input}
use Rattle.replay_input.specs.declared.steps.Took.{Took}
use Rattle.replay_input.specs.Starts.{time_in, board_in, room, TakesStarts}
use Rattle.replay_input.specs.Program.{recording_taken, starts_taken, bytes_taken, fitting_stage, brought_forward, Steps}
use Rattle.replay_input.specs.Private.{StartsFit, RecordingBegins, TakesBytes}

-- ---- how many bytes are used: what is left can still become a line

abbrev pub Used : List ℕ → ℕ → Type 0
Used s used = (used ≤ length s) × (length s < used + 23)

pub fed_used : (p : Progress) (s : List ℕ) → Used s (fed_by p s).used
unfolding fed_by
fed_used p s =
    by_test (eqb p.bad 0)
    (λ e.
    by_test (waits s) (λ f. rw (e, f) (leading_fit 22 (length s) s, omega (arith, ltb-true (length s - 23 * frame_count s) 23 f)))
    (λ f. rw (e, f) (omega arith, omega arith)))
    (λ e. rw e (omega arith, omega arith))

pub bytes_used : (t : Stage) (s times boards work answers : List ℕ) → Used s (bytes_taken t s times boards work answers).used
unfolding bytes_taken
bytes_used t s times boards work answers =
    let k = length (leading 18 (room t.starts times boards) s) in
    let d = drop (19 * k) s in
    let fit = leading_fit 18 (room t.starts times boards) s in
    let size = length-drop (19 * k) s in
    by_test t.starting
    (λ a.
    by_test (ltb (length d) 19) (λ b. rw (a, b) (fit, omega (arith, ltb-true (length d) 19 b)))
    (λ b. let f = fed_used (record { lines = (t.progress.lines + k) % 2 ^ 64; bad = 0 }) d in rw (a, b) (omega (arith, f.0), omega (arith, f.1))))
    (λ a. rw a (fed_used t.progress s))

-- ---- the recording

pub begin_used : (lines : ℕ) (s times boards work answers : List ℕ) (r : Fed) (work' answers' : List ℕ)
    → RecordingBegins lines s times boards work answers r work' answers' → r.used ≤ length s
begin_used lines s times boards work answers r work' answers' b =
    omega (arith, ap (λ (x : Fed). x.used) b.says, (fed_used (record { lines = lines; bad = 0 }) s).0)

-- ---- more starts

module _ (s : List ℕ) (held : ℕ) (times boards : List ℕ) (k : ℕ) (times' boards' : List ℕ) (g : TakesStarts s held times boards k times' boards') where
  abbrev ks : List (List ℕ)
  ks = leading 18 (room held times boards) s

  pub taken_fit : (19 * k ≤ length s) × (k ≤ room held times boards)
  taken_fit = let m = room held times boards in rw g.count (leading_fit 18 m s, leading_few 18 m s)

  pub starts_room : StartsFit held times boards → StartsFit (held + k) times' boards'
  starts_room f =
      let x = ap length g.times'_are ∙ length-sets times held (map time_in ks) in
      let y = ap length g.boards'_are ∙ length-sets boards held (map board_in ks) in
      record { timed = omega (arith, taken_fit.1, x, f.timed, f.boarded); boarded = omega (arith, taken_fit.1, y, f.timed, f.boarded) }

  module _ (before lines : ℕ) (l : lines ≡ (before + k) % 2 ^ 64) (work answers : List ℕ) where
    -- fewer bytes are left than a start line has
    pub starts_wait : (r : Took) → length s - 19 * k < 19
        → r ≡ record { stage = record { starts = held + k; starting = true; progress = record { lines = lines; bad = 0 } }; used = 19 * k }
        → TakesBytes (starts_taken ks held before s times boards work answers) r times' boards' work answers
    starts_wait r n is =
        let e = g.count in
        let q = lt-ltb (length (drop (19 * length ks) s)) 19 (omega (arith, e, length-drop (19 * length ks) s)) in
        rw (q, is) (record { stage = rw (l, e); used = rw e; timed = g.times'_are; boarded = g.boards'_are; working = refl; given = refl })

    -- the recording begins behind the starts
    pub starts_begin : (r : Fed) (work' answers' : List ℕ) → 19 ≤ length s - 19 * k
        → RecordingBegins lines (take (length s - 19 * k) (drop (19 * k) s)) (take (held + k) times') (take (held + k) boards') work answers r work' answers'
        → TakesBytes (starts_taken ks held before s times boards work answers)
        (record { stage = record { starts = held + k; starting = false; progress = r.progress }; used = 19 * k + r.used })
        times' boards' work' answers'
    starts_begin r work' answers' n b =
        let e = g.count in
        let q = le-ltb (length (drop (19 * length ks) s)) 19 (omega (arith, e, length-drop (19 * length ks) s)) in
        let z = take_all (length s - 19 * k) (drop (19 * k) s) (omega (arith, length-drop (19 * k) s)) in
        let f = rw (z, g.times'_are, g.boards'_are, l, e) at b in
        rw q
        (record {
          stage = rw e (ap (λ (x : Fed). record { starts = held + length ks; starting = false; progress = x.progress }) f.says);
          used = rw e (ap (λ (x : Fed). 19 * length ks + x.used) f.says);
          timed = g.times'_are;
          boarded = g.boards'_are;
          working = f.working;
          given = f.given;
        })

-- ---- the bytes at hand

module _ (t : Stage) (s times boards work answers : List ℕ) where
  pub bytes_starting : t.starting ≡ true
      → bytes_taken t s times boards work answers
      ≡ starts_taken (leading 18 (room t.starts times boards) s) t.starts t.progress.lines s times boards work answers
  unfolding bytes_taken
  bytes_starting e = rw e

  pub bytes_recording : t.starting ≡ false
      → bytes_taken t s times boards work answers ≡ recording_taken t.starts t.progress s times boards work answers
  unfolding bytes_taken
  bytes_recording e = rw e

-- no more starts than there are places for
pub fitting-fits : (t : Stage) (times boards : List ℕ) (stage : Stage) → stage ≡ fitting_stage t times boards → StartsFit stage.starts times boards
fitting-fits t times boards stage e =
    let i = ap (λ (x : Stage). x.starts) e in
    record { timed = omega arith; boarded = omega arith }

-- ---- a step
pub step_takes : (buffer : List ℕ) (end : ℕ) (input : Input) (times boards work answers : List ℕ) (upto : ℕ) (stage : Stage) (r : Took) (kept : ℕ)
    (buffer' times' boards' work' answers' : List ℕ) → upto ≡ min end (length buffer) → stage ≡ fitting_stage input.stage times boards
    → TakesBytes (bytes_taken stage (take upto buffer) times boards work answers) r times' boards' work' answers' → kept ≡ upto - r.used
    → buffer' ≡ brought_forward buffer r.used upto
    → Steps buffer end input times boards work answers (record { stage = r.stage; kept = kept }) buffer' times' boards' work' answers'
step_takes buffer end input times boards work answers upto stage r kept buffer' times' boards' work' answers' u e g k c =
    let f = rw (u, e) at g in
    record {
      says = rw (k, u, f.stage, f.used);
      buffered = c ∙ rw (u, f.used);
      timed = f.timed;
      boarded = f.boarded;
      working = f.working;
      given = f.given;
    }

-- what waits lies in the buffer
pub step_within : (buffer : List ℕ) (end : ℕ) (input : Input) (times boards work answers : List ℕ) (r : Input)
    (buffer' times' boards' work' answers' : List ℕ) → Steps buffer end input times boards work answers r buffer' times' boards' work' answers'
    → r.kept ≤ length buffer
step_within buffer end input times boards work answers r buffer' times' boards' work' answers' h =
    omega (arith, ap (λ (x : Input). x.kept) h.says)
