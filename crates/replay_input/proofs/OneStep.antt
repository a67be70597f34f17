-- One step of the program: the bytes at hand are those that waited and the piece, all starts have their places, and what is not used comes to
-- the front of the buffer.
use Rattle.std.proofs.Common.{◌≡◌, ℕ, ◌+◌, ◌-◌, ◌≤◌, min, List, ◌++◌, length, take, drop, sym, ap, ◌∙◌, arith, length-append, length-drop, length-take-le, take_at}
use Rattle.lists.proofs.Parts.{drop-take}
use Rattle.replay_input.specs.declared.steps.Stage.{Stage}
use Rattle.replay_input.specs.declared.steps.Input.{Input}
use Rattle.replay_input.specs.Program.{AfterBytes, bytes_taken, fitting_stage, step_taken, brought_forward, Steps, Lists, PieceRead}
use Rattle.replay_input.specs.Private.{StartsFit}
use Rattle.replay_input.proofs.Taking.{bytes_used}

-- what stands after a step with the bytes at hand
pub record Stepped (t : AfterBytes) (hand : List ℕ) (size : ℕ) (next : Input) (m : Lists) : Type 0 where
  pub stage : next.stage ≡ t.stage
  pub kept : next.kept ≡ length hand - t.used
  pub waiting : take next.kept m.buffer ≡ drop t.used hand
  pub size_is : length m.buffer ≡ size
  pub within : next.kept ≤ length m.buffer
  pub timed : m.times ≡ t.times
  pub boarded : m.boards ≡ t.boards
  pub working : m.work ≡ t.work
  pub given : m.answers ≡ t.answers

-- all starts have their places
pub fitting_is : (t : Stage) (times boards : List ℕ) → StartsFit t.starts times boards → fitting_stage t times boards ≡ t
fitting_is t times boards f =
    let e : min t.starts (min (length times) (length boards)) ≡ t.starts = omega (arith, f.timed, f.boarded) in
    ap (λ (n : ℕ). record { starts = n; starting = t.starting; progress = t.progress }) e

module _ (input : Input) (l : Lists) (piece read : List ℕ) (next : Input) (m : Lists) (f : StartsFit input.stage.starts l.times l.boards)
    (p : PieceRead input.kept piece l.buffer read)
    (s : Steps read (input.kept + length piece) input l.times l.boards l.work l.answers next m.buffer m.times m.boards m.work
    m.answers) where
  abbrev hand : List ℕ
  hand = take input.kept l.buffer ++ piece

  abbrev after : AfterBytes
  after = bytes_taken input.stage hand l.times l.boards l.work l.answers

  abbrev end : ℕ
  end = input.kept + length piece

  end_is : min end (length read) ≡ end
  end_is = omega (arith, p.fits, p.long)

  hand-size : length hand ≡ end
  hand-size = sym (ap length p.reads) ∙ length-take-le end read (omega (arith, p.fits, p.long))

  taken_is : step_taken read end input l.times l.boards l.work l.answers ≡ after
  taken_is =
      ap (λ (t : Stage). bytes_taken t (take (min end (length read)) read) l.times l.boards l.work l.answers)
      (fitting_is input.stage l.times l.boards f)
      ∙ ap (λ (x : List ℕ). bytes_taken input.stage x l.times l.boards l.work l.answers)
      (ap (λ (n : ℕ). take n read) end_is ∙ p.reads)

  pub stepped : Stepped after hand (length l.buffer) next m
  stepped =
      let u = after.used in
      let n = length hand - u in
      let v : (step_taken read end input l.times l.boards l.work l.answers).used ≡ u = ap (λ (x : AfterBytes). x.used) taken_is in
      let i : min end (length read) ≡ length hand = end_is ∙ sym hand-size in
      let g = bytes_used input.stage hand l.times l.boards l.work l.answers in
      let k : next.kept ≡ n = ap (λ (x : Input). x.kept) s.says ∙ omega (arith, v, i) in
      let b : m.buffer ≡ brought_forward read u (length hand) =
      s.buffered
      ∙ ap (λ (x : ℕ). brought_forward read x (min end (length read))) v
      ∙ ap (brought_forward read u) i in
      let q : length (take n (drop u read)) ≡ n =
      length-take-le n (drop u read) (omega (arith, length-drop u read, hand-size, g.0, p.fits, p.long)) in
      let z : length m.buffer ≡ length l.buffer =
      ap length b
      ∙ length-append (take n (drop u read)) (drop n read)
      ∙ omega (arith, q, length-drop n read, hand-size, p.fits, p.long) in
      let j : u + n ≡ end = omega (arith, g.0, hand-size) in
      record {
        stage = ap (λ (x : Input). x.stage) s.says ∙ ap (λ (x : AfterBytes). x.stage) taken_is;
        kept = k;
        waiting =
            ap (take next.kept) b
            ∙ take_at (take n (drop u read)) (drop n read) next.kept (q ∙ sym k)
            ∙ sym (drop-take u n read)
            ∙ ap (λ (x : ℕ). drop u (take x read)) j
            ∙ ap (drop u) p.reads;
        size_is = z;
        within = omega (arith, k, z, hand-size, p.fits);
        timed = s.timed ∙ ap (λ (x : AfterBytes). x.times) taken_is;
        boarded = s.boarded ∙ ap (λ (x : AfterBytes). x.boards) taken_is;
        working = s.working ∙ ap (λ (x : AfterBytes). x.work) taken_is;
        given = s.given ∙ ap (λ (x : AfterBytes). x.answers) taken_is;
      }
