-- Once the recording has begun, the steps are its pieces: each step feeds the bytes at hand and changes neither the starts nor the order.
use Rattle.std.proofs.Common.{◌≡◌, ℕ, ◌≤◌, false, List, [], ◌∷◌, ◌++◌, length, take, refl, ap, ◌∙◌}
use Rattle.readings.specs.Feeding.{fed_by, fed_answers, Midway, FeedsAll}
use Rattle.replay_input.specs.declared.steps.Stage.{Stage}
use Rattle.replay_input.specs.declared.steps.Input.{Input}
use Rattle.replay_input.specs.Program.{Lists, TakesAll}
use Rattle.replay_input.specs.Private.{StartsFit}
use Rattle.replay_input.proofs.Taking.{bytes_recording}
use Rattle.replay_input.proofs.OneStep.{stepped}

abbrev pub mid : Input → Lists → Midway
mid input l = record { progress = input.stage.progress; waiting = take input.kept l.buffer; answers = l.answers }

pub record Goes (input : Input) (l : Lists) (pieces : List (List ℕ)) (last : Input) (held : Lists) : Type 0 where
  pub feeds : FeedsAll (take input.stage.starts l.times) (take input.stage.starts l.boards) l.work (mid input l) pieces (mid last held)
  pub begun : last.stage.starting ≡ false
  pub starts : last.stage.starts ≡ input.stage.starts
  pub timed : held.times ≡ l.times
  pub boarded : held.boards ≡ l.boards
  pub working : held.work ≡ l.work
  pub size_is : length held.buffer ≡ length l.buffer
  pub within : last.kept ≤ length held.buffer

pub goes : (pieces : List (List ℕ)) (input : Input) (l : Lists) (last : Input) (held : Lists) → input.stage.starting ≡ false
    → StartsFit input.stage.starts l.times l.boards → input.kept ≤ length l.buffer → TakesAll input l pieces last held
    → Goes input l pieces last held
unfolding TakesAll FeedsAll
goes [] input l last held b f k w =
    rw (w.0, w.1) (record { feeds = refl; begun = b; starts = refl; timed = refl; boarded = refl; working = refl; size_is = refl; within = k })
goes (piece ∷ pieces) input l last held b f k w =
    let next = w.1 in
    let m = w.2 in
    let s = take input.kept l.buffer ++ piece in
    let p = input.stage.progress in
    let g = rw (bytes_recording input.stage s l.times l.boards l.work l.answers b) at (stepped input l piece w.0 next m f w.3 w.4) in
    let fit : StartsFit next.stage.starts m.times m.boards = rw (g.stage, g.timed, g.boarded) f in
    let r = goes pieces next m last held (ap (λ (x : Stage). x.starting) g.stage) fit g.within w.5 in
    record {
      feeds = (
        fed_by p s,
        fed_answers p s (take input.stage.starts l.times) (take input.stage.starts l.boards) l.work l.answers,
        record { says = refl; given = refl },
        rw (g.stage, g.waiting, g.given, g.timed, g.boarded, g.working) at r.feeds,
      );
      begun = r.begun;
      starts = r.starts ∙ ap (λ (x : Stage). x.starts) g.stage;
      timed = r.timed ∙ g.timed;
      boarded = r.boarded ∙ g.boarded;
      working = r.working ∙ g.working;
      size_is = r.size_is ∙ g.size_is;
      within = r.within;
    }
