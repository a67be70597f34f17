-- The masks bound each sum, and the lanes take the step: `text_eight`.
use Rattle.std.proofs.Common.{List, ℕ, sym, ap, ◌∙◌}
use Rattle.std.proofs.lemmas.List.{map-id}
use Rattle.path_hash.specs.Hash.{eight_at}
use Rattle.path_hash.proofs.Lanes.{text_eight}
use Rattle.path_hash.proofs.U8Number.eight_step.Goals as goal

pub returns-clause-step : goal.returns-clause-step
returns-clause-step c =
    let s = c.args.text.now in (
      rw c.from_le_bytes-x.ensures (text_eight s c.in_ok-eight.eight.now c.args.h (λ k. (c.type_inv.text k).fits) c.in_ok-eight.ensures.cases.0)
          ∙ ap (λ (t : List ℕ). eight_at c.args.h t 0) (sym (map-id s)),
      c.in_ok-eight.ensures.cases.1,
    )
