-- The sum stays below 2^64 and is reduced to 32 bits, and subtraction wraps as in the definition.
use Rattle.std.proofs.Common.{List, ℕ, sym, ap, ◌∙◌}
use Rattle.std.proofs.lemmas.List.{map-id}
use Rattle.path_hash.specs.Hash.{eight_at, eight, eight_sum}
use Rattle.path_hash.proofs.Laws.{eight_first, wrapped}
use Rattle.path_hash.proofs.U32Number.eight_step.Goals as goal

pub returns-clause-step : goal.returns-clause-step
unfolding eight eight_sum
returns-clause-step c =
    let s = c.args.numbers.now in
    let t = c.in_ok-eight.eight.now in (
      wrapped _ c.args.h _
          ∙ eight_first s t c.args.h c.in_ok-eight.ensures.cases.0
          ∙ ap (λ (u : List ℕ). eight_at c.args.h u 0) (sym (map-id s)),
      c.in_ok-eight.ensures.cases.1,
    )
