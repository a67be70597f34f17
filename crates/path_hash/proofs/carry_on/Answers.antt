-- The numbers that are left take the plain step, one after the other.
use Rattle.std.proofs.Common.{◌≡◌, fold, ◌∙◌, rules}
use Rattle.path_hash.specs.Hash.{step}
use Rattle.path_hash.proofs.Laws.{fold_plain}
use Rattle.path_hash.proofs.carry_on.Goals as goal

pub returns : goal.returns
returns g c =
    let v = g.T.Number.value in
    let e : c.fold.result ≡ fold (λ h x. step h (v x)) c.loop-stepped.h c.loop-stepped.rest.now = search rules in
    e ∙ fold_plain v c.loop-stepped.h c.loop-stepped.rest.now ∙ c.loop-stepped.invariant
