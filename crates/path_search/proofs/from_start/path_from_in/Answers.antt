-- A volume that is not shown, or with an empty path, has no names; else the start's hash is carried on behind its path.
use Rattle.std.proofs.Common.{ap, ◌∙◌, arith}
use Rattle.std.proofs.lemmas.List.{map-id}
use Rattle.path_hash.specs.Hash.{plain}
use Rattle.path_search.proofs.Laws.{stored_low, from_given}
use Rattle.path_search.proofs.from_start.path_from_in.Goals as goal

pub returns : goal.returns
returns c =
    let a = c.args in
    from_given a.o a.file.now a.volume a.start.now c.requires (omega arith)
    (stored_low _ (λ k. (c.type_inv.file k).fits)) c.path_in-path.ensures.contents (λ e. omega (arith, e))
    c.hash_start.ensures (c.carry_on-from.ensures ∙ ap (plain c.hash_start.result) (map-id a.start.now)) c.search_in.ensures
