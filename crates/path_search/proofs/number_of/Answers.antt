-- A name that does not belong to the path has no number; of one that does, what is behind the path is hashed.
use Rattle.std.proofs.Common.{sym, ap, ◌∙◌, arith}
use Rattle.std.proofs.lemmas.List.{map-id}
use Rattle.lists.proofs.Table.{rest_all}
use Rattle.path_hash.specs.Hash.{plain}
use Rattle.path_search.proofs.Same.{belongs_long}
use Rattle.path_search.proofs.NameNumber.{number-outside, number_inside}
use Rattle.path_search.proofs.number_of.Goals as goal

pub slice_bounds-carry_on-count : goal.slice_bounds-carry_on-count
slice_bounds-carry_on-count c = omega (arith, belongs_long _ _ (sym c.belongs.ensures ∙ c.if-not-belongs.false))

pub returns-then-not-belongs : goal.returns-then-not-belongs
returns-then-not-belongs c = number-outside _ _ _ (sym c.belongs.ensures ∙ c.if-not-belongs.true)

pub slice_bounds-carry_on-start : goal.slice_bounds-carry_on-start
slice_bounds-carry_on-start c = omega (arith, belongs_long _ _ (sym c.belongs.ensures ∙ c.if-not-belongs.false))

pub returns : goal.returns
returns c =
    let a = c.args in
    number_inside _ _ _ (sym c.belongs.ensures ∙ c.if-not-belongs.false)
    (c.carry_on-hash.ensures ∙ ap (plain a.sought.from) (map-id _ ∙ rest_all _ a.name.now)) c.hash_end.ensures c.number_for.ensures
