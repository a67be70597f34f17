-- The first zero among the first 30 units ends the name, or the name ends before.
use lib.ListN.{take}
use Rattle.std.proofs.Common.{rules, tests, eqb, not}
use Rattle.std.proofs.lemmas.Iterator.{YieldsList-from_slice}
use Rattle.std.proofs.lemmas.Iterator.Consumers.{count_from_yields_List}
use Rattle.std.proofs.lemmas.Iterator.Search.{YieldsList-from_take_while}
use Rattle.writer.proofs.Planning.{counted, carried_some, carried_none}
use Rattle.writer.proofs.write.carried_units.Goals as goal

pub returns-then-units-most : goal.returns-then-units-most
returns-then-units-most c =
    let t = c.take_while.ensures in
    carried_some c.args.name.now _
    (counted c.args.name.now c.min.result c.count-units.result c.min.ensures
    (count_from_yields_List c.take_while.result _ c.count-units.ensures.ran
    (YieldsList-from_take_while _ (λ x. not (eqb x 0)) (YieldsList-from_slice (take c.min.result c.args.name.now) cc) t.closure t.done
    (λ x b q k. search (rules, tests)))))
    c.if-units-most.true

pub returns-else-units-most : goal.returns-else-units-most
returns-else-units-most c =
    let t = c.take_while.ensures in
    carried_none c.args.name.now _
    (counted c.args.name.now c.min.result c.count-units.result c.min.ensures
    (count_from_yields_List c.take_while.result _ c.count-units.ensures.ran
    (YieldsList-from_take_while _ (λ x. not (eqb x 0)) (YieldsList-from_slice (take c.min.result c.args.name.now) cc) t.closure t.done
    (λ x b q k. search (rules, tests)))))
    c.if-units-most.false
