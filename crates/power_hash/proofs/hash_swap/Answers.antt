-- The hashes of both starts are the Vista hashes.
use Rattle.power_hash.proofs.Swaps.{answer_swapped}
use Rattle.power_hash.proofs.hash_swap.Goals as goal

pub returns : goal.returns
returns g c =
    let a = c.args in
    answer_swapped g.T.Number.value a.old_hash a.p c.swapped.result a.old.now a.start.now c.in_ok-first.first.now c.in_ok-first.kept.now
    (rw c.in_ok-first.ensures.ok_part at c.split_at_checked.ensures.cases)
    (rw (← c.hash_vista-new.ensures, ← c.hash_vista-before.ensures) c.swapped.ensures)
