-- What is read of an entry that there is. These laws stand here since what implements `Nexts` cites them.
use Rattle.std.specs.Prelude.{◌≡◌, List, ℕ, ◌*◌, ◌<◌, length}
use Rattle.std.proofs.Common.{sym}
use Rattle.lists.specs.Pairs.{first_of}
use Rattle.lists.proofs.Table.{length-tabulate, get_or_tabulate}
use Rattle.little_endian.specs.Number.{le}
use Rattle.trace.specs.Links.{end, nexts, firsts, after}

pub read-nexts : (section : List ℕ) (size entries i : ℕ) → i < length (nexts section size entries)
    → le 4 section (i * size) ≡ after (nexts section size entries) i
unfolding nexts
read-nexts section size entries i l = sym (get_or_tabulate entries (λ k. le 4 section (k * size)) i end (rw length-tabulate at l))

pub read-firsts : (pairs : List ℕ) (entries i : ℕ) → i < length (firsts pairs entries) → first_of pairs i ≡ after (firsts pairs entries) i
unfolding firsts
read-firsts pairs entries i l = sym (get_or_tabulate entries (first_of pairs) i end (rw length-tabulate at l))
