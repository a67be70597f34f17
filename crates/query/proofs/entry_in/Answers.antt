-- The tests in the definition's order; a name that is shown lies in the strings section, so no sum wraps.
use Prim.Native.Nat.{◌+◌, ◌≤◌}
use Rattle.layout.specs.Versions.{size_limit}
use native.Mathlib.Omega.{arith}
use Rattle.layout.proofs.Laws.{entry_low}
use Rattle.query.proofs.Entries.{entries, name_low}
use Rattle.query.proofs.entry_in.Goals as goal

pub returns : goal.returns
returns c = search (entries, c.in_ok-name.was)

pub overflow_add-result : goal.overflow_add-result
overflow_add-result c =
    let o = c.args.o in
    let w = c.in_ok-name.name in
    let h : o.head.strings.at + w.at ≤ size_limit = search (name_low, c.in_ok-name.was) in
    omega arith

pub returns-then-entries-i : goal.returns-then-entries-i
returns-then-entries-i c = search entries

pub returns-in_err-name : goal.returns-in_err-name
returns-in_err-name c = rw c.from_residual.ensures (search (entries, c.in_err-name.was))

pub overflow_mul-i : goal.overflow_mul-i
overflow_mul-i c =
    let a = c.args in
    omega (arith, entry_low (a.i + 1) a.o.layout.metrics_entry (omega arith) (omega arith))
