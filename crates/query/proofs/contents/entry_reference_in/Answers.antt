-- Where the entry is shown its file reference is read; else there is none.
use Prim.Native.Nat.{◌<◌}
use native.Mathlib.Omega.{arith}
use Rattle.head.proofs.Facts.{open_sound}
use Rattle.query.proofs.Entries.{entry_references, entry_below}
use Rattle.query.proofs.contents.entry_reference_in.Goals as goal

pub returns : goal.returns
returns c = search (entry_references, c.in_ok-entry_in.was)

pub returns-in_err-entry_in : goal.returns-in_err-entry_in
returns-in_err-entry_in c = rw c.from_residual.ensures (search (entry_references, c.in_err-entry_in.was))

pub file_reference-requires : goal.file_reference-requires
file_reference-requires c =
    open_sound _ c.args.o c.requires

pub overflow_cast-i : goal.overflow_cast-i
overflow_cast-i c =
    let h : c.args.i < c.args.o.head.metrics.count = search (entry_below, c.in_ok-entry_in.was) in
    omega (arith, c.well_formed.1.0)
