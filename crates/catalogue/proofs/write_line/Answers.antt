-- Too little room, fields that form no line, and a line: a law of `Writing` for each.
use native.Mathlib.Omega.{arith}
use Rattle.std.proofs.Common.{rules}
use Rattle.std.proofs.lemmas.Result.{err_from_is_err_and}
use Rattle.catalogue.proofs.Line.{write_short, write_unformed, write_formed}
use Rattle.catalogue.proofs.write_line.Goals as goal

pub returns-then-output-lt-LINE_BYTES : goal.returns-then-output-lt-LINE_BYTES
returns-then-output-lt-LINE_BYTES c = search (rules, write_short)

pub returns-in_err-formed : goal.returns-in_err-formed
returns-in_err-formed c =
    let p = err_from_is_err_and c.from_residual.result c.from_residual.ensures.1 in
    rw (p.1, p.2) (write_unformed _ _ (omega arith) _ c.formed.ensures _ c.in_err-formed.was)

pub returns : goal.returns
returns c = write_formed _ _ (omega arith) _ c.formed.ensures _ _ c.in_ok-formed.was c.write_fields.ensures
