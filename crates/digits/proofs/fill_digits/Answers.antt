use mathlib.Core.Path.{sym, ◌∙◌}
use native.Mathlib.Omega.{arith}
use lib.ListN.{length}
use Rattle.std.proofs.lemmas.Grind.{same_number_lists}
use Rattle.digits.proofs.Hex.{length_digits, get_or_digits}
use Rattle.digits.proofs.fill_digits.Goals as goal

pub returns : goal.returns
returns c =
    let w = length c.args.bytes.now in
    same_number_lists _ _ (c.loop-j.auto.bytes ∙ sym (length_digits w c.args.x))
    (λ k l. c.loop-j.invariant k (omega arith) ∙ sym (get_or_digits w c.args.x k (omega arith)))
