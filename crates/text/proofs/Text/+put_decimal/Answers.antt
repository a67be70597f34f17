use Rattle.text.proofs.Growth.{decimal_one, decimal_then}
use Rattle.text.proofs.Text.+put_decimal.Goals as goal
use Rattle.text.proofs.Text.+put_decimal.Goals.{then-n-ge-TWO_DIGITS, else-n-ge-TWO_DIGITS}

pub returns : goal.returns
returns t c =
    elim c.if-n-ge-TWO_DIGITS.branch [
      | then-n-ge-TWO_DIGITS w ↦ decimal_then _ _ _ _ w.if-n-ge-TWO_DIGITS.true w.put_decimal.ensures (rw w.self-is at c.put.ensures)
      | else-n-ge-TWO_DIGITS w ↦ decimal_one _ _ _ w.if-n-ge-TWO_DIGITS.false (rw w.self-is at c.put.ensures)
    ]
