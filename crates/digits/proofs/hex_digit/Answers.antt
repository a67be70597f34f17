use Rattle.digits.proofs.Hex.{hex_bits}
use Rattle.digits.proofs.hex_digit.Goals as goal

pub returns : goal.returns
returns c = rw (hex_bits c.args.place) c.digit_of.ensures
