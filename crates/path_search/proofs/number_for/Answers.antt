-- The wrapped difference is the number, where it is one.
use Rattle.std.proofs.Common.{arith}
use Rattle.path_search.proofs.NameNumber.{difference, number_low, number-none}
use Rattle.path_search.proofs.number_for.Goals as goal

pub returns-then-n-lt-NO_NUMBER : goal.returns-then-n-lt-NO_NUMBER
returns-then-n-lt-NO_NUMBER c =
    number_low _ _ (difference _ _ _ (omega arith) (omega arith) (omega arith) c.wrapping_sub_u32-n.ensures.value) c.if-n-lt-NO_NUMBER.true

pub returns-else-n-lt-NO_NUMBER : goal.returns-else-n-lt-NO_NUMBER
returns-else-n-lt-NO_NUMBER c =
    number-none _ _ (difference _ _ _ (omega arith) (omega arith) (omega arith) c.wrapping_sub_u32-n.ensures.value) c.if-n-lt-NO_NUMBER.false
