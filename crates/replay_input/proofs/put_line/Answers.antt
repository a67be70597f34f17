-- `none`, or the digits of the three numbers.
use Rattle.std.proofs.Common.{sym, ◌∙◌}
use Rattle.replay_input.proofs.Text.{digits_put, line_none, line_held}
use Rattle.replay_input.proofs.put_line.Goals as goal

pub returns-in-None : goal.returns-in-None
returns-in-None c = rw (← line_none _ _ (sym c.answer_held.ensures ∙ c.in-None.is)) c.put_all.ensures

pub returns-in-Some : goal.returns-in-Some
returns-in-Some c = rw (← line_held _ _ _ (sym c.answer_held.ensures ∙ c.in-Some.is)) (digits_put _ c.put_hex.ensures c.put_hex-in-Some.ensures c.put_hex-in-Some-2.ensures c.put.ensures)
