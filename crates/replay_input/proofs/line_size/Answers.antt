-- `none` and its line feed, or 22 digits and theirs.
use Rattle.std.proofs.Common.{length, sym, ap, ◌∙◌}
use Rattle.replay_input.proofs.Text.{line_none, line_held, digits_size}
use Rattle.replay_input.proofs.line_size.Goals as goal

pub returns-in-None : goal.returns-in-None
returns-in-None c = ap length (line_none _ _ (sym c.answer_held.ensures ∙ c.in-None.is))

pub returns-in-Some : goal.returns-in-Some
returns-in-Some c = sym (digits_size _) ∙ ap length (line_held _ _ _ (sym c.answer_held.ensures ∙ c.in-Some.is))
