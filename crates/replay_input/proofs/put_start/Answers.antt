-- Each field's digits are among those of the line.
use Rattle.std.proofs.Common.{set, ap, ◌∙◌, arith}
use Rattle.lines.proofs.Lines.{line_number, line_below}
use Rattle.replay_input.proofs.put_start.Goals as goal

pub overflow_cast-boards : goal.overflow_cast-boards
overflow_cast-boards c =
    let line = c.args.line.now in
    omega (arith, c.number_in-2.ensures, line_number 18 line c.requires.0 16 2 (omega arith) (omega arith), line_below 18 line c.requires.0 16 2 (omega arith))

pub returns : goal.returns
returns c =
    let number = line_number 18 c.args.line.now c.requires.0 in (
      ap (set c.args.times.now c.args.i) (c.number_in.ensures ∙ number 0 16 (omega arith) (omega arith)),
      ap (set c.args.boards.now c.args.i) (c.number_in-2.ensures ∙ number 16 2 (omega arith) (omega arith)),
    )
