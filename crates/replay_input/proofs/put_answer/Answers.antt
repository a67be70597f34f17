-- What is put into the text stands in the buffer, from the position on.
use Rattle.std.proofs.Common.{arith}
use Rattle.text.proofs.Growth.{puts_from}
use Rattle.replay_input.proofs.put_answer.Goals as goal

pub returns : goal.returns
returns c =
    let begun = c.resume-text.ensures in
    let buffer = begun.buffer in
    let put = c.put_line.ensures in
    let same = put.buffer in
    let all = puts_from _ _ begun.bytes begun.position put in
    grind (arith, all, same, buffer)
