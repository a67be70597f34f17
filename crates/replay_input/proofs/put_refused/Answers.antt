-- The words, the line's number and the line feed, one after the other.
use Rattle.std.proofs.Common.{arith}
use Rattle.text.proofs.Growth.{puts_from}
use Rattle.replay_input.proofs.Text.{refused_line_lem}
use Rattle.replay_input.proofs.put_refused.Goals as goal

pub returns : goal.returns
returns c =
    let begun = c.new-text.ensures in
    let buffer = begun.buffer in
    let put = refused_line_lem c.args.line c.put_all.ensures c.put_decimal.ensures c.put.ensures in
    let same = put.buffer in
    let all = puts_from _ _ begun.bytes begun.position put in
    grind (arith, all, same, buffer)
