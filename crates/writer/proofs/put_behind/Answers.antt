-- The numbers at their places; the time is put as two.
use mathlib.Core.Path.{ap, ◌∙◌}
use Rattle.writer.specs.Private.{patch}
use Rattle.writer.proofs.HeadPieces.{behind_joined, behind_ordered}
use Rattle.writer.proofs.put_behind.Goals as goal

pub put_fields-requires : goal.put_fields-requires
put_fields-requires c =
    let w = c.args.draft in
    behind_ordered w.layout w.ready.writable w.plan w.contents _ _ c.requires.0 c.requires.1

pub returns : goal.returns
returns c =
    let w = c.args.draft in
    c.put_fields.ensures ∙ ap (patch c.args.output.now c.args.from) (behind_joined w.layout w.ready.writable w.plan w.contents c.args.from)
