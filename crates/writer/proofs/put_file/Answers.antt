-- Head, metrics, trace, strings and volumes one behind another, as the plan has their places.
use native.Mathlib.Omega.{arith}
use Rattle.writer.proofs.Stores.{five_laid}
use Rattle.writer.proofs.FilePieces.{meets, head_long, metrics_long, trace_long, file_pieces}
use Rattle.writer.proofs.put_file.Goals as goal

pub returns : goal.returns
returns c =
    let v = c.args.draft.version in
    let l = c.args.draft.layout in
    let d = c.args.draft.contents in
    let p = c.args.draft.plan in
    let n = c.args.draft.units in
    let r = c.args.draft.ready in
    let m = meets v l d p n r in
    five_laid _ _ _ _ _ _ _ _ _ _ _ _ _ _ _ _ _ c.put_head.ensures c.put_pairs.ensures c.put_pairs-2.ensures c.put_bytes.ensures
    c.put_bytes-2.ensures
    (omega (arith, head_long v l d p n r)) (omega (arith, metrics_long v l d p n r, m.0)) (omega (arith, trace_long v l d p n r, m.1))
    (omega (arith, m.2))
    (file_pieces v l d p n r)
