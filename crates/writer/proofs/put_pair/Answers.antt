-- Zeros, and two numbers put over them.
use mathlib.Core.Path.{ap, ◌∙◌}
use Prim.Native.Nat.{◌+◌, ◌-◌}
use native.Mathlib.Omega.{arith}
use Rattle.writer.specs.Private.{patch}
use Rattle.writer.proofs.Stores.{low_bytes}
use Rattle.writer.proofs.Entries.{pair_laid}
use Rattle.writer.proofs.put_pair.Goals as goal

pub returns : goal.returns
returns c =
    let e = c.args.shape in
    let at = c.args.at in
    pair_laid e c.args.first c.args.second _ _ _ _ at (at + e.size - at) (omega arith) (omega (arith, c.requires)) c.put_zeros.ensures
    (c.put_bytes.ensures ∙ ap (patch _ (at + e.first)) (c.to_le_bytes.ensures ∙ low_bytes 4 c.args.first))
    (c.put_bytes-2.ensures ∙ ap (patch _ (at + e.second)) (c.to_le_bytes-2.ensures ∙ low_bytes 4 c.args.second))
