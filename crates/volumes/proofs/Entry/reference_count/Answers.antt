-- Data of no bytes holds no reference; any other has its count at byte 4, read as the definition reads it.
use mathlib.Core.Path.{ap, ◌∙◌}
use Prim.Native.Nat.{ℕ, ◌+◌}
use native.Mathlib.Omega.{arith}
use Rattle.little_endian.specs.Number.{le}
use Rattle.volumes.proofs.Laws.{count_none, count-some}
use Rattle.volumes.proofs.Entry.reference_count.Goals as goal

pub returns : goal.returns
returns c =
    let s = c.args.self.section.now in
    c.u32_at-2.ensures ∙ ap (λ (k : ℕ). le 4 s (k + 4)) c.u32_at-at.ensures ∙ count-some _ _ (λ z. c.if-u32_at-eq0.false (c.u32_at.ensures ∙ z))

pub returns-then-u32_at-eq0 : goal.returns-then-u32_at-eq0
returns-then-u32_at-eq0 c = count_none _ _ (omega arith)
