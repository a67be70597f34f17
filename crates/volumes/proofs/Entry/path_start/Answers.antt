-- A path without units stands at the section's start, and any other at its offset.
use mathlib.Core.Path.{sym, ◌∙◌}
use borrow.Author.Tests.{eq-eqb, ne_eqb}
use Rattle.volumes.proofs.Entry.path_start.Goals as goal

pub returns : goal.returns
returns c = rw (ne_eqb _ 0 (λ z. c.if-u32_at-eq0.false (c.u32_at.ensures ∙ z))) c.u32_at-2.ensures

pub returns-then-u32_at-eq0 : goal.returns-then-u32_at-eq0
returns-then-u32_at-eq0 c = rw (eq-eqb _ 0 (sym c.u32_at.ensures ∙ c.if-u32_at-eq0.true))
