-- Each field is read at its offset and each section made of three of them; `head-from` puts them together.
use Rattle.sections.proofs.Cases.{head_from, section_same, length-same}
use Rattle.sections.proofs.head_of.Goals as goal

pub returns : goal.returns
returns c =
    let n1 = c.u32_at-files.ensures in
    let n2 = c.u32_at-links.ensures in
    let n3 = c.u32_at-text.ensures in
    head_from _ _ _ _ _ _ _ c.u32_at-7.ensures
    (section_same _ _ _ _ _ _ _ _ c.section_of-metrics.ensures c.u32_at.ensures (length-same _ _ _ n1) n1)
    (section_same _ _ _ _ _ _ _ _ c.section_of-trace.ensures c.u32_at-2.ensures (length-same _ _ _ n2) n2)
    (section_same _ _ _ _ _ _ _ _ c.section_of-strings.ensures c.u32_at-3.ensures n3 n3)
    (section_same _ _ _ _ _ _ _ _ c.section_of-volumes.ensures c.u32_at-4.ensures c.u32_at-5.ensures c.u32_at-6.ensures)
