-- The sections' checks decide; where they pass and there is room the file is laid out.
use mathlib.Core.Path.{◌≡◌, refl, ap}
use mathlib.Core.List.{List}
use Prim.Native.Nat.{ℕ}
use lib.Dec.{ltb}
use lib.ListN.{length}
use Rattle.incremental.specs.Decision.{refuse}
use Rattle.incremental.specs.Plan.{decided}
use Rattle.incremental.specs.declared.Refusal.{Refusal}
use Rattle.reader.specs.Checks.{file_answer}
use Rattle.writer.specs.Writes.{roomed, placed_answer, output_after}
use Rattle.writer.proofs.Answering.{drafted_exit, drafted_refused, sections_refused, place_short, file_laid}
use Rattle.writer.proofs.write.write_planned.Goals as goal

place_kept : (file output : List ℕ) (f : Refusal) → output ≡ output_after (decided (refuse f)) file output
place_kept file output f = refl

-- 20 is not looked at where the reader refuses, and the place stays
checks-first : (file : List ℕ) (m n : ℕ) (f : Refusal) → file_answer file m ≡ decided (refuse f) → placed_answer file m n ≡ decided (refuse f)
checks-first file m n f e = ap (roomed (ltb n (length file))) e

pub returns-in_err-chains : goal.returns-in_err-chains
returns-in_err-chains c =
    drafted_exit _ _ _ _ _ _ c.from_residual.ensures.1 (checks-first _ _ _ _ (sections_refused _ _ _ _ _ c.args.draft.ready _ _ _ c.in_err-chains.ensures))
    place_kept

pub returns-then-output-draft : goal.returns-then-output-draft
returns-then-output-draft c =
    drafted_refused _ _ _ _ _ _ c.refuse.ensures (place_short _ _ _ _ _ c.args.draft.ready _ _ _ c.in_ok-chains.ensures _ c.if-output-draft.true)
    place_kept

pub returns : goal.returns
returns c =
    file_laid _ _ _ _ _ c.args.draft.ready _ _ _ c.in_ok-chains.ensures _ _ _ c.if-output-draft.false c.put_file.ensures c.record_of.ensures
