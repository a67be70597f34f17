-- REQUEST 101: the writer answers as the whole-file reader does on the laid-out file, and 20 where that accepts and the place is too short.
use Rattle.std.specs.Prelude.{◌≡◌, Bool, List, [], ◌++◌, ℕ, eqb, ltb, length, drop}
use Rattle.lists.specs.Count.{pick}
use Rattle.layout.specs.Head.{version_at}
use Rattle.layout.specs.declared.Version.{Version}
use Rattle.layout.specs.declared.Version.TheVariants.{V17, V23}
use Rattle.incremental.specs.Decision.{accept, refuse, refusal}
use Rattle.incremental.specs.Plan.{Answer, decided, wants}
use Rattle.reader.specs.Verdict.{Acceptable, Reads, verdict_in}
use Rattle.reader.specs.Checks.{file_answer}
use Rattle.writer.specs.LaidOut.{Description, description, laid_out}
use Rattle.writer.specs.declared.contents.Contents.{Contents}
use Rattle.reader.specs.declared.verdict.Acceptance.{Acceptance}
use Rattle.std.specs.Prelude.{None, Option, Result, Some}
use Rattle.incremental.specs.declared.Refusal.{Refusal}

-- the description that a file's contents are
abbrev pub description_of : Contents → Description
description_of c =
    description c.name.now c.stored_hash c.run_time c.run_count c.metrics.now c.trace.now c.strings.now c.volumes.now c.volume_count

-- the versions that are written, by their numbers
unfoldable pub writable : ℕ → Option Version
writable n = pick (eqb n 17) (Some V17) (pick (eqb n 23) (Some V23) None)

-- 20: a file that the reader accepts, and a place too short for it
abbrev pub roomed : Bool → Answer Acceptable → Answer Acceptable
roomed short (decided (accept x)) = decided (pick short (refuse (refusal 20 0 0)) (accept x))
roomed short (decided (refuse r)) = decided (refuse r)
roomed short (wants k) = wants k

-- THE ANSWER on a file, with m working places and room for n bytes
abbrev pub placed_answer : List ℕ → ℕ → ℕ → Answer Acceptable
placed_answer file m n = roomed (ltb n (length file)) (file_answer file m)

-- the same by the version's number: 1 for any other
abbrev pub answer_for : Option Version → Description → ℕ → ℕ → Answer Acceptable
answer_for (Some v) d m n = placed_answer (laid_out v d) m n
answer_for None d m n = decided (refuse (refusal 1 0 version_at))

abbrev pub write_answer : ℕ → Description → ℕ → ℕ → Answer Acceptable
write_answer version d m n = answer_for (writable version) d m n

abbrev pub file_for : Option Version → Description → List ℕ
file_for (Some v) d = laid_out v d
file_for None d = []

-- the place afterwards: the file and then what it held; as it was after a refusal
abbrev pub output_after : Answer Acceptable → List ℕ → List ℕ → List ℕ
output_after (decided (accept x)) file output = file ++ drop (length file) output
output_after (decided (refuse r)) file output = output
output_after (wants k) file output = output

-- THE PROMISE for an answer and a file: the verdict and the working buffer as a reader's, and the place
pub record Lays (answer : Answer Acceptable) (file buffer output : List ℕ) (r : Result Acceptance Refusal) (buffer' output' : List ℕ) : Type 0 where
  pub reads : Reads answer (length buffer) (verdict_in r) buffer'
  pub placed : output' ≡ output_after answer file output

-- THE PROMISE of the writer
abbrev pub Writes : ℕ → Description → List ℕ → List ℕ → Result Acceptance Refusal → List ℕ → List ℕ → Type 0
Writes version d buffer output r buffer' output' =
    Lays (write_answer version d (length buffer) (length output)) (file_for (writable version) d) buffer output r buffer' output'
