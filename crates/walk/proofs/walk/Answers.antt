-- The whole-file reader's refusals are handed on; what it accepts is walked.
use mathlib.Core.Path.{◌≡◌, refl}
use mathlib.Core.List.{List}
use Prim.Native.Nat.{ℕ}
use Rattle.incremental.specs.Decision.{refuse}
use Rattle.incremental.specs.Plan.{decided}
use Rattle.incremental.specs.declared.Refusal.{Refusal}
use Rattle.reader.specs.Checks.{file_answer}
use Rattle.walk.specs.Walk.{walked}
use Rattle.walk.proofs.File.{walks_refused, reader_accepts, walks_length}
use Rattle.std.proofs.lemmas.Result.{err_from_is_err_and}
use Rattle.walk.proofs.walk.Goals as goal

-- 23 is not looked at where the reader refuses
reader-first : (p : List ℕ) (m n : ℕ) (f : Refusal) → file_answer p m ≡ decided (refuse f) → walked p m n ≡ refuse f
unfolding walked
reader-first p m n f e = rw e refl

pub walk_opened-requires : goal.walk_opened-requires
walk_opened-requires c = reader_accepts _ _ _ _ _ _ c.read_opened.ensures c.in_ok-opening.was c.read_opened.auto.predecessors

pub returns : goal.returns
returns c = walks_length _ _ _ _ _ _ _ c.read_opened.auto.predecessors c.walk_opened.ensures

pub returns-in_err-opening : goal.returns-in_err-opening
returns-in_err-opening c =
    let e = err_from_is_err_and c.from_residual.result c.from_residual.ensures.1 in
    rw (e.1, e.2) (walks_refused _ _ _ _ _ _ c.read_opened.ensures c.in_err-opening.was (reader-first _ _ _ _))
