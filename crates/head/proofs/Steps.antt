-- The steps of these checks, for `search` at a function's returns. `r` is what a call gave; the code has matched on it.
use mathlib.Core.Path.{◌≡◌, ap, ◌∙◌}
use mathlib.Core.List.{List}
use Prim.Native.Nat.{ℕ}
use Rattle.lists.specs.Answer.{Answers}
use Rattle.layout.specs.Versions.{version_of, layout_of, known_said}
use Rattle.layout.specs.declared.Version.{Version}
use Rattle.layout.specs.declared.UnknownVersion.{UnknownVersion}
use Rattle.std.specs.Result.{result_ok}
use Rattle.layout.specs.declared.Layout.{Layout}
use Rattle.incremental.specs.Decision.{accept}
use Rattle.incremental.specs.Plan.{Answer, decided, done, run}
use Rattle.sections.specs.Fields.{size_fault}
use Rattle.incremental.proofs.Plan.{run_steps}
use Rattle.head.specs.declared.checks.Start.{Start}
use Rattle.incremental.specs.declared.Fault.{Fault}
use Rattle.std.specs.Prelude.{Option, Result}

-- 1: the version of the number that was read
pub version_read : (m n : ℕ) (r : Result Version UnknownVersion) (v : Option Version) → Answers known_said (version_of n) (result_ok r) → v ≡ result_ok r → n ≡ m
    → v ≡ version_of m
version_read m n r v e q k = q ∙ e.answer ∙ ap version_of k

-- the layout that a call gave is the version's
pub size_laid : (v : Version) (l : Layout) (b : List ℕ) (r : Option Fault) → r ≡ size_fault l b → l ≡ layout_of v → r ≡ size_fault (layout_of v) b
size_laid v l b r e q = rw (← q) e

pub start_laid : (v : Version) (l : Layout) (n : ℕ) (p : List ℕ) → l ≡ layout_of v
    → ◌≡◌ {A = Answer Start} (decided (accept (record { version = v; layout = l; name_units = n })))
    (run (done (record { version = v; layout = layout_of v; name_units = n })) p)
unfolding run
start_laid v l n p q = rw q

pub ruleset steps = (size_laid, start_laid, version_read, run_steps)
