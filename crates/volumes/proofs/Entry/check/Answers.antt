-- Path, references and directories are checked in the definition's order, and the first that fails gives the refusal.
use mathlib.Core.Path.{ap, sym, ◌∙◌}
use Rattle.incremental.specs.Decision.{decision_of}
use Rattle.volumes.proofs.Laws.{entry_path, entry_references, entry_directories}
use Rattle.volumes.proofs.Entry.check.Goals as goal

pub returns-then-not-references_fit : goal.returns-then-not-references_fit
returns-then-not-references_fit c =
    ap decision_of c.refused-then-not-references_fit.ensures
    ∙ entry_references _ _ _ _ (sym c.path_fits.ensures ∙ c.if-not-path_fits.false) (sym c.references_fit.ensures ∙ c.if-not-references_fit.true)

pub returns : goal.returns
returns c =
    c.check_directories.ensures
    ∙ entry_directories _ _ _ _ (sym c.path_fits.ensures ∙ c.if-not-path_fits.false) (sym c.references_fit.ensures ∙ c.if-not-references_fit.false)

pub returns-then-not-path_fits : goal.returns-then-not-path_fits
returns-then-not-path_fits c = ap decision_of c.refused.ensures ∙ entry_path _ _ _ _ (sym c.path_fits.ensures ∙ c.if-not-path_fits.true)
