-- A version that is written, and 1 for any other number.
use mathlib.Core.Path.{sym, ◌∙◌}
use Rattle.writer.proofs.Answering.{given_there, written_known}
use Rattle.writer.proofs.write.write_checked.Goals as goal

pub write_version-requires : goal.write_version-requires
write_version-requires c =
    (written_known _ _ (sym c.written_version.ensures ∙ given_there _ _ _ _ c.in_ok-version.ensures)).0
