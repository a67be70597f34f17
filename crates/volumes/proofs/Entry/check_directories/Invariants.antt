-- Each turn steps over one string; the checks from the cursor on are those of all, so a failing step decides.
use mathlib.Core.Path.{◌≡◌}
use Prim.Native.Nat.{◌-◌}
use Rattle.volumes.specs.Volumes.{directory_checks, directory_count, directories_at}
use Rattle.volumes.proofs.Entry.check_directories.Given as goal

abbrev pub invariant-loop : goal.invariant-loop
invariant-loop l =
    directory_checks l.self.section.now l.i l.place (directory_count l.self.section.now l.self.at) (directories_at l.self.section.now l.self.at)
    ≡ directory_checks l.self.section.now l.i l.place (l.count - l.counter) l.cursor.at
