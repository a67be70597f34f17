-- WHAT A VOLUME LISTS AND WHAT A FILE COSTS (document 03, A1 and A4): in a file that the whole-file reader accepts, every directory and
-- every reference of every volume is listed, as many as `volume` counts; and where the names, or the directories, share no byte, the cost
-- is no more than the section that holds them.
use Rattle.std.specs.Prelude.{◌≡◌, List, ℕ, zero, suc, ◌+◌, ◌*◌, ◌≤◌, ◌<◌, length}
use Rattle.lists.specs.Answer.{Answers}
use Rattle.lists.specs.Pairs.{first_of, second_of}
use Rattle.little_endian.specs.Number.{le}
use Rattle.sections.specs.Fields.{part}
use Rattle.head.specs.declared.checks.Opening.{Opening}
use Rattle.names.specs.Names.{name_at, name_units}
use Rattle.volumes.specs.Volumes.{entry_at, directories_at, directory_count, reference_of, step_at}
use Rattle.volumes.specs.SoundVolume.{directory_at}
use Rattle.query.specs.declared.costs.FileCost.{FileCost}
use Rattle.query.specs.Queries.{volume_facts}
use Rattle.query.specs.Contents.{ListsDirectories, ListsReferences}
use Rattle.query.specs.Cost.{cost_asked, cost_said}
use Rattle.reader.specs.declared.verdict.Acceptance.{Acceptance}
use Rattle.reader.specs.Checks.{ReadsFile}
use Rattle.reader.specs.Allowed.{Allowed}
use Rattle.volumes.specs.declared.Cursor.{Cursor}
use Rattle.std.specs.Prelude.{Err, Ok, Option, Result, Some}
use Rattle.volumes.specs.declared.StepFault.TheVariants.{Past, Unended}
use Rattle.volumes.specs.declared.StepFault.{StepFault}
use Rattle.incremental.specs.declared.Refusal.{Refusal}

-- where the string after k others starts: k steps of the cursor, which stays where it can't go on
abbrev pub step_on : ℕ → Result Cursor StepFault → ℕ
step_on at (Ok c) = c.at
step_on at (Err Past) = at
step_on at (Err Unended) = at

abbrev pub stepped : List ℕ → ℕ → ℕ → ℕ
stepped s at zero = at
stepped s at (suc k) = stepped s (step_on at (step_at s at)) k

-- pair k of a list is these two numbers
pub record PairIs (pairs : List ℕ) (k x y : ℕ) : Type 0 where
  pub first : first_of pairs k ≡ x
  pub second : second_of pairs k ≡ y

-- what functions that meet the promises give for volume i, whose entry is at e of the volumes section s
pub record VolumeListed (p : List ℕ) (o : Opening) (i : ℕ) (s : List ℕ) (e : ℕ) : Type 0 where
  pub directories : (before : List ℕ) (r : ℕ) (after : List ℕ) → ListsDirectories p i before r after → r ≡ (volume_facts o p i).directories
  -- the k-th pair is the k-th string, where the list has room for it
  pub directory : (k : ℕ) → k < (volume_facts o p i).directories → (before : List ℕ) (r : ℕ) (after : List ℕ)
      → ListsDirectories p i before r after → 2 * k + 1 < length before
      → PairIs after k (o.head.volumes.at + stepped s (directories_at s e) k + 2) (le 2 s (stepped s (directories_at s e) k))
  pub references : (before : List ℕ) (r : ℕ) (after : List ℕ) → ListsReferences p i before r after → r ≡ (volume_facts o p i).references
  pub reference : (k : ℕ) → k < (volume_facts o p i).references → (before : List ℕ) (r : ℕ) (after : List ℕ)
      → ListsReferences p i before r after → 2 * k + 1 < length before
      → PairIs after k (reference_of s e k).index (reference_of s e k).sequence

-- a byte is one of so many from a start
pub record Covers (start size byte : ℕ) : Type 0 where
  pub from : start ≤ byte
  pub to : byte < start + size

-- no byte of the strings is in two names, each with its zero
abbrev pub NamesApart : Opening → List ℕ → Type 0
NamesApart o p =
    let metrics = part o.head.metrics p in
    (byte j k : ℕ) → j < o.head.metrics.count → k < o.head.metrics.count
    → Covers (name_at o.layout metrics j) (2 * name_units o.layout metrics j + 2) byte
    → Covers (name_at o.layout metrics k) (2 * name_units o.layout metrics k + 2) byte
    → j ≡ k

-- a byte is in directory k of the volume whose entry is at e
pub record InDirectory (s : List ℕ) (e k byte : ℕ) : Type 0 where
  pub below : k < directory_count s e
  pub covers : Covers (directory_at s (directories_at s e) k) (2 + 2 * le 2 s (directory_at s (directories_at s e) k) + 2) byte

-- no byte of the volumes section is in directories of two volumes
abbrev pub DirectoriesApart : Opening → List ℕ → Type 0
DirectoriesApart o p =
    let s = part o.head.volumes p in
    (byte i j k l : ℕ) → i < o.head.volumes.count → j < o.head.volumes.count → InDirectory s (entry_at o.layout i) k byte
    → InDirectory s (entry_at o.layout j) l byte
    → i ≡ j

pub record ContentsGiven (p : List ℕ) (o : Opening) : Type 0 where
  pub listed : (i : ℕ) → i < o.head.volumes.count → VolumeListed p o i (part o.head.volumes p) (entry_at o.layout i)
  pub names_fit : (r : Option FileCost) (c : FileCost) → Answers cost_said (cost_asked p) r → r ≡ Some c → NamesApart o p → c.names ≤ o.head.strings.len
  pub directories_fit : (r : Option FileCost) (c : FileCost) → Answers cost_said (cost_asked p) r → r ≡ Some c → DirectoriesApart o p
      → c.directories ≤ o.head.volumes.len

-- the statement, over the promises of the whole-file reader and of the queries
abbrev pub Contents : Type 0
Contents = (file buffer : List ℕ) (v : Result Acceptance Refusal) (after : List ℕ) (a : Acceptance) → ReadsFile file buffer v after → v ≡ Ok a
    → (o : Opening) × Allowed file o × ContentsGiven file o
