-- WHAT A SOUND VOLUME IS: document 01's rules on one volume, and that checks 14 and 15 pass exactly where they hold.
use Rattle.std.specs.Prelude.{◌≡◌, List, ◌⊎◌, ℕ, zero, suc, ◌+◌, ◌*◌, ◌≤◌, ◌<◌, length}
use Rattle.little_endian.specs.Number.{le}
use Rattle.volumes.specs.Volumes.{path_at, path_count, references_at, references_size, directory_count, directories_at}

-- references of a size above 0: size is at least 8, offset + size fits the section, and 8 + 8 x n doesn't exceed size
pub record SoundReferences (s : List ℕ) (e : ℕ) : Type 0 where
  pub least : 8 ≤ references_size s e
  pub inside : references_at s e + references_size s e ≤ length s
  pub numbers : 8 + 8 * le 4 s (references_at s e + 4) ≤ references_size s e

-- the directory string at a position: 2 bytes of length, that many units and a zero unit, all in the section
pub record SoundDirectory (s : List ℕ) (at : ℕ) : Type 0 where
  pub inside : at + 2 + 2 * le 2 s at + 2 ≤ length s
  pub ended : le 2 s (at + 2 + 2 * le 2 s at) ≡ 0

-- directory strings stand one after another: where the one after k others starts
abbrev pub directory_at : List ℕ → ℕ → ℕ → ℕ
directory_at s at zero = at
directory_at s at (suc k) = directory_at s (at + 2 + 2 * le 2 s at + 2) k

-- the volume whose entry is at e
pub record SoundVolume (s : List ℕ) (e : ℕ) : Type 0 where
  -- the path is empty, or offset + 2 x count doesn't exceed the section size
  pub path : (path_count s e ≡ 0) ⊎ (path_at s e + 2 * path_count s e ≤ length s)
  pub references : (references_size s e ≡ 0) ⊎ SoundReferences s e
  pub directories : (k : ℕ) → k < directory_count s e → SoundDirectory s (directory_at s (directories_at s e) k)
