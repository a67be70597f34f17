-- What only private contracts need: the part of check 10 that looks at a name's text.
use Rattle.std.specs.Prelude.{◌≡◌, Bool, true, false, not, ◌&&◌, List, ℕ, ◌+◌, ◌*◌, ◌<◌, Option, None, Some}
use Rattle.incremental.specs.declared.Fault.{Fault}
use Rattle.lists.specs.Count.{any_below}
use Rattle.little_endian.specs.Number.{zero_unit}

-- a zero unit among so many units from an offset
abbrev pub zero_in : List ℕ → ℕ → ℕ → Bool
zero_in s at units = any_below (λ k. zero_unit s (at + 2 * k)) units

-- the part of `sound` that looks at the text: no zero unit among the units, and one directly after them
abbrev pub sound_text : List ℕ → ℕ → ℕ → Bool
sound_text s at units = not (zero_in s at units) && zero_unit s (at + 2 * units)

-- a fault at the first of so many entries that a test fails
pub record FaultAt (says : ℕ → Bool → Type 0) (at : ℕ → ℕ) (entries : ℕ) (f : Fault) : Type 0 where
  pub entry : f.index < entries
  pub place : f.offset ≡ at f.index
  pub fails : says f.index true
  pub before : (k : ℕ) → k < f.index → says k false

-- what a search for the first of so many entries that a test fails has found; `says i r` is that the test said r of entry i
pub record FirstFault (says : ℕ → Bool → Type 0) (at : ℕ → ℕ) (entries : ℕ) (r : Option Fault) : Type 0 where
  pub none : r ≡ None → (k : ℕ) → k < entries → says k false
  pub some : (f : Fault) → r ≡ Some f → FaultAt says at entries f
