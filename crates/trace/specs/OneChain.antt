-- In a list that passes the checks every entry is on exactly one chain.
use Rattle.std.specs.Prelude.{◌≡◌, List, ℕ, ◌<◌, length}
use Rattle.trace.specs.Links.{after, follow}

-- a chain's first entry: an entry that no entry names
pub record Head (s : List ℕ) (h : ℕ) : Type 0 where
  pub entry : h < length s
  pub unnamed : (i : ℕ) → i < length s → after s i ≡ h → ⊥

-- entry e stands k steps after the head h
pub record OnChain (s : List ℕ) (e h k : ℕ) : Type 0 where
  pub head : Head s h
  pub steps : follow s k h ≡ e

pub record OneChain (s : List ℕ) (e : ℕ) : Type 0 where
  pub head : ℕ
  pub place : ℕ
  pub on : OnChain s e head place
  pub only : (h k : ℕ) → OnChain s e h k → (h ≡ head) × (k ≡ place)
