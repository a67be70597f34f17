-- The points of document 01 on links.
use Rattle.std.specs.Prelude.{◌≡◌, [], ◌∷◌, ℕ}
use Rattle.incremental.specs.Decision.{accept, refuse, refusal}
use Rattle.trace.specs.Links.{end, predecessors, link_checks}

pub record TracePoints : Type 0 where
  pub one_chain : (at : ℕ → ℕ) → link_checks at (1 ∷ end ∷ []) ≡ accept 1
  pub one_chain_table : predecessors (1 ∷ end ∷ []) 2 ≡ end ∷ 0 ∷ []
  pub own_next : (at : ℕ → ℕ) → link_checks at (0 ∷ []) ≡ refuse (refusal 13 0 (at 0))
  pub named_twice : (at : ℕ → ℕ) → link_checks at (2 ∷ 2 ∷ end ∷ []) ≡ refuse (refusal 12 2 (at 2))
