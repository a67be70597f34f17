-- THE POINTS marked P of document 01's "Points on either edge", under a single statement.
use Rattle.std.specs.Prelude.{◌≡◌, [], ◌∷◌, ℕ}
use Rattle.incremental.specs.Decision.{refuse, refusal}
use Rattle.incremental.specs.Plan.{decided, wants}
use Rattle.path_hash.specs.Points.{HashPoints}
use Rattle.catalogue.specs.Points.{LinePoints}
use Rattle.trace.specs.Points.{TracePoints}
use Rattle.reader.specs.Checks.{prefix_answer}

-- the prefix reader's points, with any working buffer
pub record PrefixPoints : Type 0 where
  pub no_bytes : (m : ℕ) → prefix_answer [] m ≡ wants 4
  pub eight_bytes : (m : ℕ) → prefix_answer (17 ∷ 0 ∷ 0 ∷ 0 ∷ 0x53 ∷ 0x43 ∷ 0x43 ∷ 0x41 ∷ []) m ≡ wants 16
  pub version_24 : (m : ℕ) → prefix_answer (24 ∷ 0 ∷ 0 ∷ 0 ∷ []) m ≡ decided (refuse (refusal 1 0 0))
  pub size_147 : (m : ℕ) → prefix_answer (17 ∷ 0 ∷ 0 ∷ 0 ∷ 0x53 ∷ 0x43 ∷ 0x43 ∷ 0x41 ∷ 0 ∷ 0 ∷ 0 ∷ 0 ∷ 147 ∷ 0 ∷ 0 ∷ 0 ∷ []) m ≡ decided
      (refuse (refusal 3 0 12))

pub record Points : Type 0 where
  pub prefixes : PrefixPoints
  pub hashes : HashPoints
  pub links : TracePoints
  pub line : LinePoints
