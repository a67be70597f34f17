-- The points marked P: those of the prefix reader are computed.
use mathlib.Core.Path.{refl}
use Rattle.path_hash.proofs.Points.{hash_points}
use Rattle.catalogue.proofs.Points.{line_points}
use Rattle.trace.proofs.Points.{trace_points}
use Rattle.claims.proofs.Computed.{answered}
use Rattle.claims.specs.Points.{PrefixPoints, Points}

prefix_points : PrefixPoints
unfolding answered
prefix_points = record { no_bytes = λ m. refl; eight_bytes = λ m. refl; version_24 = λ m. refl; size_147 = λ m. refl }

pub points : Points
points = record { prefixes = prefix_points; hashes = hash_points; links = trace_points; line = line_points }
