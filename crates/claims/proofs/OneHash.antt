-- Vista and 2008 are one hash, so the two tests of version 23 are one test.
use mathlib.Core.Path.{◌≡◌, refl, sym, ap, ◌∙◌}
use mathlib.Core.List.{List}
use Prim.Native.Nat.{ℕ, ◌+◌, ◌%◌, ◌^◌}
use native.Mathlib.Omega.{arith}
use lib.Dec.{eqb}
use Rattle.lists.specs.First.{first}
use Rattle.lists.proofs.Tests.{by_test}
use Rattle.layout.specs.declared.Version.TheVariants.{V23}
use Rattle.path_hash.specs.Hash.{vista, hash2008}
use Rattle.path_hash.proofs.Laws.{vista_2008}
use Rattle.head.specs.declared.checks.Opening.{Opening}
use Rattle.path_search.specs.Search.{matches_by}
use Rattle.path_search.proofs.Least.{hash_low}
use Rattle.claims.specs.OneHash.{either_matches, old_match, OneHash}

only_both : (s : List ℕ) (hash : ℕ) → eqb (vista s) hash ≡ eqb (hash2008 s) hash
only_both s hash = ap (λ h. eqb h hash) (vista_2008 s)

one_test : (s : List ℕ) (hash : ℕ) → either_matches s hash ≡ eqb (vista s) hash
one_test s hash = rw (← only_both s hash) (by_test (eqb (vista s) hash) (λ q. rw q) (λ q. rw q))

by_zero : (s : List ℕ) (hash : ℕ) → either_matches s hash ≡ eqb ((vista s + 0) % 2 ^ 32) hash
by_zero s hash =
    let z : (vista s + 0) % 2 ^ 32 ≡ vista s = omega (arith, hash_low V23 s) in
    one_test s hash ∙ ap (λ h. eqb h hash) (sym z)

same_entry : (o : Opening) (p : List ℕ) → o.version ≡ V23 → old_match o p ≡ first (matches_by o p 0) o.head.metrics.count
unfolding old_match
same_entry o p e = rw e (simp by_zero)

pub one_hash : OneHash
one_hash = record { seventh_power = refl; eighth_power = refl; vista_2008 = vista_2008; only_both = only_both; same_entry = same_entry }
