-- What holds of every refusal of checks 14 and 15: each is of a volume below the count, with its entry's place in the file.
use mathlib.Core.List.{List}
use Prim.Native.Nat.{ℕ, zero, suc, ◌+◌, ◌≤◌, ◌<◌}
use mathlib.Core.Bool.{Bool, true, false, not}
use mathlib.Core.Path.{◌≡◌}
use native.Mathlib.Nat.{le_refl}
use native.Mathlib.Omega.{arith}
use Rattle.layout.specs.Head.{entry_offset}
use Rattle.layout.specs.Versions.{volume_entry}
use Rattle.layout.specs.declared.Layout.{Layout}
use Rattle.incremental.specs.Decision.{refusal, fault_at}
use Rattle.incremental.specs.declared.Refusal.{Refusal}
use Rattle.incremental.proofs.Each.{Fair, fair_accept, fair_refuse, fair_check, fair_then}
use Rattle.volumes.specs.Volumes.{entry_at, step_at, on_step, directory_count, directories_at, directory_checks, entry_checks, volume_checks, volumes_from}
use Rattle.volumes.specs.Volumes.{path_fits, references_fit}
use Rattle.lists.proofs.Tests.{never}
use Rattle.volumes.specs.declared.Cursor.{Cursor}
use Rattle.std.specs.Prelude.{Err, Ok, Result, Some}
use Rattle.volumes.specs.declared.StepFault.TheVariants.{Past, Unended}
use Rattle.volumes.specs.declared.StepFault.{StepFault}
use Rattle.incremental.specs.Decision.{fault}
use Rattle.incremental.proofs.Decision.{fault_same}

module _ (Q : Refusal → Type 0) where
  fair-directories : (s : List ℕ) (i place n at : ℕ) → Q (refusal 14 i place) → Q (refusal 15 i place) → Fair Q (directory_checks s i place n at)
  unfolding directory_checks
  fair-directories s i place zero at a b = fair_accept Q tt
  fair-directories s i place (suc n) at a b = go (step_at s at) (λ next. fair-directories s i place n next a b)
    where
      go : (t : Result Cursor StepFault) → ((next : ℕ) → Fair Q (directory_checks s i place n next)) → Fair Q (on_step i place t (λ next. directory_checks s i place n next))
      go (Ok c) ih = ih c.at
      go (Err Past) ih = fair_refuse Q (refusal 14 i place) a
      go (Err Unended) ih = fair_refuse Q (refusal 15 i place) b

  at-fault : (n i place : ℕ) (b : Bool) → Q (refusal n i place) → (j at : ℕ) → fault_at i place b ≡ Some (fault j at) → Q (refusal n j at)
  at-fault n i place true h j at e =
      let x = fault_same _ _ _ _ e in
      rw (← x.0, ← x.1) h
  at-fault n i place false h j at e = never cc

  fair-volume : (s : List ℕ) (i place e : ℕ) → Q (refusal 14 i place) → Q (refusal 15 i place) → Fair Q (entry_checks s i place e)
  unfolding entry_checks
  fair-volume s i place e a b =
      fair_check Q 14 _ _ (at-fault 14 i place (not (path_fits s e)) a)
      (fair_check Q 14 _ _ (at-fault 14 i place (not (references_fit s e)) a) (fair-directories s i place (directory_count s e) (directories_at s e) a b))

  -- the n volumes from i
  pub fair_volumes : (s : List ℕ) (l : Layout) (start n i : ℕ)
      → ((k : ℕ) → i ≤ k → k < i + n → Q (refusal 14 k (entry_offset start (volume_entry l) k)) × Q (refusal 15 k (entry_offset start (volume_entry l) k)))
      → Fair Q (volumes_from s l start n i)
  unfolding volumes_from
  fair_volumes s l start zero i h = fair_accept Q tt
  fair_volumes s l start (suc n) i h =
      let q = h i (le_refl i) (omega arith) in
      fair_then Q (volume_checks s l start i) (volumes_from s l start n (suc i)) (fair-volume s i _ (entry_at l i) q.0 q.1)
      (fair_volumes s l start n (suc i) (λ k a b. h k (omega arith) (omega arith)))
