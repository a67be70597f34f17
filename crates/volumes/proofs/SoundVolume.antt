-- WHAT A SOUND VOLUME IS: document 01's rules on one volume, and that checks 14 and 15 pass exactly where they hold.
use mathlib.Core.Path.{◌≡◌, refl, sym, ◌∙◌, ap}
use mathlib.Core.Bool.{Bool, true, false, not, or-true}
use mathlib.Core.List.{List}
use mathlib.Core.Logic.{◌⊎◌, inl, inr, ◌↔◌, ⊎_map}
use Prim.Native.Nat.{ℕ, zero, suc, ◌+◌, ◌*◌, ◌≤◌, ◌<◌}
use native.Mathlib.Omega.{arith}
use lib.Dec.{ltb, eqb}
use lib.ListN.{length}
use borrow.Author.Tests.{leb-true, le-leb, le-ltb, ltb-false, eqb-true, eq-eqb, ne_eqb}
use Rattle.lists.specs.Count.{pick}
use Rattle.lists.proofs.Tests.{by_test, never, both_true, one_true}
use Rattle.little_endian.specs.Number.{le, zero_unit}
use Rattle.layout.specs.declared.Layout.{Layout}
use Rattle.incremental.specs.Decision.{Decision, accept, fault_at, check, ◌>>◌}
use Rattle.volumes.specs.declared.Cursor.{Cursor}
use Rattle.volumes.specs.Volumes.{entry_at, path_at, path_count, path_fits, references_size, reference_count}
use Rattle.volumes.specs.Volumes.{references_fit, step_at, on_step, directory_checks, entry_checks, volumes_from}
use Rattle.volumes.proofs.Laws.{entry_directories, volumes_each}
use Rattle.volumes.specs.SoundVolume.{SoundReferences, SoundDirectory, directory_at, SoundVolume}
use Rattle.std.specs.Prelude.{Err, Ok, Result}
use Rattle.volumes.specs.declared.StepFault.TheVariants.{Past, Unended}
use Rattle.volumes.specs.declared.StepFault.{StepFault}

-- ---- path and references
path_is : (s : List ℕ) (e : ℕ) → path_fits s e ≡ true → (path_count s e ≡ 0) ⊎ (path_at s e + 2 * path_count s e ≤ length s)
unfolding path_fits
path_is s e h = ⊎_map (eqb-true _ _) (leb-true _ _) (one_true _ _ h)

is_path : (s : List ℕ) (e : ℕ) → (path_count s e ≡ 0) ⊎ (path_at s e + 2 * path_count s e ≤ length s) → path_fits s e ≡ true
unfolding path_fits
is_path s e (inl z) = rw (eq-eqb _ _ z)
is_path s e (inr h) = rw (le-leb _ _ h) (or-true (eqb (path_count s e) 0))

references_is : (s : List ℕ) (e : ℕ) → references_fit s e ≡ true → (references_size s e ≡ 0) ⊎ SoundReferences s e
unfolding references_fit reference_count
references_is s e h =
    by_test (eqb (references_size s e) 0) (λ q. inl (eqb-true _ _ q))
    (λ q.
    let a = both_true _ _ (rw q at h) in
    let b = both_true _ _ a.1 in
    inr (record { least = leb-true _ _ a.0; inside = leb-true _ _ b.0; numbers = leb-true _ _ b.1 }))

is_references : (s : List ℕ) (e : ℕ) → (references_size s e ≡ 0) ⊎ SoundReferences s e → references_fit s e ≡ true
unfolding references_fit reference_count
is_references s e (inl z) = rw (eq-eqb _ _ z)
is_references s e (inr r) =
    let n : eqb (references_size s e) 0 ≡ false = ne_eqb (references_size s e) 0 (λ z. omega (arith, r.least)) in
    rw (n, le-leb _ _ r.least, le-leb _ _ r.inside) (le-leb _ _ r.numbers)

-- ---- directories

-- a step that goes on has passed a directory string
pub step_is : (s : List ℕ) (at : ℕ) (next : Cursor) → step_at s at ≡ Ok next → SoundDirectory s at × (next.at ≡ at + 2 + 2 * le 2 s at + 2)
unfolding step_at
step_is s at next = go (ltb (length s) (at + 2)) (ltb (length s) (at + 4 + 2 * le 2 s at)) (zero_unit s (at + 2 + 2 * le 2 s at)) refl refl
  where
    go : (a b c : Bool) → ltb (length s) (at + 4 + 2 * le 2 s at) ≡ b → zero_unit s (at + 2 + 2 * le 2 s at) ≡ c
        → pick a (Err Past) (pick b (Err Past) (pick c (Ok (record { at = at + 4 + 2 * le 2 s at })) (Err Unended))) ≡ Ok next
        → SoundDirectory s at × (next.at ≡ at + 2 + 2 * le 2 s at + 2)
    go false false true q x e =
        let n : at + 4 + 2 * le 2 s at ≡ next.at = ap (λ (c : Cursor). c.at) (cc) in
        let h : at + 4 + 2 * le 2 s at ≤ length s = ltb-false _ _ q in
        (record { inside = omega arith; ended = eqb-true _ _ x }, omega arith)
    go false false false q x e = never cc
    go false true c q x e = never cc
    go true b c q x e = never cc

pub is_step : (s : List ℕ) (at : ℕ) → SoundDirectory s at → step_at s at ≡ Ok (record { at = at + 2 + 2 * le 2 s at + 2 })
unfolding step_at
is_step s at d =
    let n : at + 2 + 2 * le 2 s at + 2 ≡ at + 4 + 2 * le 2 s at = omega arith in
    let h = d.inside in
    rw (n, le-ltb (length s) (at + 2) (omega arith), le-ltb (length s) (at + 4 + 2 * le 2 s at) (omega arith), eq-eqb _ _ d.ended)

directories_are : (s : List ℕ) (i place n at : ℕ) → directory_checks s i place n at ≡ accept tt → (k : ℕ) → k < n → SoundDirectory s (directory_at s at k)
unfolding directory_checks
directories_are s i place zero at e k l = absurd (omega arith)
directories_are s i place (suc n) at e k l = go (step_at s at) refl e k l (directories_are s i place n)
  where
    go : (x : Result Cursor StepFault) → step_at s at ≡ x → on_step i place x (λ next. directory_checks s i place n next) ≡ accept tt → (k : ℕ) → k < suc n
        → ((next : ℕ) → directory_checks s i place n next ≡ accept tt → (k : ℕ) → k < n → SoundDirectory s (directory_at s next k))
        → SoundDirectory s (directory_at s at k)
    go (Ok c) q h zero l ih = (step_is s at c q).0
    go (Ok c) q h (suc k) l ih = rw (step_is s at c q).1 at (ih c.at h k (omega arith))
    go (Err Past) q h k l ih = never cc
    go (Err Unended) q h k l ih = never cc

are_directories : (s : List ℕ) (i place n at : ℕ) → ((k : ℕ) → k < n → SoundDirectory s (directory_at s at k)) → directory_checks s i place n at ≡ accept tt
unfolding directory_checks
are_directories s i place zero at f = refl
are_directories s i place (suc n) at f =
    rw (directory_checks, is_step s at (f 0 (omega arith))) (are_directories s i place n (at + 2 + 2 * le 2 s at + 2) (λ k l. f (suc k) (omega arith)))

-- ---- one volume
check_passes : (i place : ℕ) (b : Bool) (later : Decision Unit) → (check 14 (fault_at i place (not b)) >> later) ≡ accept tt
    → (b ≡ true) × (later ≡ accept tt)
check_passes i place true later e = (refl, e)
check_passes i place false later e = never cc

volume_is : (s : List ℕ) (i place e : ℕ) → entry_checks s i place e ≡ accept tt → SoundVolume s e
unfolding entry_checks
volume_is s i place e h =
    let a = check_passes i place (path_fits s e) _ h in
    let b = check_passes i place (references_fit s e) _ a.1 in
    record { path = path_is s e a.0; references = references_is s e b.0; directories = directories_are s i place _ _ b.1 }

is_volume : (s : List ℕ) (i place e : ℕ) → SoundVolume s e → entry_checks s i place e ≡ accept tt
is_volume s i place e v =
    sym (entry_directories s i place e (is_path s e v.path) (is_references s e v.references)) ∙ are_directories s i place _ _ v.directories

pub sound_volume : (s : List ℕ) (i place e : ℕ) → (entry_checks s i place e ≡ accept tt) ↔ SoundVolume s e
sound_volume s i place e = (volume_is s i place e, is_volume s i place e)

-- the volumes pass checks 14 and 15 exactly when each of them is sound
pub volumes_sound : (s : List ℕ) (v : Layout) (start n : ℕ) → (volumes_from s v start n 0 ≡ accept tt) ↔ ((i : ℕ) → i < n → SoundVolume s (entry_at v i))
volumes_sound s v start n = (
  (λ e i l. volume_is s i _ (entry_at v i) ((volumes_each s v start n).0 e i l)),
  (λ f. (volumes_each s v start n).1 (λ i l. is_volume s i _ (entry_at v i) (f i l))),
)
