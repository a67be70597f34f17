-- What a volume lists: one turn of each loop lays one pair more, and each step over a sound volume goes on, so all pairs are there.
use mathlib.Core.Path.{◌≡◌, refl, sym}
use mathlib.Core.Bool.{Bool, true, false}
use mathlib.Core.List.{List, [], ◌∷◌}
use Prim.Native.Nat.{ℕ, zero, suc, ◌+◌, ◌-◌, ◌*◌, ◌≤◌, ◌<◌}
use native.Mathlib.Numerals.{add-one}
use native.Mathlib.Omega.{arith}
use lib.ListN.{length}
use Rattle.lists.specs.Pairs.{pairs_in, PairsListed}
use Rattle.lists.proofs.Pairs.{none_listed}
use Rattle.little_endian.specs.Number.{le}
use Rattle.sections.specs.Fields.{part}
use Rattle.head.specs.declared.checks.Opening.{Opening}
use Rattle.volumes.specs.declared.Volume.{Volume}
use Rattle.volumes.specs.Volumes.{entry_at, directories_at, reference_of, volume_of, step_at}
use Rattle.volumes.specs.SoundVolume.{SoundDirectory, directory_at}
use Rattle.volumes.proofs.SoundVolume.{is_step}
use Rattle.query.specs.Contents.{list_step, directory_pairs, reference_pairs}
use Rattle.query.specs.Private.{section_shown, directories_shown, references_shown}
use Rattle.query.proofs.Volumes.{section_met, hidden, shown}
use Rattle.volumes.specs.declared.Cursor.{Cursor}
use Rattle.std.specs.Prelude.{Result}
use Rattle.volumes.specs.declared.StepFault.{StepFault}

-- ---- directories
pub directories_step : (s : List ℕ) (base n k at : ℕ) (x : Result Cursor StepFault) → k < n → step_at s at ≡ x
    → directory_pairs s base (n - k) at ≡ list_step s base at x (λ next. directory_pairs s base (n - (k + 1)) next)
unfolding directory_pairs
directories_step s base n k at x l e =
    let d : n - k ≡ suc (n - (k + 1)) = omega arith in
    rw (d, directory_pairs, e)

pub directories_end : (s : List ℕ) (base n k at : ℕ) → n ≤ k → directory_pairs s base (n - k) at ≡ []
unfolding directory_pairs
directories_end s base n k at l =
    let d : n - k ≡ 0 = omega arith in
    rw d

-- each step of a sound volume goes on
pub directories_length : (s : List ℕ) (base n at : ℕ) → ((k : ℕ) → k < n → SoundDirectory s (directory_at s at k)) → length (directory_pairs s base n at) ≡ 2 * n
unfolding directory_pairs
directories_length s base zero at f = refl
directories_length s base (suc n) at f =
    rw (directory_pairs, is_step s at (f 0 (omega arith)))
    (omega (arith, directories_length s base n (at + 2 + 2 * le 2 s at + 2) (λ k l. f (suc k) (omega arith))))

-- ---- references
pub references_step : (s : List ℕ) (e n k : ℕ) → k < n
    → reference_pairs s e (n - k) k ≡ (reference_of s e k).index ∷ (reference_of s e k).sequence ∷ reference_pairs s e (n - (k + 1)) (k + 1)
unfolding reference_pairs
references_step s e n k l =
    let d : n - k ≡ suc (n - (k + 1)) = omega arith in
    rw (d, add-one k)

pub references_end : (s : List ℕ) (e n k : ℕ) → n ≤ k → reference_pairs s e (n - k) k ≡ []
unfolding reference_pairs
references_end s e n k l =
    let d : n - k ≡ 0 = omega arith in
    rw d

pub references_length : (s : List ℕ) (e n k : ℕ) → length (reference_pairs s e n k) ≡ 2 * n
unfolding reference_pairs
references_length s e zero k = refl
references_length s e (suc n) k = omega (arith, references_length s e n (suc k))

-- ---- where checks 1 to 6 pass: what is listed, by what the tests on the section gave
module _ (o : Opening) (p : List ℕ) (i : ℕ) {b held : List ℕ} {r : Bool} (eb : b ≡ part o.head.volumes p)
    (e : r ≡ section_shown o.head.volumes o.layout b i) where
  pub directories_hidden : r ≡ false → PairsListed (directories_shown o p i) held 0 held
  directories_hidden q = rw (hidden o p i eb e q) (none_listed held)

  pub references_hidden : r ≡ false → PairsListed (references_shown o p i) held 0 held
  references_hidden q = rw (hidden o p i eb e q) (none_listed held)

  module _ {after : List ℕ} {v : Volume} (q : r ≡ true) (ev : v ≡ volume_of b (entry_at o.layout i)) where
    pub directories_given : {at : ℕ} → at ≡ directories_at b (entry_at o.layout i)
        → after ≡ pairs_in (directory_pairs b o.head.volumes.at v.directories at) held
        → PairsListed (directories_shown o p i) held v.directories after
    unfolding volume_of
    directories_given ea h =
        let f = (section_met o.head.volumes o.layout b i e q).sound.directories in
        rw (shown o p i eb e q, ← eb) (record { count = rw ev (sym (directories_length b _ _ _ f)); pairs = rw (ev, ea) at h })

    pub references_given : after ≡ pairs_in (reference_pairs b (entry_at o.layout i) v.references 0) held
        → PairsListed (references_shown o p i) held v.references after
    unfolding volume_of
    references_given h = rw (shown o p i eb e q, ← eb) (record { count = rw ev (sym (references_length b _ _ 0)); pairs = rw ev at h })

pub ruleset contents = (directories_hidden, directories_given, references_hidden, references_given)
