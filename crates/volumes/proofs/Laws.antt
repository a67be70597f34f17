-- Laws on the checks of a volumes section: what each way through the code decides, and what it means that all volumes pass.
use mathlib.Core.Path.{◌≡◌, refl}
use mathlib.Core.Bool.{true, false}
use mathlib.Core.List.{List}
use mathlib.Core.Logic.{◌↔◌}
use Prim.Native.Nat.{ℕ, zero, suc, ◌+◌, ◌-◌, ◌*◌, ◌≤◌, ◌<◌}
use native.Mathlib.Nat.{sub-zero, add-zero, zero-add}
use native.Mathlib.Numerals.{add-one}
use native.Mathlib.Omega.{arith}
use lib.Dec.{leb}
use lib.ListN.{length}
use borrow.Author.Tests.{le-leb, lt-leb, le-ltb, lt-ltb, eq-eqb, ne_eqb}
use Rattle.lists.specs.First.{first}
use Rattle.lists.proofs.Tests.{never}
use Rattle.little_endian.specs.Number.{le, zero_unit}
use Rattle.layout.specs.Head.{entry_offset}
use Rattle.layout.specs.Versions.{volume_entry}
use Rattle.layout.specs.declared.Layout.{Layout}
use Rattle.incremental.specs.Decision.{Decision, accept, refuse, refusal, ◌>>◌, check}
use Rattle.incremental.proofs.Decision.{check_stops, check_goes}
use Rattle.sections.specs.Fields.{entries_fault}
use Rattle.incremental.specs.declared.Refusal.{Refusal}
use Rattle.volumes.specs.Volumes.{path_at, path_count, path_fits, path_units, references_at, references_size, reference_count, references_fit, step_at}
use Rattle.volumes.specs.Volumes.{entry_at, on_step, directory_count, directories_at, directory_checks, entry_checks, volume_checks, volumes_from, volumes_checks}
use Rattle.volumes.specs.declared.Cursor.{Cursor}
use Rattle.std.specs.Prelude.{unwrap_or, Err, Ok, Option, Result}
use Rattle.incremental.specs.declared.Fault.{Fault}
use Rattle.volumes.specs.declared.StepFault.TheVariants.{Past, Unended}
use Rattle.volumes.specs.declared.StepFault.{StepFault}

-- The path
pub path_none : (s : List ℕ) (e : ℕ) → path_count s e ≡ 0 → true ≡ path_fits s e
unfolding path_fits
path_none s e h = rw (eq-eqb (path_count s e) 0 h)

pub path_some : (s : List ℕ) (e : ℕ) {at count : ℕ} → at ≡ path_at s e → count ≡ path_count s e → (count ≡ 0 → ⊥) → leb (at + 2 * count) (length s) ≡ path_fits s e
unfolding path_fits
path_some s e a n h = rw (← a, ← n, ne_eqb _ 0 h)

-- The references
pub count_none : (s : List ℕ) (e : ℕ) → references_size s e ≡ 0 → 0 ≡ reference_count s e
unfolding reference_count
count_none s e h = rw (eq-eqb (references_size s e) 0 h)

pub count-some : (s : List ℕ) (e : ℕ) → (references_size s e ≡ 0 → ⊥) → le 4 s (references_at s e + 4) ≡ reference_count s e
unfolding reference_count
count-some s e h = rw (ne_eqb (references_size s e) 0 h)

pub references_none : (s : List ℕ) (e : ℕ) → references_size s e ≡ 0 → true ≡ references_fit s e
unfolding references_fit
references_none s e h = rw (eq-eqb (references_size s e) 0 h)

pub references_small : (s : List ℕ) (e : ℕ) → (references_size s e ≡ 0 → ⊥) → references_size s e < 8 → false ≡ references_fit s e
unfolding references_fit
references_small s e h l = rw (ne_eqb (references_size s e) 0 h, lt-leb 8 (references_size s e) l)

pub references_past : (s : List ℕ) (e : ℕ) → 8 ≤ references_size s e → length s < references_at s e + references_size s e → false ≡ references_fit s e
unfolding references_fit
references_past s e h l =
    rw (ne_eqb (references_size s e) 0 (λ z. omega arith), le-leb 8 (references_size s e) h, lt-leb (references_at s e + references_size s e) (length s) l)

pub references_inside : (s : List ℕ) (e : ℕ) {size n : ℕ} → size ≡ references_size s e → n ≡ reference_count s e → 8 ≤ size
    → references_at s e + size ≤ length s → leb (8 + 8 * n) size ≡ references_fit s e
unfolding references_fit
references_inside s e {size} {n} z q h l =
    rw (← z, ← q, ne_eqb size 0 (λ w. omega arith), le-leb 8 size h, le-leb (references_at s e + size) (length s) l)

-- One directory string
pub step_short : (s : List ℕ) (at : ℕ) → length s < at + 2 → Err Past ≡ step_at s at
unfolding step_at
step_short s at h = rw (lt-ltb (length s) (at + 2) h)

pub step_past : (s : List ℕ) (at : ℕ) → at + 2 ≤ length s → length s < at + 4 + 2 * le 2 s at → Err Past ≡ step_at s at
unfolding step_at
step_past s at h l = rw (le-ltb (length s) (at + 2) h, lt-ltb (length s) (at + 4 + 2 * le 2 s at) l)

pub step_unended : (s : List ℕ) (at last : ℕ) → last ≡ at + 2 + 2 * le 2 s at → last + 2 ≤ length s → (le 2 s last ≡ 0 → ⊥) → Err Unended ≡ step_at s at
unfolding step_at
step_unended s at last d h z =
    let z₁ : le 2 s (at + 2 + 2 * le 2 s at) ≡ 0 → ⊥ = rw (← d) z in
    rw (le-ltb (length s) (at + 2) (omega arith), le-ltb (length s) (at + 4 + 2 * le 2 s at) (omega arith), ne_eqb (le 2 s (at + 2 + 2 * le 2 s at)) 0 z₁)

pub step_next : (s : List ℕ) (at last : ℕ) → last ≡ at + 2 + 2 * le 2 s at → last + 2 ≤ length s → le 2 s last ≡ 0
    → Ok (record { at = last + 2 }) ≡ step_at s at
unfolding step_at
step_next s at last d h z =
    let z₁ : le 2 s (at + 2 + 2 * le 2 s at) ≡ 0 = rw (← d) z in
    let n : last + 2 ≡ at + 4 + 2 * le 2 s at = omega arith in
    rw (n, le-ltb (length s) (at + 2) (omega arith), le-ltb (length s) (at + 4 + 2 * le 2 s at) (omega arith), eq-eqb (le 2 s (at + 2 + 2 * le 2 s at)) 0 z₁)

-- The directories, by a loop whose invariant is `directory_checks s i place n first ≡ directory_checks s i place (n - done) at`
pub directories_start : (s : List ℕ) (i place n at : ℕ) → directory_checks s i place n at ≡ directory_checks s i place (n - 0) at
directories_start s i place n at = rw (sub-zero n)

pub directories_step : (s : List ℕ) (i place n done at : ℕ) (x : Result Cursor StepFault) → done < n → step_at s at ≡ x
    → directory_checks s i place (n - done) at ≡ on_step i place x (λ next. directory_checks s i place (n - (done + 1)) next)
unfolding directory_checks
directories_step s i place n done at x l e =
    let d : n - done ≡ suc (n - (done + 1)) = omega arith in
    rw (d, directory_checks, e)

pub directories_end : (s : List ℕ) (i place n done at : ℕ) → n ≤ done → directory_checks s i place (n - done) at ≡ accept tt
unfolding directory_checks
directories_end s i place n done at l =
    let d : n - done ≡ 0 = omega arith in
    rw d

-- The volumes, by a loop whose invariant is `volumes_from s v start n 0 ≡ volumes_from s v start (n - i) i`
pub volumes_start : (s : List ℕ) (v : Layout) (start n : ℕ) → volumes_from s v start n 0 ≡ volumes_from s v start (n - 0) 0
volumes_start s v start n = rw (sub-zero n)

pub volumes_next : (s : List ℕ) (v : Layout) (start n i : ℕ) → i < n → volume_checks s v start i ≡ accept tt
    → volumes_from s v start (n - i) i ≡ volumes_from s v start (n - (i + 1)) (i + 1)
unfolding volumes_from
volumes_next s v start n i l e =
    let d : n - i ≡ suc (n - (i + 1)) = omega arith in
    rw (d, volumes_from, e, add-one i)

pub volumes_refused : (s : List ℕ) (v : Layout) (start n i : ℕ) (r : Refusal) → i < n → volume_checks s v start i ≡ refuse r → volumes_from s v start
    (n - i) i ≡ refuse r
unfolding volumes_from
volumes_refused s v start n i r l e =
    let d : n - i ≡ suc (n - (i + 1)) = omega arith in
    rw (d, volumes_from, e)

pub volumes_end : (s : List ℕ) (v : Layout) (start n i : ℕ) → n ≤ i → volumes_from s v start (n - i) i ≡ accept tt
unfolding volumes_from
volumes_end s v start n i l =
    let d : n - i ≡ 0 = omega arith in
    rw d

-- Check 8: where it passes, checks 14 and 15 decide
pub volumes_crowded : (s : List ℕ) (v : Layout) (start n : ℕ) (d : Option Fault) (r : Refusal) → d ≡ entries_fault n (volume_entry v) (length s)
    → refuse r ≡ check 8 d → refuse r ≡ volumes_checks s v start n
unfolding volumes_checks
volumes_crowded s v start n d r e h = check_stops 8 _ d _ e r h

pub volumes_room : (s : List ℕ) (v : Layout) (start n : ℕ) (d : Option Fault) (t : Unit) → d ≡ entries_fault n (volume_entry v) (length s) → accept t ≡ check 8 d
    → volumes_checks s v start n ≡ volumes_from s v start n 0
unfolding volumes_checks
volumes_room s v start n d t e h = check_goes 8 _ d _ e t h

-- the volumes from i pass exactly when each of them does
each_passes : (s : List ℕ) (v : Layout) (start n i : ℕ) → volumes_from s v start n i ≡ accept tt → (k : ℕ) → k < n → volume_checks s v start (i + k) ≡ accept tt
unfolding volumes_from
each_passes s v start zero i e k l = absurd (omega arith)
each_passes s v start (suc n) i e k l = go (volume_checks s v start i) refl k l (each_passes s v start n (suc i))
  where
    go : (d : Decision Unit) → volume_checks s v start i ≡ d → (k : ℕ) → k < suc n
        → (volumes_from s v start n (suc i) ≡ accept tt → (k : ℕ) → k < n → volume_checks s v start (suc i + k) ≡ accept tt)
        → volume_checks s v start (i + k) ≡ accept tt
    go (accept t) q zero l ih = rw (add-zero i) q
    go (accept t) q (suc k) l ih =
        let z : (volume_checks s v start i >> volumes_from s v start n (suc i)) ≡ accept tt = e in
        let w : volumes_from s v start n (suc i) ≡ accept tt = rw q at z in
        let j : suc i + k ≡ i + suc k = omega arith in
        rw (← j) (ih w k (omega arith))
    go (refuse r) q k l ih =
        let z : (volume_checks s v start i >> volumes_from s v start n (suc i)) ≡ accept tt = e in
        let w : refuse r ≡ accept tt = rw q at z in
        never cc

all_pass : (s : List ℕ) (v : Layout) (start n i : ℕ) → ((k : ℕ) → k < n → volume_checks s v start (i + k) ≡ accept tt) → volumes_from s v start n i ≡ accept tt
unfolding volumes_from
all_pass s v start zero i f = refl
all_pass s v start (suc n) i f =
    let a : volume_checks s v start i ≡ accept tt = rw (add-zero i) at (f 0 (omega arith)) in
    let b = all_pass s v start n (suc i) (λ k l. let j : suc i + k ≡ i + suc k = omega arith in rw j (f (suc k) (omega arith))) in
    rw (volumes_from, a) b

pub volumes_each : (s : List ℕ) (v : Layout) (start n : ℕ) → (volumes_from s v start n 0 ≡ accept tt) ↔ ((i : ℕ) → i < n → volume_checks s v start i ≡ accept tt)
volumes_each s v start n =
    ((λ e i l. rw zero-add at (each_passes s v start n 0 e i l)), λ f. all_pass s v start n 0 (λ k l. rw (zero-add k) (f k l)))

-- The units of a path, by the search for its first zero unit
pub units_are : (s : List ℕ) (e : ℕ) {start count : ℕ} (r : Option ℕ) → start ≡ path_at s e → count ≡ path_count s e
    → r ≡ first (λ k. zero_unit s (start + 2 * k)) count → unwrap_or r count ≡ path_units s e
unfolding path_units
units_are s e r a n h = rw (← a, ← n, h)

-- One volume: path, references, directories
pub entry_path : (s : List ℕ) (i place e : ℕ) → path_fits s e ≡ false → refuse (refusal 14 i place) ≡ entry_checks s i place e
unfolding entry_checks
entry_path s i place e p = rw p

pub entry_references : (s : List ℕ) (i place e : ℕ) → path_fits s e ≡ true → references_fit s e ≡ false → refuse (refusal 14 i place) ≡ entry_checks s i place e
unfolding entry_checks
entry_references s i place e p q = rw (p, q)

pub entry_directories : (s : List ℕ) (i place e : ℕ) → path_fits s e ≡ true → references_fit s e ≡ true
    → directory_checks s i place (directory_count s e) (directories_at s e) ≡ entry_checks s i place e
unfolding entry_checks
entry_directories s i place e p q = rw (p, q)

-- one volume, for code that has its entry's place in the file and in the section at hand
pub volume_checked : (s : List ℕ) (v : Layout) (start i : ℕ) {place e : ℕ} {b : List ℕ} (d : Decision Unit) → place ≡ entry_offset start (volume_entry v) i
    → b ≡ s → e ≡ entry_at v i → d ≡ entry_checks b i place e → d ≡ volume_checks s v start i
volume_checked s v start i d p z q h = rw (← p, ← z, ← q) h
