-- The swap of a start gives the hash of the joined list.
use Rattle.std.proofs.Common.{◌≡◌, ℕ, zero, suc, ◌+◌, ◌-◌, ◌*◌, ◌/◌, ◌%◌, ◌^◌, ◌<◌, ◌≤◌, List, [], ◌∷◌, ◌++◌, length, take, drop, map, Ok, sym, refl, ap, mod-eq_of_lt, arith, lit<, length-drop, le-leb}
use native.Mathlib.Nat.{div-add-mod, add-mod-mod}
use Rattle.std.proofs.lemmas.List.{length-map, take-map}
use Rattle.std.specs.List.{IsSplitAt}
use Rattle.lists.specs.Answer.{Answers}
use Rattle.lists.proofs.Answers.{answers}
use Rattle.path_hash.specs.Hash.{step, plain, vista, wrap_sub}
use Rattle.path_hash.proofs.Laws.{same-mod, plain-append, plain-lt}
use Rattle.power_hash.specs.Powers.{power_sum, swap_hash, swap_answer, swap_said}
use Rattle.power_hash.proofs.Sum.{plain-sum}

-- a list is its first p numbers and the others
plain_parts : (h p : ℕ) (s : List ℕ) → plain h s ≡ plain (plain h (take p s)) (drop p s)
unfolding plain
plain_parts h zero s = refl
plain_parts h (suc p) [] = refl
plain_parts h (suc p) (c ∷ s) = plain_parts (step h c) p s

-- THE SWAP GIVES THE HASH OF THE JOINED RESULT, where the old hash is that of the old list
pub swap_joined : (old start : List ℕ) (p : ℕ) → p ≤ length old → swap_hash (vista old) old p start ≡ vista (start ++ drop p old)
unfolding swap_hash wrap_sub
swap_joined old start p l =
    let kept = drop p old in
    let a = vista (take p old) in
    let b = vista start in
    let A = 37 ^ length kept in
    let P = power_sum kept in
    let la : a < 2 ^ 32 = plain-lt (take p old) 314159 (lit< tt) in
    let lb : b < 2 ^ 32 = plain-lt start 314159 (lit< tt) in
    let x = b + (2 ^ 32 - a % 2 ^ 32) in
    let n : length old - p ≡ length kept = sym (length-drop p old) in
    let t : a % 2 ^ 32 + (2 ^ 32 - a % 2 ^ 32) ≡ 2 ^ 32 = omega arith in
    rw (n, plain_parts 314159 p old, plain-append 314159 start kept, plain-sum kept a la, plain-sum kept b lb)
    (same-mod ((a * A + P) % 2 ^ 32 + x % 2 ^ 32 * A) (b * A + P) ((a * A + P) / 2 ^ 32 + x / 2 ^ 32 * A) (a / 2 ^ 32 * A + A)
    (omega (
      arith,
      div-add-mod (a * A + P) (2 ^ 32),
      ap (λ (k : ℕ). k * A) (div-add-mod x (2 ^ 32)),
      ap (λ (k : ℕ). k * A) (div-add-mod a (2 ^ 32)),
      ap (λ (k : ℕ). k * A) t,
    )))

-- what the code gives for the swap's hash: the difference wraps as in the definition
pub swap_turn : (h new old kept : ℕ) → old < 2 ^ 32
    → (h + (new + (2 ^ 32 - old)) % 2 ^ 32 * 37 ^ kept % 2 ^ 32) % 2 ^ 32 ≡ (h + wrap_sub new old * 37 ^ kept) % 2 ^ 32
unfolding wrap_sub
swap_turn h new old kept l = rw (mod-eq_of_lt l) (add-mod-mod h ((new + (2 ^ 32 - old)) % 2 ^ 32 * 37 ^ kept) (2 ^ 32))

-- the swap's answer, where the old list is split
pub answer_swapped : {A : Type 0} (value : A → ℕ) (h p r : ℕ) (old start before kept : List A) → IsSplitAt old p before kept
    → r ≡ (h + wrap_sub (vista (map value start)) (vista (map value before)) * 37 ^ length kept) % 2 ^ 32
    → Answers swap_said (swap_answer h (map value old) p (map value start)) (Ok r)
unfolding swap_hash
answer_swapped value h p r old start before kept split e =
    let n : length kept ≡ length old - p = omega (arith, split.4) in
    let l : p ≤ length (map value old) = rw (length-map old value) split.0 in
    answers swap_said (swap_answer h (map value old) p (map value start)) (Ok r)
    (rw (le-leb p (length (map value old)) l, length-map old value, take-map value p old, ← split.1, ← n, ← e))
