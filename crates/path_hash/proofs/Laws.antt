-- Laws of the path hashes.
use Rattle.std.proofs.Common.{◌≡◌, ℕ, zero, suc, ◌+◌, ◌-◌, ◌*◌, ◌/◌, ◌%◌, ◌^◌, ◌<◌, ◌≤◌, ltb, List, [], ◌∷◌, ◌++◌, length, fold, get_or, take, drop, map, sym, refl, ap, ◌∙◌, mul_comm, mod-lt, add-one, arith, lit<, drop-cons, ltb-true, get_or-take}
use Rattle.std.proofs.lemmas.List.{length-map, drop-map}
use native.Mathlib.Nat.{add-mul-mod_self_right, mod-add-mod}
use Rattle.lists.proofs.Tests.{by_test}
use Rattle.path_hash.specs.Hash.{step, plain, vista, wrap_sub, eight_sum, eight, eight_at, eights, hash2008}

-- equal up to multiples of 2 ^ 32
pub same-mod : (a b k l : ℕ) → a + k * 2 ^ 32 ≡ b + l * 2 ^ 32 → a % 2 ^ 32 ≡ b % 2 ^ 32
same-mod a b k l e =
    sym (add-mul-mod_self_right a k (2 ^ 32)) ∙ ap (λ (x : ℕ). x % 2 ^ 32) e ∙ add-mul-mod_self_right b l (2 ^ 32)

step_at : (h c : ℕ) → step h c ≡ (37 * h + c) % 2 ^ 32
unfolding step
step_at h c = refl

-- a number may be reduced before the step or after it
pub step-mod : (x c : ℕ) → step (x % 2 ^ 32) c ≡ (37 * x + c) % 2 ^ 32
unfolding step
step-mod x c = same-mod (37 * (x % 2 ^ 32) + c) (37 * x + c) (37 * (x / 2 ^ 32)) 0 (omega arith)

-- 803794207 is the negated eighth power of 37, modulo 2 ^ 32
pub wrap_add : (c h : ℕ) → wrap_sub c (803794207 * h) ≡ (37 ^ 8 * h + c) % 2 ^ 32
unfolding wrap_sub
wrap_add c h =
    let b = 803794207 * h in
    same-mod (c + (2 ^ 32 - b % 2 ^ 32)) (37 ^ 8 * h + c) (818 * h) (b / 2 ^ 32 + 1) (omega arith)

-- eight plain steps are the eight-number step
pub eight_steps : (h c0 c1 c2 c3 c4 c5 c6 c7 : ℕ)
    → wrap_sub (eight_sum c0 c1 c2 c3 c4 c5 c6 c7) (803794207 * h)
    ≡ step (step (step (step (step (step (step (step h c0) c1) c2) c3) c4) c5) c6) c7
unfolding eight_sum
eight_steps h c0 c1 c2 c3 c4 c5 c6 c7 =
    rw (step_at h c0, step-mod, step-mod, step-mod, step-mod, step-mod, step-mod, step-mod, wrap_add)
    (same-mod
    (37 ^ 8 * h + eight_sum c0 c1 c2 c3 c4 c5 c6 c7)
    (37 * (37 * (37 * (37 * (37 * (37 * (37 * (37 * h + c0) + c1) + c2) + c3) + c4) + c5) + c6) + c7)
    (22 * c0)
    0
    (omega arith))

-- the plain step at each item of a list, by the number that it is
pub fold_plain : {A : Type 0} (value : A → ℕ) (h : ℕ) (s : List A) → fold (λ a x. step a (value x)) h s ≡ plain h (map value s)
unfolding plain
fold_plain value h [] = refl
fold_plain value h (c ∷ s) = fold_plain value (step h (value c)) s

-- every plain hash is below 2 ^ 32
pub plain-lt : (s : List ℕ) (h : ℕ) → h < 2 ^ 32 → plain h s < 2 ^ 32
unfolding plain step
plain-lt [] h l = l
plain-lt (c ∷ s) h l = plain-lt s (step h c) (mod-lt (37 * h + c) (lit< tt))

-- a hash is carried on over more numbers
pub plain-append : (h : ℕ) (s t : List ℕ) → plain h (s ++ t) ≡ plain (plain h s) t
unfolding plain
plain-append h [] t = refl
plain-append h (c ∷ s) t = plain-append (step h c) s t

-- one number more of the list is taken
plain_more : (s : List ℕ) (h k m : ℕ) → k < length s → m ≡ k + 1 → plain h (drop k s) ≡ plain (step h (get_or s k 0)) (drop m s)
unfolding plain
plain_more s h k m l e = rw (e, add-one, drop-cons s k 0)

-- the first eight numbers of the list are taken
pub plain-eight : (s : List ℕ) (h : ℕ) → 8 ≤ length s → plain h s ≡ plain (eight_at h s 0) (drop 8 s)
unfolding eight
plain-eight s h l =
    rw eight_steps
    (plain_more s _ 0 1 (omega arith) refl
    ∙ plain_more s _ 1 2 (omega arith) refl
    ∙ plain_more s _ 2 3 (omega arith) refl
    ∙ plain_more s _ 3 4 (omega arith) refl
    ∙ plain_more s _ 4 5 (omega arith) refl
    ∙ plain_more s _ 5 6 (omega arith) refl
    ∙ plain_more s _ 6 7 (omega arith) refl
    ∙ plain_more s _ 7 8 (omega arith) refl)

-- and of a list of items that stand for numbers
pub eight_items : {A : Type 0} (value : A → ℕ) (s t : List A) (h : ℕ) → 8 ≤ length s → t ≡ drop 8 s
    → plain h (map value s) ≡ plain (eight_at h (map value s) 0) (map value t)
eight_items value s t h l e =
    plain-eight (map value s) h (rw (length-map s value) l) ∙ rw (e, ← drop-map value 8 s)

-- the step needs the first eight numbers alone
pub eight_first : (s t : List ℕ) (h : ℕ) → t ≡ take 8 s → eight_at h t 0 ≡ eight_at h s 0
eight_first s t h e =
    let same : (k : ℕ) → k < 8 → get_or t k 0 ≡ get_or s k 0 = λ k l. rw e (get_or-take 8 s k 0 l) in
    rw (same 0 (lit< tt), same 1 (lit< tt), same 2 (lit< tt), same 3 (lit< tt), same 4 (lit< tt), same 5 (lit< tt), same 6 (lit< tt), same 7 (lit< tt))

-- taking eight at a time changes nothing, however often it is done
pub eights-plain : (n h : ℕ) (s : List ℕ) → eights n h s ≡ plain h s
unfolding eights
eights-plain zero h s = refl
eights-plain (suc n) h s =
    by_test (ltb 8 (length s))
    (λ e. rw (e, eights) (eights-plain n (eight_at h s 0) (drop 8 s) ∙ sym (plain-eight s h (omega (arith, ltb-true 8 (length s) e))))) (λ e. rw (e, eights))

-- the Vista hash and the 2008 hash are equal on every list
pub vista_2008 : (s : List ℕ) → vista s ≡ hash2008 s
unfolding hash2008
vista_2008 s = sym (eights-plain (length s) 314159 s)

-- a wrapping subtraction of reduced numbers is the definition's
pub wrapped : (a h m : ℕ) → (a % 2 ^ 32 + (2 ^ 32 - h * m % 2 ^ 32)) % 2 ^ 32 ≡ wrap_sub a (m * h)
unfolding wrap_sub
wrapped a h m = rw (mul_comm m h) (mod-add-mod a (2 ^ 32) (2 ^ 32 - h * m % 2 ^ 32))
