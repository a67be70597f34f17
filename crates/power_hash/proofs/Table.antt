-- The rule of the constant table, proved once: one test that is computed over the whole table, and what it says of each entry.
use Rattle.std.proofs.Common.{◌≡◌, ℕ, zero, suc, ◌+◌, ◌*◌, ◌%◌, ◌^◌, ◌<◌, ◌≤◌, Bool, true, false, ◌&&◌, T, eqb, List, [], ◌∷◌, length, get_or, take, map, fold, zip, reverse, refl, ap, ◌∙◌, le_of_suc-le-suc, not-suc-le-zero, pow-suc, add-one, arith, lit<, eqb→eq}
use Rattle.std.proofs.lemmas.List.{reverse-append, length-map}
use Rattle.std.proofs.Math.Seq.{take-suc}
use Rattle.path_hash.specs.Hash.{vista}
use Rattle.power_hash.specs.Powers.{PowerTable, power_sum}
use Rattle.power_hash.proofs.Products.{mod_right}
use Rattle.power_hash.proofs.Sum.{sum_step, plain-sum}

and_left : (a b : Bool) → T (a && b) → T a
and_left true b t = tt
and_left false b t = t

and_right : (a b : Bool) → T (a && b) → T b
and_right true b t = t
and_right false b t = absurd t

-- each entry is 37 times the one before, the first one after x
abbrev pub follow : ℕ → List ℕ → Bool
follow x [] = true
follow x (y ∷ ys) = eqb y (37 * x % 2 ^ 32) && follow y ys

-- the test at each entry
each : (x : ℕ) (ys : List ℕ) → T (follow x ys) → (k : ℕ) → k < length ys → get_or ys k 0 ≡ 37 * get_or (x ∷ ys) k 0 % 2 ^ 32
each x [] t k l = absurd (not-suc-le-zero l)
each x (y ∷ ys) t zero l = eqb→eq y (37 * x % 2 ^ 32) (and_left (eqb y (37 * x % 2 ^ 32)) (follow y ys) t)
each x (y ∷ ys) t (suc k) l = each y ys (and_right (eqb y (37 * x % 2 ^ 32)) (follow y ys) t) k (le_of_suc-le-suc l)

-- THE RULE HOLDS OF A TABLE that passes the test
pub powers_table : (ys : List ℕ) → T (follow 1 ys) → length ys ≡ 1023 → PowerTable (1 ∷ ys)
powers_table ys t l =
    record { size = ap suc l; first = refl; next = λ k j. rw (add-one k) (each 1 ys t k (omega arith)) }

-- entry k is 37 ^ k
table_power : (t : List ℕ) → PowerTable t → (k : ℕ) → k < 1024 → get_or t k 0 ≡ 37 ^ k % 2 ^ 32
table_power t r zero l = r.first
table_power t r (suc k) l =
    rw (← add-one k) (r.next k (omega arith))
    ∙ ap (λ (n : ℕ). 37 * n % 2 ^ 32) (table_power t r k (omega arith))
    ∙ mod_right 37 (37 ^ k)
    ∙ ap (λ (n : ℕ). n % 2 ^ 32) (omega (arith, pow-suc 37 k))

-- one turn of the sum: a number and 36 times the start, times their entry, are added
abbrev pub turn : ℕ → ℕ → ℕ → ℕ
turn sum c power = (sum + (c + 11309724) % 2 ^ 32 * power % 2 ^ 32) % 2 ^ 32

-- the entries in falling order, beside the numbers
module _ {A : Type 0} (value : A → ℕ) (t : List ℕ) (r : PowerTable t) where
  pub sum_all : (s : List A) (a : ℕ) → length s ≤ 1024
      → (fold (λ b p. turn b (value p.0) p.1) a (zip s (reverse (take (length s) t))) + 314159) % 2 ^ 32
      ≡ (a + (314159 * 37 ^ length s + power_sum (map value s))) % 2 ^ 32
  unfolding power_sum
  sum_all [] a l = refl
  sum_all (c ∷ s) a l =
      let n = length s in
      let h : n < length t = omega (arith, r.size) in
      let e : reverse (take (suc n) t) ≡ get_or t n 0 ∷ reverse (take n t) = rw (take-suc t n 0 h) (reverse-append (take n t) (get_or t n 0 ∷ [])) in
      let p : get_or t n 0 ≡ 37 ^ n % 2 ^ 32 = table_power t r n (omega arith) in
      rw (e, p, length-map s value)
      (sum_all s (turn a (value c) (37 ^ n % 2 ^ 32)) (omega arith)
      ∙ sum_step a (314159 * 37 ^ n + power_sum (map value s)) (value c + 11309724) (37 ^ n)
      ∙ ap (λ (k : ℕ). k % 2 ^ 32) (omega (arith, pow-suc 37 n)))

  -- THE SUM IS THE VISTA HASH
  pub sum_vista : (s : List A) (x : ℕ) → length s ≤ 1024 → x ≡ fold (λ b p. turn b (value p.0) p.1) 0 (zip s (reverse (take (length s) t)))
      → (x + 314159) % 2 ^ 32 ≡ vista (map value s)
  sum_vista s x l e =
      rw (e, plain-sum (map value s) 314159 (lit< tt), length-map s value) (sum_all s 0 l ∙ ap (λ (k : ℕ). k % 2 ^ 32) (omega arith))
