-- Whether a name begins with a path: what equal bytes decide, eight at once or one.
use Rattle.std.proofs.Common.{◌≡◌, ℕ, zero, suc, ◌+◌, ◌-◌, ◌<◌, ◌≤◌, min, Bool, true, false, ◌&&◌, eqb, ltb, List, [], ◌∷◌, length, get_or, take, drop, sym, refl, ap, ◌∙◌, le_of_suc-le-suc, not-suc-le-zero, add-zero, arith, length-drop, length-take, get_or-drop, get_or-take, ext_get_or, ltb-false, ltb-true, eq-eqb, ne_eqb, eqb-true}
use Rattle.lists.proofs.Tests.{by_test, never}
use Rattle.little_endian.specs.Number.{le}
use Rattle.little_endian.proofs.Number.{le_ext}
use Rattle.query.proofs.Entries.{both}
use Rattle.path_search.specs.From.{same, begins_with}
use Rattle.path_search.specs.Private.{belongs}

-- ---- the same bytes
pub same-eq : (a b : List ℕ) → same a b ≡ true → a ≡ b
unfolding same
same-eq [] [] e = refl
same-eq [] (y ∷ ys) e = never cc
same-eq (x ∷ xs) [] e = never cc
same-eq (x ∷ xs) (y ∷ ys) e =
    let q = both _ _ e in
    let h : x ≡ y = eqb-true x y q.0 in
    let t : xs ≡ ys = same-eq xs ys q.1 in
    cc

same_self : (a : List ℕ) → same a a ≡ true
unfolding same
same_self [] = refl
same_self (x ∷ xs) = rw (eq-eqb x x refl) (same_self xs)

pub same_yes : (a b : List ℕ) → a ≡ b → same a b ≡ true
same_yes a b e = rw e (same_self b)

pub same_no : (a b : List ℕ) → (a ≡ b → ⊥) → same a b ≡ false
same_no a b n = by_test (same a b) (λ e. absurd (n (same-eq a b e))) (λ e. e)

-- ---- the bytes of a path against those at the start of a name: the first i agree
abbrev pub Agree : List ℕ → List ℕ → ℕ → Type 0
Agree path name i = (k : ℕ) → k < i → get_or path k 0 ≡ get_or name k 0

abbrev Bytes : List ℕ → Type 0
Bytes s = (k : ℕ) → get_or s k 0 < 256

-- equal numbers have equal bytes
le_same : (w : ℕ) (s t : List ℕ) (a b : ℕ) → Bytes s → Bytes t → le w s a ≡ le w t b → (i : ℕ) → i < w → get_or s (a + i) 0 ≡ get_or t (b + i) 0
unfolding le
le_same zero s t a b hs ht e i l = absurd (not-suc-le-zero l)
le_same (suc w) s t a b hs ht e zero l =
    let x : get_or s a 0 ≡ get_or t b 0 = omega (arith, hs a, ht b) in
    rw (add-zero a, add-zero b) x
le_same (suc w) s t a b hs ht e (suc i) l =
    let y : le w s (a + 1) ≡ le w t (b + 1) = omega (arith, hs a, ht b) in
    ap (λ (k : ℕ). get_or s k 0) (omega arith)
    ∙ le_same w s t (a + 1) (b + 1) hs ht y i (le_of_suc-le-suc l)
    ∙ ap (λ (k : ℕ). get_or t k 0) (omega arith)

-- what would be the unit behind the path
abbrev behind : List ℕ → List ℕ → List ℕ
behind path name = take 2 (drop (length path) name)

and-true : (b : Bool) → b ≡ (b && true)
and-true true = refl
and-true false = refl

module _ (path name : List ℕ) where
  pub agree_eight : (i : ℕ) → Bytes path → Bytes name → Agree path name i → le 8 path i ≡ le 8 name i → Agree path name (i + 8)
  agree_eight i hp hn g e k l =
      by_test (ltb k i) (λ h. g k (ltb-true k i h))
      (λ h.
      let m = ltb-false k i h in
      let z : i + (k - i) ≡ k = omega arith in
      rw z at (le_same 8 path name i i hp hn e (k - i) (omega arith)))

  -- they all agree, and the path is the name's start
  pub agree_all : (i : ℕ) → length path ≤ length name → length path ≤ i → Agree path name i → same (take (length path) name) path ≡ true
  agree_all i h l g =
      let n : length (take (length path) name) ≡ length path = simp length-take (omega arith) in
      same_yes _ _
      (ext_get_or 0 (take (length path) name) path n
      (λ k b. get_or-take (length path) name k 0 (omega arith) ∙ sym (g k (omega arith))))

  -- one does not
  start-agrees : take (length path) name ≡ path → (k : ℕ) → k < length path → get_or path k 0 ≡ get_or name k 0
  start-agrees e k l = ap (λ (s : List ℕ). get_or s k 0) (sym e) ∙ get_or-take (length path) name k 0 l

  pub differ_one : (k : ℕ) → k < length path → (get_or path k 0 ≡ get_or name k 0 → ⊥) → same (take (length path) name) path ≡ false
  differ_one k l n = same_no _ _ (λ e. n (start-agrees e k l))

  pub differ_eight : (i : ℕ) → i + 8 ≤ length path → (le 8 path i ≡ le 8 name i → ⊥) → same (take (length path) name) path ≡ false
  differ_eight i l n = same_no _ _ (λ e. n (le_ext 8 path name i i (λ k h. start-agrees e (i + k) (omega arith))))

  -- ---- what follows the path: nothing, or a backslash
  pub begins_whole : {r : Bool} → length name ≡ length path → r ≡ same (take (length path) name) path → r ≡ begins_with path name
  unfolding begins_with
  begins_whole e q = rw (← q, eq-eqb _ _ e) (and-true _)

  begins-not : (length name ≡ length path → ⊥) → same (behind path name) (0x5C ∷ 0 ∷ []) ≡ false → false ≡ begins_with path name
  unfolding begins_with
  begins-not e q = rw (ne_eqb _ _ e, q) (by_test (same (take (length path) name) path) (λ s. rw s) (λ s. rw s))

  -- there is no room for it
  pub begins_short : (length name ≡ length path → ⊥) → length name < length path + 2 → false ≡ begins_with path name
  begins_short e l =
      begins-not e
      (same_no _ _
      (λ q.
      let n : length (behind path name) ≡ 2 = ap length q in
      let d : length (behind path name) ≡ min 2 (length name - length path) = simp (length-take, length-drop) in
      omega arith))

  behind-at : (k : ℕ) → k < 2 → get_or (behind path name) k 0 ≡ get_or name (length path + k) 0
  behind-at k h = get_or-take 2 (drop (length path) name) k 0 h ∙ get_or-drop (length path) name k 0

  pub begins_other : (length name ≡ length path → ⊥) → (le 2 name (length path) ≡ 0x5C → ⊥) → false ≡ begins_with path name
  unfolding le
  begins_other e n =
      begins-not e
      (same_no _ _
      (λ q.
      let a : get_or name (length path + 0) 0 ≡ 0x5C = sym (behind-at 0 (omega arith)) ∙ ap (λ (s : List ℕ). get_or s 0 0) q in
      let b : get_or name (length path + 1) 0 ≡ 0 = sym (behind-at 1 (omega arith)) ∙ ap (λ (s : List ℕ). get_or s 1 0) q in
      let a' : get_or name (length path) 0 ≡ 0x5C = rw (add-zero (length path)) at a in
      n (omega arith)))

  pub begins_below : {r : Bool} → (length name ≡ length path → ⊥) → length path + 2 ≤ length name → le 2 name (length path) ≡ 0x5C
      → r ≡ same (take (length path) name) path → r ≡ begins_with path name
  unfolding begins_with le
  begins_below {r} e l u q =
      let n : length (behind path name) ≡ 2 = simp (length-take, length-drop) (omega arith) in
      let s = ext_get_or 0 (behind path name) (0x5C ∷ 0 ∷ []) n (λ k h. at k (omega arith)) in
      rw (← q, ne_eqb _ _ e, same_yes (behind path name) (0x5C ∷ 0 ∷ []) s) (and-true r)
    where
      at : (k : ℕ) → k < 2 → get_or (behind path name) k 0 ≡ get_or (0x5C ∷ 0 ∷ []) k 0
      at zero h = behind-at 0 h ∙ rw (add-zero (length path)) (omega arith)
      at (suc zero) h = behind-at 1 h ∙ omega arith
      at (suc (suc k)) h = absurd (omega arith)

-- for the code: what the unit behind the path says
pub ruleset behinds = (begins_other, begins_below)

-- ---- an empty path
pub belongs-none : (path name : List ℕ) → length path ≡ 0 → true ≡ belongs path name
unfolding belongs
belongs-none path name e = rw (eq-eqb _ _ e)

pub belongs-some : (path name : List ℕ) {r : Bool} → (length path ≡ 0 → ⊥) → r ≡ begins_with path name → r ≡ belongs path name
unfolding belongs
belongs-some path name e q = rw (ne_eqb _ _ e) q

-- what belongs to a path is no shorter
pub belongs_long : (path name : List ℕ) → belongs path name ≡ true → length path ≤ length name
unfolding belongs begins_with
belongs_long path name e =
    by_test (eqb (length path) 0) (λ q. omega (arith, eqb-true (length path) 0 q))
    (λ q.
    let h : begins_with path name ≡ true = rw q at e in
    let z : take (length path) name ≡ path = same-eq _ _ (both _ _ h).0 in
    omega (arith, length-take (length path) name, ap length z))
