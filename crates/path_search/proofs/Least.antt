-- The least pair of any test of a number and an entry: what it is, and what it depends on.
use Rattle.std.proofs.Common.{◌≡◌, ℕ, zero, suc, ◌+◌, ◌*◌, ◌%◌, ◌^◌, ◌<◌, ◌≤◌, Bool, true, false, eqb, ltb, ◌↔◌, List, sym, refl, ap, ◌∙◌, ⊎_elim, le_refl, mod-lt, eq-or-lt_of_le, arith, lit<, ltb-false, ltb-true, eq-eqb, ne_eqb, eqb-true}
use borrow.Author.Tests.{eqb-false}
use Rattle.lists.specs.Count.{any_below}
use Rattle.lists.proofs.Count.{any_yes, any_no, any_true, any_false}
use Rattle.lists.proofs.Tests.{by_test, never}
use Rattle.lists.specs.First.{first}
use Rattle.lists.proofs.Those.{those-same}
use Rattle.lists.proofs.First.{first_at, first_is_at, first_is_nothing, first_nothing}
use Rattle.layout.specs.declared.Layout.{Layout}
use Rattle.layout.specs.declared.Version.{Version}
use Rattle.layout.specs.declared.Version.TheVariants.{V17, V23, V26, V30}
use Rattle.path_hash.specs.Hash.{plain, xp_end, magnitude, wrap_sub}
use Rattle.path_hash.proofs.Laws.{plain-lt, vista_2008}
use Rattle.path_search.specs.Search.{hash_of, entry_by, pair_by, least_pair, pairs_below}
use Rattle.path_search.specs.Private.{hash_start, hash_end, number_for, number_in, numbered_in, entries_in, searched}
use Rattle.path_search.specs.declared.Sought.{Sought}
use Rattle.std.specs.Prelude.{None, Option, Some}
use Rattle.path_search.specs.declared.PathEntry.{PathEntry}
use Rattle.path_search.specs.Search.{path_entry}

-- entry i matches by number n; no entry by a lower number, and no earlier entry by n
pub record IsLeast (test : ℕ → ℕ → Bool) (m i n : ℕ) : Type 0 where
  pub below : i < m
  pub number : n < 9
  pub matched : test n i ≡ true
  pub least : (k j : ℕ) → k < n → j < m → test k j ≡ false
  pub first : (j : ℕ) → j < i → test n j ≡ false

abbrev pub NoneMatches : (ℕ → ℕ → Bool) → ℕ → Type 0
NoneMatches test m = (n i : ℕ) → n < 9 → i < m → test n i ≡ false

-- an entry with its number says both
entry_same : (j k i n : ℕ) → Some (path_entry j k) ≡ Some (path_entry i n) → (j ≡ i) × (k ≡ n)
entry_same j k i n e =
    let q : path_entry j k ≡ path_entry i n = cc in
    (ap (λ (x : PathEntry). x.index) q, ap (λ (x : PathEntry). x.number) q)

module _ (test : ℕ → ℕ → Bool) (m : ℕ) where
  pub least_at : (i n : ℕ) → IsLeast test m i n → least_pair test m ≡ Some (path_entry i n)
  unfolding least_pair
  least_at i n q =
      let a : first (λ k. any_below (test k) m) 9 ≡ Some n =
      first_is_at (λ k. any_below (test k) m) 9 n q.number (any_yes (test n) m i q.below q.matched)
      (λ k h. any_no (test k) m (λ j l. q.least k j h l)) in
      let b : first (test n) m ≡ Some i = first_is_at (test n) m i q.below q.matched q.first in
      ap (pair_by test m) a ∙ ap (entry_by n) b

  pub least_none : NoneMatches test m → least_pair test m ≡ None
  unfolding least_pair
  least_none f = ap (pair_by test m) (first_is_nothing (λ k. any_below (test k) m) 9 (λ k h. any_no (test k) m (λ j l. f k j h l)))

  -- and back
  pub least_is : (i n : ℕ) → least_pair test m ≡ Some (path_entry i n) → IsLeast test m i n
  unfolding least_pair
  least_is i n e = go (first (λ k. any_below (test k) m) 9) refl e
    where
      entry : (k : ℕ) (f : Option ℕ) → first (test k) m ≡ f → entry_by k f ≡ Some (path_entry i n) → (k ≡ n) × (first (test k) m ≡ Some i)
      entry k (Some j) q h =
          let s = entry_same j k i n h in
          (s.1, q ∙ ap (λ (x : ℕ). Some x) s.0)
      entry k None q h = never cc

      go : (f : Option ℕ) → first (λ k. any_below (test k) m) 9 ≡ f → pair_by test m f ≡ Some (path_entry i n) → IsLeast test m i n
      go (Some k) q h =
          let a = entry k (first (test k) m) refl h in
          let b = first_at (λ k. any_below (test k) m) 9 0 k q in
          let c = first_at (test k) m 0 i a.1 in
          rw (← a.0)
          (record {
            below = omega (arith, c.1);
            number = omega (arith, b.1);
            matched = c.2;
            least = λ x j l d. any_false (test x) m (b.3 x (omega arith) l) j d;
            first = λ j l. c.3 j (omega arith) l;
          })
      go None q h = never cc

  pub least_not : least_pair test m ≡ None → NoneMatches test m
  unfolding least_pair
  least_not e = go (first (λ k. any_below (test k) m) 9) refl e
    where
      entry : (k : ℕ) (f : Option ℕ) → first (test k) m ≡ f → entry_by k f ≡ None → first (test k) m ≡ None
      entry k (Some j) q h = never cc
      entry k None q h = q

      go : (f : Option ℕ) → first (λ k. any_below (test k) m) 9 ≡ f → pair_by test m f ≡ None → NoneMatches test m
      go (Some k) q h =
          let a = entry k (first (test k) m) refl h in
          let t = any_true (test k) m (first_at (λ k. any_below (test k) m) 9 0 k q).2 in
          never (cc (t.2, first_nothing (test k) m a t.0 t.1))
      go None q h = λ n i l b. any_false (test n) m (first_nothing (λ k. any_below (test k) m) 9 q n l) i b

-- tests that agree below w, and past w one of them fails
pub least_same : (t u : ℕ → ℕ → Bool) (m w : ℕ) → w ≤ m → ((n i : ℕ) → n < 9 → i < w → t n i ≡ u n i)
    → ((n i : ℕ) → n < 9 → w ≤ i → i < m → t n i ≡ false) → least_pair t m ≡ least_pair u w
least_same t u m w l same past = go (least_pair u w) refl
  where
    fails : (n i : ℕ) → n < 9 → i < m → (i < w → u n i ≡ false) → t n i ≡ false
    fails n i h b f = by_test (ltb i w) (λ c. let l = ltb-true i w c in same n i h l ∙ f l) (λ c. past n i h (ltb-false i w c) b)

    go : (x : Option PathEntry) → least_pair u w ≡ x → least_pair t m ≡ least_pair u w
    go (Some x) e =
        let i = x.index in
        let n = x.number in
        let q = least_is u w i n e in
        least_at t m i n
        (record {
          below = omega (arith, q.below);
          number = q.number;
          matched = same n i q.number q.below ∙ q.matched;
          least = λ k j a b. fails k j (omega (arith, q.number)) b (λ c. q.least k j a c);
          first = λ j a. same n j q.number (omega (arith, q.below)) ∙ q.first j a;
        })
        ∙ sym e
    go None e = least_none t m (λ n i h b. fails n i h b (λ c. least_not u w e n i h c)) ∙ sym e

pub pairs-same : (t u : ℕ → ℕ → Bool) (m w n : ℕ) → w ≤ m → ((k i : ℕ) → k < n → i < w → t k i ≡ u k i)
    → ((k i : ℕ) → k < n → w ≤ i → i < m → t k i ≡ false) → pairs_below t m n ≡ pairs_below u w n
unfolding pairs_below
pairs-same t u m w zero l same past = refl
pairs-same t u m w (suc n) l same past =
    rw (
      pairs-same t u m w n l (λ k i h. same k i (omega arith)) (λ k i h. past k i (omega arith)),
      those-same (t n) (u n) w m l (λ i. same n i (le_refl (suc n))) (λ i. past n i (le_refl (suc n))),
    )

-- ---- the loop: the least number of the entries passed, and the first that has it
pub record Lowest (num : ℕ → ℕ) (i least index : ℕ) : Type 0 where
  pub most : least ≤ 9
  pub none_less : (k : ℕ) → k < i → least ≤ num k
  pub here : least < 9 → (index < i) × (num index ≡ least) × ((k : ℕ) → k < index → least < num k)

pub lowest_start : (num : ℕ → ℕ) → Lowest num 0 9 0
lowest_start num = record { most = omega arith; none_less = λ k l. absurd (omega arith); here = λ l. absurd (omega arith) }

pub lowest_less : (num : ℕ → ℕ) (i least index n : ℕ) → Lowest num i least index → n ≡ num i → n < least → Lowest num (i + 1) n i
lowest_less num i least index n q e l =
    record {
      most = omega (arith, q.most);
      none_less = λ k h. ⊎_elim (λ (z : k ≡ i). rw z (omega arith)) (λ z. omega (arith, q.none_less k z)) (eq-or-lt_of_le (omega arith));
      here = λ h. (omega arith, sym e, λ k z. omega (arith, q.none_less k z));
    }

pub lowest-same : (num : ℕ → ℕ) (i least index n : ℕ) → Lowest num i least index → n ≡ num i → least ≤ n → Lowest num (i + 1) least index
lowest-same num i least index n q e l =
    record {
      most = q.most;
      none_less = λ k h. ⊎_elim (λ (z : k ≡ i). rw z (omega arith)) (λ z. q.none_less k z) (eq-or-lt_of_le (omega arith));
      here = λ h. let a = q.here h in (omega (arith, a.0), a.1, a.2);
    }

abbrev numbered : (ℕ → ℕ) → ℕ → ℕ → Bool
numbered num n i = eqb (num i) n

pub lowest_at : (num : ℕ → ℕ) (m least index : ℕ) → Lowest num m least index → least < 9 → Some (path_entry index least) ≡ least_pair (numbered num) m
lowest_at num m least index q l =
    let a = q.here l in
    sym
    (least_at (numbered num) m index least
    (record {
      below = a.0;
      number = l;
      matched = eq-eqb _ _ a.1;
      least = λ k j b c. ne_eqb (num j) k (λ z. omega (arith, q.none_less j c));
      first = λ j b. ne_eqb (num j) least (λ z. omega (arith, a.2 j b));
    }))

pub lowest-none : (num : ℕ → ℕ) (m least index : ℕ) → Lowest num m least index → 9 ≤ least → None ≡ least_pair (numbered num) m
lowest-none num m least index q l =
    sym (least_none (numbered num) m (λ n i h b. ne_eqb (num i) n (λ z. omega (arith, q.none_less i b))))

-- after the last entry
pub lowest-end : (num : ℕ → ℕ) (m i least index : ℕ) → Lowest num i least index → i ≤ m → m ≤ i → Lowest num m least index
lowest-end num m i least index q a b = let e : i ≡ m = omega arith in rw (← e) q

-- ---- the loop's early end: none of the entries passed has 0, and the next one has
module _ (q : Sought) (path : List ℕ) (l : Layout) (metrics strings : List ℕ) where
  abbrev at-zero : ℕ → Bool
  at-zero = numbered_in q path l metrics strings 0

  pub none_zero : any_below at-zero 0 ≡ false
  none_zero = any_no at-zero 0 (λ k h. absurd (omega arith))

  pub more_zero : (i : ℕ) {n : ℕ} → any_below at-zero i ≡ false → n ≡ number_in q path l metrics strings i → (n ≡ 0 → ⊥)
      → any_below at-zero (i + 1) ≡ false
  more_zero i w e z =
      any_no at-zero (i + 1)
      (λ k h. ⊎_elim (λ (y : k ≡ i). rw y (ne_eqb _ 0 (λ x. z (e ∙ x)))) (λ y. any_false at-zero i w k y) (eq-or-lt_of_le (omega arith)))

  pub search_zero : {i n : ℕ} → n ≡ number_in q path l metrics strings i → n ≡ 0 → any_below at-zero i ≡ false → i < entries_in l metrics
      → Some (path_entry i 0) ≡ searched q path l metrics strings
  search_zero {i} e z w b =
      sym
      (least_at (numbered_in q path l metrics strings) (entries_in l metrics) i 0
      (record {
        below = b;
        number = omega arith;
        matched = eq-eqb _ _ (sym e ∙ z);
        least = λ k j c d. absurd (omega arith);
        first = λ j c. any_false at-zero i w j c;
      }))

-- ---- a hash and the stored one: adding n makes the one the other exactly when n is their difference
sub_number : (h stored n : ℕ) → h < 2 ^ 32 → stored < 2 ^ 32 → n < 9 → ((h + n) % 2 ^ 32 ≡ stored) ↔ (wrap_sub stored h ≡ n)
unfolding wrap_sub
sub_number h stored n a b c = (λ e. omega arith, λ e. omega arith)

pub by_number : (h stored n : ℕ) → h < 2 ^ 32 → stored < 2 ^ 32 → n < 9 → eqb ((h + n) % 2 ^ 32) stored ≡ eqb (number_for stored h) n
by_number h stored n a b c =
    let same = sub_number h stored n a b c in
    by_test (eqb ((h + n) % 2 ^ 32) stored)
    (λ e.
    let d = same.0 (eqb-true _ _ e) in
    by_test (ltb (wrap_sub stored h) 9) (λ q. rw (e, q) (sym (eq-eqb _ _ d))) (λ q. absurd (omega (arith, ltb-false (wrap_sub stored h) 9 q))))
    (λ e.
    by_test (ltb (wrap_sub stored h) 9) (λ q. rw (e, q) (sym (ne_eqb _ _ (λ z. eqb-false _ _ e (same.1 z)))))
    (λ q. rw (e, q) (sym (ne_eqb 9 n (λ z. omega arith)))))

-- the hash of a version is plain from its start, and then its end step
pub hash_of_lem : (v : Version) (s : List ℕ) → hash_of v s ≡ hash_end v (plain (hash_start v) s)
hash_of_lem V17 s = refl
hash_of_lem V23 s = refl
hash_of_lem V26 s = sym (vista_2008 s)
hash_of_lem V30 s = sym (vista_2008 s)

-- every hash is below 2 ^ 32
pub end_low : (v : Version) (h : ℕ) → h < 2 ^ 32 → hash_end v h < 2 ^ 32
unfolding xp_end
end_low V17 h l =
    let x = 314159269 * h % 2 ^ 32 in
    let b : magnitude x % 1000000007 < 1000000007 = mod-lt (magnitude x) (lit< tt) in
    omega arith
end_low V23 h l = l
end_low V26 h l = l
end_low V30 h l = l

start_low : (v : Version) → hash_start v < 2 ^ 32
start_low V17 = lit< tt
start_low V23 = lit< tt
start_low V26 = lit< tt
start_low V30 = lit< tt

pub hash_low : (v : Version) (s : List ℕ) → hash_of v s < 2 ^ 32
hash_low v s = rw (hash_of_lem v s) (end_low v (plain (hash_start v) s) (plain-lt s (hash_start v) (start_low v)))
