-- A walk over next indexes that pass the checks visits every entry exactly once: the numbers of its list, counted and added up.
use mathlib.Core.Path.{◌≡◌, refl, sym, ap, ◌∙◌}
use mathlib.Core.Bool.{Bool, true}
use mathlib.Core.List.{List, [], ◌∷◌, ◌++◌}
use Prim.Native.Nat.{ℕ, zero, suc, ◌+◌, ◌*◌, ◌≤◌, ◌<◌}
use native.Mathlib.Nat.{le_refl, le_of_suc-le-suc, not-suc-le-zero, zero-mul, suc-mul, one-mul}
use native.Mathlib.Omega.{arith}
use borrow.Author.Tests.{eq-eqb, ne_eqb, eqb-true, eqb-false, lt-ltb, le-ltb, ltb-true, ltb-false}
use lib.Dec.{eqb, ltb}
use lib.ListN.{length, get_or, get_or-eq_default}
use Rattle.lists.specs.Count.{pick, count, sum_below}
use Rattle.lists.proofs.Tests.{by_test, never}
use Rattle.lists.proofs.Sum.{sum_same, sum-most, none_summed}
use Rattle.lists.specs.Those.{those}
use Rattle.lists.proofs.Those.{length-those}
use Rattle.incremental.specs.Decision.{accept}
use Rattle.trace.specs.Links.{end, after, follow, namers, chains, link_checks}
use Rattle.trace.specs.OneChain.{Head, OneChain}
use Rattle.trace.proofs.Steps.{follow-end}
use Rattle.trace.proofs.Predecessors.{by_named, names_one}
use Rattle.trace.proofs.Chains.{sum_one, chains_ends}
use Rattle.trace.proofs.OneChain.{one_chain}
use Rattle.walk.specs.Walk.{is_head, chain, flat_map, walk, along, total}
use Rattle.walk.specs.EveryEntry.{times, EveryEntry}
use Rattle.walk.proofs.Chain.{ended, reach-end, below, below_head, below_other}

-- ---- sums

sum_ones : (n : ℕ) → sum_below (λ _. 1) n ≡ n
unfolding sum_below
sum_ones zero = refl
sum_ones (suc n) = omega (arith, sum_ones n)

-- the first apart from the others
sum_shift : (f : ℕ → ℕ) (n : ℕ) → sum_below f (suc n) ≡ f 0 + sum_below (λ k. f (suc k)) n
unfolding sum_below
sum_shift f zero = omega arith
sum_shift f (suc n) = omega (arith, sum_shift f n)

count_shift : (p : ℕ → Bool) (n : ℕ) → count p (suc n) ≡ pick (p 0) 1 0 + count (λ k. p (suc k)) n
unfolding count
count_shift p zero = refl
count_shift p (suc n) = omega (arith, count_shift p n)

total-sum : (xs : List ℕ) → total xs ≡ sum_below (λ i. get_or xs i 0) (length xs)
unfolding total sum_below
total-sum [] = refl
total-sum (x ∷ xs) = omega (arith, total-sum xs, sum_shift (λ i. get_or (x ∷ xs) i 0) (length xs))

-- ---- the numbers of a list

-- the weights of all of them, and what those that are e have of it
weigh : (ℕ → ℕ) → List ℕ → ℕ
weigh f [] = 0
weigh f (x ∷ xs) = f x + weigh f xs

share : (ℕ → ℕ) → List ℕ → ℕ → ℕ
share f [] e = 0
share f (x ∷ xs) e = pick (eqb x e) (f e) 0 + share f xs e

-- how often e stands there
abbrev occ : List ℕ → ℕ → ℕ
occ xs e = share (λ _. 1) xs e

share_occ : (f : ℕ → ℕ) (xs : List ℕ) (e : ℕ) → share f xs e ≡ occ xs e * f e
unfolding share
share_occ f [] e = sym (zero-mul (f e))
share_occ f (x ∷ xs) e =
    let ih = share_occ f xs e in
    by_test (eqb x e) (λ q. rw q (omega (arith, suc-mul (occ xs e) (f e)))) (λ q. rw q (omega arith))

occ_append : (xs ys : List ℕ) (e : ℕ) → occ (xs ++ ys) e ≡ occ xs e + occ ys e
unfolding share
occ_append [] ys e = omega arith
occ_append (x ∷ xs) ys e = omega (arith, occ_append xs ys e)

times_occ : (xs : List ℕ) (e : ℕ) → times xs e ≡ occ xs e
unfolding share count
times_occ [] e = refl
times_occ (x ∷ xs) e = omega (arith, times_occ xs e, count_shift (λ r. eqb (get_or (x ∷ xs) r end) e) (length xs))

length_weigh : (xs : List ℕ) → length xs ≡ weigh (λ _. 1) xs
unfolding weigh
length_weigh [] = refl
length_weigh (x ∷ xs) = omega (arith, length_weigh xs)

along_weigh : (counts xs : List ℕ) → along counts xs ≡ weigh (λ i. get_or counts i 0) xs
unfolding along weigh
along_weigh counts [] = refl
along_weigh counts (x ∷ xs) = omega (arith, along_weigh counts xs)

-- all of them below n
data Within (n : ℕ) : List ℕ → Type 0 where
  nil : Within n []
  cons : {x : ℕ} {xs : List ℕ} → x < n → Within n xs → Within n (x ∷ xs)

within_append : {n : ℕ} {xs ys : List ℕ} → Within n xs → Within n ys → Within n (xs ++ ys)
within_append nil v = v
within_append (cons l w) v = cons l (within_append w v)

within_joined : (n : ℕ) (f : ℕ → List ℕ) → ((h : ℕ) → Within n (f h)) → (hs : List ℕ) → Within n (flat_map f hs)
unfolding flat_map
within_joined n f w [] = nil
within_joined n f w (h ∷ hs) = within_append (w h) (within_joined n f w hs)

within_at : {n : ℕ} {xs : List ℕ} → Within n xs → (r : ℕ) → r < length xs → get_or xs r end < n
within_at nil r l = absurd (not-suc-le-zero l)
within_at (cons h w) zero l = h
within_at (cons h w) (suc r) l = within_at w r (le_of_suc-le-suc l)

-- the weights, added up number by number
weigh_sum : (n : ℕ) (f : ℕ → ℕ) {xs : List ℕ} → Within n xs → weigh f xs ≡ sum_below (share f xs) n
unfolding weigh share
weigh_sum n f nil = sym (none_summed _ n (λ k l. refl))
weigh_sum n f (cons {x = x} {xs = xs} l w) = sym (sum_one f (share f xs) x n ∙ rw (lt-ltb x n l, weigh_sum n f w))

-- ---- the chains

within_chain : (s : List ℕ) (k i : ℕ) → Within (length s) (chain s k i)
unfolding chain
within_chain s zero i = nil
within_chain s (suc k) i =
    by_test (ltb i (length s)) (λ q. rw q (cons (ltb-true _ _ q) (within_chain s k (after s i)))) (λ q. rw q nil)

within_below : (s : List ℕ) (h : ℕ) → Within (length s) (below s h)
within_below s h = within_joined (length s) (chain s (length s)) (within_chain s (length s)) (those (is_head s) h)

head_yes : (s : List ℕ) (h : ℕ) → h < length s → is_head s h ≡ true → Head s h
head_yes s h l t = record { entry = l; unnamed = λ i q e. omega (arith, eqb-true (namers s (length s) h) 0 t, names_one s (length s) i h q e) }

yes_head : (s : List ℕ) (h : ℕ) → Head s h → is_head s h ≡ true
yes_head s h w = eq-eqb _ _ (by_named s (length s) h (λ p z. z) (λ l p k. absurd (w.unnamed _ l p)))

module _ (s : List ℕ) (small : length s ≤ end) (e : ℕ) (l : e < length s) where
  -- no step from i leads to e
  absent : (k i : ℕ) → ((j : ℕ) → follow s j i ≡ e → ⊥) → occ (chain s k i) e ≡ 0
  unfolding share chain follow
  absent zero i h = refl
  absent (suc k) i h =
      by_test (ltb i (length s)) (λ q. rw (q, ne_eqb i e (h 0)) (omega (arith, absent k (after s i) (λ j. h (suc j))))) (λ q. rw q)

  -- one number of steps does, fewer than k
  present : (k p i : ℕ) → p < k → follow s p i ≡ e → ((j : ℕ) → follow s j i ≡ e → j ≡ p) → occ (chain s k i) e ≡ 1
  unfolding share chain follow
  present zero p i d q only = absurd (not-suc-le-zero d)
  present (suc k) zero i d q only =
      rw (lt-ltb i (length s) (omega arith), eq-eqb i e q) (omega (arith, absent k (after s i) (λ j z. omega (arith, only (suc j) z))))
  present (suc k) (suc p) i d q only =
      by_test (ltb i (length s))
      (λ h.
      let ih = present k p (after s i) (le_of_suc-le-suc d) q (λ j z. omega (arith, only (suc j) z)) in
      rw (h, ne_eqb i e (λ z. omega (arith, only 0 z))) (omega arith))
      (λ h.
      let w : after s i ≡ end = get_or-eq_default s end (ltb-false _ _ h) in
      absurd (omega (arith, ap (follow s p) w, follow-end s p small)))

module _ (at : ℕ → ℕ) (s : List ℕ) (n : ℕ) (small : length s ≤ end) (a : link_checks at s ≡ accept n) where
  -- entry e is on the chain of one head
  module _ (e : ℕ) (l : e < length s) (c : OneChain s e) where
    mine : occ (chain s (length s) c.head) e ≡ 1
    mine =
        present s small e l (length s) c.place c.head short c.on.steps
        (λ j z. (c.only c.head j (record { head = c.on.head; steps = z })).1)
      where
        -- after as many steps as there are entries the chain has ended
        short : c.place < length s
        short =
            by_test (ltb c.place (length s)) (λ q. ltb-true _ _ q)
            (λ q.
            let r = reach-end at s n small a c.head c.on.head.entry in
            absurd (omega (arith, c.on.steps, ended s (length s) c.place c.head small (ltb-false _ _ q) r)))

    other : (h : ℕ) → h < length s → is_head s h ≡ true → (h ≡ c.head → ⊥) → occ (chain s (length s) h) e ≡ 0
    other h q t z = absent s small e l (length s) h (λ j w. z (c.only h j (record { head = head_yes s h q t; steps = w })).0)

    -- below a bound it stands once if that head does
    once-below : (h : ℕ) → h ≤ length s → occ (below s h) e ≡ pick (ltb c.head h) 1 0
    unfolding flat_map those share
    once-below zero q = rw (le-ltb c.head 0 (omega arith))
    once-below (suc h) q =
        let ih = once-below h (omega arith) in
        by_test (is_head s h)
        (λ t.
        ap (λ (xs : List ℕ). occ xs e) (below_head s h t)
        ∙ occ_append (below s h) (chain s (length s) h) e
        ∙ by_test (eqb h c.head)
        (λ z.
        let m : occ (chain s (length s) h) e ≡ 1 = ap (λ (x : ℕ). occ (chain s (length s) x) e) (eqb-true _ _ z) ∙ mine in
        let i : occ (below s h) e ≡ 0 = ih ∙ rw (le-ltb c.head h (omega (arith, eqb-true))) in
        rw (lt-ltb c.head (suc h) (omega (arith, eqb-true))) (omega arith))
        (λ z. omega (arith, other h q t (eqb-false _ _ z)) ∙ ih ∙ ap (λ (b : Bool). pick b 1 0) (same (eqb-false _ _ z))))
        (λ t.
        let z : h ≡ c.head → ⊥ = λ z. never (cc (yes_head s c.head c.on.head, ap (is_head s) z)) in
        ap (λ (xs : List ℕ). occ xs e) (below_other s h t) ∙ ih ∙ ap (λ (b : Bool). pick b 1 0) (same z))
      where
        same : (h ≡ c.head → ⊥) → ltb c.head h ≡ ltb c.head (suc h)
        same z =
            by_test (ltb c.head h) (λ w. w ∙ sym (lt-ltb c.head (suc h) (omega (arith, ltb-true))))
            (λ w. w ∙ sym (le-ltb c.head (suc h) (omega (arith, ltb-false c.head h w))))

  once : (e : ℕ) → e < length s → occ (walk s) e ≡ 1
  once e l =
      let c = one_chain at s n small a e l in
      once-below e l c (length s) (le_refl (length s)) ∙ rw (lt-ltb c.head (length s) c.on.head.entry)

  most : (h e : ℕ) → h ≤ length s → e < length s → occ (below s h) e ≤ 1
  most h e q l =
      let c = one_chain at s n small a e l in
      rw (once-below e l c h q) (by_test (ltb c.head h) (λ b. rw b (omega arith)) (λ b. rw b (omega arith)))

  -- any weights along the walk add up as over all entries
  weigh-all : (f : ℕ → ℕ) → weigh f (walk s) ≡ sum_below f (length s)
  weigh-all f =
      weigh_sum (length s) f (within_below s (length s))
      ∙ sum_same (share f (walk s)) f (length s)
      (λ e l. share_occ f (walk s) e ∙ ap (λ (x : ℕ). x * f e) (once e l) ∙ one-mul (f e))

  pub every_entry : EveryEntry s
  unfolding chains
  every_entry =
      record {
        once = λ e l. times_occ (walk s) e ∙ once e l;
        entries = within_at (within_below s (length s));
        long = length_weigh (walk s) ∙ weigh-all (λ _. 1) ∙ sum_ones (length s);
        sums = λ counts q.
            along_weigh counts (walk s)
            ∙ weigh-all (λ i. get_or counts i 0)
            ∙ ap (sum_below (λ i. get_or counts i 0)) (sym q)
            ∙ sym (total-sum counts);
        heads_ends = length-those (is_head s) (length s) ∙ chains_ends at s n small a;
      }

  pub below_long : (h : ℕ) → h ≤ length s → length (flat_map (chain s (length s)) (those (is_head s) h)) ≤ length s
  below_long h q =
      omega (
        arith,
        length_weigh (below s h),
        weigh_sum (length s) (λ _. 1) (within_below s h),
        sum-most (occ (below s h)) 1 (length s) (λ e l. most h e q l),
      )
