-- The search for the smallest entry on a cycle. A walk marks the entries that it meets with its first entry, in the buffer.
use mathlib.Core.Path.{◌≡◌, refl, sym, ap, ◌∙◌}
use mathlib.Core.Bool.{true, false}
use mathlib.Core.List.{List}
use mathlib.Core.Logic.{◌⊎◌, inl, inr, ⊎_elim}
use Prim.Native.Nat.{ℕ, suc, ◌+◌, ◌≤◌, ◌<◌}
use native.Mathlib.Nat.{not-suc-le-zero, eq-or-lt_of_le}
use native.Mathlib.Omega.{arith}
use lib.Dec.{eqb}
use lib.ListN.{length, get_or, set, length-set, replicate, get_or-replicate, length-replicate}
use lib.Seq.{get_or-set_same, get_or-set_other}
use borrow.Author.Tests.{eq-eqb, ne_eqb, eqb-true, eqb-false}
use Rattle.lists.specs.Count.{count}
use Rattle.lists.proofs.Tests.{by_test}
use Rattle.lists.proofs.Count.{count-le, count_less}
use Rattle.trace.specs.Links.{end, after, follow, cyclic, InRange}
use Rattle.trace.proofs.Steps.{Reach, follow_one, follow-add, follow-suc}
use Rattle.trace.proofs.Cycles.{cyclic_yes, cyclic_no}
use Rattle.trace.specs.Private.{Distinct}

-- how many entries have no mark
abbrev pub unmarked : List ℕ → List ℕ → ℕ
unmarked s b = count (λ k. eqb (get_or b k 0) end) (length s)

-- what a store leaves at m
set_cases : (b : List ℕ) (j v m : ℕ) → j < length b → ((m ≡ j) × (get_or (set b j v) m 0 ≡ v)) ⊎ ((m ≡ j → ⊥) × (get_or (set b j v) m 0 ≡ get_or b m 0))
set_cases b j v m l =
    by_test (eqb m j) (λ q. let e = eqb-true m j q in inl (e, rw e (get_or-set_same b j v 0 l)))
    (λ q. let n = eqb-false m j q in inr (n, get_or-set_other b j m v 0 n))

-- an entry marked in walk i names m
abbrev pub FromMarked : List ℕ → List ℕ → ℕ → ℕ → Type 0
FromMarked s b i m = (p : ℕ) × (p < length s) × (get_or b p 0 ≡ i) × (after s p ≡ m)

-- before walk i: each mark is an earlier walk's, and from each marked entry the end is reached
pub record Seen (s b : List ℕ) (i : ℕ) : Type 0 where
  pub room : length s ≤ length b
  pub known : (m : ℕ) → m < length s → (get_or b m 0 ≡ end) ⊎ (get_or b m 0 < i)
  pub ends : (m : ℕ) → m < length s → get_or b m 0 < i → Reach s m end
  pub below : (m : ℕ) → m < i → get_or b m 0 < i

-- in walk i, at entry j
pub record Walk (s b : List ℕ) (i j : ℕ) : Type 0 where
  pub here : i < length s
  pub room : length s ≤ length b
  pub known : (m : ℕ) → m < length s → (get_or b m 0 ≡ end) ⊎ (get_or b m 0 ≤ i)
  pub ends : (m : ℕ) → m < length s → get_or b m 0 < i → Reach s m end
  pub below : (m : ℕ) → m < i → get_or b m 0 < i
  pub walked : (m : ℕ) → m < length s → get_or b m 0 ≡ i → Reach s m j × (m ≡ j → ⊥) × ((m ≡ i) ⊎ FromMarked s b i m)
  pub at : (j ≡ end) ⊎ (j < length s)
  pub from : (k : ℕ) × (follow s k i ≡ j) × (k + unmarked s b ≤ length s)
  pub came : (j ≡ i) ⊎ ((get_or b i 0 ≡ i) × FromMarked s b i j)

module _ (s : List ℕ) (small : length s ≤ end) where
  pub seen_none : (n : ℕ) → length s ≤ n → Seen s (replicate n end) 0
  seen_none n l =
      record {
        room = rw (length-replicate n end) l;
        known = λ m h. inl (get_or-replicate n m end 0 (omega arith));
        ends = λ m h q. absurd (not-suc-le-zero q);
        below = λ m h. absurd (not-suc-le-zero h);
      }

  -- no entry before walk i is on a cycle
  pub seen_before : (b : List ℕ) (i : ℕ) → i ≤ length s → Seen s b i → (k : ℕ) → k < i → cyclic s k ≡ false
  seen_before b i h w k l = cyclic_no s k small (omega arith) (w.ends k (omega arith) (w.below k l))

  pub walk_start : (b : List ℕ) (i : ℕ) → Seen s b i → i < length s → Walk s b i i
  unfolding follow
  walk_start b i w l =
      record {
        here = l;
        room = w.room;
        known = λ m h. ⊎_elim (λ e. inl e) (λ k. inr (omega arith)) (w.known m h);
        ends = w.ends;
        below = w.below;
        walked = λ m h e. absurd (⊎_elim (λ (k : get_or b m 0 ≡ end). omega arith) (λ (k : get_or b m 0 < i). omega arith) (w.known m h));
        at = inr l;
        from = (0, refl, omega (arith, count-le (λ k. eqb (get_or b k 0) end) (length s)));
        came = inl refl;
      }

  -- the walk is at an unmarked entry, and marks it
  module _ (b : List ℕ) (i j : ℕ) (w : Walk s b i j) (l : j < length s) (e : get_or b j 0 ≡ end) where
    i≢end : i ≡ end → ⊥
    i≢end q = let h = w.here in omega arith

    in-range : j < length b
    in-range = let h = w.room in omega arith

    pub fewer : unmarked s b ≡ suc (unmarked s (set b j i))
    fewer =
        count_less (λ k. eqb (get_or b k 0) end) (λ k. eqb (get_or (set b j i) k 0) end) (length s) j l (eq-eqb _ _ e)
        (ne_eqb _ _ (λ z. i≢end (sym (get_or-set_same b j i 0 in-range) ∙ z)))
        (λ k h n. ap (λ (v : ℕ). eqb v end) (sym (get_or-set_other b j k i 0 n)))

    -- it is back at its first entry, which is on a cycle
    pub walk_found : after s j ≡ i → cyclic s i ≡ true
    walk_found r =
        let f = w.from in
        let g = w.here in
        cyclic_yes s i f.0 (omega (arith, f.2, fewer)) (follow-suc s f.0 i j f.1 ∙ r)

    -- or it goes on: to the end, or to an entry that this walk has not marked, since no two entries name one
    module _ (sound : InRange s) (distinct : Distinct s) (r : after s j ≡ i → ⊥) where
      -- a marked entry is not j
      marked : (p : ℕ) → get_or b p 0 ≡ i → p ≡ j → ⊥
      marked p q z = i≢end (sym q ∙ ap (λ (x : ℕ). get_or b x 0) z ∙ e)

      keeps : (m : ℕ) → FromMarked s b i m → FromMarked s (set b j i) i m
      keeps m n = (n.0, n.1, ⊎_elim (λ c. c.1) (λ c. c.1 ∙ n.2) (set_cases b j i n.0 in-range), n.3)

      -- j and a marked entry do not both name m
      clash : (m : ℕ) → m < length s → FromMarked s b i m → after s j ≡ m → ⊥
      clash m h n q = marked n.0 n.2 (distinct n.0 j n.1 l (n.3 ∙ sym q) (λ z. let y : m ≡ end = sym n.3 ∙ z in omega arith))

      walked' : (m : ℕ) → m < length s → get_or (set b j i) m 0 ≡ i
          → Reach s m (after s j) × (m ≡ after s j → ⊥) × ((m ≡ i) ⊎ FromMarked s (set b j i) i m)
      walked' m h q =
          ⊎_elim
          (λ c. (
            (0, follow_one s m ∙ ap (after s) c.0),
            (λ z. ⊎_elim (λ (y : j ≡ i). r (sym z ∙ c.0 ∙ y)) (λ y. clash j l y.1 (sym z ∙ c.0)) w.came),
            ⊎_elim (λ (y : j ≡ i). inl (c.0 ∙ y)) (λ y. inr (rw c.0 (keeps j y.1))) w.came,
          ))
          (λ c.
          let o = w.walked m h (sym c.1 ∙ q) in (
            (suc o.0.0, follow-suc s (suc o.0.0) m j o.0.1),
            (λ z. ⊎_elim (λ (y : m ≡ i). r (sym z ∙ y)) (λ y. clash m h y (sym z)) o.2),
            ⊎_elim (λ y. inl y) (λ y. inr (keeps m y)) o.2,
          ))
          (set_cases b j i m in-range)

      pub walk_step : Walk s (set b j i) i (after s j)
      walk_step =
          record {
            here = w.here;
            room = rw (length-set b j i) w.room;
            known = λ m h. ⊎_elim (λ c. inr (omega (arith, c.1))) (λ c. rw c.1 (w.known m h)) (set_cases b j i m in-range);
            ends = λ m h q. ⊎_elim (λ c. absurd (let z = c.1 in omega arith)) (λ c. w.ends m h (rw c.1 at q)) (set_cases b j i m in-range);
            below = λ m h. ⊎_elim
                (λ c. absurd (let z : get_or b j 0 < i = rw c.0 at (w.below m h) in let g = w.here in omega arith))
                (λ c. rw c.1 (w.below m h))
                (set_cases b j i m in-range);
            walked = walked';
            at = sound j l;
            from = (suc w.from.0, follow-suc s w.from.0 i j w.from.1, omega (arith, w.from.2, fewer));
            came = inr (
              ⊎_elim (λ c. c.1) (λ c. ⊎_elim (λ (y : j ≡ i). absurd (c.0 (sym y))) (λ y. c.1 ∙ y.0) w.came) (set_cases b j i i in-range),
              (j, l, get_or-set_same b j i 0 in-range, refl),
            );
          }

  reach_on : (m j a : ℕ) → Reach s m j → follow s (suc a) j ≡ end → Reach s m end
  reach_on m j a r e = (
    r.0 + suc a,
    ap (λ (x : ℕ). follow s x m) (omega arith) ∙ follow-add s (suc r.0) (suc a) m ∙ ap (follow s (suc a)) r.1 ∙ e,
  )

  -- the walk stops at the end, or at a marked entry, which is then an earlier walk's
  module _ (b : List ℕ) (i j : ℕ) (w : Walk s b i j) (q : (j ≡ end) ⊎ ((j < length s) × (get_or b j 0 ≡ end → ⊥))) where
    to_end : (m : ℕ) → Reach s m j → Reach s m end
    to_end m r = ⊎_elim (λ (z : j ≡ end). (r.0, r.1 ∙ z)) (λ z. earlier z (⊎_elim (λ y. absurd (z.1 y)) (λ y. eq-or-lt_of_le y) (w.known j z.0))) q
      where
        earlier : (j < length s) × (get_or b j 0 ≡ end → ⊥) → (get_or b j 0 ≡ i) ⊎ (get_or b j 0 < i) → Reach s m end
        earlier z y =
            ⊎_elim
            (λ (x : get_or b j 0 ≡ i). absurd ((w.walked j z.0 x).1 refl))
            (λ (x : get_or b j 0 < i). let g = w.ends j z.0 x in reach_on m j g.0 r g.1)
            y

    at-start : get_or b i 0 < i + 1
    at-start =
        ⊎_elim
        (λ (y : j ≡ i). ⊎_elim
        (λ (z : j ≡ end). absurd (let h = w.here in omega arith))
        (λ z. ⊎_elim (λ x. absurd (z.1 (ap (λ (k : ℕ). get_or b k 0) y ∙ x))) (λ (x : get_or b i 0 ≤ i). omega arith) (w.known i w.here))
        q)
        (λ y. omega (arith, y.0))
        w.came

    pub walk_end : Seen s b (i + 1)
    walk_end =
        record {
          room = w.room;
          known = λ m h. ⊎_elim (λ e. inl e) (λ k. inr (omega arith)) (w.known m h);
          ends = λ m h k. ⊎_elim
              (λ (x : get_or b m 0 ≡ i). to_end m (w.walked m h x).0)
              (λ (x : get_or b m 0 < i). w.ends m h x)
              (eq-or-lt_of_le {n = get_or b m 0} {m = i} (omega arith));
          below = λ m h. ⊎_elim
              (λ (x : m ≡ i). rw x at-start)
              (λ (x : m < i). let g = w.below m x in omega arith)
              (eq-or-lt_of_le {n = m} {m = i} (omega arith));
        }
