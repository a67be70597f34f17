-- The pass for checks 11 and 12 over a list of next indexes: what holds after i entries, and what is found in the end.
use mathlib.Core.Path.{◌≡◌, sym, ap, ◌∙◌}
use mathlib.Core.Bool.{Bool, true, false, ◌&&◌}
use mathlib.Core.List.{List}
use mathlib.Core.Logic.{◌⊎◌, ⊎_elim}
use Prim.Native.Nat.{ℕ, ◌+◌, ◌≤◌, ◌<◌}
use native.Mathlib.Omega.{arith}
use native.Mathlib.Numerals.{add-one}
use lib.Dec.{eqb, ltb}
use lib.ListN.{length, get_or}
use borrow.Author.Tests.{lt-ltb}
use Rattle.lists.proofs.First.{Least, first_is_at, first_is_nothing}
use Rattle.lists.proofs.Count.{count-zero}
use Rattle.lists.proofs.Tests.{never}
use Rattle.lists.proofs.Table.{length-tabulate, get_or_tabulate}
use Rattle.trace.specs.declared.Broken.TheVariants.{Astray, Shared}
use Rattle.lists.specs.Filled.{filled}
use Rattle.trace.specs.Links.{end, after, astray, namers, shared, predecessor, predecessors}
use Rattle.trace.specs.Private.{first_astray, first_shared, Stored, Passed}
use Rattle.trace.proofs.Accepted.{astray_yes, astray_below, astray-end}
use Rattle.trace.proofs.Forward.{LeadsOn, leads_none, leads_more}
use Rattle.trace.proofs.Predecessors.{namers-same, namers_other}
use Rattle.trace.proofs.Naming.{shared_by, place, table, table_none, table_end, table_more, least_none, least_end, least_more, none_more}
use Rattle.std.specs.Prelude.{None, Ok, Err}

-- the buffer is the table of the first i entries, none of them astray, `least` is the smallest entry that two of them name, `ends`
-- is how many of them end a chain, and where `forward` holds each of them names one above itself
pub record Passing (s : List ℕ) (m : ℕ) (buffer : List ℕ) (least ends : ℕ) (forward : Bool) (i : ℕ) : Type 0 where
  pub most : i ≤ length s
  pub few : ends ≤ i
  pub built : buffer ≡ table s m i
  pub smallest : Least (shared_by s i) (length s) least
  pub counted : ends ≡ namers s i end
  pub clear : (k : ℕ) → k < i → astray s k ≡ false
  pub leads : forward ≡ true → LeadsOn s i

pub passing_none : (s : List ℕ) (m n : ℕ) (buffer : List ℕ) → length s ≡ n → buffer ≡ filled m → Passing s m buffer n 0 true 0
unfolding namers
passing_none s m n buffer e h =
    record {
      most = omega arith;
      few = omega arith;
      built = h ∙ table_none s m;
      smallest = rw e (least_none s n);
      counted = sym (count-zero (λ k. eqb (after s k) end));
      clear = λ k l. absurd (omega arith);
      leads = λ _. leads_none s;
    }

module _ {s : List ℕ} {m : ℕ} {before : List ℕ} {least ends : ℕ} {forward : Bool} {i : ℕ} (v : Passing s m before least ends forward i) where
  pub passing_length : length before ≡ m
  passing_length = ap length v.built ∙ length-tabulate m (place s i)

  -- entry i, whose next index is `next`
  module _ (next : ℕ) (l : i < length s) (w : next ≡ after s i) where
    -- it is astray
    pub passing_astray : (buffer : List ℕ) → length s ≤ end → (next ≡ end → ⊥) → length s ≤ next → Passed s m (Err (Astray i)) buffer
    passing_astray buffer small n h =
        let a : astray s i ≡ true = astray_yes s i (λ z. n (w ∙ z)) (omega arith) in
        let f : first_astray s ≡ _ = first_is_at (astray s) (length s) i l a v.clear in
        record {
          forward = false;
          found = rw f;
          leads = λ z. never cc;
          small = small;
          holds = λ z. (⊎_elim (λ y. never (cc (astray-end s i y))) (λ y. never (cc (astray_below s i y))) (z i l));
        }

    -- it ends a chain, and is counted, or names an entry
    pub passing_more : (least' ends' : ℕ) (buffer : List ℕ) → length s ≤ end → length s ≤ m → Stored i next least before least' buffer
        → ((next ≡ end) × (ends' ≡ ends + 1)) ⊎ ((next < length s) × (ends' ≡ ends))
        → Passing s m buffer least' ends' (forward && ltb i next) (i + 1)
    passing_more least' ends' buffer small room d o = ⊎_elim last on o
      where
        onward : (forward && ltb i next) ≡ true → LeadsOn s (i + 1)
        onward = leads_more s i next forward w v.leads

        last : (next ≡ end) × (ends' ≡ ends + 1) → Passing s m buffer least' ends' (forward && ltb i next) (i + 1)
        last z =
            let q = d.ends z.0 in
            let e : after s i ≡ end = sym w ∙ z.0 in
            record {
              most = omega arith;
              few = omega (arith, v.few, z.1);
              built = rw add-one (q.1 ∙ v.built ∙ table_end s m i small e);
              smallest = rw add-one (rw q.0 (least_end s i (length s) least 0 small (omega arith) v.smallest e));
              counted = rw add-one (omega (arith, z.1, v.counted, namers-same s i end e));
              clear = none_more (astray s) i v.clear (astray-end s i e);
              leads = onward;
            }

        on : (next < length s) × (ends' ≡ ends) → Passing s m buffer least' ends' (forward && ltb i next) (i + 1)
        on z =
            let q = d.names (λ y. omega (arith, z.0, y)) in
            let h : after s i < length s = omega (arith, z.0) in
            let e : get_or before (after s i) 0 ≡ predecessor s i (after s i) =
            ap (λ (b : List ℕ). get_or b (after s i) 0) v.built
            ∙ get_or_tabulate m (place s i) (after s i) 0 (omega arith)
            ∙ rw (lt-ltb (after s i) (length s) h) in
            record {
              most = omega arith;
              few = omega (arith, v.few, z.1);
              built = rw add-one (q.1 ∙ rw (v.built, w) (table_more s m i h));
              smallest = rw add-one (rw (q.0, w) (least_more s i (length s) least (get_or before (after s i) 0) small (omega arith) v.smallest h e));
              counted = rw add-one (omega (arith, z.1, v.counted, namers_other s i end (λ y. omega (arith, h, y))));
              clear = none_more (astray s) i v.clear (astray_below s i h);
              leads = onward;
            }

  -- all entries are passed, and one is named twice, or none is
  module _ (small : length s ≤ end) (l : length s ≤ i) where
    all : i ≡ length s
    all = omega (arith, v.most)

    whole : before ≡ predecessors s m
    unfolding predecessors
    whole = v.built ∙ ap (table s m) all

    none-astray : first_astray s ≡ None
    none-astray = first_is_nothing (astray s) (length s) (λ k h. v.clear k (omega arith))

    of-all : Least (shared s) (length s) least
    of-all = rw all at v.smallest

    pub passing_shared : least < length s → Passed s m (Err (Shared least)) before
    passing_shared h =
        let g : first_shared s ≡ _ = first_is_at (shared s) (length s) least h (of-all.here h) of-all.below in
        record {
          forward = false;
          found = rw (none-astray, g);
          leads = λ z. never cc;
          small = small;
          holds = λ _. whole;
        }

    pub passing_clear : length s ≤ least → Passed s m (Ok (record { ends = ends; forward = forward })) before
    passing_clear h =
        let g : first_shared s ≡ _ = first_is_nothing (shared s) (length s) (λ k q. of-all.below k (omega arith)) in
        record {
          forward = forward;
          found = rw (none-astray, g) (ap (λ (k : ℕ). Ok (record { ends = k; forward = forward })) (v.counted ∙ ap (λ (k : ℕ). namers s k end) all));
          leads = λ z k q. v.leads z k (omega arith);
          small = small;
          holds = λ _. whole;
        }
