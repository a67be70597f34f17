-- All pairs of a file: the first is the search's answer, and an entry is in one at most, since two numbers below 9 differ in what they add.
use mathlib.Core.Path.{◌≡◌, refl, ap, ◌∙◌}
use mathlib.Core.Bool.{Bool, true, false}
use mathlib.Core.List.{List, [], ◌∷◌}
use mathlib.Core.Logic.{◌↔◌}
use Prim.Native.Nat.{ℕ, zero, suc, ◌+◌, ◌*◌, ◌%◌, ◌^◌, ◌<◌}
use native.Mathlib.Nat.{le_refl}
use native.Mathlib.Omega.{arith}
use borrow.Author.Tests.{eqb-true}
use lib.ListN.{length}
use Rattle.lists.specs.Count.{count}
use Rattle.lists.proofs.Count.{count-zero, count_no}
use Rattle.lists.proofs.Tests.{never}
use Rattle.lists.proofs.Sum.{none_summed, once_counted}
use Rattle.incremental.specs.Decision.{accept, refuse}
use Rattle.incremental.specs.Plan.{Answer, decided, wants, run}
use Rattle.sections.specs.Fields.{stored_hash}
use Rattle.head.specs.Checks.{open_plan}
use Rattle.head.specs.declared.checks.Opening.{Opening}
use Rattle.query.specs.Queries.{entry_shown}
use Rattle.query.proofs.Entries.{both}
use Rattle.path_search.specs.Search.{hash_of, entry_numbers, matches_by, least_pair, all_pairs, path_found, path_pairs}
use Rattle.path_search.specs.Private.{start_of}
use Rattle.path_search.proofs.Least.{least_is, least_not}
use Rattle.path_search.proofs.Places.{length_pairs, pair_there, pair_at}
use Rattle.claims.specs.Numbers.{PairAt, Numbers}
use Rattle.std.specs.Prelude.{None, Option, Some}
use Rattle.path_search.specs.declared.PathEntry.{PathEntry}
use Rattle.path_search.specs.Search.{path_entry}

-- ---- over any test of a number and an entry
none_counted : (p : ℕ → Bool) (n : ℕ) → ((k : ℕ) → k < n → p k ≡ false) → count p n ≡ 0
none_counted p zero h = count-zero p
none_counted p (suc n) h = count_no p n (h n (le_refl (suc n))) ∙ none_counted p n (λ k l. h k (omega arith))

no_length : (s : List ℕ) → length s ≡ 0 → s ≡ []
no_length [] e = refl
no_length (x ∷ s) e = absurd (omega arith)

module _ (test : ℕ → ℕ → Bool) (m : ℕ) where
  there : (i n : ℕ) → n < 9 → i < m → test n i ≡ true → PairAt (all_pairs test m) (start_of test m n + count (test n) i) i n
  there i n l b e =
      let w = pair_there test m 9 n i l b e in
      record { inside = omega (arith, w.0, length_pairs test m 9); entry = w.1.entry_at; number = w.1.number_at }

  pair-in : (r : ℕ) → 2 * r + 1 < length (all_pairs test m)
      → (i : ℕ) × (n : ℕ) × PairAt (all_pairs test m) r i n × (n < 9) × (i < m) × (test n i ≡ true)
  pair-in r l =
      let w = pair_at test m 9 r (omega (arith, length_pairs test m 9)) in
      (w.0, w.1, record { inside = l; entry = w.2.entry_at; number = w.2.number_at }, w.3.number, w.3.entry, w.3.passes)

  first-there : (i n : ℕ) → least_pair test m ≡ Some (path_entry i n) → PairAt (all_pairs test m) 0 i n
  first-there i n e =
      let q = least_is test m i n e in
      let a : start_of test m n ≡ 0 = none_summed _ n (λ k l. none_counted (test k) m (λ j h. q.least k j l h)) in
      let b : count (test n) i ≡ 0 = none_counted (test n) i q.first in
      let z : start_of test m n + count (test n) i ≡ 0 = omega arith in
      rw z at (there i n q.number q.below q.matched)

  none-there : least_pair test m ≡ None → all_pairs test m ≡ []
  none-there e =
      let q = least_not test m e in
      let a : start_of test m 9 ≡ 0 = none_summed _ 9 (λ n l. none_counted (test n) m (λ i h. q n i l h)) in
      no_length (all_pairs test m) (omega (arith, length_pairs test m 9))

  there-none : all_pairs test m ≡ [] → least_pair test m ≡ None
  there-none e = go (least_pair test m) refl
    where
      go : (x : Option PathEntry) → least_pair test m ≡ x → least_pair test m ≡ None
      go (Some w) q = absurd (omega (arith, (first-there w.index w.number q).inside, ap length e))
      go None q = q

-- ---- on a file
difference : (h k n stored : ℕ) → k < 9 → n < 9 → (h + k) % 2 ^ 32 ≡ stored → (h + n) % 2 ^ 32 ≡ stored → k ≡ n
difference h k n stored a b e f = omega arith

one_number : (o : Opening) (p : List ℕ) (i k n : ℕ) → k < 9 → n < 9 → matches_by o p k i ≡ true → matches_by o p n i ≡ true → k ≡ n
one_number o p i k n a b e f =
    let g = (both (entry_shown o p i) _ e).1 in
    let h = (both (entry_shown o p i) _ f).1 in
    difference (hash_of o.version (entry_numbers o p i)) k n (stored_hash p) a b (eqb-true _ _ g) (eqb-true _ _ h)

-- checks 1 to 6 give an opening, or nothing is found and nothing listed
by_opening : {A : Type 0} (p : List ℕ) → ((o : Opening) → run open_plan p ≡ decided (accept o) → A) → (path_found p ≡ None → path_pairs p ≡ [] → A) → A
by_opening {A} p y n = go (run open_plan p) refl
  where
    go : (x : Answer Opening) → run open_plan p ≡ x → A
    go (decided (accept o)) e = y o e
    go (decided (refuse r)) e = n (rw e) (rw e)
    go (wants k) e = n (rw e) (rw e)

first_pair : (p : List ℕ) (i n : ℕ) → path_found p ≡ Some (path_entry i n) → PairAt (path_pairs p) 0 i n
first_pair p i n e =
    by_opening p (λ o a. rw a (first-there (matches_by o p) o.head.metrics.count i n (rw a at e))) (λ f l. never (cc))

no_pair : (p : List ℕ) → (path_found p ≡ None) ↔ (path_pairs p ≡ [])
no_pair p =
    by_opening p (λ o a. rw a (none-there (matches_by o p) o.head.metrics.count, there-none (matches_by o p) o.head.metrics.count))
    (λ f l. (λ _. l, λ _. f))

pub path_not_open : (p : List ℕ) → ((o : Opening) → run open_plan p ≡ decided (accept o) → ⊥) → path_found p ≡ None
path_not_open p n = by_opening p (λ o e. absurd (n o e)) (λ f l. f)

listed : (o : Opening) (p : List ℕ) (i n : ℕ) → run open_plan p ≡ decided (accept o) → n < 9 → i < o.head.metrics.count
    → matches_by o p n i ≡ true → (r : ℕ) × PairAt (path_pairs p) r i n
listed o p i n a l b e =
    let m = o.head.metrics.count in
    let w : PairAt (path_pairs p) (start_of (matches_by o p) m n + count (matches_by o p n) i) i n = rw a (there (matches_by o p) m i n l b e) in
    (start_of (matches_by o p) m n + count (matches_by o p n) i, w)

pair : (o : Opening) (p : List ℕ) (r : ℕ) → run open_plan p ≡ decided (accept o) → 2 * r + 1 < length (path_pairs p)
    → (i : ℕ) × (n : ℕ) × PairAt (path_pairs p) r i n × (n < 9) × (i < o.head.metrics.count) × (matches_by o p n i ≡ true)
pair o p r a l =
    let w = pair-in (matches_by o p) o.head.metrics.count r (rw a at l) in
    let e : PairAt (path_pairs p) r w.0 w.1 = rw a w.2 in
    (w.0, w.1, e, w.3, w.4, w.5)

pub numbers : Numbers
numbers =
    record {
      first_pair = first_pair;
      no_pair = no_pair;
      pair = pair;
      listed = listed;
      one_number = one_number;
      few = λ o p a.
          rw a
          (omega (arith, length_pairs (matches_by o p) o.head.metrics.count 9, once_counted (matches_by o p) 9 o.head.metrics.count (one_number o p)));
    }
