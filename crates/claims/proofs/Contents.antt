-- What an accepted file lists and costs: each step over a sound volume goes on, so every pair is there; intervals that share no byte fit.
use mathlib.Core.Path.{◌≡◌, refl, ap, ◌∙◌}
use mathlib.Core.List.{List, ◌∷◌}
use mathlib.Core.Logic.{◌⊎◌, inl, inr, ⊎_elim}
use Prim.Native.Nat.{ℕ, zero, suc, ◌+◌, ◌*◌, ◌/◌, ◌≤◌, ◌<◌, min}
use native.Mathlib.Nat.{le_trans, add-zero, zero-add}
use native.Mathlib.Omega.{arith}
use borrow.Author.Tests.{ltb-true, ltb-false}
use lib.Dec.{ltb}
use lib.ListN.{length, get_or, take, drop, length-take, get_or-append}
use lib.Seq.{get_or-take}
use Rattle.lists.specs.Pairs.{pairs_in, PairsListed}
use Rattle.lists.proofs.Tests.{by_test}
use Rattle.lists.proofs.Sum.{sum_less, intervals_fit}
use Rattle.little_endian.specs.Number.{le}
use Rattle.layout.specs.Versions.{metrics_entry, volume_entry}
use Rattle.sections.specs.Fields.{part}
use Rattle.head.specs.declared.checks.Opening.{Opening}
use Rattle.names.specs.Names.{fits, name_at, name_units}
use Rattle.volumes.specs.Volumes.{entry_at, directories_at, directory_count, reference_count, reference_of, volume_of}
use Rattle.volumes.specs.SoundVolume.{SoundDirectory, directory_at}
use Rattle.volumes.proofs.SoundVolume.{is_step}
use Rattle.query.specs.declared.costs.FileCost.{FileCost}
use Rattle.query.specs.Queries.{volume_facts}
use Rattle.query.specs.Contents.{directory_pairs, directories_in, directories_asked, reference_pairs, references_in, references_asked}
use Rattle.query.specs.Cost.{whole_entries, name_cost, directory_cost, names_cost, directories_cost, cost_asked}
use Rattle.query.proofs.Parts.{part_there}
use Rattle.query.proofs.Listed.{directories_length, references_length}
use Rattle.reader.specs.Allowed.{Allowed}
use Rattle.reader.proofs.Allowed.{demand_2}
use Rattle.claims.specs.Contents.{stepped, PairIs, VolumeListed, Covers, NamesApart, InDirectory, DirectoriesApart, ContentsGiven, Contents}
use Rattle.claims.proofs.EveryName.{opened, volumes_there, volume_is_shown}
use Rattle.std.specs.Prelude.{Option, Some}

-- ---- pair k of what is listed
laid_there : (all before : List ℕ) (k j : ℕ) → 2 * k + 1 < length before → 2 * k + 1 < length all → j ≤ 2 * k + 1 → get_or (pairs_in all before) j 0 ≡ get_or all j 0
laid_there all before k j l m h =
    get_or-append (take (2 * (length before / 2)) all) (drop (min (2 * (length before / 2)) (length all)) before) 0 j
    (omega (arith, length-take (2 * (length before / 2)) all))
    ∙ get_or-take (2 * (length before / 2)) all j 0 (omega arith)

listed_pair : {all before after : List ℕ} {r : ℕ} (k x y : ℕ) → PairsListed all before r after → 2 * k + 1 < length before → k < r → PairIs all k x y
    → PairIs after k x y
listed_pair {all} {before} k x y h l m q =
    let n : 2 * k + 1 < length all = omega (arith, h.count) in
    record {
      first = ap (λ (s : List ℕ). get_or s (2 * k) 0) h.pairs ∙ laid_there all before k (2 * k) l n (omega arith) ∙ q.first;
      second = ap (λ (s : List ℕ). get_or s (2 * k + 1) 0) h.pairs ∙ laid_there all before k (2 * k + 1) l n (omega arith) ∙ q.second;
    }

pair_behind : (a b : ℕ) (s : List ℕ) (k x y : ℕ) → PairIs s k x y → PairIs (a ∷ b ∷ s) (suc k) x y
pair_behind a b s k x y q =
    let e : 2 * suc k ≡ suc (suc (2 * k)) = omega arith in
    let o : 2 * suc k + 1 ≡ suc (suc (2 * k + 1)) = omega arith in
    record { first = rw e q.first; second = rw o q.second }

directory_pair : (s : List ℕ) (base n at k : ℕ) → ((k : ℕ) → k < n → SoundDirectory s (directory_at s at k)) → k < n
    → PairIs (directory_pairs s base n at) k (base + stepped s at k + 2) (le 2 s (stepped s at k))
unfolding directory_pairs
directory_pair s base zero at k f l = absurd (omega arith)
directory_pair s base (suc n) at zero f l = rw (directory_pairs, is_step s at (f 0 (omega arith))) (record { first = refl; second = refl })
directory_pair s base (suc n) at (suc k) f l =
    rw (directory_pairs, is_step s at (f 0 (omega arith)))
    (pair_behind _ _ _ k _ _ (directory_pair s base n (at + 2 + 2 * le 2 s at + 2) k (λ j h. f (suc j) (omega arith)) (omega arith)))

reference_pair : (s : List ℕ) (e n j k : ℕ) → k < n → PairIs (reference_pairs s e n j) k (reference_of s e (j + k)).index (reference_of s e (j + k)).sequence
unfolding reference_pairs
reference_pair s e zero j k l = absurd (omega arith)
reference_pair s e (suc n) j zero l = rw (add-zero j) (record { first = refl; second = refl })
reference_pair s e (suc n) j (suc k) l =
    let z : suc j + k ≡ j + suc k = omega arith in
    rw (← z) (pair_behind _ _ _ k _ _ (reference_pair s e n (suc j) k (omega arith)))

-- ---- the run of strings of a volume
far : (s : List ℕ) (n at : ℕ) → at + 4 * n ≤ directory_at s at n
far s zero at = omega arith
far s (suc n) at = omega (arith, far s n (at + 2 + 2 * le 2 s at + 2))

directory_next : (s : List ℕ) (k at : ℕ) → directory_at s at (suc k) ≡ directory_at s at k + 2 + 2 * le 2 s (directory_at s at k) + 2
directory_next s zero at = refl
directory_next s (suc k) at = directory_next s k (at + 2 + 2 * le 2 s at + 2)

run_fits : (s : List ℕ) (n at : ℕ) → ((k : ℕ) → k < n → SoundDirectory s (directory_at s at k)) → (n ≡ 0) ⊎ (at + 4 * n ≤ length s)
run_fits s zero at f = inl refl
run_fits s (suc n) at f = inr (omega (arith, far s (suc n) at, directory_next s n at, (f n (omega arith)).inside))

-- a byte of the run is in one of its strings
in_run : (s : List ℕ) (n at byte : ℕ) → at ≤ byte → byte < directory_at s at n
    → (k : ℕ) × (k < n) × Covers (directory_at s at k) (2 + 2 * le 2 s (directory_at s at k) + 2) byte
in_run s zero at byte l h = absurd (omega arith)
in_run s (suc n) at byte l h =
    let next = at + 2 + 2 * le 2 s at + 2 in
    by_test (ltb byte next) (λ q. (0, omega arith, record { from = l; to = omega (arith, ltb-true byte next q) }))
    (λ q. let w = in_run s n next byte (ltb-false byte next q) h in (suc w.0, omega (arith, w.1), w.2))

-- ---- an accepted file
module _ (p : List ℕ) (o : Opening) (a : Allowed p o) where
  moved : {all all' before after : List ℕ} {r : ℕ} → all ≡ all' → PairsListed all before r after → PairsListed all' before r after
  moved {before = before} e h =
      record { count = h.count ∙ ap length e; pairs = h.pairs ∙ ap (λ (s : List ℕ). pairs_in s before) e }

  directories_are : (i : ℕ) → i < o.head.volumes.count → directories_asked p i ≡ directories_in o p i
  directories_are i l = rw (opened p o a, volume_is_shown p o a i l)

  references-are : (i : ℕ) → i < o.head.volumes.count → references_asked p i ≡ references_in o p i
  references-are i l = rw (opened p o a, volume_is_shown p o a i l)

  volume-listed : (i : ℕ) → i < o.head.volumes.count → VolumeListed p o i (part o.head.volumes p) (entry_at o.layout i)
  unfolding volume_facts volume_of
  volume-listed i l =
      let s = part o.head.volumes p in
      let e = entry_at o.layout i in
      let f = (a.volumes i l).directories in
      let n = directories_length s o.head.volumes.at (directory_count s e) (directories_at s e) f in
      let m = references_length s e (reference_count s e) 0 in
      record {
        directories = λ before r after h. omega (arith, n, (moved (directories_are i l) h).count);
        directory = λ k b before r after h room.
            listed_pair k _ _ (moved (directories_are i l) h) room (omega (arith, n, (moved (directories_are i l) h).count))
            (directory_pair s o.head.volumes.at (directory_count s e) (directories_at s e) k f b);
        references = λ before r after h. omega (arith, m, (moved (references-are i l) h).count);
        reference = λ k b before r after h room.
            listed_pair k _ _ (moved (references-are i l) h) room (omega (arith, m, (moved (references-are i l) h).count))
            (rw (zero-add k) at (reference_pair s e (reference_count s e) 0 k b));
      }

  names-few : NamesApart o p → names_cost o p ≤ o.head.strings.len
  unfolding names_cost
  names-few apart =
      le_trans
      (sum_less (name_cost o.layout b o.head.strings.len) long n
      (λ k _.
      by_test (fits o.head.strings.len (name_at o.layout b k) (name_units o.layout b k)) (λ q. rw q (omega arith)) (λ q. rw q (omega arith))))
      (intervals_fit (name_at o.layout b) long o.head.strings.len n
      (λ k h. omega (arith, (a.names k (omega arith)).inside, part_there o.head.strings p))
      (λ byte j k x y u v. apart byte j k (omega arith) (omega arith) (record { from = u.0; to = u.1 }) (record { from = v.0; to = v.1 })))
    where
      b : List ℕ
      b = part o.head.metrics p

      long : ℕ → ℕ
      long k = 2 * name_units o.layout b k + 2

      n : ℕ
      n = whole_entries b (metrics_entry o.layout) o.head.metrics.count

  directories-few : DirectoriesApart o p → directories_cost o p ≤ o.head.volumes.len
  unfolding directories_cost
  directories-few apart =
      intervals_fit start (directory_cost o.layout s o.head.volumes.len) o.head.volumes.len n (λ i h. inside i (omega arith))
      (λ byte i j x y u v.
      let f = found byte i (omega arith) u.0 u.1 in
      let g = found byte j (omega arith) v.0 v.1 in
      apart byte i j f.0 g.0 (omega arith) (omega arith) f.1 g.1)
    where
      s : List ℕ
      s = part o.head.volumes p

      n : ℕ
      n = whole_entries s (volume_entry o.layout) o.head.volumes.count

      at : ℕ → ℕ
      at i = directories_at s (entry_at o.layout i)

      many : ℕ → ℕ
      many i = directory_count s (entry_at o.layout i)

      -- where a volume has no directory, its offset may be anything
      start : ℕ → ℕ
      start i = min (at i) o.head.volumes.len

      fit : (i : ℕ) → i < o.head.volumes.count → (many i ≡ 0) ⊎ (at i + 4 * many i ≤ length s)
      fit i l = run_fits s (many i) (at i) (a.volumes i l).directories

      inside : (i : ℕ) → i < o.head.volumes.count → start i + min (4 * many i) o.head.volumes.len ≤ o.head.volumes.len
      inside i l = ⊎_elim (λ z. omega arith) (λ f. omega (arith, volumes_there p o a)) (fit i l)

      found : (byte i : ℕ) → i < o.head.volumes.count → start i ≤ byte → byte < start i + min (4 * many i) o.head.volumes.len
          → (k : ℕ) × InDirectory s (entry_at o.layout i) k byte
      found byte i l x y =
          ⊎_elim (λ z. absurd (omega arith))
          (λ f.
          let w = in_run s (many i) (at i) byte (omega (arith, volumes_there p o a)) (omega (arith, volumes_there p o a, far s (many i) (at i))) in
          (w.0, record { below = w.1; covers = w.2 }))
          (fit i l)

  cost-is : (r : Option FileCost) (c : FileCost) → r ≡ cost_asked p → r ≡ Some c → c ≡ record { names = names_cost o p; directories = directories_cost o p }
  cost-is r c q e =
      let k : cost_asked p ≡ Some (record { names = names_cost o p; directories = directories_cost o p }) = rw (opened p o a) in
      cc

  contents-given : ContentsGiven p o
  contents-given =
      record {
        listed = volume-listed;
        names_fit = λ r c q e apart. rw (cost-is r c q.answer e) (names-few apart);
        directories_fit = λ r c q e apart. rw (cost-is r c q.answer e) (directories-few apart);
      }

pub contents : Contents
contents file buffer v after a r e =
    let d = (demand_2 file buffer v after r).sound a e in
    (d.0, d.1, contents-given file d.0 d.1)
