-- The search on the sections is the search on the file: an entry lies whole in the metrics exactly when it is one of those looked at,
-- and its name has the same bytes. And what a found path is.
use Rattle.std.proofs.Common.{◌≡◌, ℕ, ◌+◌, ◌*◌, ◌%◌, ◌^◌, ◌<◌, ◌≤◌, Bool, true, false, ◌&&◌, eqb, ltb, List, [], ◌++◌, length, get_or, take, drop, sym, ap, ◌∙◌, le_trans, le_refl, div-le_self, div-lt_iff_lt-mul, add-mul, one-mul, le-div_iff_mul-le, arith, take-append-drop, le-ltb, lt-ltb, ne_eqb, le-leb}
use borrow.Author.Tests.{lt-leb}
use Rattle.lists.proofs.Tests.{by_test}
use Rattle.little_endian.proofs.Number.{le-lt}
use Rattle.layout.specs.Versions.{metrics_entry, size_limit}
use Rattle.layout.specs.Sound.{SoundLayout}
use Rattle.layout.specs.declared.Layout.{Layout}
use Rattle.path_hash.specs.Hash.{plain}
use Rattle.path_hash.proofs.Laws.{plain-append}
use Rattle.path_search.proofs.Least.{least_same, pairs-same, least_at, least_none, least_is, least_not, hash_of_lem}
use Rattle.incremental.specs.Decision.{accept}
use Rattle.incremental.specs.Plan.{decided, run}
use Rattle.sections.specs.Fields.{stored_hash, part}
use Rattle.head.specs.Checks.{open_plan}
use Rattle.head.specs.Opened.{OpenFacts}
use Rattle.head.proofs.Facts.{open_sound, open_shapes}
use Rattle.head.specs.declared.checks.Opening.{Opening}
use Rattle.query.specs.Queries.{bytes_at, entry_shown, name_place, volume_shown, path_place, name_sound, name_in}
use Rattle.path_search.specs.Search.{matches, matches_by, least_pair, all_pairs, path_found, PathFound}
use Rattle.lists.specs.Pairs.{PairsListed}
use Rattle.path_search.specs.From.{begins_with, from_start, path_of, name_of, takes_part, matches_from, path_found_from}
use Rattle.path_search.specs.Private.{hash_start, hash_from, belongs, number_in, numbered_in, entries_in, searched, sought_on, searched_on}
use Rattle.path_search.proofs.Same.{same-eq}
use Rattle.path_search.specs.declared.Sought.{Sought}
use Rattle.query.proofs.Entries.{name_inside, both}
use Rattle.query.proofs.Parts.{part_there, part_low, part_bytes}
use Rattle.path_search.proofs.NameNumber.{number_test}
use Rattle.std.specs.Prelude.{None, Option, Some}
use Rattle.path_search.specs.declared.PathEntry.{PathEntry}
use Rattle.path_search.specs.Search.{path_entry}

-- ---- THE SEARCH ON THE SECTIONS IS THE SEARCH ON THE FILE

-- the bytes of a name that is shown are the same in the file
pub name_bytes : (o : Opening) (p : List ℕ) (i : ℕ) → name_sound o.layout (part o.head.metrics p) (part o.head.strings p) i ≡ true
    → bytes_at (name_in o.layout (part o.head.metrics p) i) (part o.head.strings p) ≡ bytes_at (name_place o p i) p
name_bytes o p i s =
    let n = name_in o.layout (part o.head.metrics p) i in
    let h = name_inside o.layout (part o.head.metrics p) (part o.head.strings p) i s in
    part_bytes o.head.strings p n.at n.len (omega (arith, h, part_there o.head.strings p))

-- an entry lies whole in the metrics exactly when its index is below their number of whole entries
pub metric_some : (l : Layout) → SoundLayout l → 0 < metrics_entry l
metric_some l s = omega (arith, s.name_offset)

pub entry_whole : (l : Layout) → SoundLayout l → (metrics : List ℕ) (i : ℕ) → i < entries_in l metrics → (i + 1) * metrics_entry l ≤ length metrics
entry_whole l s metrics i b = (le-div_iff_mul-le (metric_some l s)).0 (omega arith)

pub entry-not-whole : (l : Layout) → SoundLayout l → (metrics : List ℕ) (i : ℕ) → entries_in l metrics ≤ i → length metrics < (i + 1) * metrics_entry l
entry-not-whole l s metrics i b = (div-lt_iff_lt-mul (metric_some l s)).0 (omega arith)

-- there are no more of them than the count says
entries-most : (l : Layout) → SoundLayout l → (metrics : List ℕ) (count : ℕ) → length metrics ≤ count * metrics_entry l → entries_in l metrics ≤ count
entries-most l s metrics count h =
    let g : length metrics < (count + 1) * metrics_entry l = omega (arith, h, metric_some l s, add-mul count 1 (metrics_entry l), one-mul (metrics_entry l)) in
    let d = (div-lt_iff_lt-mul (metric_some l s)).1 g in
    omega arith

-- the sections of an opening
abbrev metrics_of : Opening → List ℕ → List ℕ
metrics_of o p = part o.head.metrics p

abbrev strings_of : Opening → List ℕ → List ℕ
strings_of o p = part o.head.strings p

abbrev entries_on : Opening → List ℕ → ℕ
entries_on o p = entries_in o.layout (metrics_of o p)

abbrev numbered_on : Opening → List ℕ → List ℕ → ℕ → ℕ → ℕ → Bool
numbered_on o p path from n i = numbered_in (sought_on o p from) path o.layout (metrics_of o p) (strings_of o p) n i

-- entry i can be shown, its name belongs to the path, and its hash from there matches by number n
abbrev matches_name : Opening → List ℕ → List ℕ → ℕ → ℕ → List ℕ → Bool
matches_name o p path from n name = belongs path name && eqb ((hash_from (sought_on o p from) path name + n) % 2 ^ 32) (stored_hash p)

abbrev pub matches_on : Opening → List ℕ → List ℕ → ℕ → ℕ → ℕ → Bool
matches_on o p path from n i = entry_shown o p i && matches_name o p path from n (bytes_at (name_place o p i) p)

module _ (o : Opening) (p : List ℕ) (f : OpenFacts p o) where
  metrics-most : length (metrics_of o p) ≤ o.head.metrics.count * metrics_entry o.layout
  metrics-most = omega (arith, part_there o.head.metrics p, (open_shapes p o f).metrics_len)

  pub entries_few : entries_on o p ≤ o.head.metrics.count
  entries_few = entries-most o.layout (open_sound p o f) (metrics_of o p) o.head.metrics.count metrics-most

  module _ (path : List ℕ) (from : ℕ) (a : from < 2 ^ 32) (b : stored_hash p < 2 ^ 32) where
    whole-entry : (n i : ℕ) → n < 9 → i < entries_on o p → matches_on o p path from n i ≡ numbered_on o p path from n i
    unfolding entry_shown number_in name_sound
    whole-entry n i h l =
        let c : i < o.head.metrics.count = omega (arith, entries_few) in
        rw (lt-ltb _ _ c, le-leb _ _ (entry_whole o.layout (open_sound p o f) (metrics_of o p) i l))
        (by_test (name_sound o.layout (metrics_of o p) (strings_of o p) i)
        (λ s.
        let here = bytes_at (name_in o.layout (metrics_of o p) i) (strings_of o p) in
        rw s (ap (matches_name o p path from n) (sym (name_bytes o p i s)) ∙ number_test (sought_on o p from) path here n a b h))
        (λ s. rw s (sym (ne_eqb 9 n (λ z. omega arith)))))

    -- an entry past the whole ones can't be shown
    cut-entry : (n i : ℕ) → i < o.head.metrics.count → entries_on o p ≤ i → matches_on o p path from n i ≡ false
    unfolding entry_shown
    cut-entry n i b l = rw (lt-ltb _ _ b, lt-leb _ _ (entry-not-whole o.layout (open_sound p o f) (metrics_of o p) i l))

    -- for every test that is this one
    module _ (test : ℕ → ℕ → Bool) (same : (n i : ℕ) → test n i ≡ matches_on o p path from n i) where
      pub path_law : least_pair test o.head.metrics.count ≡ searched_on o p path from
      path_law =
          least_same test (numbered_on o p path from) o.head.metrics.count (entries_on o p) entries_few
          (λ n i h l. same n i ∙ whole-entry n i h l) (λ n i h l c. same n i ∙ cut-entry n i c l)

      pub pairs_law : all_pairs test o.head.metrics.count ≡ all_pairs (numbered_on o p path from) (entries_on o p)
      pairs_law =
          pairs-same test (numbered_on o p path from) o.head.metrics.count (entries_on o p) 9 entries_few
          (λ n i h l. same n i ∙ whole-entry n i h l) (λ n i h l c. same n i ∙ cut-entry n i c l)

-- every name belongs to no path, and its hash starts where the version's does
all_matches : (o : Opening) (p : List ℕ) (n i : ℕ) → matches_by o p n i ≡ matches_on o p [] (hash_start o.version) n i
unfolding belongs
all_matches o p n i = rw (hash_of_lem o.version (bytes_at (name_place o p i) p))

-- of a volume with a path, the hash is that of the start and what is behind the path
from_matches : (o : Opening) (p : List ℕ) (v : ℕ) (start : List ℕ) → volume_shown o p v ≡ true → 0 < length (path_of o p v)
    → (n i : ℕ) → matches_from o p v start n i ≡ matches_on o p (path_of o p v) (plain (hash_start o.version) start) n i
unfolding takes_part belongs
from_matches o p v start s l n i =
    rw (
      s,
      lt-ltb _ _ l,
      ne_eqb (length (path_of o p v)) 0 (λ z. omega arith),
      hash_of_lem o.version (from_start start (path_of o p v) (name_of o p i)),
      plain-append (hash_start o.version) start (drop (length (path_of o p v)) (name_of o p i)),
    )
    (by_test (entry_shown o p i) (λ e. rw e) (λ e. rw e))

-- there are fewer entries than bytes, of which there are few
pub few_entries : (l : Layout) (metrics : List ℕ) → length metrics ≤ size_limit → entries_in l metrics ≤ size_limit
few_entries l metrics h = omega (arith, div-le_self (length metrics) l.metrics_entry)

-- for the code, which has the sections from calls
pub metrics_low : (o : Opening) (p : List ℕ) {metrics : List ℕ} → OpenFacts p o → metrics ≡ part o.head.metrics p → length metrics ≤ size_limit
metrics_low o p f e = rw e (part_low o.head.metrics _ p (open_shapes p o f).metrics_end (le_trans f.metrics f.start.most))

pub sections_given : (o : Opening) (p path : List ℕ) (from : ℕ) {metrics strings : List ℕ} {q : Sought} {r : Option PathEntry}
    → metrics ≡ part o.head.metrics p → strings ≡ part o.head.strings p → q ≡ sought_on o p from
    → r ≡ searched q path o.layout metrics strings → r ≡ searched_on o p path from
sections_given o p path from em es eq e = rw (em, es, eq) at e

pub stored_low : (p : List ℕ) → ((k : ℕ) → get_or p k 0 < 256) → stored_hash p < 2 ^ 32
stored_low p h = le-lt 4 p _ h

pub path_given : (o : Opening) (p : List ℕ) {path : List ℕ} {from : ℕ} {r : Option PathEntry} → OpenFacts p o → from < 2 ^ 32 → stored_hash p < 2 ^ 32
    → path ≡ [] → from ≡ hash_start o.version → r ≡ searched_on o p path from → r ≡ least_pair (matches_by o p) o.head.metrics.count
path_given o p {path} {from} f a b ep ef e =
    e ∙ sym (path_law o p f path from a b (matches_by o p) (λ n i. rw (ep, ef) (all_matches o p n i)))

pub pairs-given : (o : Opening) (p : List ℕ) {path metrics strings before after : List ℕ} {from r : ℕ} {q : Sought} → OpenFacts p o → from < 2 ^ 32
    → stored_hash p < 2 ^ 32 → path ≡ [] → from ≡ hash_start o.version → metrics ≡ part o.head.metrics p → strings ≡ part o.head.strings p
    → q ≡ sought_on o p from → PairsListed (all_pairs (numbered_in q path o.layout metrics strings) (entries_in o.layout metrics)) before r after
    → PairsListed (all_pairs (matches_by o p) o.head.metrics.count) before r after
pairs-given o p {path} {from = from} f a b ep ef em es eq w =
    let e = pairs_law o p f path from a b (matches_by o p) (λ n i. rw (ep, ef) (all_matches o p n i)) in
    let c = rw (em, es, eq, ← e) at w.count in
    let d = rw (em, es, eq, ← e) at w.pairs in
    record { count = c; pairs = d }

-- from another start: `path` is what the query for the volume's path gave
pub from_given : (o : Opening) (p : List ℕ) (v : ℕ) (start : List ℕ) {path : List ℕ} {h from : ℕ} {r : Option PathEntry} → OpenFacts p o → from < 2 ^ 32
    → stored_hash p < 2 ^ 32 → path ≡ bytes_at (path_place o p v) p → (length path ≡ 0 → ⊥) → h ≡ hash_start o.version → from ≡ plain h start
    → r ≡ searched_on o p path from → r ≡ least_pair (matches_from o p v start) o.head.metrics.count
from_given o p v start {path} {h} {from} {r} f a b ep n eh ef e =
    by_test (volume_shown o p v)
    (λ s.
    let w : path ≡ path_of o p v = rw s at ep in
    let l : 0 < length (path_of o p v) = omega (arith, ap length w) in
    e ∙ sym (path_law o p f path from a b (matches_from o p v start) (λ n i. rw (w, ef, eh) (from_matches o p v start s l n i))))
    (λ s. absurd (n (ap length (rw s at ep))))

pub from_none : (o : Opening) (p : List ℕ) (v : ℕ) (start : List ℕ) {path : List ℕ} → path ≡ bytes_at (path_place o p v) p → length path ≡ 0
    → None ≡ least_pair (matches_from o p v start) o.head.metrics.count
unfolding takes_part
from_none o p v start {path} ep z =
    sym
    (least_none (matches_from o p v start) o.head.metrics.count
    (λ n i h l.
    by_test (volume_shown o p v)
    (λ s.
    let w : path ≡ path_of o p v = rw s at ep in
    rw (s, le-ltb 0 (length (path_of o p v)) (omega (arith, ap length w))) (by_test (entry_shown o p i) (λ e. rw e) (λ e. rw e)))
    (λ s. rw s (by_test (entry_shown o p i) (λ e. rw e) (λ e. rw e)))))

-- ---- what a found path is
pub path_found_law : (o : Opening) (p : List ℕ) (i n : ℕ) → run open_plan p ≡ decided (accept o) → path_found p ≡ Some (path_entry i n) → PathFound o p i n
path_found_law o p i n a e =
    let g : least_pair (matches_by o p) o.head.metrics.count ≡ Some (path_entry i n) = rw a at e in
    let q = least_is (matches_by o p) o.head.metrics.count i n g in
    record { below = q.below; number = q.number; matched = q.matched; least = q.least; first = q.first }

pub found_path_law : (o : Opening) (p : List ℕ) (i n : ℕ) → run open_plan p ≡ decided (accept o) → PathFound o p i n → path_found p ≡ Some (path_entry i n)
found_path_law o p i n a q =
    rw a
    (least_at (matches_by o p) o.head.metrics.count i n
    (record { below = q.below; number = q.number; matched = q.matched; least = q.least; first = q.first }))

pub path_not_found_law : (o : Opening) (p : List ℕ) → run open_plan p ≡ decided (accept o) → path_found p ≡ None
    → (n i : ℕ) → n < 9 → i < o.head.metrics.count → matches_by o p n i ≡ false
path_not_found_law o p a e =
    let g : least_pair (matches_by o p) o.head.metrics.count ≡ None = rw a at e in
    least_not (matches_by o p) o.head.metrics.count g

-- ---- FROM THE VOLUME'S OWN PATH the path is the name: it begins with that path
own_name : (path name : List ℕ) → begins_with path name ≡ true → from_start path path name ≡ name
unfolding begins_with
own_name path name e =
    let z : take (length path) name ≡ path = same-eq _ _ (both _ _ e).0 in
    ap (λ (s : List ℕ). s ++ drop (length path) name) (sym z) ∙ take-append-drop (length path) name

takes_part_is : (o : Opening) (p : List ℕ) (v i : ℕ) → takes_part o p v i ≡ true
    → (entry_shown o p i ≡ true) × (begins_with (path_of o p v) (name_of o p i) ≡ true)
unfolding takes_part
takes_part_is o p v i e =
    let begins = begins_with (path_of o p v) (name_of o p i) in
    let some = ltb 0 (length (path_of o p v)) in
    let shown = both (entry_shown o p i) (volume_shown o p v && (some && begins)) e in
    (shown.0, (both some begins (both (volume_shown o p v) (some && begins) shown.1).1).1)

own_matches : (o : Opening) (p : List ℕ) (v n i : ℕ) → matches_from o p v (path_of o p v) n i ≡ (takes_part o p v i && matches_by o p n i)
own_matches o p v n i =
    by_test (takes_part o p v i)
    (λ e.
    let w = takes_part_is o p v i e in
    rw (e, w.0) (ap (λ (s : List ℕ). matches o.version s (stored_hash p) n) (own_name (path_of o p v) (name_of o p i) w.1)))
    (λ e. rw e)

pub own_path_law : (o : Opening) (p : List ℕ) (v : ℕ) → run open_plan p ≡ decided (accept o)
    → path_found_from p v (path_of o p v) ≡ least_pair (λ n i. takes_part o p v i && matches_by o p n i) o.head.metrics.count
own_path_law o p v a =
    rw a
    (least_same (matches_from o p v (path_of o p v)) (λ n i. takes_part o p v i && matches_by o p n i) o.head.metrics.count o.head.metrics.count
    (le_refl o.head.metrics.count) (λ n i h l. own_matches o p v n i) (λ n i h l b. absurd (omega arith)))
