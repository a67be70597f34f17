-- Every listing has room: each of its numbers has few digits, so each of its lines is short.
use mathlib.Core.Path.{◌≡◌, refl}
use mathlib.Core.Bool.{Bool, true, false}
use mathlib.Core.List.{List}
use Prim.Native.Nat.{ℕ, ◌^◌, ◌≤◌, ◌<◌}
use native.Mathlib.Omega.{arith}
use lib.Dec.{ltb}
use lib.ListN.{length, length-append}
use Rattle.lists.proofs.Table.{length-tabulate}
use Rattle.digits.proofs.Hex.{length_digits}
use Rattle.incremental.specs.Decision.{accept, refuse}
use Rattle.incremental.specs.Plan.{Answer, decided, wants, run}
use Rattle.incremental.specs.declared.Refusal.{Refusal}
use Rattle.head.specs.Checks.{open_plan}
use Rattle.head.proofs.Facts.{open_facts}
use Rattle.head.specs.declared.checks.Opening.{Opening}
use Rattle.reader.specs.Verdict.{Acceptable}
use Rattle.reader.specs.Checks.{file_answer}
use Rattle.reader.specs.declared.verdict.Acceptance.{Acceptance}
use Rattle.path_search.specs.Search.{path_found}
use Rattle.path_search.proofs.Laws.{path_found_law}
use Rattle.lists.specs.Count.{pick}
use Rattle.text.specs.Decimal.{decimal}
use Rattle.text.proofs.Decimal.{decimal_short}
use Rattle.listing_text.specs.Listing.{line, too_long, path_text, accepted_text, refused_text, answer_text}
use Rattle.listing_text.specs.Listing.{file_limit, listing, room}
use Rattle.incremental.proofs.Each.{Each}
use Rattle.listing_text.proofs.Bounds.{Bytes, SmallRefusal, SmallFields, low_counts, small_answer}
use Rattle.std.specs.Prelude.{None, Option, Some}
use Rattle.path_search.specs.declared.PathEntry.{PathEntry}

two_digits : (n : ℕ) → n < 100 → length (decimal n) ≤ 2
two_digits n l = decimal_short 1 n l

ten_digits : (n : ℕ) → n < 2 ^ 32 → length (decimal n) ≤ 10
ten_digits n l = decimal_short 9 n (omega arith)

module _ (p : List ℕ) (h : Bytes p) where
  path_found_lem : (o : Opening) (r : Option PathEntry) → path_found p ≡ r → run open_plan p ≡ decided (accept o) → length (path_text r) ≤ 12
  path_found_lem o (Some w) e q =
      let f = path_found_law o p w.index w.number q e in
      let b = (low_counts p o h ((open_facts p).holds o q)).metrics in
      simp length-append (omega (arith, ten_digits w.index (omega (arith, f.below)), decimal_short 0 w.number (omega (arith, f.number))))
  path_found_lem o None e q = omega arith

  path-short : length (path_text (path_found p)) ≤ 12
  path-short = go (run open_plan p) refl
    where
      go : (x : Answer Opening) → run open_plan p ≡ x → length (path_text (path_found p)) ≤ 12
      go (decided (accept o)) e = path_found_lem o (path_found p) refl e
      go (decided (refuse r)) e = rw e (omega arith)
      go (wants k) e = rw e (omega arith)

  accepted-short : (a : Acceptance) → SmallFields a → length (accepted_text a p) ≤ room
  unfolding accepted_text
  accepted-short a s =
      simp (length-append, length_digits, length-tabulate)
      (omega (
        arith,
        two_digits a.version s.version,
        ten_digits a.run_count s.runs,
        ten_digits a.metrics_count s.metrics,
        ten_digits a.chain_count s.chains,
        ten_digits a.volume_count s.volumes,
        s.units,
        path-short,
      ))

  refused-short : (r : Refusal) → SmallRefusal r → length (refused_text r.number r.index) ≤ room
  unfolding refused_text
  refused-short r s = simp length-append (omega (arith, two_digits r.number s.number, ten_digits r.index s.index))

  answer-short : (b : Bool) (x : Answer Acceptable) → Each (λ y. SmallFields y.fields) SmallRefusal x → length
      (pick b (line too_long) (answer_text x p)) ≤ room
  answer-short true x k = omega arith
  answer-short false (decided (accept y)) k = accepted-short y.fields (k.accepts y refl)
  answer-short false (decided (refuse r)) k = refused-short r (k.refuses r refl)
  answer-short false (wants j) k = omega arith

-- EVERY LISTING HAS ROOM
pub listing_short : (p : List ℕ) (m : ℕ) → Bytes p → length (listing p m) ≤ room
unfolding listing
listing_short p m h = answer-short p h (ltb file_limit (length p)) (file_answer p m) (small_answer p m h)
