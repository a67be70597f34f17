-- The pieces that the code puts one behind another are the entries and the fields of the definition.
use mathlib.Core.Path.{◌≡◌, refl, sym, ap, ◌∙◌}
use mathlib.Core.List.{List, [], ◌∷◌, ◌++◌, append_assoc}
use Prim.Native.Nat.{ℕ, suc, ◌+◌, ◌-◌, ◌*◌, ◌≤◌, ◌<◌}
use native.Mathlib.Nat.{sub-zero}
use native.Mathlib.Omega.{arith}
use lib.ListN.{length, get_or, drop, replicate, length-append, length-replicate, replicate-append-replicate, drop_of_length-le}
use lib.Seq.{drop-cons}
use Rattle.lists.specs.Pairs.{first_of, second_of}
use Rattle.layout.specs.Versions.{metrics_entry, name_offset_at, name_length_at, trace_entry}
use Rattle.layout.specs.declared.Layout.{Layout}
use Rattle.writer.specs.declared.draft.Shape.{Shape}
use Rattle.writer.specs.LaidOut.{number, bytes_of, spread, entries, metrics_bytes, trace_bytes}
use Rattle.writer.specs.Plans.{Writable}
use Rattle.writer.specs.Private.{patch, Ordered, with_gaps, numbers_at, pair_of, pair_bytes}
use Rattle.writer.proofs.Bytes.{length_bytes, length_entries}
use Rattle.writer.proofs.Spread.{ordered_end, length-spread}
use Rattle.writer.proofs.Stores.{patch-none, patch_join, put_over, laid_long, then_laid}

-- an entry: zeros, and the two numbers put over them
module _ (e : Shape) (a b : ℕ) where
  abbrev zeros : ℕ → List ℕ
  zeros n = replicate n 0

  abbrev between : ℕ
  between = e.second - (e.first + 4)

  abbrev behind : ℕ
  behind = e.size - (e.second + 4)

  -- where the first number is put, and where the second
  in-parts : (n : ℕ) → n ≡ e.size → zeros n ≡ zeros e.first ++ (zeros 4 ++ (zeros between ++ (zeros 4 ++ zeros behind)))
  in-parts n q =
      let k : n ≡ e.first + (4 + (between + (4 + behind))) = omega arith in
      let s : zeros e.first ++ (zeros 4 ++ (zeros between ++ (zeros 4 ++ zeros behind))) ≡ zeros (e.first + (4 + (between + (4 + behind)))) =
      rw (
        replicate-append-replicate {A = ℕ} 4 behind 0,
        replicate-append-replicate {A = ℕ} between (4 + behind) 0,
        replicate-append-replicate {A = ℕ} 4 (between + (4 + behind)) 0,
        replicate-append-replicate {A = ℕ} e.first (4 + (between + (4 + behind))) 0,
      ) refl in
      ap zeros k ∙ sym s

  before : List ℕ
  before = zeros e.first ++ (bytes_of 4 a ++ zeros between)

  before-second : length before ≡ e.second
  unfolding before
  before-second =
      length-append (zeros e.first) (bytes_of 4 a ++ zeros between)
      ∙ omega (arith, length-append (bytes_of 4 a) (zeros between), length_bytes 4 a, length-replicate {A = ℕ} e.first 0, length-replicate {A = ℕ} between 0)

  parts-are : before ++ (bytes_of 4 b ++ zeros behind) ≡ pair_of e a b
  unfolding before spread
  parts-are =
      rw (length_bytes 4 a, length_bytes 4 b, sub-zero e.first)
      (append_assoc (zeros e.first) (bytes_of 4 a ++ zeros between) (bytes_of 4 b ++ zeros behind)
      ∙ ap (λ (s : List ℕ). zeros e.first ++ s) (append_assoc (bytes_of 4 a) (zeros between) (bytes_of 4 b ++ zeros behind)))

  pub pair_laid : (o o₁ o₂ o₃ : List ℕ) (at n : ℕ) → n ≡ e.size → at + e.size ≤ length o → o₁ ≡ patch o at (zeros n) → o₂ ≡ patch o₁ (at + e.first) (bytes_of 4 a)
      → o₃ ≡ patch o₂ (at + e.second) (bytes_of 4 b) → o₃ ≡ patch o at (pair_of e a b)
  unfolding before
  pair_laid o o₁ o₂ o₃ at n q h r₁ r₂ r₃ =
      let first : at + e.first ≡ at + length (zeros e.first) = omega (arith, length-replicate {A = ℕ} e.first 0) in
      let second : at + e.second ≡ at + length before = omega (arith, before-second) in
      let rest = zeros between ++ (zeros 4 ++ zeros behind) in
      let z : o₁ ≡ patch o at (zeros e.first ++ (zeros 4 ++ rest)) = r₁ ∙ ap (patch o at) (in-parts n q) in
      let long : length (zeros e.first ++ (zeros 4 ++ rest)) ≡ e.size = ap length (sym (in-parts n q)) ∙ length-replicate {A = ℕ} n 0 ∙ q in
      let y : o₂ ≡ patch o at (zeros e.first ++ (bytes_of 4 a ++ rest)) =
      r₂ ∙ ap (λ (s : List ℕ). patch s (at + e.first) (bytes_of 4 a)) z
      ∙ ap (λ (k : ℕ). patch (patch o at (zeros e.first ++ (zeros 4 ++ rest))) k (bytes_of 4 a)) first
      ∙ put_over o (zeros e.first) (zeros 4) rest (bytes_of 4 a) at (length_bytes 4 a) (omega (arith, long, h)) in
      let m : zeros e.first ++ (bytes_of 4 a ++ rest) ≡ before ++ (zeros 4 ++ zeros behind) = simp append_assoc in
      let again : length (before ++ (zeros 4 ++ zeros behind)) ≡ e.size =
      length-append before (zeros 4 ++ zeros behind) ∙ omega (arith, before-second, length-append (zeros 4) (zeros behind), length-replicate {A = ℕ} behind 0) in
      r₃ ∙ ap (λ (s : List ℕ). patch s (at + e.second) (bytes_of 4 b)) (y ∙ ap (patch o at) m)
      ∙ ap (λ (k : ℕ). patch (patch o at (before ++ (zeros 4 ++ zeros behind))) k (bytes_of 4 b)) second
      ∙ put_over o before (zeros 4) (zeros behind) (bytes_of 4 b) at (length_bytes 4 b) (omega (arith, again, h))
      ∙ ap (patch o at) parts-are

-- ---- numbers at their places: what is put and what is left make up the whole
pub record Putting (o : List ℕ) (fields : List (ℕ × ℕ)) (start : ℕ) (output : List ℕ) (from i : ℕ) : Type 0 where
  pub ordered : Ordered from (numbers_at (drop i fields)) (length o)
  pub whole : patch output from (with_gaps from (numbers_at (drop i fields))) ≡ patch o start (with_gaps start (numbers_at fields))
  pub long : length output ≡ length o

pub putting_start : {o : List ℕ} {fields : List (ℕ × ℕ)} {start : ℕ} → Ordered start (numbers_at fields) (length o) → Putting o fields start o start 0
putting_start h = record { ordered = h; whole = refl; long = refl }

module _ {o : List ℕ} {fields : List (ℕ × ℕ)} {start : ℕ} {output : List ℕ} {from i : ℕ} (g : Putting o fields start output from i) (d : ℕ × ℕ) (l : i < length fields) where
  abbrev f : ℕ × ℕ
  f = get_or fields i d

  next : numbers_at (drop i fields) ≡ number f.0 4 f.1 ∷ numbers_at (drop (suc i) fields)
  next = rw (drop-cons fields i d l) refl

  -- the next place lies behind what is put, and there is room
  pub putting_room : (from ≤ f.0) × (f.0 + 4 ≤ length output)
  putting_room =
      let h = rw next at g.ordered in
      (h.0, omega (arith, ordered_end _ (numbers_at (drop (suc i) fields)) _ h.1, length_bytes 4 f.1, g.long))

  pub putting_step : (output' : List ℕ) → output' ≡ patch output from (replicate (f.0 - from) 0 ++ bytes_of 4 f.1)
      → Putting o fields start output' (f.0 + 4) (i + 1)
  unfolding with_gaps
  putting_step output' e =
      let z : List ℕ = replicate (f.0 - from) 0 in
      let b = bytes_of 4 f.1 in
      let r = putting_room in
      let n : length (z ++ b) ≡ f.0 + 4 - from =
      length-append z b ∙ omega (arith, length-replicate {A = ℕ} (f.0 - from) 0, length_bytes 4 f.1, r.0) in
      let k : i + 1 ≡ suc i = omega arith in
      let s : f.0 + length b ≡ f.0 + 4 = omega (arith, length_bytes 4 f.1) in
      let rest = numbers_at (drop (suc i) fields) in
      let h = rw next at g.ordered in
      let w = rw next at g.whole in
      record {
        ordered = rw (k, ← s) h.1;
        whole = rw (k, e, ← s)
            (patch_join output from (z ++ b) (with_gaps (f.0 + length b) rest) (f.0 + length b) (omega (arith, n, r.0)) ∙ w);
        long = laid_long _ _ _ _ e ∙ g.long;
      }

pub putting_end : {o : List ℕ} {fields : List (ℕ × ℕ)} {start : ℕ} {output : List ℕ} {from i : ℕ} → Putting o fields start output from i → length fields ≤ i
    → output ≡ patch o start (with_gaps start (numbers_at fields))
unfolding with_gaps
putting_end {fields = fields} {output = output} {from = from} {i = i} g l =
    let e : drop i fields ≡ [] = drop_of_length-le fields l in
    patch-none output from ∙ rw e at g.whole

-- ---- entries of one size one behind another
pub ordered_pair : (e : Shape) (a b : ℕ) → Ordered 0 (number e.first 4 a ∷ number e.second 4 b ∷ []) e.size
unfolding bytes_of
ordered_pair e a b = omega arith

pub pair_size : (e : Shape) (table : List ℕ) (i : ℕ) → length (pair_bytes e table i) ≡ e.size
pair_size e table i = length-spread 0 _ e.size (ordered_pair e (first_of table i) (second_of table i)) ∙ omega arith

-- those of the two arrays
abbrev pub metrics_shape : (l : Layout) → Writable l → Shape
metrics_shape l w = record { first = name_offset_at l; second = name_length_at l; size = metrics_entry l; ordered = (w.name_length, w.metrics) }

abbrev pub trace_shape : (l : Layout) → Writable l → Shape
trace_shape l w = record { first = 0; second = 4; size = trace_entry l; ordered = (omega arith, omega (arith, w.trace)) }

module _ (l : Layout) (w : Writable l) (table : List ℕ) where
  pub metrics_size : (i : ℕ) → length (metrics_bytes l table i) ≡ metrics_entry l
  metrics_size i = pair_size (metrics_shape l w) table i

  pub trace_size : (i : ℕ) → length (trace_bytes l table i) ≡ trace_entry l
  trace_size i = pair_size (trace_shape l w) table i

  pub ordered_metrics : (i : ℕ) → Ordered 0 (number (name_offset_at l) 4 (first_of table i) ∷ number (name_length_at l) 4 (second_of table i) ∷ []) (metrics_entry l)
  ordered_metrics i = ordered_pair (metrics_shape l w) (first_of table i) (second_of table i)

  pub ordered_trace : (i : ℕ) → Ordered 0 (number 0 4 (first_of table i) ∷ number 4 4 (second_of table i) ∷ []) (trace_entry l)
  ordered_trace i = ordered_pair (trace_shape l w) (first_of table i) (second_of table i)

-- the loop that puts them: after i turns the first i are there
pub record Laying (o : List ℕ) (at : ℕ) (f : ℕ → List ℕ) (size count : ℕ) (output : List ℕ) (i : ℕ) : Type 0 where
  pub sized : (k : ℕ) → length (f k) ≡ size
  pub room : at + count * size ≤ length o
  pub placed : output ≡ patch o at (entries f i)

pub laying_start : {o : List ℕ} {at : ℕ} {f : ℕ → List ℕ} {size count : ℕ} → ((k : ℕ) → length (f k) ≡ size) → at + count * size ≤ length o
    → Laying o at f size count o 0
unfolding entries
laying_start {o} {at} sized room = record { sized = sized; room = room; placed = patch-none o at }

module _ {o : List ℕ} {at : ℕ} {f : ℕ → List ℕ} {size count : ℕ} {output : List ℕ} {i : ℕ} (g : Laying o at f size count output i) where
  pub laying_long : length output ≡ length o
  laying_long = laid_long _ _ _ _ g.placed

  pub laying_step : {output' : List ℕ} {next : ℕ} → next ≡ at + i * size → output' ≡ patch output next (f i) → Laying o at f size count output' (i + 1)
  unfolding entries
  laying_step {output'} {next} n e =
      let k : i + 1 ≡ suc i = omega arith in
      let s = length_entries f size g.sized i in
      record {
        sized = g.sized;
        room = g.room;
        placed = rw k (then_laid o output output' (entries f i) (f i) (entries f i ++ f i) at next g.placed e (omega (arith, s)) refl);
      }
