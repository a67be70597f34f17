-- What a file costs: each entry costs no more than its section is long, which is below the size limit, so no sum wraps.
use mathlib.Core.Path.{◌≡◌}
use mathlib.Core.Bool.{Bool, true, false}
use mathlib.Core.List.{List}
use Prim.Native.Nat.{ℕ, ◌+◌, ◌*◌, ◌≤◌}
use native.Mathlib.Nat.{le_trans}
use native.Mathlib.Numerals.{add-one}
use native.Mathlib.Omega.{arith}
use borrow.Author.Tests.{leb-true}
use Rattle.lists.specs.Count.{sum_below}
use Rattle.lists.proofs.Sum.{sum_more, sum-most}
use Rattle.layout.specs.Versions.{metrics_entry, volume_entry, size_limit}
use Rattle.layout.specs.declared.Layout.{Layout}
use Rattle.sections.specs.Fields.{part}
use Rattle.head.specs.Opened.{OpenFacts}
use Rattle.head.proofs.Facts.{open_sound, open_shapes}
use Rattle.head.specs.declared.checks.Opening.{Opening}
use Rattle.names.specs.Names.{fits, name_at, name_units}
use Rattle.lists.proofs.Tests.{by_test}
use Rattle.query.proofs.Parts.{section_length}
use Rattle.query.specs.Cost.{whole_entries, name_cost, directory_cost, names_cost, directories_cost}
use Rattle.query.specs.declared.costs.FileCost.{FileCost}

-- what one entry costs
pub name_cost_lem : (l : Layout) (metrics : List ℕ) (size i : ℕ) → name_cost l metrics size i ≤ size
unfolding fits
name_cost_lem l metrics size i =
    by_test (fits size (name_at l metrics i) (name_units l metrics i))
    (λ q. let h : name_at l metrics i + 2 * name_units l metrics i + 2 ≤ size = leb-true _ _ q in rw q (omega arith)) (λ q. rw q (omega arith))

module _ (l : Layout) (metrics : List ℕ) (size i : ℕ) {at units : ℕ} {r : Bool} (a : at ≡ name_at l metrics i) (u : units ≡ name_units l metrics i)
    (e : r ≡ fits size at units) where
  pub name_counts : r ≡ true → name_cost l metrics size i ≡ 2 * units + 2
  name_counts q = rw (← a, ← u, ← e, q)

  pub name_passed : r ≡ false → name_cost l metrics size i ≡ 0
  name_passed q = rw (← a, ← u, ← e, q)

-- what the first n cost, where the size is a section's
pub names_most : (l : Layout) (metrics : List ℕ) (size n : ℕ) → size ≤ size_limit → sum_below (name_cost l metrics size) n ≤ n * size_limit
names_most l metrics size n h = sum-most (name_cost l metrics size) size_limit n (λ k _. le_trans (name_cost_lem l metrics size k) h)

pub directories_most : (l : Layout) (section : List ℕ) (size n : ℕ) → size ≤ size_limit → sum_below (directory_cost l section size) n ≤ n * size_limit
directories_most l section size n h = sum-most (directory_cost l section size) size_limit n (λ k _. omega arith)

-- one more
pub sum_next : (f : ℕ → ℕ) (n : ℕ) → sum_below f (n + 1) ≡ sum_below f n + f n
sum_next f n = rw (add-one n, sum_more)

-- ---- where checks 1 to 6 pass
module _ (o : Opening) (p : List ℕ) (f : OpenFacts p o) where
  pub metric_size : 1 ≤ metrics_entry o.layout
  metric_size = omega (arith, (open_sound p o f).name_offset)

  pub volume_size : 1 ≤ volume_entry o.layout
  volume_size = omega (arith, (open_sound p o f).volume_fields)

  pub strings_low : o.head.strings.len ≤ size_limit
  strings_low = section_length o.head.strings _ (open_shapes p o f).strings_end (le_trans f.strings f.start.most)

  pub volumes_low : o.head.volumes.len ≤ size_limit
  volumes_low = section_length o.head.volumes _ (open_shapes p o f).volumes_end (le_trans f.volumes f.start.most)

pub cost_given : (o : Opening) (p : List ℕ) {metrics section : List ℕ} {m n x y : ℕ} → metrics ≡ part o.head.metrics p → section ≡ part o.head.volumes p
    → m ≡ whole_entries metrics (metrics_entry o.layout) o.head.metrics.count
    → n ≡ whole_entries section (volume_entry o.layout) o.head.volumes.count
    → x ≡ sum_below (name_cost o.layout metrics o.head.strings.len) m
    → y ≡ sum_below (directory_cost o.layout section o.head.volumes.len) n
    → ◌≡◌ {A = FileCost} (record { names = x; directories = y }) (record { names = names_cost o p; directories = directories_cost o p })
unfolding names_cost directories_cost
cost_given o p em es ec ed ex ey = rw (ex, ey, ec, ed, em, es)

pub ruleset costs = (metric_size, volume_size, strings_low, volumes_low, cost_given)
