-- Metrics entry i: the code's tests are the definition's in their order, and an entry that is shown lies in its section and in the file.
use mathlib.Core.Path.{◌≡◌, refl, sym, ap, ◌∙◌}
use mathlib.Core.Bool.{Bool, true, false, ◌&&◌}
use mathlib.Core.List.{List}
use mathlib.Core.Logic.{◌↔◌}
use Prim.Native.Nat.{ℕ, ◌+◌, ◌*◌, ◌≤◌, ◌<◌}
use native.Mathlib.Nat.{mul-le-mul_right}
use native.Mathlib.Omega.{arith}
use lib.ListN.{length}
use borrow.Author.Tests.{lt-ltb, le-ltb, le-leb, lt-leb, ltb-true, leb-true, ne_eqb, eq-eqb}
use Rattle.little_endian.specs.Number.{le}
use Rattle.layout.specs.Versions.{metrics_entry, size_limit, file_reference_at}
use Rattle.layout.specs.Sound.{SoundLayout}
use Rattle.layout.specs.declared.Layout.{Layout}
use Rattle.sections.specs.Fields.{part}
use Rattle.head.specs.Opened.{OpenFacts}
use Rattle.head.proofs.Facts.{open_sound, open_shapes}
use Rattle.head.specs.declared.checks.Opening.{Opening}
use Rattle.names.specs.Names.{sound, name_at, name_units}
use Rattle.names.proofs.Laws.{sound_name}
use Rattle.query.specs.Queries.{entry_shown, name_sound, name_in}
use Rattle.query.specs.Private.{entry_in, name_shown, entry_reference_in}
use Rattle.query.specs.declared.Place.{Place}
use Rattle.query.specs.Shown.{EntryShown, NamePlaced}
use Rattle.lists.proofs.Tests.{by_test, never}
use Rattle.query.proofs.Parts.{part_there_to, section_end, part_unit}
use Rattle.query.specs.Contents.{file_reference_of}
use Rattle.std.specs.Prelude.{None, Option, Some}
use Rattle.volumes.specs.declared.Reference.{Reference}

-- ---- one name
module _ (v : Layout) (metrics strings : List ℕ) (i : ℕ) {at units : ℕ} {r : Bool} (a : at ≡ name_at v metrics i) (u : units ≡ name_units v metrics i)
    (e : r ≡ sound strings at units) where
  pub name_not_sound : r ≡ false → None ≡ name_shown v metrics strings i
  unfolding name_sound
  name_not_sound q = rw (← a, ← u, ← e, q)

  pub name_is_sound : r ≡ true → Some (record { at = at; len = 2 * units }) ≡ name_shown v metrics strings i
  unfolding name_sound
  name_is_sound q = rw (← a, ← u, ← e, q)

pub ruleset names = (name_not_sound, name_is_sound)

-- a name that is shown is sound, and is where its entry says
pub record NameShown (v : Layout) (metrics strings : List ℕ) (i : ℕ) (w : Place) : Type 0 where
  pub sound : name_sound v metrics strings i ≡ true
  pub place : w ≡ name_in v metrics i

pub name_shown_lem : (v : Layout) (metrics strings : List ℕ) (i : ℕ) {r : Option Place} (w : Place) → r ≡ name_shown v metrics strings i
    → r ≡ Some w → NameShown v metrics strings i w
name_shown_lem v metrics strings i w e q = by_test (name_sound v metrics strings i) (λ s. record { sound = s; place = cc }) (λ s. never (cc))

pub name_hidden : (v : Layout) (metrics strings : List ℕ) (i : ℕ) {r : Option Place} → r ≡ name_shown v metrics strings i → r ≡ None
    → name_sound v metrics strings i ≡ false
name_hidden v metrics strings i e q = by_test (name_sound v metrics strings i) (λ s. never (cc)) (λ s. s)

-- it lies in the strings, with its zero
pub name_inside : (v : Layout) (metrics strings : List ℕ) (i : ℕ) → name_sound v metrics strings i ≡ true
    → (name_in v metrics i).at + (name_in v metrics i).len + 2 ≤ length strings
unfolding name_sound
name_inside v metrics strings i s = ((sound_name strings (name_at v metrics i) (name_units v metrics i)).0 s).inside

pub name_end : (v : Layout) (metrics strings : List ℕ) (i : ℕ) {r : Option Place} (w : Place) → r ≡ name_shown v metrics strings i
    → r ≡ Some w → w.at + w.len + 2 ≤ length strings
name_end v metrics strings i w e q =
    let n = name_shown_lem v metrics strings i w e q in
    rw n.place (name_inside v metrics strings i n.sound)

-- ---- metrics entry i, by the tests in their order
module _ (o : Opening) (p : List ℕ) (i : ℕ) where
  pub entry_past : o.head.metrics.count ≤ i → None ≡ entry_in o p i
  unfolding entry_shown
  entry_past h = rw (le-ltb _ _ h)

  pub entry_cut : {metrics : List ℕ} → metrics ≡ part o.head.metrics p → i < o.head.metrics.count
      → length metrics < (i + 1) * metrics_entry o.layout → None ≡ entry_in o p i
  unfolding entry_shown
  entry_cut em h c = rw (← em, lt-ltb _ _ h, lt-leb _ _ c)

  module _ {metrics strings : List ℕ} {r : Option Place} (em : metrics ≡ part o.head.metrics p) (es : strings ≡ part o.head.strings p)
      (h : i < o.head.metrics.count) (c : (i + 1) * metrics_entry o.layout ≤ length metrics) (e : r ≡ name_shown o.layout metrics strings i) where
    pub entry_hidden : r ≡ None → None ≡ entry_in o p i
    unfolding entry_shown name_sound
    entry_hidden q = rw (← em, ← es, lt-ltb _ _ h, le-leb _ _ c, name_hidden o.layout metrics strings i e q)

    pub entry_given : {w : Place} → r ≡ Some w
        → Some (record { at = o.head.strings.at + w.at; len = w.len }) ≡ entry_in o p i
    unfolding entry_shown name_sound
    entry_given {w} q =
        let n = name_shown_lem o.layout metrics strings i w e q in
        rw (n.place, ← em, ← es, lt-ltb _ _ h, le-leb _ _ c, n.sound)

pub ruleset entries = (entry_past, entry_cut, entry_hidden, entry_given)

-- ---- WHAT IT MEANS THAT METRICS ENTRY i IS SHOWN
pub both : (a b : Bool) → (a && b) ≡ true → (a ≡ true) × (b ≡ true)
both true b e = (refl, e)
both false b e = never cc

entry-some : (v : Layout) (i : ℕ) → SoundLayout v → 0 < (i + 1) * metrics_entry v
entry-some v i s = omega (arith, mul-le-mul_right {m = 1} {n = i + 1} (metrics_entry v) (omega arith), s.name_offset)

pub entry_shown_law : (o : Opening) (p : List ℕ) (i : ℕ) → SoundLayout o.layout → (entry_shown o p i ≡ true) ↔ EntryShown o p i
unfolding entry_shown
entry_shown_law o p i u =
    let there = part_there_to o.head.metrics p ((i + 1) * metrics_entry o.layout) (entry-some o.layout i u) in (
      λ e.
          let a = both _ _ e in
          let b = both _ _ a.1 in
          let l = there.0 (leb-true _ _ b.0) in
          record { below = ltb-true _ _ a.0; in_section = l.0; in_file = l.1; name = (sound_name _ _ _).0 b.1 },
      λ s. rw (lt-ltb _ _ s.below, le-leb _ _ (there.1 (s.in_section, s.in_file))) ((sound_name _ _ _).1 s.name),
    )

pub name_placed : (o : Opening) (p : List ℕ) (i : ℕ) → OpenFacts p o → EntryShown o p i → NamePlaced o p i
name_placed o p i f e =
    let s = o.head.strings in
    let at = name_at o.layout (part o.head.metrics p) i in
    let units = name_units o.layout (part o.head.metrics p) i in
    let n = e.name in
    let r = (part_there_to s p (at + 2 * units + 2) (omega arith)).0 n.inside in
    let z : s.end ≡ s.at + s.len = section_end s _ (open_shapes p o f).strings_end (omega (arith, r.0)) in
    record {
      in_file = omega (arith, r.1);
      in_section = omega (arith, r.0, z);
      text = λ k l q. n.text k l (part_unit s p (at + 2 * k) (omega (arith, r.0)) ∙ ap (λ (a : ℕ). le 2 p a) (omega arith) ∙ q);
      zero_unit_lem = ap (λ (a : ℕ). le 2 p a) (omega arith) ∙ sym (part_unit s p (at + 2 * units) (omega (arith, r.0))) ∙ n.end;
    }

-- for the code: no sum wraps
pub name_low : (o : Opening) (p metrics : List ℕ) (i : ℕ) {strings : List ℕ} {r : Option Place} {w : Place} → OpenFacts p o
    → strings ≡ part o.head.strings p → r ≡ name_shown o.layout metrics strings i → r ≡ Some w
    → o.head.strings.at + w.at ≤ size_limit
name_low o p metrics i {strings} {w = w} f es e q =
    let s = o.head.strings in
    let g : w.at + w.len + 2 ≤ length (part s p) = rw (← es) (name_end o.layout metrics strings i w e q) in
    let r = (part_there_to s p (w.at + w.len + 2) (omega arith)).0 g in
    let z : s.end ≡ s.at + s.len = section_end s _ (open_shapes p o f).strings_end (omega (arith, r.0)) in
    omega (arith, r.0, f.strings, f.start.most)

-- the entry is shown exactly where its name is
entry_is : (o : Opening) (p : List ℕ) (i : ℕ) {a : Option Place} (w : Place) → a ≡ entry_in o p i → a ≡ Some w → entry_shown o p i ≡ true
entry_is o p i w e q = by_test (entry_shown o p i) (λ s. s) (λ s. never (cc))

entry-not : (o : Opening) (p : List ℕ) (i : ℕ) {a : Option Place} → a ≡ entry_in o p i → a ≡ None → entry_shown o p i ≡ false
entry-not o p i e q = by_test (entry_shown o p i) (λ s. never (cc)) (λ s. s)

pub entry_below : (o : Opening) (p : List ℕ) (i : ℕ) {a : Option Place} (w : Place) → OpenFacts p o → a ≡ entry_in o p i → a ≡ Some w
    → i < o.head.metrics.count
entry_below o p i w f e q = ((entry_shown_law o p i (open_sound p o f)).0 (entry_is o p i w e q)).below

pub entry_reference_hidden : (o : Opening) (p : List ℕ) (i : ℕ) {a : Option Place} → a ≡ entry_in o p i → a ≡ None
    → None ≡ entry_reference_in o p i
entry_reference_hidden o p i e q = rw (entry-not o p i e q)

pub entry_reference_given : (o : Opening) (p : List ℕ) (i : ℕ) {a : Option Place} {w : Place} {b : List ℕ} {x : Option Reference} → a ≡ entry_in o p i
    → a ≡ Some w → b ≡ part o.head.metrics p → x ≡ file_reference_of o.layout b i
    → Some x ≡ entry_reference_in o p i
entry_reference_given o p i {w = w} e q eb ex = rw (entry_is o p i w e q, ex, eb)

-- ---- the file reference of a metrics entry
pub reference_none : (l : Layout) (metrics : List ℕ) (i : ℕ) → file_reference_at l ≡ 0 → None ≡ file_reference_of l metrics i
unfolding file_reference_of
reference_none l metrics i h = rw (eq-eqb (file_reference_at l) 0 h)

pub reference_some : (l : Layout) (metrics : List ℕ) (i : ℕ) {at index sequence : ℕ} → (file_reference_at l ≡ 0 → ⊥) → at ≡ i * metrics_entry l + file_reference_at l
    → index ≡ le 6 metrics at → sequence ≡ le 2 metrics (at + 6) → Some (record { index = index; sequence = sequence }) ≡ file_reference_of l metrics i
unfolding file_reference_of
reference_some l metrics i h a x y = rw (ne_eqb (file_reference_at l) 0 h, ← a, ← x, ← y)

pub ruleset entry_references = (reference_none, reference_some, entry_reference_hidden, entry_reference_given)
