-- Volume i: the code's tests are the definition's in their order, and a volume that is shown lies in its section and in the file.
use mathlib.Core.Path.{◌≡◌, refl, sym, ap, ◌∙◌}
use mathlib.Core.Bool.{Bool, true, false}
use mathlib.Core.List.{List}
use mathlib.Core.Logic.{⊎_elim, ◌↔◌}
use Prim.Native.Nat.{ℕ, ◌+◌, ◌*◌, ◌≤◌, ◌<◌}
use native.Mathlib.Nat.{mul-le-mul_right}
use native.Mathlib.Omega.{arith}
use lib.Dec.{eqb}
use lib.ListN.{length}
use borrow.Author.Tests.{lt-ltb, le-ltb, le-leb, lt-leb, ltb-true, leb-true, eqb-true, eqb-false}
use denote.Ref.{Bor}
use Rattle.lists.specs.Part.{IsPart}
use Rattle.lists.specs.First.{first}
use Rattle.lists.proofs.First.{first_at}
use Rattle.little_endian.specs.Number.{zero_unit}
use Rattle.layout.specs.Versions.{volume_entry, size_limit}
use Rattle.layout.specs.Sound.{SoundLayout}
use Rattle.layout.specs.declared.Layout.{Layout}
use Rattle.incremental.specs.Decision.{Decision, accept, refuse, decision_of}
use Rattle.incremental.specs.declared.Refusal.{Refusal}
use Rattle.sections.specs.Fields.{part, entries_fault}
use Rattle.sections.proofs.Cases.{entries_met, entries_fit}
use Rattle.head.specs.Opened.{OpenFacts}
use Rattle.head.proofs.Facts.{open_sound, open_shapes}
use Rattle.sections.specs.declared.Section.{Section}
use Rattle.head.specs.declared.checks.Opening.{Opening}
use Rattle.volumes.specs.Volumes.{entry_at, volume_checks, volume_of, reference_of, path_at, path_count, path_units}
use Rattle.volumes.specs.SoundVolume.{SoundVolume}
use Rattle.volumes.proofs.SoundVolume.{sound_volume}
use Rattle.volumes.specs.declared.Volume.{Volume}
use Rattle.volumes.specs.declared.Reference.{Reference}
use Rattle.query.specs.Queries.{ShownAt, accepts, volume_shown, volume_facts, path_place, reference_shown}
use Rattle.query.specs.Private.{section_shown, volume_in, reference_in}
use Rattle.query.specs.Shown.{VolumeShown}
use Rattle.lists.proofs.Tests.{by_test, never}
use Rattle.query.proofs.Parts.{part_there, part_there_to, section_end, part_within}
use Rattle.query.proofs.Entries.{both}
use Rattle.std.specs.Prelude.{Err, None, Ok, Option, Result, Some, unwrap_or, is_none, is_some, is_ok, not}
use Rattle.incremental.specs.declared.Fault.{Fault}

-- ---- volume i, by the tests in their order; `t` is whether check 8 found a fault
module _ (s : Section) (v : Layout) (b : List ℕ) (i : ℕ) {y : Option Fault} {t : Bool} (e : y ≡ entries_fault s.count (volume_entry v) s.len) (f : t ≡ is_some y) where
  clear-is : (y : Option Fault) → is_none y ≡ not (is_some y)
  clear-is (Some w) = refl
  clear-is None = refl

  clear : {x : Bool} → t ≡ x → is_none (entries_fault s.count (volume_entry v) s.len) ≡ not x
  clear q = ap is_none (sym e) ∙ clear-is y ∙ ap not (sym f ∙ q)

  pub section_crowded : t ≡ true → false ≡ section_shown s v b i
  unfolding section_shown
  section_crowded h = rw (clear h)

  pub section_past : t ≡ false → s.count ≤ i → false ≡ section_shown s v b i
  unfolding section_shown
  section_past h n = rw (clear h, le-ltb _ _ n)

  module _ (h : t ≡ false) (n : i < s.count) where
    pub section_cut : length b < s.len → false ≡ section_shown s v b i
    unfolding section_shown
    section_cut c = rw (clear h, lt-ltb _ _ n, lt-leb _ _ c)

    pub section_checked : (r : Result Unit Refusal) {u : Bool} → s.len ≤ length b → decision_of r ≡ volume_checks b v s.at i → u ≡ is_ok r → u ≡ section_shown s v b i
    unfolding section_shown
    section_checked r c a q = rw (clear h, lt-ltb _ _ n, le-leb _ _ c, ← a, q) (go r)
      where
        go : (x : Result Unit Refusal) → is_ok x ≡ accepts (decision_of x)
        go (Ok t) = refl
        go (Err f) = refl

pub ruleset sections = (section_crowded, section_past, section_cut, section_checked)

-- what such a section holds
pub record SectionShown (s : Section) (v : Layout) (b : List ℕ) (i : ℕ) : Type 0 where
  pub room : s.count * volume_entry v ≤ s.len
  pub below : i < s.count
  pub whole : s.len ≤ length b
  pub sound : SoundVolume b (entry_at v i)

none-true : (f : Option Fault) → is_none f ≡ true → f ≡ None
none-true (Some w) e = never cc
none-true None e = refl

accepted : (d : Decision Unit) → accepts d ≡ true → d ≡ accept tt
accepted (accept t) e = refl
accepted (refuse r) e = never cc

pub section_shown_law : (s : Section) (v : Layout) (b : List ℕ) (i : ℕ) → (section_shown s v b i ≡ true) ↔ SectionShown s v b i
unfolding section_shown
section_shown_law s v b i = (
  λ e.
      let x = both _ _ e in
      let y = both _ _ x.1 in
      let z = both _ _ y.1 in
      record {
        room = entries_met _ _ _ _ refl (none-true _ x.0);
        below = ltb-true _ _ y.0;
        whole = leb-true _ _ z.0;
        sound = (sound_volume b i _ (entry_at v i)).0 (accepted _ z.1);
      },
  λ f.
      rw (← entries_fit s.count (volume_entry v) s.len f.room, lt-ltb _ _ f.below, le-leb _ _ f.whole)
      (rw ((sound_volume b i _ (entry_at v i)).1 f.sound)),
)

pub section_met : (s : Section) (v : Layout) (b : List ℕ) (i : ℕ) {r : Bool} → r ≡ section_shown s v b i → r ≡ true → SectionShown s v b i
section_met s v b i {r} e q = (section_shown_law s v b i).0 (sym e ∙ q)

-- where checks 1 to 6 pass: the answers, by what the tests on the section gave
module _ (o : Opening) (p : List ℕ) (i : ℕ) {b : List ℕ} {r : Bool} (eb : b ≡ part o.head.volumes p)
    (e : r ≡ section_shown o.head.volumes o.layout b i) where
  pub hidden : r ≡ false → volume_shown o p i ≡ false
  unfolding volume_shown section_shown
  hidden q = rw (← eb) (sym e ∙ q)

  pub shown : r ≡ true → volume_shown o p i ≡ true
  unfolding volume_shown section_shown
  shown q = rw (← eb) (sym e ∙ q)

  pub volume_hidden : r ≡ false → None ≡ volume_in o p i
  volume_hidden q = rw (hidden q)

  pub volume_given : {v : Volume} → r ≡ true → v ≡ volume_of b (entry_at o.layout i)
      → Some (record {
        created = v.created;
        serial = v.serial;
        references = v.references;
        directories = v.directories;
        path = record { at = o.head.volumes.at + v.path; len = 2 * v.units };
      }) ≡ volume_in o p i
  unfolding volume_facts
  volume_given q ev = rw (shown q, ev, eb)

  pub reference_hidden : (k : ℕ) → r ≡ false → None ≡ reference_in o p i k
  unfolding reference_shown
  reference_hidden k q = rw (hidden q)

  module _ (k : ℕ) {v : Volume} (q : r ≡ true) (ev : v ≡ volume_of b (entry_at o.layout i)) where
    pub reference_past : v.references ≤ k → None ≡ reference_in o p i k
    unfolding reference_shown
    reference_past h = rw (shown q, ← eb, ← ev, le-ltb _ _ h)

    pub reference_given : {x : Reference} → k < v.references → x ≡ reference_of b (entry_at o.layout i) k → Some x ≡ reference_in o p i k
    unfolding reference_shown
    reference_given h ex = rw (ex, shown q, ← eb, ← ev, lt-ltb _ _ h)

pub ruleset volumes_asked = (volume_hidden, volume_given, reference_hidden, reference_past, reference_given)

-- ---- WHAT IT MEANS THAT VOLUME i IS SHOWN
-- its path lies in the section
units-most : (s : List ℕ) (e : ℕ) → path_units s e ≤ path_count s e
unfolding path_units
units-most s e = go (first _ (path_count s e)) refl
  where
    go : (f : Option ℕ) → first (λ k. zero_unit s (path_at s e + 2 * k)) (path_count s e) ≡ f → unwrap_or f (path_count s e) ≤ path_count s e
    go (Some k) q = omega (arith, (first_at _ _ 0 k q).1)
    go None q = omega arith

pub path_inside : (s : List ℕ) (e : ℕ) → SoundVolume s e → (volume_of s e).path + 2 * (volume_of s e).units ≤ length s
unfolding volume_of
path_inside s e v =
    by_test (eqb (path_count s e) 0) (λ q. rw q (omega (arith, eqb-true (path_count s e) 0 q, units-most s e)))
    (λ q. rw q (⊎_elim (λ n. absurd (eqb-false _ _ q n)) (λ f. omega (arith, units-most s e)) v.path))

-- a section that has volume i has a byte
pub section_some : (s : Section) (v : Layout) (i : ℕ) → SoundLayout v → s.count * volume_entry v ≤ s.len → i < s.count → 0 < s.len
section_some s v i u r b = omega (arith, mul-le-mul_right {m = 1} {n = s.count} (volume_entry v) (omega arith), u.volume_fields)

volumes_end : (o : Opening) (p : List ℕ) (i : ℕ) → OpenFacts p o → o.head.volumes.count * volume_entry o.layout ≤ o.head.volumes.len
    → i < o.head.volumes.count → o.head.volumes.end ≡ o.head.volumes.at + o.head.volumes.len
volumes_end o p i f r b =
    section_end o.head.volumes _ (open_shapes p o f).volumes_end (section_some o.head.volumes o.layout i (open_sound p o f) r b)

pub volume_shown_law : (o : Opening) (p : List ℕ) (i : ℕ) → SoundLayout o.layout → (volume_shown o p i ≡ true) ↔ VolumeShown o p i
unfolding volume_shown section_shown
volume_shown_law o p i u =
    let s = o.head.volumes in
    let l = section_shown_law s o.layout (part s p) i in (
      λ e.
          let f = l.0 e in
          let r = (part_there_to s p s.len (section_some s o.layout i u f.room f.below)).0 f.whole in
          record { room = f.room; below = f.below; in_file = r.1; sound = f.sound },
      λ f.
          let w = (part_there_to s p s.len (section_some s o.layout i u f.room f.below)).1 (omega arith, f.in_file) in
          l.1 (record { room = f.room; below = f.below; whole = w; sound = f.sound }),
    )

-- its path is a part of the volumes section and of the file
pub path_placed : (o : Opening) (p : List ℕ) (i : ℕ) → OpenFacts p o → VolumeShown o p i
    → ((volume_facts o p i).path.at + (volume_facts o p i).path.len ≤ o.head.volumes.end)
    × ((volume_facts o p i).path.at + (volume_facts o p i).path.len ≤ length p)
unfolding volume_facts
path_placed o p i f e =
    let s = o.head.volumes in
    let h = path_inside (part s p) (entry_at o.layout i) e.sound in
    let z = volumes_end o p i f e.room e.below in
    let t = part_there s p in
    (omega (arith, h, t, z), omega (arith, h, t, e.in_file))

-- for the code: no sum wraps
pub section_low : (o : Opening) (p : List ℕ) (i : ℕ) {b : List ℕ} → OpenFacts p o → b ≡ part o.head.volumes p
    → SectionShown o.head.volumes o.layout b i → o.head.volumes.at + length b ≤ size_limit
section_low o p i f eb e =
    omega (arith, ap length eb, part_there o.head.volumes p, volumes_end o p i f e.room e.below, f.volumes, f.start.most)

pub path_low : (o : Opening) (p : List ℕ) (i : ℕ) {b : List ℕ} {v : Volume} → OpenFacts p o → b ≡ part o.head.volumes p
    → SectionShown o.head.volumes o.layout b i → v ≡ volume_of b (entry_at o.layout i)
    → o.head.volumes.at + v.path + 2 * v.units ≤ size_limit
path_low o p i {b} f eb e ev = rw ev (omega (arith, path_inside b (entry_at o.layout i) e.sound, section_low o p i f eb e))

-- the path of a volume that is shown lies in the section
pub path_of_section : (s : Section) (l : Layout) (b : List ℕ) (i : ℕ) {t : Bool} {v : Volume} → t ≡ section_shown s l b i → t ≡ true
    → v ≡ volume_of b (entry_at l i) → v.path + 2 * v.units ≤ length b
path_of_section s l b i e q ev = rw ev (path_inside b (entry_at l i) (section_met s l b i e q).sound)

-- the path alone, as a part of the section
pub path_hidden : (o : Opening) (i : ℕ) (file r : Bor (List ℕ)) {b : List ℕ} {t : Bool} → b ≡ part o.head.volumes file.now
    → t ≡ section_shown o.head.volumes o.layout b i → t ≡ false → IsPart file 0 0 r → ShownAt file (path_place o file.now i) r
path_hidden o i file r eb e q h = rw (hidden o file.now i eb e q) h

pub path_shown : (o : Opening) (i : ℕ) (file s r : Bor (List ℕ)) {t : Bool} {v : Volume} → IsPart file o.head.volumes.at o.head.volumes.len s
    → t ≡ section_shown o.head.volumes o.layout s.now i → t ≡ true → v ≡ volume_of s.now (entry_at o.layout i)
    → IsPart s v.path (2 * v.units) r → ShownAt file (path_place o file.now i) r
unfolding volume_facts
path_shown o i file s r {v = v} p e q ev h =
    let l = path_of_section o.head.volumes o.layout s.now i e q ev in
    rw (shown o file.now i p.contents e q, ← p.contents, ← ev)
    (part_within file s r o.head.volumes.at o.head.volumes.len v.path (2 * v.units) p l h)
