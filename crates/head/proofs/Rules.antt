-- What checks 2 to 6 let pass, in plain words and in both directions; and the bytes of a section.
use mathlib.Core.Path.{◌≡◌, refl, sym, ap, ◌∙◌}
use mathlib.Core.List.{List}
use mathlib.Core.Bool.{Bool, true, false, ◌&&◌, ◌||◌, not, and-false}
use mathlib.Core.Logic.{◌↔◌, inl, inr, ⊎_elim, ⊎_map}
use Prim.Native.Nat.{ℕ, ◌+◌, ◌-◌, ◌≤◌}
use native.Mathlib.Omega.{arith}
use lib.Dec.{eqb, ltb}
use lib.ListN.{length, take, drop, length-take, length-drop}
use lib.Seq.{take-take}
use borrow.Author.Tests.{eq-eqb, le-ltb, ltb-false, eqb-true, eqb-false, not-false}
use Rattle.lists.specs.Count.{pick}
use Rattle.lists.proofs.Tests.{by_test, both_false, one_false}
use Rattle.lists.proofs.Parts.{drop-take}
use Rattle.little_endian.specs.Number.{le}
use Rattle.layout.specs.Versions.{size_limit, head_end}
use Rattle.layout.specs.declared.Layout.{Layout}
use Rattle.incremental.proofs.Decision.{at_nowhere, fault_clear}
use Rattle.sections.specs.declared.Section.{Section}
use Rattle.sections.specs.declared.Head.{Head}
use Rattle.sections.specs.Fields.{signature_fault, declared_size, size_fault, name_end, section_of, size_in, part, outside, outside_fault, shares, overlap_fault}
use Rattle.sections.proofs.Name.{ends_at}
use Rattle.sections.proofs.Cases.{in_turn, pairs_are}
use Rattle.head.specs.Rules.{NameEnds, Within, Inside, Separate, Apart}
use Rattle.std.specs.Prelude.{None, Some}
use Rattle.incremental.specs.Decision.{fault}

pub signature_law : (b : List ℕ) → (signature_fault b ≡ None) ↔ (le 4 b 4 ≡ 0x41434353)
unfolding signature_fault
signature_law b = (λ e. eqb-true _ _ (not-false (eqb (le 4 b 4) 0x41434353) (fault_clear 0 _ _ e)), λ e. rw (eq-eqb _ _ e))

pub size_law : (l : Layout) (b : List ℕ) → (size_fault l b ≡ None) ↔ ((head_end l ≤ declared_size b) × (declared_size b ≤ size_limit))
unfolding size_fault
size_law l b = (
  (λ e. let t = both_false _ _ (fault_clear 0 _ _ e) in (ltb-false _ _ t.0, ltb-false _ _ t.1)),
  (λ h. rw (le-ltb _ _ h.0, le-ltb _ _ h.1)),
)

pub name_law : (b : List ℕ) (u : ℕ) → name_end b ≡ Some u → NameEnds b u
name_law b u e =
    let r = (ends_at b u).0 e in
    record { short = r.short; zero_unit_lem = eqb-true _ _ r.zero_unit_lem; before = λ k l. eqb-false _ _ (r.before k l) }

pub within_law : (h size : ℕ) (s : Section) → (outside h size s ≡ false) ↔ Within h size s
unfolding outside
within_law h size s = (there, back)
  where
    there : (not (eqb s.len 0) && (ltb s.at h || ltb size s.end)) ≡ false → Within h size s
    there e =
        ⊎_map (λ z. eqb-true _ _ (not-false _ z)) (λ w. let t = both_false _ _ w in (ltb-false _ _ t.0, ltb-false _ _ t.1))
        (one_false _ _ e)

    back : Within h size s → (not (eqb s.len 0) && (ltb s.at h || ltb size s.end)) ≡ false
    back (inl z) = rw (eq-eqb _ _ z)
    back (inr w) = rw (le-ltb _ _ w.0, le-ltb _ _ w.1) (and-false (not (eqb s.len 0)))

-- 5
pub none-outside : (l : Layout) (h : Head) → outside_fault l h ≡ None
    → (outside (head_end l) (size_in h) h.metrics ≡ false)
    × (outside (head_end l) (size_in h) h.trace ≡ false)
    × (outside (head_end l) (size_in h) h.strings ≡ false)
    × (outside (head_end l) (size_in h) h.volumes ≡ false)
none-outside l h e =
    let o : Section → Bool = λ s. outside (head_end l) (size_in h) s in
    go (o h.metrics) (o h.trace) (o h.strings) (o h.volumes) (sym (in_turn l h) ∙ e)
  where
    go : (a b c d : Bool) → pick a (Some (fault 1 84)) (pick b (Some (fault 2 92)) (pick c (Some (fault 3 100)) (pick d (Some (fault 4 108)) None))) ≡ None
        → (a ≡ false) × (b ≡ false) × (c ≡ false) × (d ≡ false)
    go true b c d e = absurd (at_nowhere 1 84 e)
    go false true c d e = absurd (at_nowhere 2 92 e)
    go false false true d e = absurd (at_nowhere 3 100 e)
    go false false false true e = absurd (at_nowhere 4 108 e)
    go false false false false e = (refl, refl, refl, refl)

pub outside_law : (l : Layout) (h : Head) → (outside_fault l h ≡ None) ↔ Inside l h
outside_law l h = (there, back)
  where
    there : outside_fault l h ≡ None → Inside l h
    there e =
        let n = none-outside l h e in
        record {
          metrics = (within_law _ _ _).0 n.0;
          trace = (within_law _ _ _).0 n.1;
          strings = (within_law _ _ _).0 n.2;
          volumes = (within_law _ _ _).0 n.3;
        }

    back : Inside l h → outside_fault l h ≡ None
    back i =
        let w = within_law (head_end l) (size_in h) in
        in_turn l h
        ∙ rw ((w h.metrics).1 i.metrics, (w h.trace).1 i.trace, (w h.strings).1 i.strings, (w h.volumes).1 i.volumes)

pub separate_law : (s t : Section) → (shares s t ≡ false) ↔ Separate s t
unfolding shares
separate_law s t = (there, back)
  where
    apart : Bool
    apart = (not (eqb s.len 0) && not (eqb t.len 0)) && (ltb s.at t.end && ltb t.at s.end)

    there : apart ≡ false → Separate s t
    there e =
        ⊎_elim
        (λ z. ⊎_map (λ y. eqb-true _ _ (not-false _ y)) (λ y. inl (eqb-true _ _ (not-false _ y))) (one_false _ _ z))
        (λ z. inr (inr (⊎_map (ltb-false _ _) (ltb-false _ _) (one_false _ _ z))))
        (one_false _ _ e)

    back : Separate s t → apart ≡ false
    back (inl c) = rw (eq-eqb _ _ c)
    back (inr (inl c)) = rw (eq-eqb _ _ c, and-false (not (eqb s.len 0)))
    back (inr (inr (inl c))) = rw (le-ltb _ _ c) (and-false (not (eqb s.len 0) && not (eqb t.len 0)))
    back (inr (inr (inr c))) =
        rw (le-ltb _ _ c, and-false (ltb s.at t.end)) (and-false (not (eqb s.len 0) && not (eqb t.len 0)))

-- 6
none-shared : (a b c d e f : Bool)
    → pick a (Some (fault 2 92)) (pick b (Some (fault 3 100)) (pick c (Some (fault 3 100)) (pick d (Some (fault 4 108)) (pick e (Some (fault 4 108)) (pick f (Some (fault 4 108)) None))))) ≡ None
    → (a ≡ false) × (b ≡ false) × (c ≡ false) × (d ≡ false) × (e ≡ false) × (f ≡ false)
none-shared true b c d e f q = absurd (at_nowhere 2 92 q)
none-shared false true c d e f q = absurd (at_nowhere 3 100 q)
none-shared false false true d e f q = absurd (at_nowhere 3 100 q)
none-shared false false false true e f q = absurd (at_nowhere 4 108 q)
none-shared false false false false true f q = absurd (at_nowhere 4 108 q)
none-shared false false false false false true q = absurd (at_nowhere 4 108 q)
none-shared false false false false false false q = (refl, refl, refl, refl, refl, refl)

pub shares_law : (h : Head) → (overlap_fault h ≡ None) ↔ Apart h
shares_law h = (there, back)
  where
    there : overlap_fault h ≡ None → Apart h
    there e =
        let n =
        none-shared (shares h.metrics h.trace) (shares h.metrics h.strings) (shares h.trace h.strings)
        (shares h.metrics h.volumes) (shares h.trace h.volumes) (shares h.strings h.volumes)
        (sym (pairs_are h) ∙ e) in
        record {
          metrics_trace = (separate_law _ _).0 n.0;
          metrics_strings = (separate_law _ _).0 n.1;
          trace_strings = (separate_law _ _).0 n.2;
          metrics_volumes = (separate_law _ _).0 n.3;
          trace_volumes = (separate_law _ _).0 n.4;
          strings_volumes = (separate_law _ _).0 n.5;
        }

    back : Apart h → overlap_fault h ≡ None
    back a =
        let l = separate_law in
        pairs_are h
        ∙ rw (
          (l h.metrics h.trace).1 a.metrics_trace,
          (l h.metrics h.strings).1 a.metrics_strings,
          (l h.trace h.strings).1 a.trace_strings,
          (l h.metrics h.volumes).1 a.metrics_volumes,
          (l h.trace h.volumes).1 a.trace_volumes,
          (l h.strings h.volumes).1 a.strings_volumes,
        )

-- no section is outside, so each ends within S: an empty one ends at H
pub section_end : (h size at len count : ℕ) → h ≤ size → outside h size (section_of h at len count) ≡ false → (section_of h at len count).end ≤ size
unfolding outside
section_end h size at len count l e =
    by_test (eqb len 0) (λ q. rw q l) (λ q. rw q (ltb-false _ _ (both_false (ltb at h) _ (rw q at e)).1))

-- The bytes of a section.
-- a section that ends within the bytes has as many as it says
pub part_length : (s : Section) (h : ℕ) (b : List ℕ) → s.end ≡ pick (eqb s.len 0) h (s.at + s.len) → s.end ≤ length b → length (part s b) ≡ s.len
part_length s h b e l =
    by_test (eqb s.len 0) (λ q. let z : s.len ≡ 0 = eqb-true _ _ q in rw z)
    (λ q. let f : s.end ≡ s.at + s.len = rw q at e in simp (length-take, length-drop) (omega arith))

-- they are the same in every prefix that reaches its end
pub part-take : (s : Section) (h k : ℕ) (p : List ℕ) → s.end ≡ pick (eqb s.len 0) h (s.at + s.len) → s.end ≤ k → part s (take k p) ≡ part s p
part-take s h k p e l =
    by_test (eqb s.len 0) (λ q. let z : s.len ≡ 0 = eqb-true _ _ q in rw z)
    (λ q.
    let f : s.end ≡ s.at + s.len = rw q at e in
    let j : k ≡ s.at + (k - s.at) = omega arith in
    let d : drop s.at (take k p) ≡ take (k - s.at) (drop s.at p) = ap (λ (n : ℕ). drop s.at (take n p)) j ∙ drop-take s.at (k - s.at) p in
    rw d (take-take s.len (k - s.at) (drop s.at p) (omega arith)))
