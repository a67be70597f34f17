-- Laws on the names of metrics entries: what each way through the code decides, and what a sound name is.
use mathlib.Core.Path.{◌≡◌, refl, sym, ap, ◌∙◌}
use mathlib.Core.Bool.{Bool, true, false, not, ◌||◌}
use mathlib.Core.List.{List}
use mathlib.Core.Logic.{◌↔◌}
use Prim.Native.Nat.{ℕ, ◌+◌, ◌*◌, ◌-◌, ◌≤◌, ◌<◌}
use native.Mathlib.Omega.{arith}
use lib.Dec.{eqb, ltb}
use lib.ListN.{length, get_or}
use borrow.Author.Tests.{leb-true, le-leb, ltb-true, ltb-false, eqb-true, eqb-false, eq-eqb, ne_eqb, not-true}
use Rattle.lists.specs.Count.{any_below}
use Rattle.lists.specs.First.{first}
use Rattle.lists.proofs.First.{first_is_at, first_is_nothing}
use Rattle.incremental.specs.Decision.{fault_of}
use Rattle.incremental.specs.declared.Fault.{Fault}
use Rattle.incremental.proofs.Decision.{fault_hit, fault_none}
use Rattle.std.specs.Prelude.{None, Option, Some}
use Rattle.lists.proofs.Count.{any_yes, any_no, any_true, any_eight, any_false}
use Rattle.lists.proofs.Tests.{by_test, never, both_true}
use Rattle.little_endian.specs.Number.{le, zero_unit}
use Rattle.names.specs.Names.{fits, sound, SoundName}
use Rattle.names.specs.Private.{zero_in, sound_text, FirstFault}

-- One unit, by its bytes
pub unit_zero : (s : List ℕ) (at : ℕ) → eqb (get_or s at 0 + 256 * get_or s (at + 1) 0) 0 ≡ zero_unit s at
unfolding le
unit_zero s at = let e : get_or s at 0 + 256 * get_or s (at + 1) 0 ≡ le 2 s at = omega arith in ap (λ x. eqb x 0) e

-- A text, by a loop that stops at the first zero unit
pub text_zero : (s : List ℕ) (at units k : ℕ) → k < units → zero_unit s (at + 2 * k) ≡ true → false ≡ sound_text s at units
text_zero s at units k l e = rw (any_yes (λ j. zero_unit s (at + 2 * j)) units k l e)

pub text_end : (s : List ℕ) (at units : ℕ) → ((k : ℕ) → k < units → zero_unit s (at + 2 * k) ≡ false) → zero_unit s (at + 2 * units) ≡ sound_text s at units
text_end s at units f = rw (any_no (λ j. zero_unit s (at + 2 * j)) units f)

-- A text, by a loop that takes eight units at a time
pub zero_in_eight : (s : List ℕ) (at : ℕ) {a b c d e f g h : Bool}
    → a ≡ zero_unit s at
    → b ≡ zero_unit s (at + 2)
    → c ≡ zero_unit s (at + 4)
    → d ≡ zero_unit s (at + 6)
    → e ≡ zero_unit s (at + 8)
    → f ≡ zero_unit s (at + 10)
    → g ≡ zero_unit s (at + 12)
    → h ≡ zero_unit s (at + 14)
    → (((((((a || b) || c) || d) || e) || f) || g) || h) ≡ zero_in s at 8
zero_in_eight s at i j k l m n o q =
    let z : at ≡ at + 2 * 0 = omega arith in
    rw (i ∙ ap (zero_unit s) z, j, k, l, m, n, o, q) (any_eight (λ k. zero_unit s (at + 2 * k)))

pub eight_zero : (s : List ℕ) (at units : ℕ) → 8 ≤ units → zero_in s at 8 ≡ true → false ≡ sound_text s at units
eight_zero s at units h e = let t = any_true (λ k. zero_unit s (at + 2 * k)) 8 e in text_zero s at units t.0 (omega (arith, t.1)) t.2

pub eight-clear : (s : List ℕ) (at units : ℕ) → 8 ≤ units → zero_in s at 8 ≡ false → sound_text s (at + 16) (units - 8) ≡ sound_text s at units
eight-clear s at units h e =
    by_test (zero_in s (at + 16) (units - 8))
    (λ q.
    let t = any_true (λ j. zero_unit s (at + 16 + 2 * j)) (units - 8) q in
    let v : at + 2 * (8 + t.0) ≡ at + 16 + 2 * t.0 = omega arith in
    rw q (text_zero s at units (8 + t.0) (omega (arith, t.1)) (ap (zero_unit s) v ∙ t.2)))
    (λ q.
    let v : at + 16 + 2 * (units - 8) ≡ at + 2 * units = omega arith in
    rw q (ap (zero_unit s) v ∙ text_end s at units (clear q)))
  where
    clear : zero_in s (at + 16) (units - 8) ≡ false → (k : ℕ) → k < units → zero_unit s (at + 2 * k) ≡ false
    clear q k l =
        by_test (ltb k 8) (λ w. any_false (λ j. zero_unit s (at + 2 * j)) 8 e k (ltb-true k 8 w))
        (λ w.
        let v : at + 2 * k ≡ at + 16 + 2 * (k - 8) = omega (arith, ltb-false k 8 w) in
        ap (zero_unit s) v ∙ any_false (λ j. zero_unit s (at + 16 + 2 * j)) (units - 8) q (k - 8) (omega (arith, ltb-false k 8 w)))

pub eight_again : (s : List ℕ) (at units e : ℕ) → 8 * e + 8 ≤ units → zero_in s (at + 16 * e) 8 ≡ false
    → sound_text s (at + 16 * (e + 1)) (units - 8 * (e + 1)) ≡ sound_text s (at + 16 * e) (units - 8 * e)
eight_again s at units e h z =
    let a : at + 16 * (e + 1) ≡ at + 16 * e + 16 = omega arith in
    let b : units - 8 * (e + 1) ≡ units - 8 * e - 8 = omega arith in
    rw (a, b) (eight-clear s (at + 16 * e) (units - 8 * e) (omega arith) z)

-- A name
pub name_past : (s : List ℕ) (at units : ℕ) → fits (length s) at units ≡ false → false ≡ sound s at units
unfolding sound
name_past s at units e = rw e

pub name_inside : (s : List ℕ) (at units : ℕ) → fits (length s) at units ≡ true → sound_text s at units ≡ sound s at units
unfolding sound
name_inside s at units e = rw e

-- a name that fits ends, with its zero unit, within the section
pub fits_le : (size at units : ℕ) → fits size at units ≡ true → at + 2 * units + 2 ≤ size
unfolding fits
fits_le size at units e = leb-true _ _ e

pub le-fits : (size at units : ℕ) → at + 2 * units + 2 ≤ size → fits size at units ≡ true
unfolding fits
le-fits size at units h = le-leb _ _ h

-- Checks 9 and 10: a search for the first entry that a test fails, where the test says what `fails` is
pub first_fault_is : (says : ℕ → Bool → Type 0) (fails : ℕ → Bool) (at : ℕ → ℕ) (n : ℕ) (r : Option Fault)
    → FirstFault says at n r → ((i : ℕ) (b : Bool) → says i b → b ≡ fails i) → r ≡ fault_of at (first fails n)
first_fault_is says fails at n None h told = fault_none at (first fails n) (first_is_nothing fails n (λ k l. sym (told k false (h.none refl k l))))
first_fault_is says fails at n (Some f) h told =
    let w = h.some f refl in
    fault_hit at (first fails n) f.index f.offset
    (first_is_at fails n f.index w.entry (sym (told _ true w.fails)) (λ k l. sym (told k false (w.before k l)))) w.place

pub sound-fits : (s : List ℕ) (at units : ℕ) → sound s at units ≡ true → fits (length s) at units ≡ true
sound-fits s at units e = by_test (fits (length s) at units) (λ q. q) (λ q. never (cc (name_past s at units q)))

sound_is : (s : List ℕ) (at units : ℕ) → sound s at units ≡ true → SoundName s at units
sound_is s at units e =
    let f = sound-fits s at units e in
    let t = both_true (not (any_below (λ k. zero_unit s (at + 2 * k)) units)) (zero_unit s (at + 2 * units)) (name_inside s at units f ∙ e) in
    record {
      inside = fits_le (length s) at units f;
      text = λ k l. eqb-false _ _ (any_false (λ k. zero_unit s (at + 2 * k)) units (not-true _ t.0) k l);
      end = eqb-true _ _ t.1;
    }

is_sound : (s : List ℕ) (at units : ℕ) → SoundName s at units → sound s at units ≡ true
is_sound s at units n =
    sym (name_inside s at units (le-fits (length s) at units n.inside))
    ∙ sym (text_end s at units (λ k l. ne_eqb _ _ (n.text k l)))
    ∙ eq-eqb _ _ n.end

pub sound_name : (s : List ℕ) (at units : ℕ) → (sound s at units ≡ true) ↔ SoundName s at units
sound_name s at units = (sound_is s at units, is_sound s at units)
