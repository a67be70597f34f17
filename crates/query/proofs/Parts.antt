-- The bytes of a section are those of the file from its offset on, so a part of the section is a part of the file.
use mathlib.Core.Path.{◌≡◌, ap, ◌∙◌}
use mathlib.Core.List.{List}
use mathlib.Core.Logic.{◌↔◌}
use Prim.Native.Nat.{ℕ, ◌+◌, ◌-◌, ◌≤◌, ◌<◌, min}
use native.Mathlib.Omega.{arith}
use lib.Dec.{eqb, leb}
use lib.ListN.{length, take, drop, length-take, length-drop}
use borrow.Author.Tests.{le-leb, lt-leb, leb-true, leb-false, eqb-true, ne_eqb}
use denote.Ref.{Bor}
use Rattle.lists.specs.Answer.{Answers}
use Rattle.lists.specs.Part.{start_in, IsPart}
use Rattle.lists.specs.Count.{pick}
use Rattle.lists.proofs.Parts.{part-part}
use Rattle.little_endian.specs.Number.{le}
use Rattle.little_endian.proofs.Number.{le-take, le-drop}
use Rattle.sections.specs.Fields.{part}
use Rattle.sections.specs.declared.Section.{Section}
use Rattle.query.specs.Queries.{place_of, place_said, volume_said, ShownAt, volume_values}
use Rattle.query.specs.declared.Place.{Place}
use Rattle.query.specs.declared.VolumeFacts.{VolumeFacts}
use Rattle.lists.proofs.Tests.{by_test}
use Rattle.std.specs.Prelude.{option_map, None, Option, Some}

-- the bytes of a section, as many as there are
pub part_there : (s : Section) (p : List ℕ) → length (part s p) ≡ min s.len (length p - s.at)
part_there s p = simp (length-take, length-drop)

pub section_length : (s : Section) (h : ℕ) {n : ℕ} → s.end ≡ pick (eqb s.len 0) h (s.at + s.len) → s.end ≤ n → s.len ≤ n
section_length s h e l = by_test (eqb s.len 0) (λ q. omega (arith, eqb-true s.len 0 q)) (λ q. omega (arith, rw q at e))

pub part_low : (s : Section) (h : ℕ) {n : ℕ} (p : List ℕ) → s.end ≡ pick (eqb s.len 0) h (s.at + s.len) → s.end ≤ n → length (part s p) ≤ n
part_low s h p e l = omega (arith, part_there s p, section_length s h e l)

-- bytes that lie in the part of a section are the same bytes of the file
pub part_bytes : (s : Section) (p : List ℕ) (at len : ℕ) → at + len ≤ s.len → take len (drop at (part s p)) ≡ take len (drop (s.at + at) p)
part_bytes s p at len h = part-part p s.at s.len at len h

-- so many bytes of a section are there
pub part_there_to : (s : Section) (p : List ℕ) (n : ℕ) → 0 < n → (n ≤ length (part s p)) ↔ ((n ≤ s.len) × (s.at + n ≤ length p))
part_there_to s p n h =
    let e = part_there s p in
    (λ l. (omega arith, omega arith), λ l. omega (arith, l.0, l.1))

-- a section that has a byte ends where its length says
pub section_end : (s : Section) (h : ℕ) → s.end ≡ pick (eqb s.len 0) h (s.at + s.len) → 0 < s.len → s.end ≡ s.at + s.len
section_end s h e l = rw (ne_eqb s.len 0 (λ z. omega arith)) at e

-- a unit of the part of a section is the same unit of the file
pub part_unit : (s : Section) (p : List ℕ) (at : ℕ) → at + 2 ≤ s.len → le 2 (part s p) at ≡ le 2 p (s.at + at)
part_unit s p at h = le-take 2 s.len (drop s.at p) at h ∙ le-drop 2 s.at p at

-- a part of a part, wherever both lie
pub part_within : (file s r : Bor (List ℕ)) (a n b m : ℕ) → IsPart file a n s → b + m ≤ length s.now → IsPart s b m r → IsPart file (a + b) m r
part_within file s r a n b m p l q =
    record {
      contents = q.contents ∙ rw p.contents (part-part file.now a n b m (omega (arith, size)));
      allocation = q.allocation ∙ p.allocation;
      offset = q.offset ∙ rw (le-leb b (length s.now) (omega arith)) (omega (arith, p.offset, start));
    }
  where
    size : length s.now ≡ min n (length file.now - a)
    size = ap length p.contents ∙ simp (length-take, length-drop)

    start : start_in a file.now + b ≡ start_in (a + b) file.now
    start =
        by_test (leb a (length file.now))
        (λ e. let h = leb-true a (length file.now) e in rw (e, le-leb (a + b) (length file.now) (omega (arith, size))))
        (λ e. let h = leb-false a (length file.now) e in rw (e, lt-leb (a + b) (length file.now) (omega arith)) (omega (arith, size)))

-- ---- a part of the file, where it is shown and where it is not
module _ (file r : Bor (List ℕ)) where
  pub place_part : (a : Option Place) {w : Place} → w ≡ place_of a → IsPart file w.at w.len r → ShownAt file (place_of a) r
  place_part a q h = rw (← q) h

  pub place_of_lem : {x a : Option Place} → ShownAt file (place_of x) r → Answers place_said a x → ShownAt file (place_of a) r
  place_of_lem h e = rw (← e.answer) h

  pub path_part : {x a : Option VolumeFacts} {w : Option Place} → Answers volume_said a x → w ≡ option_map (λ (v : VolumeFacts). v.path) x → ShownAt file (place_of w) r
      → ShownAt file (volume_values a).path r
  path_part {x} {a} e q h = rw (← e.answer) (go x (rw q at h))
    where
      go : (x : Option VolumeFacts) → ShownAt file (place_of (option_map (λ (v : VolumeFacts). v.path) x)) r → ShownAt file (volume_values x).path r
      go (Some v) h = h
      go None h = h

pub ruleset shown_parts = (place_part, place_of_lem, path_part)
