-- What one row says: a fault has the index and offset of the first that fails, and the entry or field there lies in its section.
use mathlib.Core.Path.{◌≡◌, refl, sym, ap, ◌∙◌}
use mathlib.Core.Bool.{Bool, true, false}
use mathlib.Core.List.{List}
use mathlib.Core.Logic.{◌⊎◌, inl, inr}
use Prim.Native.Nat.{ℕ, ◌+◌, ◌*◌, ◌≤◌, ◌<◌}
use native.Mathlib.Nat.{mul-le-mul_right}
use native.Mathlib.Omega.{arith}
use borrow.Author.Tests.{eq-eqb}
use lib.Dec.{eqb}
use lib.ListN.{length}
use Rattle.lists.specs.Count.{pick}
use Rattle.lists.specs.First.{first_from}
use Rattle.lists.proofs.Tests.{by_test, never}
use Rattle.lists.proofs.First.{first_at}
use Rattle.layout.specs.Head.{entry_offset}
use Rattle.layout.specs.Versions.{has_next, form_required}
use Rattle.layout.specs.declared.Layout.{Layout}
use Rattle.incremental.specs.Decision.{fault_at, fault_of}
use Rattle.sections.specs.declared.Section.{Section}
use Rattle.sections.specs.declared.Head.{Head}
use Rattle.sections.specs.Fields.{form_in, link_count, offset_field_at}
use Rattle.query.proofs.Parts.{section_end}
use Rattle.reader.specs.Checks.{trace_required}
use Rattle.std.specs.Prelude.{None, Option, Some}
use Rattle.incremental.specs.Decision.{fault}
use Rattle.incremental.proofs.Decision.{fault_same}

-- ---- what a fault says of its index and offset
pub at_index : (i at : ℕ) (b : Bool) (j x : ℕ) → fault_at i at b ≡ Some (fault j x) → (j ≡ i) × (x ≡ at) × (b ≡ true)
at_index i at true j x e = let s = fault_same i at j x e in (sym s.0, sym s.1, refl)
at_index i at false j x e = never cc

pub found_index : (at : ℕ → ℕ) (test : ℕ → Bool) (n k j x : ℕ) → fault_of at (first_from test n k) ≡ Some (fault j x) → (x ≡ at j) × (j < k + n)
found_index at test n k j x e = go (first_from test n k) refl e
  where
    go : (f : Option ℕ) → first_from test n k ≡ f → fault_of at f ≡ Some (fault j x) → (x ≡ at j) × (j < k + n)
    go (Some i) q h = let s = fault_same i (at i) j x h in (sym s.1 ∙ ap at s.0, omega (arith, s.0, (first_at test n k i q).1))
    go None q h = never cc

pub field_low : (n : ℕ) → offset_field_at n ≤ 108
field_low n =
    by_test (eqb n 1) (λ a. rw a (omega arith)) λ a.
    by_test (eqb n 2) (λ b. rw (a, b) (omega arith)) λ b.
    by_test (eqb n 3) (λ c. rw (a, b, c) (omega arith)) λ c. rw (a, b, c) (omega arith)

-- ---- an entry lies in its section
pub entry_inside : (s : Section) (h size w i : ℕ) → s.end ≡ pick (eqb s.len 0) h (s.at + s.len) → s.count * size ≤ s.len → w ≤ size → 0 < w
    → i < s.count → entry_offset s.at size i + w ≤ s.end
entry_inside s h size w i e l a b c =
    let m : (i + 1) * size ≤ s.count * size = mul-le-mul_right size (omega arith) in
    omega (arith, section_end s h e (omega arith))

-- an entry that has a next index is one of the trace section, which is then waited for
pub links_there : (l : Layout) (h : Head) (i n : ℕ) → i < link_count l h → trace_required l h ≤ n → (i < h.trace.count) × (h.trace.end ≤ n)
unfolding link_count
links_there l h i n a c = by_test (has_next l) (λ e. (rw e at a, rw e at c)) (λ e. absurd (omega (arith, rw e at a)))

-- 21 is refused only where the form has to be told, and then the 88 bytes are there
pub form_told : (l : Layout) (p b : List ℕ) → (form_required l ≡ 0) ⊎ (form_required l ≡ 88) → form_required l ≤ length p → form_in l b ≡ None → 88 ≤ length p
unfolding form_in
form_told l p b (inl z) h e =
    let s : form_in l b ≡ Some l = rw (eq-eqb _ _ z) in
    never (cc)
form_told l p b (inr z) h e = omega arith
