-- A line that is written reads back equal, a new line that reads is the one that writing its fields gives, and an old line that reads
-- is written as the new line of equal fields: `round_trip`.
use mathlib.Core.Path.{◌≡◌, refl, sym, ap, ◌∙◌}
use mathlib.Core.Bool.{true, false}
use mathlib.Core.List.{List, ◌++◌}
use Prim.Native.Nat.{ℕ, ◌+◌, ◌≤◌, ◌<◌, ◌^◌}
use native.Mathlib.Nat.{mod-eq_of_lt}
use native.Mathlib.Omega.{arith}
use lib.ListN.{length, take, drop}
use lib.Seq.{take_at, drop_at}
use borrow.Author.Tests.{leb-true, le-leb, ne_eqb}
use Rattle.lists.proofs.Tests.{by_test, never}
use Rattle.lists.proofs.Count.{true-false}
use native.Mathlib.Decide.{dec_lt, ℕ_discrete}
use lib.Dec.{leb, eqb, lit<}
use Rattle.digits.specs.Hex.{hex_at}
use Rattle.digits.proofs.Hex.{hex_lt}
use Rattle.layout.specs.Versions.{version_of, layout_of, head_end, size_limit}
use Rattle.layout.specs.declared.Version.{Version}
use Rattle.catalogue.specs.declared.Fields.{Fields}
use Rattle.std.specs.Prelude.{Result, Ok, Err}
use Rattle.catalogue.specs.declared.NoLine.{NoLine}
use Rattle.catalogue.specs.declared.Unwritten.{Unwritten}
use Rattle.catalogue.specs.Private.{reading_as}
use Rattle.catalogue.specs.Line.{line_of, fields_in, can_form, is_good, LineAnswer, reading, size_in_range, read_answer}
use Rattle.catalogue.specs.Line.{old_size_limit, can_write, written_number, Writing}
use Rattle.lines.specs.Lines.{is_line}
use Rattle.lines.proofs.Lines.{line_is, line_part}
use Rattle.catalogue.proofs.Line.{read_good, read_old, read_new}
use Rattle.catalogue.specs.RoundTrip.{Sized, Rewritten, RoundTrip}
use Rattle.catalogue.proofs.DigitsOfLine.{line_size, line_of_digits, number_size, number_hash, number_runs, number_version, digits_line}
use Rattle.std.specs.Prelude.{None, Option, Some}

-- ---- the fields

-- what `can_form` says
record Formed (limit : ℕ) (f : Fields) : Type 0 where
  version : Version
  known : version_of f.version ≡ Some version
  least : head_end (layout_of version) ≤ f.size
  most : f.size ≤ limit

module _ (limit : ℕ) (f : Fields) where
  form-true : can_form limit f ≡ true → Formed limit f
  unfolding can_form
  form-true e = go (version_of f.version) refl e
    where
      go : (k : Option Version) → version_of f.version ≡ k → size_in_range limit k f.size ≡ true → Formed limit f
      go (Some v) k e =
          by_test (leb (head_end (layout_of v)) f.size)
          (λ p.
          by_test (leb f.size limit) (λ q. record { version = v; known = k; least = leb-true _ _ p; most = leb-true _ _ q })
          (λ q. absurd (true-false (sym (rw (p, q) at e)))))
          (λ p. absurd (true-false (sym (rw p at e))))
      go None k e = absurd (true-false (sym e))

  form-is : Formed limit f → can_form limit f ≡ true
  unfolding can_form
  form-is h = rw (h.known, le-leb _ _ h.least, le-leb _ _ h.most)

-- a number of three digits or more is no version
above_other : (n k : ℕ) → 16 ^ 2 ≤ n → k < 16 ^ 2 → eqb n k ≡ false
above_other n k l m = ne_eqb n k (λ e. omega arith)

above_unknown : (n : ℕ) → 16 ^ 2 ≤ n → version_of n ≡ None
unfolding version_of
above_unknown n l = search (above_other, lit<)

-- so the version of a line fits its two digits
version_small : (limit : ℕ) (f : Fields) → Formed limit f → f.version < 16 ^ 2
version_small limit f h = elim (dec_lt f.version (16 ^ 2)) [ yes l ↦ l | no l ↦ never (cc (h.known, above_unknown f.version (omega arith))) ]

-- what an old line can have, a new line can have too
form_new : (f : Fields) → can_form old_size_limit f ≡ true → can_form size_limit f ≡ true
form_new f e =
    let h = form-true old_size_limit f e in
    form-is size_limit f (record { version = h.version; known = h.known; least = h.least; most = omega (arith, h.most) })

-- ---- reading

-- what is written reads back equal
pub written_reads : (w limit : ℕ) (f : Fields) → limit < 16 ^ w → can_form limit f ≡ true → Sized f
    → reading_as w limit (line_of w f) ≡ record { number = 0; fields = f }
unfolding fields_in
written_reads w limit f l e z =
    let h = form-true limit f e in
    let a : hex_at w (line_of w f) 0 ≡ f.size = number_size w f ∙ mod-eq_of_lt (omega (arith, h.most)) in
    let b : hex_at 8 (line_of w f) w ≡ f.hash = number_hash w f ∙ mod-eq_of_lt z.hash in
    let c : hex_at 8 (line_of w f) (w + 8) ≡ f.runs = number_runs w f ∙ mod-eq_of_lt z.runs in
    let d : hex_at 2 (line_of w f) (w + 16) ≡ f.version = number_version w f ∙ mod-eq_of_lt (version_small limit f h) in
    let g : fields_in w (line_of w f) ≡ f = rw (a, b, c, d) in
    read_good w limit (line_of w f) (line_is (w + 18) (line_of w f) (line_of_digits w f)) (rw g e) ∙ rw g

new_reads : (f : Fields) → can_form size_limit f ≡ true → Sized f → reading (line_of 8 f) ≡ record { number = 0; fields = f }
new_reads f e z = sym (read_new (line_of 8 f) (λ n. omega (arith, line_size 8 f))) ∙ written_reads 8 size_limit f (omega arith) e z

-- what bytes that read are
record Good (w limit : ℕ) (s : List ℕ) (f : Fields) : Type 0 where
  frame : is_line (w + 18) s ≡ true
  fields : fields_in w s ≡ f
  formed : can_form limit f ≡ true

module _ (w limit : ℕ) (s : List ℕ) (f : Fields) where
  read-true : reading_as w limit s ≡ record { number = 0; fields = f } → Good w limit s f
  unfolding reading_as is_good
  read-true e =
      by_test (is_line (w + 18) s)
      (λ p.
      by_test (can_form limit (fields_in w s))
      (λ q.
      let g : fields_in w s ≡ f = ap (λ (x : LineAnswer). x.fields) (rw (p, q) at e) in
      record { frame = p; fields = g; formed = ap (can_form limit) (sym g) ∙ q })
      (λ q. absurd (omega (arith, ap (λ (x : LineAnswer). x.number) (rw (p, q) at e)))))
      (λ p. absurd (omega (arith, ap (λ (x : LineAnswer). x.number) (rw p at e))))

  module _ (h : Good w limit s f) where
    -- a line that reads is the one that its fields give
    good-line : s ≡ line_of w f
    good-line = digits_line w s h.frame ∙ ap (line_of w) h.fields

    -- eight digits form a number of 32 bits
    good-sized : Sized f
    unfolding fields_in
    good-sized =
        record {
          hash = rw (ap (λ (x : Fields). x.hash) h.fields) at (hex_lt 8 s w (line_part (w + 18) s h.frame w 8 (omega arith)));
          runs = rw (ap (λ (x : Fields). x.runs) h.fields) at (hex_lt 8 s (w + 8) (line_part (w + 18) s h.frame (w + 8) 8 (omega arith)));
        }

-- of a line that reads, the length tells which it is
module _ (s : List ℕ) (f : Fields) (e : read_answer (Ok f) ≡ reading s) where
  good_new : (length s ≡ 25 → ⊥) → Good 8 size_limit s f
  good_new n = read-true 8 size_limit s f (read_new s n ∙ sym e)

  good_old : length s ≡ 25 → Good 6 old_size_limit s f
  good_old n = read-true 6 old_size_limit s f (read_old s n ∙ sym e)

  -- either way its fields can form a new line
  good-form : can_form size_limit f ≡ true
  good-form = elim (ℕ_discrete (length s) 25) [ yes n ↦ form_new f (good_old n).formed | no n ↦ (good_new n).formed ]

-- ---- the two calls

-- which case an answer is
line_case : (r : Result Fields NoLine) (f : Fields) → read_answer r ≡ record { number = 0; fields = f } → r ≡ Ok f
line_case (Ok g) f e = ap (λ (x : Fields). Ok x) (ap (λ (x : LineAnswer). x.fields) e)
line_case (Err n) f e = absurd (omega (arith, ap (λ (x : LineAnswer). x.number) e))

written_case : (w : Result (Unit {0}) Unwritten) → written_number w ≡ 0 → w ≡ Ok tt
written_case (Ok u) e = refl
written_case (Err n) e = absurd (omega arith)

-- the line that was written
written_form : (f : Fields) (before after : List ℕ)
    → Writing f before (Ok tt) after
    → (can_form size_limit f ≡ true) × (after ≡ line_of 8 f ++ drop 27 before)
unfolding can_write
written_form f before after h =
    by_test (leb 27 (length before))
    (λ a. by_test (can_form size_limit f) (λ e. (e, rw (a, e) at h.output)) (λ e. absurd (omega (arith, rw (a, e) at h.number))))
    (λ a. absurd (omega (arith, rw a at h.number)))

-- fields that can form a line are written where there is room
form_written : (f : Fields) (before : List ℕ) (w : Result (Unit {0}) Unwritten) (after : List ℕ)
    → can_form size_limit f ≡ true
    → 27 ≤ length before
    → Writing f before w after
    → Rewritten (line_of 8 f) before w after
unfolding can_write
form_written f before w after e l h =
    let o : after ≡ line_of 8 f ++ drop 27 before = rw (le-leb 27 (length before) l, e) at h.output in
    record {
      written = written_case w (rw (le-leb 27 (length before) l, e) at h.number);
      line = rw o (take_at (line_of 8 f) (drop 27 before) 27 (line_size 8 f));
      rest = rw o (drop_at (line_of 8 f) (drop 27 before) 27 (line_size 8 f));
    }

pub round_trip : RoundTrip
round_trip =
    record {
      reads_back = λ f before after r z h e.
          let w = written_form f before after h in
          let t : take 27 after ≡ line_of 8 f = rw w.1 (take_at (line_of 8 f) (drop 27 before) 27 (line_size 8 f)) in
          line_case r f (e ∙ ap reading t ∙ new_reads f w.0 z);
      writes_again = λ s f before w after n e l h.
          let g = good_new s f e (λ m. omega arith) in
          rw (good-line 8 size_limit s f g) (form_written f before w after g.formed l h);
      renewed = λ s f before w after n e l h.
          let g = good_old s f e n in
          let formed = form_new f g.formed in
          let again = form_written f before w after formed l h in
          record { rewritten = again; reads_equal = ap reading again.line ∙ new_reads f formed (good-sized 6 old_size_limit s f g) ∙ e };
      refused_unread = λ s f before u after l h e.
          let w = form_written f before (Err u) after (good-form s f e) l h in
          let z : ◌≡◌ {A = ℕ} 19 0 = ap written_number w.written in
          omega arith;
    }
