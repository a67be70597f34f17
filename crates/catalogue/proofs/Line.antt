-- Document 01's "Catalogue line", for any number w of size digits and any limit: the length, the digits and the fields decide in turn.
use Rattle.lists.specs.Answer.{Answers}
use Rattle.layout.specs.declared.UnknownVersion.{UnknownVersion}
use Rattle.layout.specs.Versions.{known_said}
use Rattle.std.specs.Result.{result_ok}
use Rattle.std.specs.Prelude.{Result, Ok, Err}
use mathlib.Core.Path.{ap, ◌≡◌, sym, ◌∙◌}
use mathlib.Core.Bool.{true, false}
use mathlib.Core.List.{List, ◌++◌}
use Prim.Native.Nat.{ℕ, ◌+◌, ◌^◌, ◌≤◌, ◌<◌}
use native.Mathlib.Nat.{pow-le-pow_right}
use native.Mathlib.Omega.{arith}
use lib.ListN.{length, drop}
use borrow.Author.Tests.{le-leb, lt-leb}
use Rattle.digits.specs.Hex.{number_in}
use Rattle.lines.specs.Lines.{is_line}
use Rattle.lines.proofs.Lines.{line_size, line_number, line_below}
use Rattle.layout.specs.Versions.{version_of, size_limit}
use Rattle.layout.specs.declared.Version.{Version}
use Rattle.catalogue.specs.declared.Fields.{Fields}
use Rattle.std.specs.Prelude.{Result, Ok, Err}
use Rattle.catalogue.specs.declared.NoLine.{NoLine}
use Rattle.catalogue.specs.declared.Unwritten.TheVariants as unwritten
use Rattle.catalogue.specs.Line.{line_of, fields_in, size_in_range, can_form, is_good, no_fields, no_line, reading, read_answer, can_write, Writing, old_size_limit}
use Rattle.lists.specs.Count.{pick}
use Rattle.lists.proofs.Tests.{by_test, never}
use Rattle.catalogue.specs.Private.{reading_as}
use Rattle.std.specs.Prelude.{Some}

-- ---- laws of the fields, for a version that was looked up and matched on
module _ (limit : ℕ) (f : Fields) (k : Result Version UnknownVersion) (e : Answers known_said (version_of f.version) (result_ok k)) where
  pub form_known : (v : Version) → k ≡ Ok v → can_form limit f ≡ size_in_range limit (Some v) f.size
  unfolding can_form
  form_known v q = rw (sym e.answer ∙ ap result_ok q)

  pub form_unknown : (u : UnknownVersion) → k ≡ Err u → can_form limit f ≡ false
  unfolding can_form
  form_unknown u q = rw (sym e.answer ∙ ap result_ok q)

-- ---- laws of reading

-- the length tells which line it is
pub read_old : (s : List ℕ) → length s ≡ 25 → reading_as 6 old_size_limit s ≡ reading s
unfolding reading reading_as is_good
read_old s e = rw (line_size 26 s (λ n. omega arith))

pub read_new : (s : List ℕ) → (length s ≡ 25 → ⊥) → reading_as 8 size_limit s ≡ reading s
unfolding reading reading_as is_good
read_new s h = rw (line_size 24 s h)

module _ (w limit : ℕ) (s : List ℕ) where
  pub read_no_line : is_line (w + 18) s ≡ false → record { number = 18; fields = no_fields } ≡ reading_as w limit s
  unfolding reading_as is_good
  read_no_line e = rw e

  pub read_good : is_line (w + 18) s ≡ true → can_form limit (fields_in w s) ≡ true → reading_as w limit s ≡ record { number = 0; fields = fields_in w s }
  unfolding reading_as is_good
  read_good e q = rw (e, q)

  -- for fields that were read and tested
  pub read_formed : (f : Fields) (r : Result Fields NoLine) → is_line (w + 18) s ≡ true → f ≡ fields_in w s
      → r ≡ pick (can_form limit f) (Ok f) (Err no_line) → read_answer r ≡ reading_as w limit s
  unfolding reading_as is_good
  read_formed f r e q p = rw (e, ← q) (by_test (can_form limit f) (λ h. rw (p, h)) (λ h. rw (p, h)))

-- ---- laws of writing
pub write_short : (f : Fields) (o : List ℕ) → length o < 27 → Writing f o (Err unwritten.NoRoom) o
unfolding can_write
write_short f o l = let e = lt-leb 27 (length o) l in record { number = rw e; why = λ u q. rw e (cc q); output = rw e }

module _ (f : Fields) (o : List ℕ) (l : 27 ≤ length o) (r : Result Fields NoLine) (p : r ≡ pick (can_form size_limit f) (Ok f) (Err no_line)) where
  pub write_unformed : (n : NoLine) → r ≡ Err n → Writing f o (Err unwritten.NoLine) o
  unfolding can_write
  write_unformed n q =
      let e = le-leb 27 (length o) l in
      by_test (can_form size_limit f) (λ h. never (cc (rw h at p, q)))
      (λ h. record { number = rw (e, h); why = λ u z. rw e (cc z); output = rw (e, h) })

  pub write_formed : (g : Fields) (n : List ℕ) → r ≡ Ok g → n ≡ line_of 8 g ++ drop 27 o → Writing f o (Ok tt) n
  unfolding can_write
  write_formed g n q w =
      let e = le-leb 27 (length o) l in
      by_test (can_form size_limit f)
      (λ h.
      let z : f ≡ g = cc (rw h at p, q) in
      record { number = rw (e, h); why = λ u z. never (cc z); output = rw (e, h, z) w })
      (λ h. never (cc (rw h at p, q)))

-- ---- a number of a good line: at most eight digits, so 32 bits hold it
pub number_small : (n : ℕ) (s : List ℕ) → is_line n s ≡ true → (at w : ℕ) → at + w ≤ n → w ≤ 8 → number_in s at w < 2 ^ 32
number_small n s e at w l m =
    let p : 16 ^ w ≤ 16 ^ 8 = pow-le-pow_right (omega arith) m in
    omega (arith, line_number n s e at w l (omega arith), line_below n s e at w l)
