-- What is read in the head of a laid-out file.
use mathlib.Core.Path.{◌≡◌, refl, sym, ap, ◌∙◌}
use mathlib.Core.List.{List, ◌++◌}
use Prim.Native.Nat.{ℕ, ◌+◌, ◌-◌, ◌*◌, ◌^◌, ◌<◌, min}
use native.Mathlib.Nat.{sub-zero}
use native.Mathlib.Omega.{arith}
use lib.ListN.{length, get_or, replicate, length-replicate}
use Rattle.little_endian.specs.Number.{le}
use Rattle.little_endian.proofs.Number.{le-drop}
use Rattle.layout.specs.Versions.{version_number, run_time_at, run_count_at, first_section}
use Rattle.layout.specs.declared.Version.{Version}
use Rattle.layout.specs.declared.Version.TheVariants.{V17, V23, V26, V30}
use Rattle.layout.specs.declared.Layout.{Layout}
use Rattle.writer.specs.LaidOut.{Numbers, number, bytes_of, unit_bytes, spread, Description, name_kept, laid_size, head_fields, head}
use Rattle.writer.specs.Plans.{Writable}
use Rattle.writer.specs.Private.{Ordered}
use Rattle.writer.proofs.Bytes.{length-units, le_left, le_right, le-units, le_zeros}
use Rattle.writer.proofs.Spread.{length-spread, spread-drop, field_number, field_at, fields_after}
use Rattle.writer.proofs.Name.{carried_most, carried_low}

number_small : (v : Version) → version_number v < 256 ^ 4
number_small V17 = omega arith
number_small V23 = omega arith
number_small V26 = omega arith
number_small V30 = omega arith

module _ (v : Version) (l : Layout) (d : Description) (w : Writable l) where
  pub ordered_head : Ordered 0 (head_fields v l d) (first_section l)
  unfolding bytes_of
  ordered_head = omega (arith, length-units (name_kept d), carried_most d.name)

  pub length_head : length (head v l d) ≡ first_section l
  length_head = length-spread 0 (head_fields v l d) (first_section l) ordered_head ∙ sub-zero (first_section l)

  -- field k of the head
  field : (k at width n : ℕ) → k < 16 → field_at (head_fields v l d) k ≡ number at width n → n < 256 ^ width → le width (head v l d) at ≡ n
  field k at width n h e m = field_number (head_fields v l d) (first_section l) k at width n ordered_head h e m

  pub head_version : le 4 (head v l d) 0 ≡ version_number v
  head_version = field 0 0 4 (version_number v) (omega arith) refl (number_small v)

  pub head_signature : le 4 (head v l d) 4 ≡ 0x41434353
  head_signature = field 1 4 4 0x41434353 (omega arith) refl (omega arith)

  pub head_size : le 4 (head v l d) 12 ≡ min (laid_size l d) 4_294_967_295
  head_size = field 2 12 4 (min (laid_size l d) 4_294_967_295) (omega arith) refl (omega arith)

  module _ (r : Numbers d) where
    pub head_hash : le 4 (head v l d) 76 ≡ d.stored_hash
    head_hash = field 4 76 4 d.stored_hash (omega arith) refl r.hash

    pub head_time : le 8 (head v l d) (run_time_at l) ≡ d.run_time
    head_time = field 14 (run_time_at l) 8 d.run_time (omega arith) refl r.time

    pub head_count : le 4 (head v l d) (run_count_at l) ≡ d.run_count
    head_count = field 15 (run_count_at l) 4 d.run_count (omega arith) refl r.count

    -- the nine numbers of the sections
    pub head_sections : (k n : ℕ) → k < 9 → field_at (head_fields v l d) (5 + k) ≡ number (84 + 4 * k) 4 n → n < 256 ^ 4 → le 4 (head v l d) (84 + 4 * k) ≡ n
    head_sections k n h e m = field (5 + k) (84 + 4 * k) 4 n (omega arith) e m

    -- unit i of the name
    from-name : (i : ℕ)
        → le 2 (head v l d) (16 + 2 * i)
        ≡ le 2 (unit_bytes (name_kept d) ++ spread (16 + length (unit_bytes (name_kept d))) (fields_after (head_fields v l d) 3) (first_section l)) (2 * i)
    from-name i =
        sym (le-drop 2 16 (head v l d) (2 * i))
        ∙ ap (λ (s : List ℕ). le 2 s (2 * i)) (spread-drop 0 (head_fields v l d) (first_section l) 3 ordered_head (omega arith))

    pub name_unit : (i : ℕ) → i < length (name_kept d) → le 2 (head v l d) (16 + 2 * i) ≡ get_or (name_kept d) i 0
    name_unit i h =
        from-name i
        ∙ le_left 2 (unit_bytes (name_kept d)) _ (2 * i) (omega (arith, length-units (name_kept d)))
        ∙ le-units (name_kept d) i (carried_low d.name r.units) h

    pub name_zero : length (name_kept d) < 30 → le 2 (head v l d) (16 + 2 * length (name_kept d)) ≡ 0
    unfolding spread
    name_zero h =
        let n = length (name_kept d) in
        let z : List ℕ = replicate (76 - (16 + length (unit_bytes (name_kept d)))) 0 in
        let e : 2 * n ≡ length (unit_bytes (name_kept d)) + 0 = omega (arith, length-units (name_kept d)) in
        from-name n
        ∙ ap (le 2 (unit_bytes (name_kept d) ++ spread (16 + length (unit_bytes (name_kept d))) (fields_after (head_fields v l d) 3) (first_section l))) e
        ∙ le_right 2 (unit_bytes (name_kept d)) _ 0
        ∙ le_left 2 z _ 0 (omega (arith, length-replicate {A = ℕ} (76 - (16 + length (unit_bytes (name_kept d)))) 0, length-units (name_kept d)))
        ∙ le_zeros 2 (76 - (16 + length (unit_bytes (name_kept d)))) 0
