-- The head in the pieces that the code puts: three numbers, the name, the fields behind it, and zeros.
use mathlib.Core.Path.{◌≡◌, refl, sym, ap, ◌∙◌}
use mathlib.Core.List.{List, [], ◌∷◌, ◌++◌, append_assoc}
use Prim.Native.Nat.{ℕ, ◌+◌, ◌-◌, ◌*◌, ◌/◌, ◌%◌, ◌≤◌}
use native.Mathlib.Nat.{sub_self, add-mul-div_left}
use native.Mathlib.Omega.{arith}
use lib.ListN.{length, replicate}
use Rattle.layout.specs.Head.{version_at, signature_at, declared_size_at, program_name_at}
use Rattle.layout.specs.Versions.{run_time_at, run_count_at, first_section}
use Rattle.layout.specs.declared.Layout.{Layout}
use Rattle.writer.specs.declared.contents.Contents.{Contents}
use Rattle.writer.specs.declared.draft.Plan.{Plan}
use Rattle.writer.specs.LaidOut.{Field, number, bytes_of, unit_bytes, spread}
use Rattle.writer.specs.Plans.{Writable}
use Rattle.writer.specs.Private.{Ordered, with_gaps, fields_behind}
use Rattle.writer.proofs.Bytes.{length_bytes, length-units}
use Rattle.writer.proofs.Spread.{spread-joined, joined-append, joined_same, length-joined}

-- the lowest byte, and what is above it
byte_step : (a k : ℕ) → ((a + 256 * k) % 256 ≡ a % 256) × ((a + 256 * k) / 256 ≡ a / 256 + k)
byte_step a k =
    let d : (a + 256 * k) / 256 ≡ a / 256 + k = add-mul-div_left a k (omega arith) in
    (omega (arith, d), d)

-- eight bytes are four and four
pub bytes_split : (t : ℕ) → bytes_of 8 t ≡ bytes_of 4 (t % 4294967296) ++ bytes_of 4 (t / 4294967296)
unfolding bytes_of
bytes_split t =
    let r = t % 4294967296 in
    let q = t / 4294967296 in
    let whole : t ≡ r + 256 * (16777216 * q) = omega arith in
    let a = byte_step r (16777216 * q) in
    let b = byte_step (r / 256) (65536 * q) in
    let c = byte_step (r / 256 / 256) (256 * q) in
    let d = byte_step (r / 256 / 256 / 256) q in
    let e : t / 256 ≡ r / 256 + 256 * (65536 * q) = ap (λ (n : ℕ). n / 256) whole ∙ a.1 ∙ omega arith in
    let f : t / 256 / 256 ≡ r / 256 / 256 + 256 * (256 * q) = ap (λ (n : ℕ). n / 256) e ∙ b.1 ∙ omega arith in
    let g : t / 256 / 256 / 256 ≡ r / 256 / 256 / 256 + 256 * q = ap (λ (n : ℕ). n / 256) f ∙ c.1 ∙ omega arith in
    let h : t / 256 / 256 / 256 / 256 ≡ q = ap (λ (n : ℕ). n / 256) g ∙ d.1 ∙ omega arith in
    let t0 : t % 256 ≡ r % 256 = ap (λ (n : ℕ). n % 256) whole ∙ a.0 in
    let t1 : t / 256 % 256 ≡ r / 256 % 256 = ap (λ (n : ℕ). n % 256) e ∙ b.0 in
    let t2 : t / 256 / 256 % 256 ≡ r / 256 / 256 % 256 = ap (λ (n : ℕ). n % 256) f ∙ c.0 in
    let t3 : t / 256 / 256 / 256 % 256 ≡ r / 256 / 256 / 256 % 256 = ap (λ (n : ℕ). n % 256) g ∙ d.0 in
    rw (h, t0, t1, t2, t3) refl

-- a time in two halves
pub time_joined : (at t : ℕ) (fs : List Field) (from : ℕ)
    → with_gaps from (number at 4 (t % 4294967296) ∷ number (at + 4) 4 (t / 4294967296) ∷ fs) ≡ with_gaps from (number at 8 t ∷ fs)
unfolding with_gaps
time_joined at t fs from =
    let z : List ℕ = replicate (at - from) 0 in
    let lo = bytes_of 4 (t % 4294967296) in
    let hi = bytes_of 4 (t / 4294967296) in
    let n : at + 4 + 4 ≡ at + 8 = omega arith in
    rw (length_bytes 4 (t % 4294967296), length_bytes 4 (t / 4294967296), length_bytes 8 t, sub_self (at + 4), n, bytes_split t)
    (sym (append_assoc (z ++ lo) hi (with_gaps (at + 8) fs)) ∙ ap (λ (s : List ℕ). s ++ with_gaps (at + 8) fs) (append_assoc z lo hi))

-- the head by a plan
abbrev pub head_by : ℕ → Layout → Plan → Contents → List ℕ → List ℕ
head_by version l p g units =
    spread 0
    (number version_at 4 version
    ∷ number signature_at 4 0x41434353
    ∷ number declared_size_at 4 p.size
    ∷ record { at = program_name_at; bytes = unit_bytes units }
    ∷ fields_behind l p g)
    (first_section l)

module _ (l : Layout) (w : Writable l) (p : Plan) (g : Contents) where
  -- those before the time
  abbrev before : List Field
  before =
      number 76 4 g.stored_hash
      ∷ number 84 4 (first_section l)
      ∷ number 88 4 p.metrics
      ∷ number 92 4 p.trace_at
      ∷ number 96 4 p.trace
      ∷ number 100 4 p.strings_at
      ∷ number 104 4 p.strings
      ∷ number 108 4 p.volumes_at
      ∷ number 112 4 g.volume_count
      ∷ number 116 4 p.volumes
      ∷ []

  -- the numbers as they are put
  abbrev put : List Field
  put =
      before
      ++ number (run_time_at l) 4 (g.run_time % 4294967296)
      ∷ number (run_time_at l + 4) 4 (g.run_time / 4294967296)
      ∷ number (run_count_at l) 4 g.run_count
      ∷ []

  pub behind_joined : (from : ℕ) → with_gaps from put ≡ with_gaps from (fields_behind l p g)
  behind_joined from =
      joined_same from before _ (number (run_time_at l) 8 g.run_time ∷ number (run_count_at l) 4 g.run_count ∷ [])
      (time_joined (run_time_at l) g.run_time (number (run_count_at l) 4 g.run_count ∷ []))

  pub behind_ordered : (from end : ℕ) → from ≤ 76 → first_section l ≤ end → Ordered from put end
  unfolding bytes_of
  behind_ordered from end h e = omega arith

  fields-ordered : (from : ℕ) → from ≤ 76 → Ordered from (fields_behind l p g) (first_section l)
  unfolding bytes_of
  fields-ordered from h = omega arith

  -- the pieces, and their ends
  module _ (version : ℕ) (us : List ℕ) (few : length us ≤ 30) where
    abbrev first-fields : List Field
    first-fields = number 0 4 version ∷ number 4 4 0x41434353 ∷ number 12 4 p.size ∷ []

    abbrev from : ℕ
    from = 16 + 2 * length us

    pub first_ordered : (end : ℕ) → first_section l ≤ end → Ordered 0 first-fields end
    unfolding bytes_of
    first_ordered end e = omega arith

    pub first_long : length (with_gaps 0 first-fields) ≡ 16
    unfolding bytes_of
    first_long = length-joined 0 first-fields (first_section l) (first_ordered (first_section l) (omega arith))

    pub behind_long : length (with_gaps from (fields_behind l p g)) ≡ run_count_at l + 4 - from
    behind_long = length-joined from (fields_behind l p g) (first_section l) (fields-ordered from (omega arith)) ∙ ap (λ (k : ℕ). run_count_at l + k - from)
        (length_bytes 4 g.run_count)

    pub head_pieces : ((with_gaps 0 first-fields ++ unit_bytes us) ++ with_gaps from (fields_behind l p g)) ++ replicate
        (first_section l - (run_count_at l + 4)) 0 ≡ head_by version l p g us
    unfolding bytes_of with_gaps
    head_pieces =
        let n = length-units us in
        let fs = fields_behind l p g in
        let name : Field = record { at = 16; bytes = unit_bytes us } in
        let e : 16 + length (unit_bytes us) ≡ from = omega arith in
        let j : with_gaps 0 (first-fields ++ name ∷ fs) ≡ (with_gaps 0 first-fields ++ unit_bytes us) ++ with_gaps from fs =
        joined-append 0 first-fields (name ∷ fs)
        ∙ ap (λ (k : ℕ). with_gaps 0 first-fields ++ (unit_bytes us ++ with_gaps k fs)) e
        ∙ sym (append_assoc (with_gaps 0 first-fields) (unit_bytes us) (with_gaps from fs)) in
        ap (λ (s : List ℕ). s ++ replicate (first_section l - (run_count_at l + 4)) 0) (sym j)
        ∙ sym (spread-joined 0 (first-fields ++ name ∷ fs) (first_section l))
