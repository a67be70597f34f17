-- Fields in rising order among zeros: behind the zeros before it each field is read as it is.
use mathlib.Core.Path.{◌≡◌, refl, sym, ap, ◌∙◌}
use mathlib.Core.List.{List, [], ◌∷◌, ◌++◌, append_assoc}
use Prim.Native.Nat.{ℕ, zero, suc, ◌+◌, ◌-◌, ◌^◌, ◌≤◌, ◌<◌}
use native.Mathlib.Nat.{not-suc-le-zero, le_of_suc-le-suc}
use native.Mathlib.Omega.{arith}
use lib.ListN.{length, drop, replicate, length-append, length-replicate}
use lib.Seq.{drop-append-add, drop_at}
use Rattle.little_endian.specs.Number.{le}
use Rattle.little_endian.proofs.Number.{le-drop}
use Rattle.writer.specs.LaidOut.{Field, number, spread}
use Rattle.writer.specs.Private.{Ordered, with_gaps}
use Rattle.writer.proofs.Bytes.{le-number}

-- the end of a field
abbrev pub end_of : Field → ℕ
end_of f = f.at + length f.bytes

pub ordered_end : (from : ℕ) (fs : List Field) (end : ℕ) → Ordered from fs end → from ≤ end
ordered_end from [] end o = o
ordered_end from (f ∷ fs) end o = let l = ordered_end (end_of f) fs end o.1 in omega (arith, o.0)

pub length-spread : (from : ℕ) (fs : List Field) (end : ℕ) → Ordered from fs end → length (spread from fs end) ≡ end - from
unfolding spread
length-spread from [] end o = length-replicate (end - from) 0
length-spread from (f ∷ fs) end o =
    let z : List ℕ = replicate (f.at - from) 0 in
    let r = spread (end_of f) fs end in
    length-append z (f.bytes ++ r)
    ∙ omega (
      arith,
      length-replicate {A = ℕ} (f.at - from) 0,
      length-append f.bytes r,
      length-spread (end_of f) fs end o.1,
      o.0,
      ordered_end
          (end_of f) fs end o.1,
    )

-- field k, and those after it
abbrev pub field_at : List Field → ℕ → Field
field_at [] k = record { at = 0; bytes = [] }
field_at (f ∷ fs) zero = f
field_at (f ∷ fs) (suc k) = field_at fs k

abbrev pub fields_after : List Field → ℕ → List Field
fields_after [] k = []
fields_after (f ∷ fs) zero = fs
fields_after (f ∷ fs) (suc k) = fields_after fs k

ordered_at : (from : ℕ) (fs : List Field) (end k : ℕ) → Ordered from fs end → k < length fs → from ≤ (field_at fs k).at
ordered_at from [] end k o l = absurd (not-suc-le-zero l)
ordered_at from (f ∷ fs) end zero o l = o.0
ordered_at from (f ∷ fs) end (suc k) o l = let h = ordered_at (end_of f) fs end k o.1 (le_of_suc-le-suc l) in omega (arith, o.0)

-- what stands from field k on
pub spread-drop : (from : ℕ) (fs : List Field) (end k : ℕ) → Ordered from fs end → k < length fs
    → drop ((field_at fs k).at - from) (spread from fs end) ≡ (field_at fs k).bytes ++ spread (end_of (field_at fs k)) (fields_after fs k) end
unfolding spread
spread-drop from [] end k o l = absurd (not-suc-le-zero l)
spread-drop from (f ∷ fs) end zero o l =
    drop_at (replicate (f.at - from) 0) (f.bytes ++ spread (end_of f) fs end) (f.at - from) (length-replicate (f.at - from) 0)
spread-drop from (f ∷ fs) end (suc k) o l =
    let z : List ℕ = replicate (f.at - from) 0 in
    let r = spread (end_of f) fs end in
    let g = field_at fs k in
    let h = ordered_at (end_of f) fs end k o.1 (le_of_suc-le-suc l) in
    let e : g.at - from ≡ length z + (length f.bytes + (g.at - end_of f)) = omega (arith, o.0, length-replicate {A = ℕ} (f.at - from) 0) in
    ap (λ (n : ℕ). drop n (z ++ (f.bytes ++ r))) e
    ∙ drop-append-add z (f.bytes ++ r) (length f.bytes + (g.at - end_of f))
    ∙ drop-append-add f.bytes r (g.at - end_of f)
    ∙ spread-drop (end_of f) fs end k o.1 (le_of_suc-le-suc l)

-- the number in field k of a spread from 0
pub field_number : (fs : List Field) (end k at w n : ℕ) → Ordered 0 fs end → k < length fs → field_at fs k ≡ number at w n → n < 256 ^ w
    → le w (spread 0 fs end) at ≡ n
field_number fs end k at w n o l e h =
    ap (le w (spread 0 fs end)) (omega (arith, ap (λ (f : Field). f.at) e))
    ∙ sym (le-drop w ((field_at fs k).at - 0) (spread 0 fs end) 0)
    ∙ ap (λ (s : List ℕ). le w s 0) (spread-drop 0 fs end k o l)
    ∙ ap (λ (f : Field). le w (f.bytes ++ spread (end_of (field_at fs k)) (fields_after fs k) end) 0) e
    ∙ le-number w n (spread (end_of (field_at fs k)) (fields_after fs k) end) h

-- ---- the fields as they are put, and the zeros behind the last

abbrev pub last_end : ℕ → List Field → ℕ
last_end from [] = from
last_end from (f ∷ fs) = last_end (end_of f) fs

pub spread-joined : (from : ℕ) (fs : List Field) (end : ℕ) → spread from fs end ≡ with_gaps from fs ++ replicate (end - last_end from fs) 0
unfolding spread with_gaps
spread-joined from [] end = refl
spread-joined from (f ∷ fs) end =
    let z : List ℕ = replicate (f.at - from) 0 in
    let r : List ℕ = replicate (end - last_end (end_of f) fs) 0 in
    rw (spread-joined (end_of f) fs end)
    (sym (append_assoc z f.bytes (with_gaps (end_of f) fs ++ r)) ∙ sym (append_assoc (z ++ f.bytes) (with_gaps (end_of f) fs) r))

pub joined-append : (from : ℕ) (fs gs : List Field) → with_gaps from (fs ++ gs) ≡ with_gaps from fs ++ with_gaps (last_end from fs) gs
unfolding with_gaps
joined-append from [] gs = refl
joined-append from (f ∷ fs) gs =
    rw (joined-append (end_of f) fs gs) (sym (append_assoc (replicate (f.at - from) 0 ++ f.bytes) (with_gaps (end_of f) fs) (with_gaps (last_end (end_of f) fs) gs)))

-- fields behind others matter only by their bytes
pub joined_same : (from : ℕ) (fs gs hs : List Field) → ((k : ℕ) → with_gaps k gs ≡ with_gaps k hs) → with_gaps from (fs ++ gs) ≡ with_gaps from (fs ++ hs)
joined_same from fs gs hs e = joined-append from fs gs ∙ ap (λ (s : List ℕ). with_gaps from fs ++ s) (e (last_end from fs)) ∙ sym (joined-append from fs hs)

ordered_last : (from : ℕ) (fs : List Field) (end : ℕ) → Ordered from fs end → from ≤ last_end from fs
ordered_last from [] end o = omega arith
ordered_last from (f ∷ fs) end o = let l = ordered_last (end_of f) fs end o.1 in omega (arith, o.0)

pub length-joined : (from : ℕ) (fs : List Field) (end : ℕ) → Ordered from fs end → length (with_gaps from fs) ≡ last_end from fs - from
unfolding with_gaps
length-joined from [] end o = omega arith
length-joined from (f ∷ fs) end o =
    let z : List ℕ = replicate (f.at - from) 0 in
    length-append (z ++ f.bytes) (with_gaps (end_of f) fs)
    ∙ omega (
      arith,
      length-append z f.bytes,
      length-replicate {A = ℕ} (f.at - from) 0,
      length-joined (end_of f) fs end o.1,
      ordered_last (end_of f) fs end o.1,
      o.0,
    )
