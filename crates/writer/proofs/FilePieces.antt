-- The file of a draft in the pieces that the code puts.
use mathlib.Core.Path.{◌≡◌, refl, ap, ◌∙◌}
use mathlib.Core.List.{List, [], ◌∷◌, ◌++◌, append_assoc}
use Prim.Native.Nat.{ℕ, ◌+◌, ◌*◌, ◌≤◌, min}
use native.Mathlib.Omega.{arith}
use lib.ListN.{length, take, length-take}
use Rattle.lists.specs.Pairs.{first_of, second_of}
use Rattle.layout.specs.Versions.{version_number, metrics_entry, trace_entry, first_section}
use Rattle.layout.specs.declared.Version.{Version}
use Rattle.layout.specs.declared.Layout.{Layout}
use Rattle.writer.specs.declared.contents.Contents.{Contents}
use Rattle.writer.specs.declared.draft.Plan.{Plan}
use Rattle.writer.specs.LaidOut.{Description, number, spread, entries, head, metrics_bytes, trace_bytes, laid_by, name_kept, laid_size, pairs}
use Rattle.writer.specs.Writes.{description_of}
use Rattle.writer.specs.Plans.{Ready}
use Rattle.writer.proofs.Bytes.{length_entries}
use Rattle.writer.proofs.Entries.{metrics_size, trace_size}
use Rattle.writer.proofs.Head.{length_head}
use Rattle.writer.proofs.HeadPieces.{head_by}
use Rattle.writer.proofs.Planning.{carried_prefix}

module _ (v : Version) (l : Layout) (c : Contents) (p : Plan) (units : ℕ) (r : Ready v l (description_of c) p units) where
  abbrev d : Description
  d = description_of c

  pub name_fits : (units ≤ length c.name.now) × (units ≤ 30)
  name_fits =
      let k = ap length (carried_prefix c.name.now) in
      (omega (arith, r.named, k, length-take (length (name_kept d)) c.name.now), omega (arith, r.short))

  pub head_same : (n : ℕ) → n ≡ version_number v → head_by n l p c (take units c.name.now) ≡ head v l d
  head_same n e =
      let u : take units c.name.now ≡ name_kept d = ap (λ (k : ℕ). take k c.name.now) r.named ∙ carried_prefix c.name.now in
      let m : min (laid_size l d) 4_294_967_295 ≡ laid_size l d = omega (arith, r.small) in
      rw (e, r.plan, u, m) refl

  -- the trace array, where an entry has 12 bytes
  abbrev trace_put : List ℕ
  trace_put = entries (λ i. spread 0 (number 0 4 (first_of c.trace.now i) ∷ number 4 4 (second_of c.trace.now i) ∷ []) 12) (pairs c.trace.now)

  trace_same : trace_put ≡ entries (trace_bytes l c.trace.now) (pairs c.trace.now)
  trace_same = rw r.writable.trace refl

  pub metrics_long : length (entries (metrics_bytes l c.metrics.now) (pairs c.metrics.now)) ≡ pairs c.metrics.now * metrics_entry l
  metrics_long = length_entries (metrics_bytes l c.metrics.now) (metrics_entry l) (metrics_size l r.writable c.metrics.now) (pairs c.metrics.now)

  pub trace_long : length trace_put ≡ pairs c.trace.now * 12
  trace_long =
      ap length trace_same
      ∙ length_entries (trace_bytes l c.trace.now) (trace_entry l) (trace_size l r.writable c.trace.now) (pairs c.trace.now)
      ∙ ap (λ (e : ℕ). pairs c.trace.now * e) r.writable.trace

  pub head_long : length (head v l d) ≡ first_section l
  head_long = length_head v l d r.writable

  -- where the sections stand, and where each ends the next one starts
  pub meets : (p.trace_at ≡ first_section l + pairs c.metrics.now * metrics_entry l)
      × (p.strings_at ≡ p.trace_at + pairs c.trace.now * 12)
      × (p.volumes_at ≡ p.strings_at + length c.strings.now)
      × (p.size ≡ p.volumes_at + length c.volumes.now)
  meets = let e = ap (λ (e : ℕ). pairs c.trace.now * e) r.writable.trace in rw (r.plan, e) (refl, refl, refl, refl)

  pub file_pieces : (((head v l d ++ entries (metrics_bytes l c.metrics.now) (pairs c.metrics.now)) ++ trace_put) ++ c.strings.now) ++ c.volumes.now ≡ laid_by v l d
  unfolding laid_by
  file_pieces =
      let x = head v l d in
      let y = entries (metrics_bytes l c.metrics.now) (pairs c.metrics.now) in
      let z = entries (trace_bytes l c.trace.now) (pairs c.trace.now) in
      rw trace_same
      (append_assoc ((x ++ y) ++ z) c.strings.now c.volumes.now ∙ append_assoc (x ++ y) z (c.strings.now ++ c.volumes.now)
      ∙ append_assoc x y (z ++ (c.strings.now ++ c.volumes.now)))
