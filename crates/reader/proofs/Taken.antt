-- What the checks find in the bytes up to their required length is what the file has: each field and each section lies before that length.
use mathlib.Core.Path.{◌≡◌, sym, ◌∙◌}
use mathlib.Core.List.{List}
use mathlib.Core.Logic.{◌↔◌}
use Prim.Native.Nat.{ℕ, ◌+◌, ◌*◌, ◌≤◌, ◌<◌, max}
use native.Mathlib.Nat.{le_trans, le_refl, mul-le-mul_left}
use native.Mathlib.Omega.{arith}
use borrow.Author.Tests.{eq-eqb, ne_eqb, ltb-true, eqb-true}
use lib.Dec.{eqb, ltb}
use lib.ListN.{length, take}
use lib.Seq.{length-take-le}
use Rattle.lists.specs.First.{first_from}
use Rattle.lists.specs.Table.{tabulate}
use Rattle.lists.proofs.Tests.{by_test}
use Rattle.little_endian.specs.Number.{le}
use Rattle.little_endian.proofs.Number.{le-take}
use Rattle.layout.specs.Versions.{head_end, run_time_at, time_count, run_count_at, has_next}
use Rattle.layout.specs.Sound.{SoundLayout}
use Rattle.layout.specs.declared.Layout.{Layout}
use Rattle.incremental.specs.Decision.{Decision}
use Rattle.sections.specs.Fields.{head_of, part, name_end, link_count}
use Rattle.sections.proofs.Name.{ends_at}
use Rattle.sections.proofs.Cases.{links_low}
use Rattle.head.specs.Opened.{OpenFacts}
use Rattle.head.specs.Rules.{NameEnds}
use Rattle.head.proofs.Rules.{name_law, part-take}
use Rattle.head.proofs.Facts.{open_sound, open_shapes}
use Rattle.head.specs.declared.checks.Opening.{Opening}
use Rattle.names.specs.Names.{misfit_fault, unsound_fault}
use Rattle.trace.specs.Links.{end, nexts}
use Rattle.volumes.specs.Volumes.{volumes_from}
use Rattle.reader.specs.Checks.{names_in, nexts_in, time_at, record_of, trace_required, volumes_required}
use Rattle.reader.specs.Checks.{names_required, whole}
use Rattle.incremental.specs.declared.Fault.{Fault}
use Rattle.std.specs.Prelude.{Option, Some}

fixed_field : (l : Layout) (p : List ℕ) (k : ℕ) → SoundLayout l → k + 4 ≤ 120 → le 4 (take (head_end l) p) k ≡ le 4 p k
fixed_field l p k s h = le-take 4 (head_end l) p k (omega (arith, s.fixed))

pub head-take : (l : Layout) (p : List ℕ) → SoundLayout l → head_of l (take (head_end l) p) ≡ head_of l p
unfolding head_of
head-take l p s =
    let f : (k : ℕ) → k + 4 ≤ 120 → le 4 (take (head_end l) p) k ≡ le 4 p k = λ k h. fixed_field l p k s h in
    rw (
      f 12 (omega arith),
      f 84 (omega arith),
      f 88 (omega arith),
      f 92 (omega arith),
      f 96 (omega arith),
      f 100 (omega arith),
      f 104 (omega arith),
      f 108 (omega arith),
      f 112 (omega arith),
      f 116 (omega arith),
    )

-- a run time that the version has lies before H
time_take : (l : Layout) (p : List ℕ) (j : ℕ) → SoundLayout l → time_at l (take (head_end l) p) j ≡ time_at l p j
time_take l p j s =
    by_test (ltb j (time_count l))
    (λ e. rw e (le-take 8 (head_end l) p (run_time_at l + 8 * j) (omega (arith, s.run_times, ltb-true j (time_count l) e)))) (λ e. rw e)

pub record_take : (o : Opening) (p : List ℕ) (n : ℕ) → SoundLayout o.layout → record_of o (take (head_end o.layout) p) n ≡ record_of o p n
unfolding record_of
record_take o p n s =
    let l = o.layout in
    rw (
      fixed_field l p 12 s (omega arith),
      fixed_field l p 76 s (omega arith),
      time_take l p 0 s,
      time_take l p 1 s,
      time_take l p 2 s,
      time_take l p 3 s,
      time_take l p 4 s,
      time_take l p 5 s,
      time_take l p 6 s,
      time_take l p 7 s,
      le-take 4 (head_end l) p (run_count_at l) s.run_count_lem,
    )

-- the name's 30 units lie before byte 76
unit_take : (p : List ℕ) (k : ℕ) → k < 30 → le 2 (take 76 p) (16 + 2 * k) ≡ le 2 p (16 + 2 * k)
unit_take p k l = le-take 2 76 p (16 + 2 * k) (omega arith)

pub name_ends : (p : List ℕ) (u : ℕ) → 76 ≤ length p → (name_end (take 76 p) ≡ Some u) ↔ NameEnds p u
name_ends p u whole = (there, back)
  where
    there : name_end (take 76 p) ≡ Some u → NameEnds p u
    there e =
        let n = name_law (take 76 p) u e in
        record {
          short = n.short;
          zero_unit_lem = sym (unit_take p u n.short) ∙ n.zero_unit_lem;
          before = λ k l z. n.before k l (unit_take p k (omega (arith, n.short)) ∙ z);
        }

    back : NameEnds p u → name_end (take 76 p) ≡ Some u
    back n =
        let l = length-take-le 76 p whole in
        (ends_at (take 76 p) u).1
        (record {
          short = n.short;
          whole = omega (arith, n.short);
          zero_unit_lem = eq-eqb _ _ (unit_take p u n.short ∙ n.zero_unit_lem);
          before = λ k h. ne_eqb _ _ (λ z. n.before k h (sym (unit_take p k (omega (arith, n.short))) ∙ z));
        })

module _ (p : List ℕ) (o : Opening) (f : OpenFacts p o) where
  -- the faults that checks 9, 10, 14 and 15 find in the whole bytes
  abbrev pub misfit_in : List ℕ → Option Fault
  misfit_in b = misfit_fault o.layout o.head.metrics.at (names_in o b) o.head.metrics.count o.head.strings.len

  abbrev pub unsound_in : List ℕ → Option Fault
  unsound_in b = unsound_fault o.layout o.head.metrics.at (names_in o b) o.head.metrics.count (part o.head.strings b)

  abbrev pub volumes_in : List ℕ → Decision Unit
  volumes_in b = volumes_from (part o.head.volumes b) o.layout o.head.volumes.at o.head.volumes.count 0

  metrics-take : (k : ℕ) → o.head.metrics.end ≤ k → part o.head.metrics (take k p) ≡ part o.head.metrics p
  metrics-take k l = part-take o.head.metrics (head_end o.layout) k p (open_shapes p o f).metrics_end l

  pub misfit_take : misfit_in (take o.head.metrics.end p) ≡ misfit_in p
  misfit_take = rw (metrics-take o.head.metrics.end (le_refl _))

  -- with no metrics entry nothing is looked at
  pub unsound_take : unsound_in (take (names_required o.layout o.head) p) ≡ unsound_in p
  unfolding unsound_fault first_from
  unsound_take =
      let k = names_required o.layout o.head in
      by_test (eqb o.head.metrics.count 0) (λ z. rw (eqb-true o.head.metrics.count 0 z))
      (λ z.
      let r : k ≡ max o.head.metrics.end o.head.strings.end = rw z in
      rw (
        metrics-take k (omega (arith, r)),
        part-take o.head.strings (head_end o.layout) k p (open_shapes p o f).strings_end (omega (arith, r)),
      ))

  -- with no next index nothing is looked at
  pub nexts_take : nexts_in o (take (trace_required o.layout o.head) p) ≡ nexts_in o p
  unfolding link_count nexts tabulate
  nexts_take =
      by_test (has_next o.layout)
      (λ e. rw (e, part-take o.head.trace (head_end o.layout) o.head.trace.end p (open_shapes p o f).trace_end (le_refl _)))
      (λ e. rw e)

  pub volumes_take : volumes_in (take (volumes_required o.layout o.head) p) ≡ volumes_in p
  unfolding volumes_from
  volumes_take =
      let k = volumes_required o.layout o.head in
      by_test (eqb o.head.volumes.count 0) (λ z. rw (eqb-true o.head.volumes.count 0 z))
      (λ z.
      let r : k ≡ o.head.volumes.end = rw z in
      rw (part-take o.head.volumes (head_end o.layout) k p (open_shapes p o f).volumes_end (omega (arith, r))))

  -- no more trace entries than S has bytes
  pub trace_few : o.head.trace.count ≤ end
  trace_few =
      let g = open_shapes p o f in
      let n = mul-le-mul_left o.head.trace.count (open_sound p o f).next in
      by_test (eqb o.head.trace.len 0) (λ q. omega (arith, g.trace_len, eqb-true o.head.trace.len 0 q))
      (λ q. let e : o.head.trace.end ≡ o.head.trace.at + o.head.trace.len = g.trace_end ∙ rw q in omega (arith, g.trace_len, f.trace, f.start.most))

  pub links_few : link_count o.layout o.head ≤ end
  links_few = le_trans (links_low o.layout o.head) trace_few
