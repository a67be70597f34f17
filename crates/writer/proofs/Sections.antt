-- A laid-out file's sections follow one another from the first section on, by S: checks 1 to 6 pass them.
use mathlib.Core.Path.{◌≡◌, refl, sym, ap, ◌∙◌}
use mathlib.Core.List.{List}
use mathlib.Core.Logic.{inr}
use Prim.Native.Nat.{ℕ, ◌+◌, ◌*◌, ◌≤◌, ◌<◌}
use native.Mathlib.Omega.{arith}
use lib.Dec.{eqb}
use lib.ListN.{length}
use borrow.Author.Tests.{ne_eqb, eq-eqb}
use Rattle.lists.proofs.Tests.{by_test}
use Rattle.layout.specs.Versions.{version_number, version_of, layout_of, head_end, metrics_entry, trace_entry, form_required}
use Rattle.layout.specs.declared.Version.{Version}
use Rattle.layout.specs.declared.Layout.{Layout}
use Rattle.sections.specs.Fields.{declared_size, section_of, outside_fault, overlap_fault, form_in}
use Rattle.sections.proofs.Cases.{signature_right}
use Rattle.head.specs.Rules.{Inside, Apart}
use Rattle.head.specs.Opened.{OpenFacts}
use Rattle.head.proofs.Rules.{outside_law, shares_law}
use Rattle.reader.specs.Checks.{opening}
use Rattle.writer.specs.LaidOut.{Description, name_kept, pairs, metrics_at, trace_at, strings_at, volumes_at, laid_size}
use Rattle.writer.specs.Plans.{Writable}
use Rattle.writer.specs.Private.{head_for}
use Rattle.writer.proofs.Facts.{LaidFacts}
use Rattle.std.specs.Prelude.{None, Some}

-- a section ends within what H and its bytes are within
ends_by : (h at len count size : ℕ) → h ≤ size → at + len ≤ size → (section_of h at len count).end ≤ size
ends_by h at len count size a b = by_test (eqb len 0) (λ q. rw q a) (λ q. rw q b)

module _ (l : Layout) (d : Description) (w : Writable l) where
  -- each section ends by the places after it
  metrics-ends : (size : ℕ) → trace_at l d ≤ size → (head_for l d).metrics.end ≤ size
  metrics-ends size h = ends_by (head_end l) (metrics_at l) (pairs d.metrics * metrics_entry l) 0 size (omega arith) h

  trace-ends : (size : ℕ) → strings_at l d ≤ size → (head_for l d).trace.end ≤ size
  trace-ends size h = ends_by (head_end l) (trace_at l d) (pairs d.trace * trace_entry l) 0 size (omega arith) h

  strings-ends : (size : ℕ) → volumes_at l d ≤ size → (head_for l d).strings.end ≤ size
  strings-ends size h = ends_by (head_end l) (strings_at l d) (length d.strings) 0 size (omega arith) h

  volumes-ends : (head_for l d).volumes.end ≤ laid_size l d
  volumes-ends = ends_by (head_end l) (volumes_at l d) (length d.volumes) 0 (laid_size l d) (omega arith) (omega arith)

  inside : Inside l (head_for l d)
  inside =
      record {
        metrics = inr (omega arith, metrics-ends _ (omega arith));
        trace = inr (omega arith, trace-ends _ (omega arith));
        strings = inr (omega arith, strings-ends _ (omega arith));
        volumes = inr (omega arith, volumes-ends);
      }

  apart : Apart (head_for l d)
  apart =
      record {
        metrics_trace = inr (inr (inr (metrics-ends _ (omega arith))));
        metrics_strings = inr (inr (inr (metrics-ends _ (omega arith))));
        trace_strings = inr (inr (inr (trace-ends _ (omega arith))));
        metrics_volumes = inr (inr (inr (metrics-ends _ (omega arith))));
        trace_volumes = inr (inr (inr (trace-ends _ (omega arith))));
        strings_volumes = inr (inr (inr (strings-ends _ (omega arith))));
      }

  -- CHECKS 5 AND 6 cannot fail
  pub never_outside : (outside_fault l (head_for l d) ≡ None) × (overlap_fault (head_for l d) ≡ None)
  never_outside = ((outside_law l (head_for l d)).1 inside, (shares_law (head_for l d)).1 apart)

pub size_stands : (v : Version) (l : Layout) (d : Description) (p : List ℕ) → LaidFacts v l d p → declared_size p ≡ laid_size l d
size_stands v l d p f = f.start.size ∙ omega (arith, f.small)

-- a version with one head form
form_one : (l : Layout) (b : List ℕ) → form_required l ≡ 0 → form_in l b ≡ Some l
unfolding form_in
form_one l b h = rw (eq-eqb _ _ h) refl

-- what checks 1 to 6 accept
module _ (v : Version) (l : Layout) (d : Description) (p : List ℕ) (laid : l ≡ layout_of v) (w : Writable l)
    (known : version_of (version_number v) ≡ Some v) (f : LaidFacts v l d p) where
  pub opens : length (name_kept d) < 30 → OpenFacts p (opening v l (length (name_kept d)) (head_for l d))
  opens h =
      let e = size_stands v l d p f in
      let n : length p ≡ laid_size l d = f.start.long in
      let c : 132 ≤ head_end l = omega arith in
      let s : head_end l ≤ laid_size l d = omega arith in
      record {
        start =
            record {
              laid = refl;
              least = rw (← laid) (omega arith);
              most = omega (arith, f.small);
              known = ap version_of f.start.version ∙ known;
              ended = f.start.ended ∙ rw (ne_eqb (length (name_kept d)) 30 (omega arith));
              named = omega arith;
              signed = sym (signature_right p _ refl f.start.signature);
            };
        told = rw (← laid, w.formed) (omega arith);
        formed = rw (← laid) (form_one l p w.formed);
        least = omega arith;
        whole = omega arith;
        fields = sym f.sections;
        inside = (never_outside l d w).0;
        apart = (never_outside l d w).1;
        metrics = rw e (metrics-ends l d w (laid_size l d) (omega arith));
        trace = rw e (trace-ends l d w (laid_size l d) (omega arith));
        strings = rw e (strings-ends l d w (laid_size l d) (omega arith));
        volumes = rw e (volumes-ends l d w);
      }
