-- The laid-out file has what the checks are to see: its head is read field by field, and each section stands where the head says.
use mathlib.Core.Path.{◌≡◌, refl, sym, ap, ◌∙◌}
use mathlib.Core.Bool.{Bool, false}
use mathlib.Core.List.{List, ◌++◌}
use Prim.Native.Nat.{ℕ, suc, ◌+◌, ◌*◌, ◌^◌, ◌≤◌, ◌<◌, min}
use native.Mathlib.Nat.{add-zero, mul-le-mul_left, mul-le-mul_right, mul-one, suc-mul}
use native.Mathlib.Omega.{arith}
use borrow.Author.Tests.{eq-eqb, ne_eqb, eqb-true, eqb-false}
use lib.Dec.{eqb}
use lib.ListN.{length, take, drop, length-append, length-take}
use lib.Seq.{take_at, drop_at, drop-append-add, take_all}
use Rattle.lists.specs.Count.{pick}
use Rattle.lists.proofs.Tests.{by_test}
use Rattle.lists.specs.Pairs.{first_of, second_of}
use Rattle.lists.proofs.Table.{tabulate-same}
use Rattle.lists.proofs.First.{first_is_at, first_is_nothing}
use Rattle.little_endian.specs.Number.{le, zero_unit}
use Rattle.little_endian.proofs.Number.{le-take, le-drop}
use Rattle.layout.specs.Head.{entry_offset}
use Rattle.layout.specs.Versions.{head_end, run_time_at, run_count_at, metrics_entry, name_offset_at, name_length_at, trace_entry, first_section, size_limit}
use Rattle.layout.specs.declared.Version.{Version}
use Rattle.layout.specs.declared.Layout.{Layout}
use Rattle.sections.specs.Fields.{name_end, name_units_in, head_of, part}
use Rattle.sections.proofs.Name.{units-whole}
use Rattle.names.specs.Names.{name_at, name_units}
use Rattle.trace.specs.Links.{nexts, firsts}
use Rattle.writer.specs.LaidOut.{Numbers, Description, number, head_fields, entries, head, metrics_bytes, trace_bytes, laid_by}
use Rattle.writer.specs.LaidOut.{name_kept, pairs, metrics_at, trace_at, strings_at, volumes_at, laid_size}
use Rattle.writer.specs.Plans.{Writable}
use Rattle.writer.specs.Private.{head_for, links_in}
use Rattle.writer.proofs.Facts.{StartFacts, LaidFacts}
use Rattle.writer.proofs.Bytes.{le_left, length_entries, le_entry}
use Rattle.writer.proofs.Spread.{field_number, field_at}
use Rattle.writer.proofs.Entries as entry
use Rattle.writer.proofs.Name.{carried_most, carried_nonzero}
use Rattle.writer.proofs.Head as top
use Rattle.std.specs.Prelude.{None, Some}

-- a part in the middle
middle : (x y z : List ℕ) (a n : ℕ) → length x ≡ a → length y ≡ n → take n (drop a (x ++ (y ++ z))) ≡ y
middle x y z a n e f = ap (take n) (drop_at x (y ++ z) a e) ∙ take_at y z n f

-- what lies behind the first part
behind : (x y : List ℕ) (n at b : ℕ) → at ≡ length x + b → take n (drop at (x ++ y)) ≡ take n (drop b y)
behind x y n at b e = rw (e, drop-append-add x y b)

module _ (v : Version) (l : Layout) (d : Description) (w : Writable l) (r : Numbers d) where
  abbrev file : List ℕ
  file = laid_by v l d

  -- the parts of the file
  abbrev top_part : List ℕ
  top_part = head v l d

  abbrev metrics-part : List ℕ
  metrics-part = entries (metrics_bytes l d.metrics) (pairs d.metrics)

  abbrev trace-part : List ℕ
  trace-part = entries (trace_bytes l d.trace) (pairs d.trace)

  length-metrics : length metrics-part ≡ pairs d.metrics * metrics_entry l
  length-metrics = length_entries (metrics_bytes l d.metrics) (metrics_entry l) (entry.metrics_size l w d.metrics) (pairs d.metrics)

  length-trace : length trace-part ≡ pairs d.trace * trace_entry l
  length-trace = length_entries (trace_bytes l d.trace) (trace_entry l) (entry.trace_size l w d.trace) (pairs d.trace)

  pub length_file : length file ≡ laid_size l d
  unfolding laid_by
  length_file =
      length-append top_part (metrics-part ++ (trace-part ++ (d.strings ++ d.volumes)))
      ∙ omega (
        arith,
        top.length_head v l d w,
        length-append metrics-part (trace-part ++ (d.strings ++ d.volumes)),
        length-metrics,
        length-append trace-part (d.strings ++ d.volumes),
        length-trace,
        length-append d.strings d.volumes,
      )

  -- what is read in the head
  in_head : (width at : ℕ) → at + width ≤ first_section l → le width file at ≡ le width top_part at
  unfolding laid_by
  in_head width at h = le_left width top_part _ at (omega (arith, top.length_head v l d w))

  test : ℕ → Bool
  test i = zero_unit (take 76 file) (16 + 2 * i)

  unit-is : (i : ℕ) → i < 30 → le 2 (take 76 file) (16 + 2 * i) ≡ le 2 top_part (16 + 2 * i)
  unit-is i h = le-take 2 76 file (16 + 2 * i) (omega arith) ∙ in_head 2 (16 + 2 * i) (omega arith)

  before : (i : ℕ) → i < length (name_kept d) → zero_unit (take 76 file) (16 + 2 * i) ≡ false
  before i h =
      let e = unit-is i (omega (arith, carried_most d.name)) ∙ top.name_unit v l d w r i h in
      ne_eqb _ 0 (λ z. carried_nonzero d.name i h (sym e ∙ z))

  units : name_units_in (length (take 76 file)) ≡ 30
  units = sym (units-whole (length (take 76 file)) (omega (arith, length-take 76 file, length_file)))

  pub name_ended : name_end (take 76 file) ≡ pick (eqb (length (name_kept d)) 30) None (Some (length (name_kept d)))
  unfolding name_end
  name_ended =
      let n = length (name_kept d) in
      rw units
      (by_test (eqb n 30) (λ e. rw e (first_is_nothing _ 30 (λ i h. before i (omega (arith, eqb-true n 30 e))))) λ e.
      let h : n < 30 = omega (arith, carried_most d.name, eqb-false n 30 e) in
      rw e (first_is_at _ 30 n h (eq-eqb _ 0 (unit-is n h ∙ top.name_zero v l d w r h)) before))

  pub start_facts : StartFacts v l d file
  start_facts =
      record {
        long = length_file;
        version = in_head 4 0 (omega arith) ∙ top.head_version v l d w;
        signature = in_head 4 4 (omega arith) ∙ top.head_signature v l d w;
        size = in_head 4 12 (omega arith) ∙ top.head_size v l d w;
        ended = name_ended;
      }

  -- a field of the sections, in the first H bytes
  module _ (small : laid_size l d ≤ size_limit) where
    few-metrics : pairs d.metrics ≤ pairs d.metrics * metrics_entry l
    few-metrics =
        let m : pairs d.metrics * 1 ≤ pairs d.metrics * metrics_entry l = mul-le-mul_left (pairs d.metrics) (omega arith) in
        omega (arith, mul-one (pairs d.metrics))

    few-links : pairs d.trace ≤ pairs d.trace * trace_entry l
    few-links =
        let m : pairs d.trace * 1 ≤ pairs d.trace * trace_entry l = mul-le-mul_left (pairs d.trace) (omega arith) in
        omega (arith, mul-one (pairs d.trace))

    in_top : (at n : ℕ) → at + 4 ≤ 120 → le 4 top_part at ≡ n → le 4 (take (head_end l) file) at ≡ n
    in_top at n h e =
        le-take 4 (head_end l) file at (omega arith)
        ∙ in_head 4 at (omega arith)
        ∙ e

    section-field : (k n : ℕ) → k < 9 → field_at (head_fields v l d) (5 + k) ≡ number (84 + 4 * k) 4 n → n < 256 ^ 4
        → le 4 (take (head_end l) file) (84 + 4 * k) ≡ n
    section-field k n h e m = in_top (84 + 4 * k) n (omega arith) (top.head_sections v l d w r k n h e m)

    pub sections_are : head_of l (take (head_end l) file) ≡ head_for l d
    unfolding head_of
    sections_are =
        let ends = few-metrics in
        let links = few-links in
        let size = in_top 12 (min (laid_size l d) 4_294_967_295) (omega arith) (top.head_size v l d w) in
        let a0 = section-field 0 (metrics_at l) (omega arith) refl (omega arith) in
        let a1 = section-field 1 (pairs d.metrics) (omega arith) refl (omega arith) in
        let a2 = section-field 2 (trace_at l d) (omega arith) refl (omega arith) in
        let a3 = section-field 3 (pairs d.trace) (omega arith) refl (omega arith) in
        let a4 = section-field 4 (strings_at l d) (omega arith) refl (omega arith) in
        let a5 = section-field 5 (length d.strings) (omega arith) refl (omega arith) in
        let a6 = section-field 6 (volumes_at l d) (omega arith) refl (omega arith) in
        let a7 = section-field 7 d.volume_count (omega arith) refl r.volumes in
        let a8 = section-field 8 (length d.volumes) (omega arith) refl (omega arith) in
        let least : min (laid_size l d) 4_294_967_295 ≡ laid_size l d = omega arith in
        rw (size, least, a0, a1, a2, a3, a4, a5, a6, a7, a8)

    -- the sections themselves
    pub metrics_is : part (head_for l d).metrics file ≡ metrics-part
    unfolding laid_by
    metrics_is = middle top_part metrics-part _ _ _ (top.length_head v l d w) length-metrics

    pub trace_is : part (head_for l d).trace file ≡ trace-part
    unfolding laid_by
    trace_is =
        behind top_part _ (pairs d.trace * trace_entry l) (trace_at l d) (pairs d.metrics * metrics_entry l) (omega (arith, top.length_head v l d w))
        ∙ middle metrics-part trace-part _ _ _ length-metrics length-trace

    pub strings_is : part (head_for l d).strings file ≡ d.strings
    unfolding laid_by
    strings_is =
        let t = pairs d.trace * trace_entry l in
        behind top_part _ (length d.strings) (strings_at l d) (pairs d.metrics * metrics_entry l + t) (omega (arith, top.length_head v l d w))
        ∙ behind metrics-part _ (length d.strings) (pairs d.metrics * metrics_entry l + t) t (omega (arith, length-metrics))
        ∙ middle trace-part d.strings d.volumes _ _ length-trace refl

    pub volumes_is : part (head_for l d).volumes file ≡ d.volumes
    unfolding laid_by
    volumes_is =
        let n = length d.volumes in
        let t = pairs d.trace * trace_entry l + length d.strings in
        behind top_part _ n (volumes_at l d) (pairs d.metrics * metrics_entry l + t) (omega (arith, top.length_head v l d w))
        ∙ behind metrics-part _ n (pairs d.metrics * metrics_entry l + t) t (omega (arith, length-metrics))
        ∙ behind trace-part _ n t (length d.strings) (omega (arith, length-trace))
        ∙ ap (take n) (drop_at d.strings d.volumes _ refl)
        ∙ take_all n d.volumes (omega arith)

    pub name_at_is : (i : ℕ) → i < pairs d.metrics → name_at l (part (head_for l d).metrics file) i ≡ first_of d.metrics i
    name_at_is i h =
        ap (λ (s : List ℕ). name_at l s i) metrics_is
        ∙ le_entry (metrics_bytes l d.metrics) (metrics_entry l) (entry.metrics_size l w d.metrics) 4 (pairs d.metrics) i (name_offset_at l) h
        (omega arith)
        ∙ field_number _ (metrics_entry l) 0 (name_offset_at l) 4 (first_of d.metrics i) (entry.ordered_metrics l w d.metrics i) (omega arith) refl
        (r.metrics (2 * i))

    pub name_units_is : (i : ℕ) → i < pairs d.metrics → name_units l (part (head_for l d).metrics file) i ≡ second_of d.metrics i
    name_units_is i h =
        ap (λ (s : List ℕ). name_units l s i) metrics_is
        ∙ le_entry (metrics_bytes l d.metrics) (metrics_entry l) (entry.metrics_size l w d.metrics) 4 (pairs d.metrics) i (name_length_at l) h
        (omega arith)
        ∙ field_number _ (metrics_entry l) 1 (name_length_at l) 4 (second_of d.metrics i) (entry.ordered_metrics l w d.metrics i) (omega arith) refl
        (r.metrics (2 * i + 1))

    -- a trace entry, and what stands in it in the file
    next-laid : (i : ℕ) → le 4 (trace_bytes l d.trace i) 0 ≡ first_of d.trace i
    next-laid i = field_number _ (trace_entry l) 0 0 4 (first_of d.trace i) (entry.ordered_trace l w d.trace i) (omega arith) refl (r.trace (2 * i))

    blocks-laid : (i : ℕ) → le 4 (trace_bytes l d.trace i) 4 ≡ second_of d.trace i
    blocks-laid i = field_number _ (trace_entry l) 1 4 4 (second_of d.trace i) (entry.ordered_trace l w d.trace i) (omega arith) refl (r.trace (2 * i + 1))

    in-trace : (i at x : ℕ) → i < pairs d.trace → at + 4 ≤ trace_entry l → x ≡ i * trace_entry l + at
        → le 4 (part (head_for l d).trace file) x ≡ le 4 (trace_bytes l d.trace i) at
    in-trace i at x h k e =
        ap (λ (s : List ℕ). le 4 s x) trace_is
        ∙ ap (le 4 trace-part) e
        ∙ le_entry (trace_bytes l d.trace) (trace_entry l) (entry.trace_size l w d.trace) 4 (pairs d.trace) i at h k

    in_file : (i at x : ℕ) → i < pairs d.trace → at + 4 ≤ trace_entry l → x ≡ i * trace_entry l + at
        → le 4 file (trace_at l d + x) ≡ le 4 (trace_bytes l d.trace i) at
    in_file i at x h k e =
        let z : suc i * trace_entry l ≤ pairs d.trace * trace_entry l = mul-le-mul_right (trace_entry l) h in
        sym (le-drop 4 (trace_at l d) file x)
        ∙ sym (le-take 4 (pairs d.trace * trace_entry l) (drop (trace_at l d) file) x (omega (arith, suc-mul i (trace_entry l))))
        ∙ in-trace i at x h k e

    pub next_written : (i : ℕ) → i < pairs d.trace → le 4 file (entry_offset (trace_at l d) (trace_entry l) i) ≡ first_of d.trace i
    next_written i h = in_file i 0 _ h (omega arith) (sym (add-zero (i * trace_entry l))) ∙ next-laid i

    pub blocks_written : (i : ℕ) → i < pairs d.trace → le 4 file (entry_offset (trace_at l d) (trace_entry l) i + 4) ≡ second_of d.trace i
    blocks_written i h =
        ap (le 4 file) (omega arith) ∙ in_file i 4 (i * trace_entry l + 4) h (omega arith) refl ∙ blocks-laid i

    next_is : (i : ℕ) → i < pairs d.trace → le 4 (part (head_for l d).trace file) (i * trace_entry l) ≡ first_of d.trace i
    next_is i h = in-trace i 0 _ h (omega arith) (sym (add-zero (i * trace_entry l))) ∙ next-laid i

    pub links_are : nexts (part (head_for l d).trace file) (trace_entry l) (pairs d.trace) ≡ links_in d
    unfolding nexts firsts
    links_are = tabulate-same (pairs d.trace) _ _ next_is

    pub laid_facts : LaidFacts v l d file
    laid_facts =
        record {
          start = start_facts;
          small = small;
          hash = in_head 4 76 (omega arith) ∙ top.head_hash v l d w r;
          time = in_head 8 (run_time_at l) (omega arith) ∙ top.head_time v l d w r;
          count = in_head 4 (run_count_at l) (omega arith) ∙ top.head_count v l d w r;
          sections = sections_are;
          name_at_lem = name_at_is;
          name_units_lem = name_units_is;
          links = links_are;
          strings = strings_is;
          volumes = volumes_is;
        }
