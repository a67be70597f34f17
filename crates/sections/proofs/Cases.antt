-- The cases of the definitions, for `search` at a function's returns: `r` is what a call gave, and the tests are the branches' facts.
use mathlib.Core.Path.{◌≡◌, refl, sym, ap, ◌∙◌}
use mathlib.Core.Bool.{Bool, true, false, ◌||◌}
use mathlib.Core.List.{List}
use Prim.Native.Nat.{ℕ, ◌+◌, ◌*◌, ◌≤◌, ◌<◌}
use native.Mathlib.Omega.{arith}
use native.Mathlib.Nat.{le_refl, mul-le-mul_left}
use mir.Syntax.{w64}
use mir.Val.{Fits}
use borrow.Author.Tests.{eq-eqb, ne_eqb, lt-ltb, le-ltb, ltb-false}
use Rattle.incremental.proofs.Decision.{fault_clear}
use Rattle.lists.specs.Count.{pick, any_below}
use Rattle.lists.proofs.Count.{any_more}
use Rattle.lists.proofs.Tests.{by_test}
use Rattle.lists.specs.First.{first_from}
use Rattle.little_endian.specs.Number.{le}
use Rattle.layout.specs.Versions.{size_limit, head_end, metrics_entry, trace_entry, has_next}
use Rattle.layout.specs.declared.Layout.{Layout}
use Rattle.incremental.specs.Decision.{fault_of}
use Rattle.sections.specs.declared.Section.{Section}
use Rattle.sections.specs.declared.Head.{Head}
use Rattle.sections.specs.Fields.{signature_fault, size_fault, link_count, section_of, head_of, size_in, outside}
use Rattle.sections.specs.Fields.{offset_field_at, shares, numbered, outside_fault, overlap_fault, places_fault, entries_fault}
use Rattle.incremental.specs.declared.Fault.{Fault}
use Rattle.std.specs.Prelude.{None, Option, Some}
use Rattle.incremental.specs.Decision.{fault}

-- the first section that fails a test
pub pick_hit : (t r : Bool) (x a b : Option Fault) → r ≡ t → r ≡ true → x ≡ a → x ≡ pick t a b
pick_hit t r x a b p q e = rw (sym p ∙ q) e

pub pick_miss : (t r : Bool) (x a b : Option Fault) → r ≡ t → r ≡ false → x ≡ b → x ≡ pick t a b
pick_miss t r x a b p q e = rw (sym p ∙ q) e

pub ruleset picks = (pick_hit, pick_miss)

fault_pick : (at : ℕ → ℕ) (b : Bool) (f g : Option ℕ) → fault_of at (pick b f g) ≡ pick b (fault_of at f) (fault_of at g)
fault_pick at true f g = refl
fault_pick at false f g = refl

-- 5 by sections, in the order in which the code looks at them
abbrev pub outside_in_turn : Layout → Head → Option Fault
outside_in_turn l h =
    pick (outside (head_end l) (size_in h) h.metrics) (Some (fault 1 84))
    (pick (outside (head_end l) (size_in h) h.trace) (Some (fault 2 92))
    (pick (outside (head_end l) (size_in h) h.strings) (Some (fault 3 100))
    (pick (outside (head_end l) (size_in h) h.volumes) (Some (fault 4 108))
    None)))

pub in_turn : (l : Layout) (h : Head) → outside_fault l h ≡ outside_in_turn l h
unfolding outside_fault first_from
in_turn l h =
    let o : Section → Bool = λ s. outside (head_end l) (size_in h) s in
    go (o h.metrics) (o h.trace) (o h.strings) (o h.volumes)
  where
    go : (a b c d : Bool) → fault_of offset_field_at (pick a (Some 1) (pick b (Some 2) (pick c (Some 3) (pick d (Some 4) None))))
        ≡ pick a (Some (fault 1 84)) (pick b (Some (fault 2 92)) (pick c (Some (fault 3 100)) (pick d (Some (fault 4 108)) None)))
    go a b c d = simp fault_pick

pub by_sections : (l : Layout) (h : Head) (r : Option Fault) → r ≡ outside_in_turn l h → r ≡ outside_fault l h
by_sections l h r e = e ∙ sym (in_turn l h)

-- 6 by pairs of sections, in the order in which the code compares them
abbrev pub shared_pairs : Head → Option Fault
shared_pairs h =
    pick (shares h.metrics h.trace) (Some (fault 2 92))
    (pick (shares h.metrics h.strings) (Some (fault 3 100))
    (pick (shares h.trace h.strings) (Some (fault 3 100))
    (pick (shares h.metrics h.volumes) (Some (fault 4 108))
    (pick (shares h.trace h.volumes) (Some (fault 4 108))
    (pick (shares h.strings h.volumes) (Some (fault 4 108))
    None)))))

pick-or : {A : Type 0} (a b : Bool) (x y : A) → pick (a || b) x y ≡ pick a x (pick b x y)
pick-or true b x y = refl
pick-or false b x y = refl

some-none : (p : ℕ → Bool) → any_below p 0 ≡ false
unfolding any_below
some-none p = refl

some_one : (p : ℕ → Bool) → any_below p 1 ≡ p 0
some_one p = any_more p 0 ∙ ap (λ b. b || p 0) (some-none p)

some_two : (p : ℕ → Bool) → any_below p 2 ≡ (p 0 || p 1)
some_two p = any_more p 1 ∙ ap (λ b. b || p 1) (some_one p)

some_three : (p : ℕ → Bool) → any_below p 3 ≡ ((p 0 || p 1) || p 2)
some_three p = any_more p 2 ∙ ap (λ b. b || p 2) (some_two p)

pub pairs_are : (h : Head) → overlap_fault h ≡ shared_pairs h
unfolding overlap_fault first_from
pairs_are h =
    let with : Section → ℕ → Bool = λ s k. shares (numbered h (k + 1)) s in
    rw (some-none (with h.metrics), some_one (with h.trace), some_two (with h.strings), some_three (with h.volumes))
    (simp (fault_pick, pick-or))

pub by_pairs : (h : Head) (r : Option Fault) → r ≡ shared_pairs h → r ≡ overlap_fault h
by_pairs h r e = e ∙ sym (pairs_are h)

-- 2
pub signature_right : (b : List ℕ) (r : ℕ) → r ≡ le 4 b 4 → r ≡ 0x41434353 → None ≡ signature_fault b
unfolding signature_fault
signature_right b r e q = rw (eq-eqb _ _ (sym e ∙ q))

pub signature_wrong : (b : List ℕ) (r : ℕ) → r ≡ le 4 b 4 → (r ≡ 0x41434353 → ⊥) → Some (fault 0 4) ≡ signature_fault b
unfolding signature_fault
signature_wrong b r e q = rw (ne_eqb _ _ (λ h. q (e ∙ h)))

-- 3
pub size_low : (l : Layout) (b : List ℕ) (r : ℕ) → r ≡ le 4 b 12 → r < head_end l → Some (fault 0 12) ≡ size_fault l b
unfolding size_fault
size_low l b r e h = rw (← e, lt-ltb _ _ h)

pub size_high : (l : Layout) (b : List ℕ) (r : ℕ) → r ≡ le 4 b 12 → head_end l ≤ r → size_limit < r → Some (fault 0 12) ≡ size_fault l b
unfolding size_fault
size_high l b r e h k = rw (← e, le-ltb _ _ h, lt-ltb _ _ k)

pub size_right : (l : Layout) (b : List ℕ) (r : ℕ) → r ≡ le 4 b 12 → head_end l ≤ r → r ≤ size_limit → None ≡ size_fault l b
unfolding size_fault
size_right l b r e h k = rw (← e, le-ltb _ _ h, le-ltb _ _ k)

-- how many next indexes there are
pub links_all : (l : Layout) (h : Head) → has_next l ≡ true → h.trace.count ≡ link_count l h
unfolding link_count
links_all l h e = rw e

-- and no more than trace entries
pub links_low : (l : Layout) (h : Head) → link_count l h ≤ h.trace.count
unfolding link_count
links_low l h = by_test (has_next l) (λ e. rw e (le_refl _)) (λ e. rw e (omega arith))

-- 7 and 8
pub places_few : (m n : ℕ) → m < n → Some (fault 0 96) ≡ places_fault m n
unfolding places_fault
places_few m n h = rw (lt-ltb m n h)

pub places_enough : (m n : ℕ) → n ≤ m → None ≡ places_fault m n
unfolding places_fault
places_enough m n h = rw (le-ltb m n h)

pub entries_crowded : (count entry size : ℕ) → size < count * entry → Some (fault 0 112) ≡ entries_fault count entry size
unfolding entries_fault
entries_crowded count entry size h = rw (lt-ltb size (count * entry) h)

pub entries_fit : (count entry size : ℕ) → count * entry ≤ size → None ≡ entries_fault count entry size
unfolding entries_fault
entries_fit count entry size h = rw (le-ltb size (count * entry) h)

-- what it means that 7 and 8 pass
pub places_met : (m n : ℕ) (r : Option Fault) → r ≡ places_fault m n → r ≡ None → n ≤ m
unfolding places_fault
places_met m n r e q = ltb-false m n (fault_clear 0 _ _ (sym e ∙ q))

pub entries_met : (count entry size : ℕ) (r : Option Fault) → r ≡ entries_fault count entry size → r ≡ None → count * entry ≤ size
unfolding entries_fault
entries_met count entry size r e q = ltb-false size (count * entry) (fault_clear 0 _ _ (sym e ∙ q))

pub ruleset faults =
    (signature_right, signature_wrong, size_low, size_high, size_right, places_few, places_enough, entries_crowded, entries_fit)

-- a section's length: a 32-bit count of entries, each of a 16-bit size
pub length_small : (a b : ℕ) → a < 4294967296 → b < 65536 → a * b ≤ 281474976710656
length_small a b p q =
    let h : a * b ≤ a * 65536 = mul-le-mul_left a (omega arith) in
    omega arith

pub length-fits : (a b : ℕ) → a < 4294967296 → b < 65536 → Fits w64 (a * b)
length-fits a b p q =
    let h : a * b ≤ 281474976710656 = length_small a b p q in
    omega arith

-- a section of what calls gave
pub section_same : (s : Section) (h at len count at' len' count' : ℕ)
    → s ≡ section_of h at len count → at ≡ at' → len ≡ len' → count ≡ count' → s ≡ section_of h at' len' count'
section_same s h at len count at' len' count' e q r t = rw (← q, ← r, ← t) e

pub length-same : (a b a' : ℕ) → a ≡ a' → a * b ≡ a' * b
length-same a b a' p = rw p

pub head_from : (l : Layout) (b : List ℕ) (size : ℕ) (metrics trace strings volumes : Section)
    → size ≡ le 4 b 12
    → metrics ≡ section_of (head_end l) (le 4 b 84) (le 4 b 88 * metrics_entry l) (le 4 b 88)
    → trace ≡ section_of (head_end l) (le 4 b 92) (le 4 b 96 * trace_entry l) (le 4 b 96)
    → strings ≡ section_of (head_end l) (le 4 b 100) (le 4 b 104) (le 4 b 104)
    → volumes ≡ section_of (head_end l) (le 4 b 108) (le 4 b 116) (le 4 b 112)
    → record { declared_size = size; metrics = metrics; trace = trace; strings = strings; volumes = volumes } ≡ head_of l b
unfolding head_of
head_from l b size metrics trace strings volumes e m t s u =
    λ i. record { declared_size = e i; metrics = m i; trace = t i; strings = s i; volumes = u i }
