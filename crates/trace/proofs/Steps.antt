-- Laws of the next indexes and of the steps along them.
use mathlib.Core.Path.{◌≡◌, refl, ap, ◌∙◌}
use mathlib.Core.List.{List}
use Prim.Native.Nat.{ℕ, zero, suc, ◌+◌, ◌*◌, ◌≤◌, ◌<◌}
use native.Mathlib.Nat.{zero-add, suc-add, suc-mul, zero-mul}
use native.Mathlib.Omega.{arith}
use lib.ListN.{length, get_or-eq_default}
use Rattle.lists.specs.Pairs.{first_of}
use Rattle.lists.proofs.Table.{length-tabulate, get_or_tabulate}
use Rattle.little_endian.specs.Number.{le}
use Rattle.trace.specs.Links.{end, nexts, firsts, after, follow}

pub length-nexts : (section : List ℕ) (size entries : ℕ) → length (nexts section size entries) ≡ entries
unfolding nexts
length-nexts section size entries = length-tabulate entries (λ i. le 4 section (i * size))

pub after-nexts : (section : List ℕ) (size entries i : ℕ) → i < entries → after (nexts section size entries) i ≡ le 4 section (i * size)
unfolding nexts
after-nexts section size entries i l = get_or_tabulate entries (λ k. le 4 section (k * size)) i end l

pub length-firsts : (pairs : List ℕ) (entries : ℕ) → length (firsts pairs entries) ≡ entries
unfolding firsts
length-firsts pairs entries = length-tabulate entries (first_of pairs)

-- for `search`, at what counts such a list
pub ruleset listed = (length-nexts, length-firsts)

-- j is reached from i in one step or more
abbrev pub Reach : List ℕ → ℕ → ℕ → Type 0
Reach s i j = (k : ℕ) × (follow s (suc k) i ≡ j)

pub follow_one : (s : List ℕ) (i : ℕ) → follow s 1 i ≡ after s i
unfolding follow
follow_one s i = refl

pub follow-add : (s : List ℕ) (a b i : ℕ) → follow s (a + b) i ≡ follow s b (follow s a i)
unfolding follow
follow-add s zero b i = rw zero-add
follow-add s (suc a) b i = rw suc-add (follow-add s a b (after s i))

-- one step more, at the far end
pub follow-suc : (s : List ℕ) (k i j : ℕ) → follow s k i ≡ j → follow s (suc k) i ≡ after s j
follow-suc s k i j e = ap (λ (m : ℕ). follow s m i) (omega arith) ∙ follow-add s k 1 i ∙ follow_one s (follow s k i) ∙ ap (after s) e

-- nothing comes after the end
pub follow-end : (s : List ℕ) (k : ℕ) → length s ≤ end → follow s k end ≡ end
unfolding follow
follow-end s zero l = refl
follow-end s (suc k) l = rw (get_or-eq_default s end l) (follow-end s k l)

-- m times the steps that lead from i to i
pub follow-times : (s : List ℕ) (k i m : ℕ) → follow s k i ≡ i → follow s (m * k) i ≡ i
unfolding follow
follow-times s k i zero e = rw zero-mul
follow-times s k i (suc m) e = rw (suc-mul, follow-add) (ap (follow s k) (follow-times s k i m e) ∙ e)
