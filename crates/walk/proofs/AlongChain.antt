-- On the way along a chain: what has been written and what is left make up the whole chain.
use mathlib.Core.Path.{◌≡◌, refl, sym, ap, ◌∙◌}
use mathlib.Core.List.{List, ◌∷◌}
use mathlib.Core.Logic.{◌⊎◌, inr}
use Prim.Native.Nat.{ℕ, zero, suc, ◌+◌, ◌-◌, ◌*◌, ◌≤◌, ◌<◌}
use native.Mathlib.Nat.{add-zero}
use native.Mathlib.Omega.{arith}
use lib.ListN.{length, get_or, set, take, drop, length-set}
use Rattle.lists.proofs.Table.{get_or_tabulate}
use Rattle.little_endian.specs.Number.{le}
use Rattle.little_endian.proofs.Number.{le-take, le-drop}
use Rattle.trace.specs.Links.{end, after, follow, nexts, InRange}
use Rattle.trace.proofs.Steps.{after-nexts}
use Rattle.walk.specs.declared.Visits.{Visits}
use Rattle.walk.specs.Walk.{chain, along, blocks}
use Rattle.walk.specs.Private.{written, ChainFits}
use Rattle.walk.proofs.Chain.{chain-step, chain_stop}

-- four bytes cut out of a list are those that stand there
pub cut_number : (s : List ℕ) (at r : ℕ) → r ≡ le 4 (take (at + 4 - at) (drop at s)) 0 → r ≡ le 4 s at
cut_number s at r e = e ∙ le-take 4 (at + 4 - at) (drop at s) 0 (omega arith) ∙ le-drop 4 at s 0 ∙ ap (le 4 s) (add-zero at)

-- the two fields of an entry that are read
pub next_is : (section : List ℕ) (size entries i r : ℕ) → i < entries → r ≡ le 4 section (i * size + 0) → r ≡ after (nexts section size entries) i
next_is section size entries i r l e = e ∙ ap (le 4 section) (add-zero (i * size)) ∙ sym (after-nexts section size entries i l)

pub block_is : (section : List ℕ) (size entries i r : ℕ) → i < entries → r ≡ le 4 section (i * size + 4) → r ≡ get_or (blocks section size entries) i 0
unfolding blocks
block_is section size entries i r l e = e ∙ sym (get_or_tabulate entries (λ k. le 4 section (k * size + 4)) i 0 l)

-- `c` is the whole chain; `steps₀` and `total₀` are what was visited before it
pub record Going (s counts c order₀ : List ℕ) (steps₀ total₀ : ℕ) (order : List ℕ) (steps sum j : ℕ) : Type 0 where
  pub left : ℕ
  pub ends : follow s left j ≡ end
  pub at : (j ≡ end) ⊎ (j < length s)
  pub placed : written order steps (chain s left j) ≡ written order₀ steps₀ c
  pub count : steps + length (chain s left j) ≡ steps₀ + length c
  pub adds : sum + along counts (chain s left j) ≡ total₀ + along counts c
  pub low : sum ≤ steps * 4_294_967_295
  pub long : length order ≡ length order₀

pub going_start : (s counts order : List ℕ) (head : ℕ) (v : Visits) → ChainFits s head v (length order)
    → Going s counts (chain s (length s) head) order v.steps v.total order v.steps v.total head
going_start s counts order head v f =
    record { left = length s; ends = f.ends; at = inr f.entry; placed = refl; count = refl; adds = refl; low = f.low; long = refl }

module _ (s counts c order₀ : List ℕ) (steps₀ total₀ : ℕ) (small : length s ≤ end) (order : List ℕ) (steps sum j : ℕ)
    (g : Going s counts c order₀ steps₀ total₀ order steps sum j) where
  -- an entry is left
  abbrev More : Type 0
  More = (k : ℕ) × (follow s k (after s j) ≡ end) × (chain s g.left j ≡ j ∷ chain s k (after s j))

  more : j < length s → More
  unfolding follow
  more h = go g.left g.ends
    where
      go : (k : ℕ) → follow s k j ≡ end → (m : ℕ) × (follow s m (after s j) ≡ end) × (chain s k j ≡ j ∷ chain s m (after s j))
      go zero e = absurd (omega arith)
      go (suc m) e = (m, e, chain-step s m j h)

  pub going_room : j < length s → steps < steps₀ + length c
  going_room h = let m = more h in omega (arith, g.count, ap length m.2)

  pub going_step : InRange s → j < length s → (x next : ℕ) → x < 4_294_967_296 → x ≡ get_or counts j 0 → next ≡ after s j
      → Going s counts c order₀ steps₀ total₀ (set order steps j) (steps + 1) (sum + x) next
  unfolding written along
  going_step sound h x next l e q =
      let m = more h in
      let k = m.0 in
      rw q
      (record {
        left = k;
        ends = m.1;
        at = sound j h;
        placed = ap (λ (n : ℕ). written (set order steps j) n (chain s k (after s j))) (omega arith) ∙ sym (ap (written order steps) m.2) ∙ g.placed;
        count = omega (arith, g.count, ap length m.2);
        adds = omega (arith, g.adds, ap (along counts) m.2, e);
        low = omega (arith, g.low);
        long = length-set order steps j ∙ g.long;
      })

  pub going_end : length s ≤ j → (steps ≡ steps₀ + length c) × (sum ≡ total₀ + along counts c) × (order ≡ written order₀ steps₀ c)
  unfolding written along
  going_end h =
      let e = chain_stop s g.left j h in
      (omega (arith, g.count, ap length e), omega (arith, g.adds, ap (along counts) e), sym (ap (written order steps) e) ∙ g.placed)
