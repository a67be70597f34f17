-- The chains that a walk lists: one entry more, where each ends, and the chains of the heads below a bound.
use mathlib.Core.Path.{◌≡◌, refl, sym, ap, ◌∙◌}
use mathlib.Core.Bool.{true, false}
use mathlib.Core.List.{List, [], ◌∷◌, ◌++◌, append_assoc, append-nil}
use mathlib.Core.Logic.{◌⊎◌, inl, inr, ⊎_elim}
use Prim.Native.Nat.{ℕ, zero, suc, ◌+◌, ◌-◌, ◌≤◌, ◌<◌}
use native.Mathlib.Omega.{arith}
use borrow.Author.Tests.{lt-ltb, le-ltb}
use lib.ListN.{length}
use Rattle.lists.specs.Those.{those}
use Rattle.lists.proofs.Those.{those_yes, those_no}
use Rattle.lists.proofs.Tests.{never}
use Rattle.lists.proofs.Pigeon.{Twice, pigeons}
use Rattle.incremental.specs.Decision.{accept}
use Rattle.trace.specs.Links.{end, after, follow, link_checks, InRange}
use Rattle.trace.proofs.Steps.{follow-add, follow-end}
use Rattle.trace.proofs.Cycles.{cycle_law}
use Rattle.trace.proofs.Accepted.{Acyclic, accepted}
use Rattle.walk.specs.Walk.{is_head, chain, flat_map, along}

-- from an entry, and from anything else
pub chain-step : (s : List ℕ) (k j : ℕ) → j < length s → chain s (suc k) j ≡ j ∷ chain s k (after s j)
unfolding chain
chain-step s k j l = rw (lt-ltb j (length s) l)

pub chain_stop : (s : List ℕ) (k j : ℕ) → length s ≤ j → chain s k j ≡ []
unfolding chain
chain_stop s zero j l = refl
chain_stop s (suc k) j l = rw (le-ltb j (length s) l)

-- once at the end, a walk stays there
pub ended : (s : List ℕ) (k m i : ℕ) → length s ≤ end → k ≤ m → follow s k i ≡ end → follow s m i ≡ end
ended s k m i small l e =
    ap (λ (x : ℕ). follow s x i) (omega arith) ∙ follow-add s k (m - k) i ∙ ap (follow s (m - k)) e ∙ follow-end s (m - k) small

module _ (s : List ℕ) (small : length s ≤ end) (sound : InRange s) where
  end-or-on : (k i : ℕ) → i < length s → (follow s k i ≡ end) ⊎ (follow s k i < length s)
  unfolding follow
  end-or-on zero i l = inr l
  end-or-on (suc k) i l =
      ⊎_elim (λ (e : after s i ≡ end). inl (ap (follow s k) e ∙ follow-end s k small)) (λ h. end-or-on k (after s i) h) (sound i l)

  -- what leads to an entry is an entry
  before : (k m i : ℕ) → k ≤ m → i < length s → follow s m i < length s → follow s k i < length s
  before k m i d l h =
      ⊎_elim (λ (e : follow s k i ≡ end). absurd (omega (arith, ended s k m i small d e))) (λ z. z) (end-or-on k i l)

  -- an entry that follows twice is on a cycle
  turned : Acyclic s → (i m : ℕ) → i < length s → follow s m i < length s → Twice (λ k. follow s k i) (suc m) → ⊥
  turned free i m l h t =
      let d = t.two - suc t.one in
      let x = follow s t.one i in
      let in_List = before t.one m i (omega (arith, t.apart, t.below)) l h in
      let round : follow s (suc d) x ≡ x =
      sym (follow-add s t.one (suc d) i) ∙ ap (λ (k : ℕ). follow s k i) (omega (arith, t.apart)) ∙ sym t.same in
      never (cc ((cycle_law s x in_List small).1 (d, round), free x in_List))

  -- as many steps as there are entries lead to the end
  reaches : Acyclic s → (i : ℕ) → i < length s → follow s (length s) i ≡ end
  reaches free i l =
      ⊎_elim
      (λ z. z)
      (λ (h : follow s (length s) i < length s).
      absurd (turned free i (length s) l h (pigeons (length s) (λ k. follow s k i) (λ k g. before k (length s) i (omega arith) l h))))
      (end-or-on (length s) i l)

pub reach-end : (at : ℕ → ℕ) (s : List ℕ) (n : ℕ) → length s ≤ end → link_checks at s ≡ accept n → (i : ℕ) → i < length s
    → follow s (length s) i ≡ end
reach-end at s n small e = let a = accepted at s n e in reaches s small a.sound a.acyclic

pub joined-append : (f : ℕ → List ℕ) (xs ys : List ℕ) → flat_map f (xs ++ ys) ≡ flat_map f xs ++ flat_map f ys
unfolding flat_map
joined-append f [] ys = refl
joined-append f (x ∷ xs) ys = rw (joined-append f xs ys, append_assoc)

pub along-append : (counts xs ys : List ℕ) → along counts (xs ++ ys) ≡ along counts xs + along counts ys
unfolding along
along-append counts [] ys = omega arith
along-append counts (x ∷ xs) ys = omega (arith, along-append counts xs ys)

-- the chains of the heads below h
abbrev pub below : List ℕ → ℕ → List ℕ
below s h = flat_map (chain s (length s)) (those (is_head s) h)

pub below_head : (s : List ℕ) (h : ℕ) → is_head s h ≡ true → below s (suc h) ≡ below s h ++ chain s (length s) h
unfolding flat_map
below_head s h e =
    ap (flat_map (chain s (length s))) (those_yes (is_head s) h e)
    ∙ joined-append (chain s (length s)) (those (is_head s) h) (h ∷ [])
    ∙ ap (λ (l : List ℕ). below s h ++ l) (append-nil (chain s (length s) h))

pub below_other : (s : List ℕ) (h : ℕ) → is_head s h ≡ false → below s (suc h) ≡ below s h
below_other s h e = ap (flat_map (chain s (length s))) (those_no (is_head s) h e)
