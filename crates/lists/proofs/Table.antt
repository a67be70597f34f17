-- A list given by its entries.
use mathlib.Core.Path.{◌≡◌, refl, sym, ap, ◌∙◌}
use mathlib.Core.List.{List, [], ◌∷◌}
use Prim.Native.Nat.{ℕ, zero, suc, ◌-◌, ◌<◌}
use native.Mathlib.Nat.{le_of_eq, le_of_suc-le-suc, not-suc-le-zero}
use native.Mathlib.Decide.{ℕ_discrete}
use native.Mathlib.Omega.{arith}
use borrow.Author.Tests.{eq-eqb, ne_eqb}
use lib.Dec.{eqb}
use lib.ListN.{length, get_or, set, take, drop, replicate, length-drop, length-set}
use lib.Seq.{take_all, ext_get_or, get_or-set_same, get_or-set_other}
use Rattle.lists.specs.Count.{pick}
use Rattle.lists.specs.Table.{tabulate}

pub length-tabulate : (n : ℕ) (f : ℕ → ℕ) → length (tabulate n f) ≡ n
unfolding tabulate
length-tabulate zero f = refl
length-tabulate (suc n) f = ap suc (length-tabulate n (λ k. f (suc k)))

pub get_or_tabulate : (n : ℕ) (f : ℕ → ℕ) (k d : ℕ) → k < n → get_or (tabulate n f) k d ≡ f k
unfolding tabulate
get_or_tabulate zero f k d l = absurd (not-suc-le-zero l)
get_or_tabulate (suc n) f zero d l = refl
get_or_tabulate (suc n) f (suc k) d l = get_or_tabulate n (λ i. f (suc i)) k d (le_of_suc-le-suc l)

-- what a part `&s[i..]` holds
pub rest_all : (i : ℕ) (s : List ℕ) → take (length s - i) (drop i s) ≡ drop i s
rest_all i s = take_all (length s - i) (drop i s) (le_of_eq (length-drop i s))

-- within a list no default matters
pub get_or_any : (s : List ℕ) (i d e : ℕ) → i < length s → get_or s i d ≡ get_or s i e
get_or_any [] i d e h = absurd (not-suc-le-zero h)
get_or_any (x ∷ s) zero d e h = refl
get_or_any (x ∷ s) (suc i) d e h = get_or_any s i d e (le_of_suc-le-suc h)

-- entries that agree make one list
pub tabulate-same : (n : ℕ) (f g : ℕ → ℕ) → ((k : ℕ) → k < n → f k ≡ g k) → tabulate n f ≡ tabulate n g
tabulate-same n f g h =
    ext_get_or 0 (tabulate n f) (tabulate n g) (length-tabulate n f ∙ sym (length-tabulate n g))
    (λ k l. let l' : k < n = rw (length-tabulate n f) at l in get_or_tabulate n f k 0 l' ∙ h k l' ∙ sym (get_or_tabulate n g k 0 l'))

pub tabulate-replicate : (n v : ℕ) → tabulate n (λ _. v) ≡ replicate n v
unfolding tabulate
tabulate-replicate zero v = refl
tabulate-replicate (suc n) v = ap (λ (s : List ℕ). v ∷ s) (tabulate-replicate n v)

-- a store at j; past the end there is none
pub set-tabulate : (n : ℕ) (f : ℕ → ℕ) (j v : ℕ) → set (tabulate n f) j v ≡ tabulate n (λ k. pick (eqb j k) v (f k))
set-tabulate n f j v =
    ext_get_or 0 (set (tabulate n f) j v) (tabulate n g) (size ∙ sym (length-tabulate n g))
    (λ k h. at k (omega (arith, size)) (ℕ_discrete j k))
  where
    g : ℕ → ℕ
    g k = pick (eqb j k) v (f k)

    size : length (set (tabulate n f) j v) ≡ n
    size = length-set (tabulate n f) j v ∙ length-tabulate n f

    at : (k : ℕ) → k < n → Dec (j ≡ k) → get_or (set (tabulate n f) j v) k 0 ≡ get_or (tabulate n g) k 0
    at k l (yes e) =
        rw (get_or_tabulate n g k 0 l, eq-eqb j k e, ← e) (get_or-set_same (tabulate n f) j v 0 (omega (arith, length-tabulate n f)))
    at k l (no e) =
        rw (get_or_tabulate n g k 0 l, ne_eqb j k e) (get_or-set_other (tabulate n f) j k v 0 (λ z. e (sym z)) ∙ get_or_tabulate n f k 0 l)
