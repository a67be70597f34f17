-- A loop that lays pairs into a list, one after another: the first k stand there, and the rest is as it was.
use mathlib.Core.Path.{◌≡◌, refl, sym, ap, ◌∙◌}
use mathlib.Core.List.{List, [], ◌∷◌, ◌++◌, append_assoc, append-nil}
use Prim.Native.Nat.{ℕ, suc, ◌+◌, ◌*◌, ◌/◌, ◌≤◌, ◌<◌, min}
use native.Mathlib.Nat.{min-zero}
use native.Mathlib.Omega.{arith}
use lib.ListN.{length, get_or, set, drop, length-append, length-drop}
use lib.Seq.{take-nil, drop-cons, set_at, take_at, take_all, append_snoc}
use Rattle.lists.specs.Pairs.{pairs_in, PairsListed}

-- k pairs of all stand in the list, `rest` is still to come
pub record Laid (all held : List ℕ) (k : ℕ) (rest b : List ℕ) : Type 0 where
  pub front : List ℕ
  pub size : length front ≡ 2 * k
  pub room : 2 * k ≤ length held
  pub whole : all ≡ front ++ rest
  pub list : b ≡ front ++ drop (2 * k) held

put_two : (front : List ℕ) (n a b x y : ℕ) (t : List ℕ) → length front ≡ n
    → set (set (front ++ a ∷ b ∷ t) n x) (n + 1) y ≡ front ++ x ∷ y ∷ t
put_two front n a b x y t e =
    ap (λ (s : List ℕ). set s (n + 1) y) (set_at front a (b ∷ t) x n e ∙ sym (append_snoc front x (b ∷ t)))
    ∙ set_at (front ++ (x ∷ [])) b t y (n + 1) (length-append front (x ∷ []) ∙ omega (arith, e)) ∙ append_snoc front x (y ∷ t)

module _ (all held : List ℕ) where
  pub laid_start : Laid all held 0 all held
  laid_start = record { front = []; size = refl; room = omega arith; whole = refl; list = refl }

  pub laid_size : {k : ℕ} {rest b : List ℕ} → Laid all held k rest b → length b ≡ length held
  laid_size v = ap length v.list ∙ simp (length-append, length-drop) (omega (arith, v.size, v.room))

  pub laid_more : {k x y : ℕ} {rest later b : List ℕ} → rest ≡ x ∷ y ∷ later → 2 * k + 1 < length held → Laid all held k rest b
      → Laid all held (k + 1) later (set (set b (2 * k) x) (2 * k + 1) y)
  laid_more {k} {x} {y} {rest} {later} {b} e l v =
      record {
        front = v.front ++ (x ∷ y ∷ []);
        size = length-append v.front (x ∷ y ∷ []) ∙ omega (arith, v.size);
        room = omega arith;
        whole = v.whole ∙ rw (e, append_assoc);
        list = rw (v.list, two) (put_two v.front (2 * k) _ _ x y _ v.size ∙ sym (append_assoc v.front (x ∷ y ∷ []) (drop (2 * (k + 1)) held)));
      }
    where
      one : suc (2 * k) ≡ 2 * k + 1
      one = omega arith

      next : suc (2 * k + 1) ≡ 2 * (k + 1)
      next = omega arith

      two : drop (2 * k) held ≡ get_or held (2 * k) 0 ∷ get_or held (2 * k + 1) 0 ∷ drop (2 * (k + 1)) held
      two =
          drop-cons held (2 * k) 0 (omega arith)
          ∙ ap (λ (s : List ℕ). get_or held (2 * k) 0 ∷ s)
          (ap (λ (n : ℕ). drop n held) one ∙ drop-cons held (2 * k + 1) 0 l ∙ ap (λ (n : ℕ). get_or held (2 * k + 1) 0 ∷ drop n held) next)

  -- all are laid
  pub laid_all : {k : ℕ} {rest b : List ℕ} → rest ≡ [] → Laid all held k rest b → b ≡ pairs_in all held
  laid_all {k} {rest} {b} e v =
      let a : all ≡ v.front = v.whole ∙ rw (e, append-nil) in
      let n : length all ≡ 2 * k = ap length a ∙ v.size in
      let m : min (2 * (length held / 2)) (length all) ≡ 2 * k = omega (arith, v.room) in
      rw (m, take_all (2 * (length held / 2)) all (omega (arith, v.room)), a) v.list

  -- there is no room for another
  pub laid_full : {k : ℕ} {rest b : List ℕ} → length held / 2 ≤ k → Laid all held k rest b → b ≡ pairs_in all held
  laid_full {k} {rest} {b} h v =
      let n : length all ≡ length v.front + length rest = ap length v.whole ∙ length-append v.front rest in
      let d : 2 * (length held / 2) ≡ 2 * k = omega (arith, v.room) in
      let m : min (2 * k) (length all) ≡ 2 * k = omega (arith, v.size) in
      rw (d, m, v.whole, take_at v.front rest (2 * k) v.size) v.list

-- no pairs
pub none_listed : (held : List ℕ) → PairsListed [] held 0 held
none_listed held = record { count = refl; pairs = rw (take-nil {A = ℕ} (2 * (length held / 2)), min-zero (2 * (length held / 2))) }
