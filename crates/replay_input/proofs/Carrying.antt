-- Bytes carried to the front of a buffer: the place that is read lies ahead of those written.
use Rattle.std.proofs.Common.{◌≡◌, ℕ, suc, ◌+◌, ◌<◌, ◌≤◌, List, [], ◌∷◌, ◌++◌, length, get_or, take, drop, set, sym, ap, ◌∙◌, append_assoc, arith, length-append, length-drop, length-take-le, get_or-drop, drop-cons, take-suc, get_or-append-add}
use lib.Seq.{set-append_seam}

-- k bytes from `used` on stand at the front
abbrev pub moved_up : List ℕ → ℕ → ℕ → List ℕ
moved_up b used k = take k (drop used b) ++ drop k b

module _ (b : List ℕ) (used k : ℕ) (l : used + k < length b) where
  front : length (take k (drop used b)) ≡ k
  front = length-take-le k (drop used b) (omega (arith, length-drop used b))

  -- the next byte is still where it was
  pub carried_read : get_or (moved_up b used k) (used + k) 0 ≡ get_or (drop used b) k 0
  carried_read =
      let e : used + k ≡ length (take k (drop used b)) + used = omega (arith, front) in
      ap (λ (j : ℕ). get_or (moved_up b used k) j 0) e
      ∙ get_or-append-add (take k (drop used b)) (drop k b) used 0
      ∙ get_or-drop k b used 0
      ∙ ap (λ (j : ℕ). get_or b j 0) (omega arith)
      ∙ sym (get_or-drop used b k 0)

  pub carried_step : (b' : List ℕ) → b' ≡ moved_up b used k → set b' k (get_or b' (used + k) 0) ≡ moved_up b used (k + 1)
  carried_step b' e =
      let s = drop used b in
      let j : k + 1 ≡ suc k = omega arith in
      rw e
      (ap (set (moved_up b used k) k) carried_read
      ∙ ap (λ (d : List ℕ). set (take k s ++ d) k (get_or s k 0)) (drop-cons b k 0 (omega arith))
      ∙ ap (λ (n : ℕ). set (take k s ++ get_or b k 0 ∷ drop (suc k) b) n (get_or s k 0)) (sym front)
      ∙ set-append_seam (take k s) (get_or b k 0) (drop (suc k) b) (get_or s k 0)
      ∙ sym (append_assoc (take k s) (get_or s k 0 ∷ []) (drop (suc k) b))
      ∙ ap (λ (d : List ℕ). d ++ drop (suc k) b) (sym (take-suc s k 0 (omega (arith, length-drop used b))))
      ∙ ap (moved_up b used) (sym j))

pub carried_size : (b : List ℕ) (used k : ℕ) (b' : List ℕ) → used + k ≤ length b → b' ≡ moved_up b used k → length b' ≡ length b
carried_size b used k b' l e =
    omega (
      arith,
      ap length e,
      length-append (take k (drop used b)) (drop k b),
      length-take-le k (drop used b) (omega (arith, length-drop used b)),
      length-drop k b,
    )
