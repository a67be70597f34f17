-- Start lines are stored one after another: those stored and those still to come make up all that the bytes begin with.
use Rattle.std.proofs.Common.{◌≡◌, ℕ, suc, ◌+◌, ◌-◌, ◌*◌, ◌<◌, ◌≤◌, true, false, List, [], ◌∷◌, ◌++◌, map, length, take, drop, set, sym, refl, ap, ◌∙◌, append_assoc, append-nil, add-zero, arith, length-append, length-drop, drop-drop}
use mathlib.Core.List.{map-append}
use lib.ListN.{length-map}
use lib.Seq.{sets, length-sets}
use Rattle.lines.specs.Lines.{is_line, leading}
use Rattle.lines.proofs.Leading.{line_long, leading_more, leading_none}
use Rattle.replay_input.specs.Starts.{time_in, board_in, room, TakesStarts}

-- one number more
sets_more : (l : List ℕ) (i : ℕ) (vs : List ℕ) (v : ℕ) → sets l i (vs ++ v ∷ []) ≡ set (sets l i vs) (i + length vs) v
sets_more l i [] v = ap (λ (j : ℕ). set l j v) (sym (add-zero i))
sets_more l i (u ∷ vs) v = sets_more (set l i u) (suc i) vs v ∙ ap (λ (j : ℕ). set (sets (set l i u) (suc i) vs) j v) (omega arith)

-- the first k start lines are stored
pub record Storing (s : List ℕ) (n held : ℕ) (times boards : List ℕ) (k : ℕ) (times' boards' : List ℕ) : Type 0 where
  pub within : k ≤ n
  pub reach : 19 * k ≤ length s
  pub done : List (List ℕ)
  pub many : length done ≡ k
  pub split : leading 18 n s ≡ done ++ leading 18 (n - k) (drop (19 * k) s)
  pub times'_are : times' ≡ sets times held (map time_in done)
  pub boards'_are : boards' ≡ sets boards held (map board_in done)

pub storing_start : (s : List ℕ) (n held : ℕ) (times boards : List ℕ) → Storing s n held times boards 0 times boards
storing_start s n held times boards =
    let e : n - 0 ≡ n = omega arith in
    record { within = omega arith; reach = omega arith; done = []; many = refl; split = rw e; times'_are = refl; boards'_are = refl }

module _ (s : List ℕ) (n held : ℕ) (times boards : List ℕ) (k : ℕ) (times' boards' : List ℕ) (c : Storing s n held times boards k times' boards') where
  pub storing_fits : is_line 18 (take 19 (drop (19 * k) s)) ≡ true → 19 * (k + 1) ≤ length s
  storing_fits e = omega (arith, line_long 18 (drop (19 * k) s) e, length-drop (19 * k) s)

  pub storing_sizes : (length times' ≡ length times) × (length boards' ≡ length boards)
  storing_sizes = (
    ap length c.times'_are ∙ length-sets times held (map time_in c.done),
    ap length c.boards'_are ∙ length-sets boards held (map board_in c.done),
  )

  more : k < n → is_line 18 (take 19 (drop (19 * k) s)) ≡ true → leading 18 (n - k) (drop (19 * k) s) ≡ take 19 (drop (19 * k) s) ∷ leading 18 (n - (k + 1)) (drop (19 * (k + 1)) s)
  more l e = let d : n - k ≡ suc (n - (k + 1)) = omega arith in
      let m : 19 * k + 19 ≡ 19 * (k + 1) = omega arith in
      rw (d, ← m, ← drop-drop 19 (19 * k) s) (leading_more 18 (n - (k + 1)) (drop (19 * k) s) e)

  pub storing_step : (times'' boards'' : List ℕ) (line : List ℕ) → k < n → line ≡ take 19 (drop (19 * k) s) → is_line 18 line ≡ true
      → times'' ≡ set times' (held + k) (time_in line) → boards'' ≡ set boards' (held + k) (board_in line)
      → Storing s n held times boards (k + 1) times'' boards''
  storing_step times'' boards'' line l q e x y =
      let f : is_line 18 (take 19 (drop (19 * k) s)) ≡ true = ap (is_line 18) (sym q) ∙ e in
      record {
        within = omega arith;
        reach = storing_fits f;
        done = c.done ++ line ∷ [];
        many = length-append c.done (line ∷ []) ∙ omega (arith, c.many);
        split =
            c.split
            ∙ ap (λ (z : List (List ℕ)). c.done ++ z) (more l f ∙ ap (λ (z : List ℕ). z ∷ leading 18 (n - (k + 1)) (drop (19 * (k + 1)) s)) (sym q))
            ∙ sym (append_assoc c.done (line ∷ []) (leading 18 (n - (k + 1)) (drop (19 * (k + 1)) s)));
        times'_are = x ∙ stored times time_in c.times'_are;
        boards'_are = y ∙ stored boards board_in c.boards'_are;
      }
    where
      stored : (l : List ℕ) (f : List ℕ → ℕ) {l' : List ℕ} → l' ≡ sets l held (map f c.done)
          → set l' (held + k) (f line) ≡ sets l held (map f (c.done ++ line ∷ []))
      stored l f z =
          ap (λ (u : List ℕ). set u (held + k) (f line)) z
          ∙ ap (λ (j : ℕ). set (sets l held (map f c.done)) (held + j) (f line)) (sym (length-map c.done f ∙ c.many))
          ∙ sym (sets_more l held (map f c.done) (f line))
          ∙ ap (sets l held) (sym (map-append f c.done (line ∷ [])))

  -- no start line is left
  ended : leading 18 (n - k) (drop (19 * k) s) ≡ [] → leading 18 n s ≡ c.done
  ended e = c.split ∙ ap (λ (z : List (List ℕ)). c.done ++ z) e ∙ append-nil c.done

  stored-all : n ≡ room held times boards → leading 18 (n - k) (drop (19 * k) s) ≡ [] → TakesStarts s held times boards k times' boards'
  stored-all m e =
      let d : leading 18 (room held times boards) s ≡ c.done = ap (λ (j : ℕ). leading 18 j s) (sym m) ∙ ended e in
      record {
        count = sym (ap length d ∙ c.many);
        times'_are = c.times'_are ∙ ap (λ (z : List (List ℕ)). sets times held (map time_in z)) (sym d);
        boards'_are = c.boards'_are ∙ ap (λ (z : List (List ℕ)). sets boards held (map board_in z)) (sym d);
      }

  pub storing_stop : n ≡ room held times boards → is_line 18 (take 19 (drop (19 * k) s)) ≡ false → TakesStarts s held times boards k times' boards'
  storing_stop m e = stored-all m (leading_none 18 (n - k) (drop (19 * k) s) e)

  pub storing_full : n ≡ room held times boards → n ≤ k → TakesStarts s held times boards n times' boards'
  unfolding leading
  storing_full m l =
      let e : k ≡ n = omega (arith, c.within) in
      rw e at (stored-all m (let d : n - k ≡ 0 = omega arith in rw d))
