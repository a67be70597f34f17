-- The number of one name: the difference of its hash to the stored one, where the name belongs to the path, fits and is sound.
use Rattle.std.proofs.Common.{◌≡◌, ℕ, ◌+◌, ◌-◌, ◌*◌, ◌%◌, ◌^◌, ◌<◌, ◌≤◌, Bool, true, false, ◌&&◌, eqb, List, length, take, drop, sym, ◌∙◌, arith, le-ltb, lt-ltb, ne_eqb}
use Rattle.lists.specs.Count.{pick}
use Rattle.lists.proofs.Tests.{by_test}
use Rattle.layout.specs.declared.Version.{Version}
use Rattle.layout.specs.declared.Layout.{Layout}
use Rattle.path_hash.specs.Hash.{plain, wrap_sub}
use Rattle.path_hash.proofs.Laws.{plain-lt}
use Rattle.path_search.proofs.Least.{by_number, end_low}
use Rattle.names.specs.Names.{name_at, name_units, fits, sound}
use Rattle.names.proofs.Laws.{name_past}
use Rattle.query.specs.Queries.{name_sound}
use Rattle.path_search.specs.Private.{hash_end, hash_from, belongs, number_for, number_of, number_in}
use Rattle.path_search.specs.declared.Sought.{Sought}

-- how a hash ends, by version: `w` is the case that the code has matched
pub end_by : (v w : Version) (h r : ℕ) → v ≡ w → r ≡ hash_end w h → r ≡ hash_end v h
end_by v w h r q e = rw q e

-- ---- the difference to the stored hash
pub difference : (stored hash n : ℕ) → stored < 2 ^ 32 → hash < 2 ^ 32 → n < 2 ^ 32 → (n + hash) % 2 ^ 32 ≡ stored → n ≡ wrap_sub stored hash
unfolding wrap_sub
difference stored hash n a b c e = omega arith

pub number_low : (stored hash : ℕ) {n : ℕ} → n ≡ wrap_sub stored hash → n < 9 → n ≡ number_for stored hash
number_low stored hash e l = rw (← e, lt-ltb _ 9 l)

pub number-none : (stored hash : ℕ) {n : ℕ} → n ≡ wrap_sub stored hash → 9 ≤ n → 9 ≡ number_for stored hash
number-none stored hash e l = rw (← e, le-ltb _ 9 l)

-- ---- a name that belongs to a path, and one that does not
pub number-outside : (q : Sought) (path name : List ℕ) → belongs path name ≡ false → 9 ≡ number_of q path name
unfolding number_of
number-outside q path name e = rw e

pub number_inside : (q : Sought) (path name : List ℕ) {h e n : ℕ} → belongs path name ≡ true → h ≡ plain q.from (drop (length path) name)
    → e ≡ hash_end q.version h → n ≡ number_for q.stored e → n ≡ number_of q path name
unfolding number_of
number_inside q path name b h e n = rw (b, n, e, h)

-- ---- the name of an entry: `at` and `units` are its fields, and `end` is where its units end
module _ (q : Sought) (path : List ℕ) (l : Layout) (metrics strings : List ℕ) (i : ℕ) {at units : ℕ} (a : at ≡ name_at l metrics i)
    (u : units ≡ name_units l metrics i) where
  pub match_misfit : fits (length strings) at units ≡ false → 9 ≡ number_in q path l metrics strings i
  unfolding number_in name_sound
  match_misfit e = rw (← a, ← u, ← name_past strings at units e)

  -- the number by the fields, where that of the name is `n`
  match-here : {n end : ℕ} → end ≡ at + 2 * units → n ≡ number_of q path (take (end - at) (drop at strings))
      → number_in q path l metrics strings i ≡ pick (sound strings at units) n 9
  unfolding number_in name_sound
  match-here {end = end} d e =
      let l : end - at ≡ 2 * units = omega arith in
      rw (← a, ← u, e, l)

  pub match_none : {n end : ℕ} → end ≡ at + 2 * units → n ≡ number_of q path (take (end - at) (drop at strings)) → n ≡ 9
      → 9 ≡ number_in q path l metrics strings i
  match_none d e z = sym (match-here d e ∙ rw z (by_test (sound strings at units) (λ s. rw s) (λ s. rw s)))

  pub match_sound : {n end : ℕ} {r : Bool} → end ≡ at + 2 * units → n ≡ number_of q path (take (end - at) (drop at strings))
      → r ≡ sound strings at units → r ≡ true → n ≡ number_in q path l metrics strings i
  match_sound d e s z = sym (match-here d e ∙ rw (sym s ∙ z))

  pub match_unsound : {n end : ℕ} {r : Bool} → end ≡ at + 2 * units → n ≡ number_of q path (take (end - at) (drop at strings))
      → r ≡ sound strings at units → r ≡ false → 9 ≡ number_in q path l metrics strings i
  match_unsound d e s z = sym (match-here d e ∙ rw (sym s ∙ z))

-- for the code: what each of its tests says
pub ruleset numbers = (match_misfit, match_none, match_sound, match_unsound)

-- the number says by which number a name matches
pub number_test : (q : Sought) (path name : List ℕ) (n : ℕ) → q.from < 2 ^ 32 → q.stored < 2 ^ 32 → n < 9
    → (belongs path name && eqb ((hash_from q path name + n) % 2 ^ 32) q.stored) ≡ eqb (number_of q path name) n
unfolding number_of
number_test q path name n a b h =
    by_test (belongs path name)
    (λ t. rw t (by_number (hash_from q path name) q.stored n (end_low q.version _ (plain-lt (drop (length path) name) q.from a)) b h))
    (λ t. rw t (sym (ne_eqb 9 n (λ z. omega arith))))
