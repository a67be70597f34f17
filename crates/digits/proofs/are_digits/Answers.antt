use mathlib.Core.Path.{◌≡◌, sym, ap, ◌∙◌}
use mathlib.Core.Bool.{Bool, false, true, ◌&&◌}
use mathlib.Core.List.{List}
use Prim.Native.Nat.{ℕ, ◌+◌, ◌≤◌, ◌<◌}
use lib.ListN.{length, take, drop}
use denote.Bor.{Bor}
use Rattle.std.proofs.Common.{rules}
use Rattle.std.specs.Prelude.{Option, Some, None, MatchOption}
use Rattle.std.specs.List.{fold}
use Rattle.digits.specs.Hex.{is_digit, are_digits}
use Rattle.digits.proofs.Laws.{digits_outside, fold_digits}
use Rattle.digits.proofs.are_digits.Goals as goal

tested : (s : List ℕ) (at w : ℕ) (o : Option (Bor (List ℕ))) (r : Bool) (P : Bor (List ℕ) → Type 0)
    → MatchOption o (length s < at + w) (λ p. (at + w ≤ length s) × (p.now ≡ take w (drop at s)))
    → MatchOption o (r ≡ false) P
    → ((x : Bor (List ℕ)) → P x → r ≡ fold (λ all b. all && is_digit b) true x.now)
    → r ≡ are_digits s at w
tested s at w None r P m n f = n ∙ sym (digits_outside s at w m)
tested s at w (Some x) r P m n f = f x n ∙ ap (fold (λ all b. all && is_digit b) true) m.1 ∙ fold_digits s at w m.0

pub returns : goal.returns
returns c = tested _ _ _ c.bytes_at.result _ _ c.bytes_at.ensures c.is_some_and.ensures (λ x p. search rules)
