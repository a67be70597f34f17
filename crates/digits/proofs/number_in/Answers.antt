use mathlib.Core.Path.{◌≡◌, ◌∙◌}
use mathlib.Core.List.{List}
use Prim.Native.Nat.{ℕ, ◌+◌, ◌≤◌, ◌<◌}
use native.Mathlib.Omega.{arith}
use lib.ListN.{length, take, drop}
use denote.Bor.{Bor}
use Rattle.std.proofs.Common.{rules}
use Rattle.std.specs.Prelude.{Option, Some, None, MatchOption}
use Rattle.std.specs.Option.{unwrap_or}
use Rattle.lists.specs.Count.{pick}
use Rattle.digits.specs.Hex.{hex_at, are_digits, number_in}
use Rattle.digits.proofs.Laws.{number_other, digits_outside, number_part}
use Rattle.digits.proofs.number_in.Goals as goal

read : (s : List ℕ) (at w : ℕ) (o : Option (Bor (List ℕ))) (q : Option ℕ) (P : Bor (List ℕ) → Type 0)
    → w ≤ 16
    → MatchOption o (length s < at + w) (λ p. (at + w ≤ length s) × (p.now ≡ take w (drop at s)))
    → MatchOption o (q ≡ None) P
    → ((x : Bor (List ℕ)) → P x → q ≡ pick (are_digits x.now 0 (length x.now)) (Some (hex_at (length x.now) x.now 0)) None)
    → unwrap_or q 0 ≡ number_in s at w
read s at w None q P l m n f = rw n (number_other s at w (digits_outside s at w m))
read s at w (Some x) q P l m n f = number_part s at w _ m.0 m.1 q (f x n) l

pub returns : goal.returns
returns c =
    c.unwrap_or.ensures
    ∙ read _ _ _ c.bytes_at.result _ _ (omega arith) c.bytes_at.ensures c.and_then.ensures (λ x p. search rules)
