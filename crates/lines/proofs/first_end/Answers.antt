use mathlib.Core.Path.{◌≡◌, sym, refl, ◌∙◌}
use mathlib.Core.Bool.{true, false}
use Prim.Native.Nat.{ℕ, ◌<◌}
use lib.ListN.{length, get_or}
use borrow.Author.Tests.{eq-eqb, eqb-true}
use Rattle.std.proofs.Common.{rules}
use Rattle.lists.proofs.Count.{true-false}
use Rattle.lines.specs.Private.{is_feed}
use Rattle.lines.proofs.Lines.{ends_feed, ends_last}
use Rattle.lines.proofs.first_end.Goals as goal

pub returns-in-Some : goal.returns-in-Some
returns-in-Some c =
    let s = c.args.bytes.now in
    let i = c.in-Some.feed in
    let q : (i < length s) × (is_feed (get_or s i 0) ≡ true) × ((k : ℕ) → k < i → is_feed (get_or s k 0) ≡ false) = search rules in
    ends_feed s i (λ k h e. true-false (sym (eq-eqb (get_or s k 0) 10 e) ∙ q.2 k h)) q.0 (eqb-true (get_or s i 0) 10 q.1)

pub returns-in-None : goal.returns-in-None
returns-in-None c =
    let s = c.args.bytes.now in
    let p : (k : ℕ) → k < length s → is_feed (get_or s k 0) ≡ false = search rules in
    ends_last s (length s) (λ k h e. true-false (sym (eq-eqb (get_or s k 0) 10 e) ∙ p k h)) refl c.requires
