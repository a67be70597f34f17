use mathlib.Core.Path.{◌≡◌, refl, sym, ap, ◌∙◌}
use Prim.Native.Nat.{ℕ, ◌+◌, ◌*◌, ◌^◌, ◌≤◌, ◌<◌}
use mathlib.Core.List.{List}
use native.Mathlib.Nat.{zero-add}
use native.Mathlib.Numerals.{add-one}
use native.Mathlib.Omega.{arith}
use borrow.Author.Count.{below_more}
use lib.ListN.{length, get_or}
use Rattle.std.specs.Prelude.{Some}
use Rattle.digits.specs.Hex.{hex_at}
use Rattle.digits.specs.Private.{Digits}
use Rattle.digits.proofs.Hex.{hex_room, digit_law}
use Rattle.digits.proofs.Laws.{digits_other, digits_all}
use Rattle.digits.proofs.Values.{Valued, value_digit, value_other}
use Rattle.digits.proofs.number_of.Goals as goal

-- one digit more fits
room : (s : List ℕ) (k x : ℕ) → k < length s → length s ≤ 16 → Digits s 0 k → x ≡ hex_at k s 0 → 16 * x + 15 < 2 ^ 64
room s k x l m d e = omega (arith, e, hex_room k s 0 (omega arith) d)

valued : (b : goal.In_ok-x) → Valued (get_or b.args.digits.now b.loop-b.b-index 0) b.in_ok-x.field-0
valued b = value_digit _ _ (sym b.value_of.ensures ∙ b.in_ok-x.was)

pub loop-b-init : goal.loop-b-init
unfolding hex_at
loop-b-init c = ((λ k l. absurd (omega arith)), refl)

pub overflow_mul-x : goal.overflow_mul-x
overflow_mul-x c = omega (arith, room _ _ _ c.loop-b-test.true c.requires c.loop-b.invariant.0 c.loop-b.invariant.1)

pub returns-in_err-x : goal.returns-in_err-x
returns-in_err-x c =
    let s = c.args.digits.now in
    let i = c.loop-b.b-index in
    let d = value_other (get_or s i 0) (sym c.value_of.ensures ∙ c.in_err-x.was) in
    c.from_residual.ensures ∙ rw (digits_other s 0 (length s) i (omega arith) (omega arith) (rw (zero-add i) d))

pub overflow_add-x : goal.overflow_add-x
overflow_add-x c = let v = valued c in omega (arith, room _ _ _ c.loop-b-test.true c.requires c.loop-b.invariant.0 c.loop-b.invariant.1, v.value, (digit_law _ v.digit).small)

pub loop-b-preserved : goal.loop-b-preserved
unfolding hex_at
loop-b-preserved c =
    let i = c.loop-b.b-index in
    let v = valued c in
    (below_more _ _ c.loop-b.invariant.0 (rw (zero-add i) v.digit), rw (add-one i, zero-add i) (omega (arith, c.loop-b.invariant.1, v.value)))

pub returns : goal.returns
returns c =
    let s = c.args.digits.now in
    let e : c.loop-b.b-index ≡ length s = omega arith in
    let d = digits_all s 0 (length s) (omega arith) (λ k l. c.loop-b.invariant.0 k (omega arith)) in
    rw d (ap Some (c.loop-b.invariant.1 ∙ ap (λ (k : ℕ). hex_at k s 0) e))
