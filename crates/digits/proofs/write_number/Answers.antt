use mathlib.Core.Path.{sym, ap, ◌∙◌}
use Prim.Native.Nat.{ℕ}
use lib.ListN.{length-take, length-drop}
use Rattle.digits.specs.Hex.{hex_digits}
use native.Mathlib.Omega.{arith}
use Rattle.std.proofs.lemmas.Slice.{put_mid-paste}
use Rattle.digits.proofs.Hex.{length_digits}
use Rattle.digits.proofs.Laws.{written_outside, written_fits}
use Rattle.digits.proofs.write_number.Goals as goal
use Rattle.digits.proofs.write_number.Goals.{then-output-at-via-then-output-at, then-output-at-via-else-output-at+then-output-at-2}

pub returns-then-output-at : goal.returns-then-output-at
returns-then-output-at c =
    let a = c.args in
    written_outside a.output.now a.at a.width a.x
    (elim c.then-output-at.branch [ then-output-at-via-then-output-at w ↦ omega arith | then-output-at-via-else-output-at+then-output-at-2 w ↦ omega arith ])

pub returns : goal.returns
returns c =
    let a = c.args in
    put_mid-paste a.at _ a.output.now _ _ a.width
    (c.fill_digits.ensures ∙ ap (λ (w : ℕ). hex_digits w a.x) (simp (length-take, length-drop) (omega arith))) (omega arith) (sym (length_digits a.width a.x))
    ∙ sym (written_fits a.output.now a.at a.width a.x (omega arith))
