-- What holds of every version's constants. Above this crate it is cited, and no proof goes by cases of the version.
use mathlib.Core.Path.{◌≡◌, refl}
use mathlib.Core.Logic.{◌⊎◌, inl, inr}
use Prim.Native.Nat.{ℕ, ◌*◌, ◌^◌, ◌≤◌, ◌<◌}
use native.Mathlib.Nat.{mul-le-mul_left}
use native.Mathlib.Omega.{arith}
use Rattle.layout.specs.declared.Version.{Version}
use Rattle.layout.specs.declared.Version.TheVariants.{V17, V23, V26, V30}
use lib.Dec.{eqb}
use Rattle.lists.proofs.Tests.{by_test, never}
use Rattle.layout.specs.declared.Layout.{Layout}
use Rattle.layout.specs.Versions.{layout_of, form_required, forms, form_at}
use Rattle.layout.specs.Sound.{SoundLayout}
use Rattle.std.specs.Prelude.{Some}

pub layout_sound : (v : Version) → SoundLayout (layout_of v)
layout_sound V17 = omega arith
layout_sound V23 = omega arith
layout_sound V26 = omega arith
layout_sound V30 = omega arith

-- 88 bytes tell the form where a version has several
pub form_required_lem : (v : Version) → (form_required (layout_of v) ≡ 0) ⊎ (form_required (layout_of v) ≡ 88)
form_required_lem V17 = inl refl
form_required_lem V23 = inl refl
form_required_lem V26 = inl refl
form_required_lem V30 = inr refl

-- a head form that is known is sound; a second form would be a second step here
pub form_sound : (start : ℕ) (l : Layout) → form_at start forms ≡ Some l → SoundLayout l
form_sound start l e =
    by_test (eqb start 304) (λ t. let r = rw t at e in let q : layout_of V30 ≡ l = cc in rw (← q) (layout_sound V30)) (λ t. let r = rw t at e in never cc)

-- an entry starts where no sum with it wraps: a 32-bit index times a 16-bit size
pub entry_low : (i size : ℕ) → i < 2 ^ 32 → size < 2 ^ 16 → i * size < 2 ^ 48
entry_low i size h l = let q : i * size ≤ i * 2 ^ 16 = mul-le-mul_left i (omega arith) in omega arith
