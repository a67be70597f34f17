-- The run times, one after another.
use mathlib.Core.Path.{◌≡◌, refl, ◌∙◌}
use mathlib.Core.List.{List}
use Prim.Native.Nat.{ℕ, zero, suc, ◌<◌}
use native.Mathlib.Omega.{arith}
use borrow.Author.Tests.{lt-ltb, le-ltb}
use lib.ListN.{get_or}
use Rattle.layout.specs.Versions.{time_count}
use Rattle.layout.specs.declared.Layout.{Layout}
use Rattle.layout.proofs.Laws.{layout_sound}
use Rattle.reader.specs.Checks.{time_at, times_in, record_of}
use Rattle.claims.specs.Times.{times_of, Times}

each : (l : Layout) (b : List ℕ) (j : ℕ) → j < 8 → get_or (times_of (times_in l b)) j 0 ≡ time_at l b j
each l b zero h = refl
each l b (suc zero) h = refl
each l b (suc (suc zero)) h = refl
each l b (suc (suc (suc zero))) h = refl
each l b (suc (suc (suc (suc zero)))) h = refl
each l b (suc (suc (suc (suc (suc zero))))) h = refl
each l b (suc (suc (suc (suc (suc (suc zero)))))) h = refl
each l b (suc (suc (suc (suc (suc (suc (suc zero))))))) h = refl
each l b (suc (suc (suc (suc (suc (suc (suc (suc j)))))))) h = absurd (omega arith)

pub times : Times
unfolding record_of
times =
    record {
      present = λ o b chains j h k. each o.layout b j h ∙ rw (lt-ltb j (time_count o.layout) k);
      absent = λ o b chains j h k. each o.layout b j h ∙ rw (le-ltb j (time_count o.layout) k);
      count = λ o b chains. refl;
      count_17 = refl;
      count_23 = refl;
      count_26 = refl;
      count_30 = refl;
      inside = λ v. (layout_sound v).run_times;
    }
