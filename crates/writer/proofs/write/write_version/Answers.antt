-- 3, then 4, and the rest by a draft.
use mathlib.Core.Path.{◌≡◌, refl}
use mathlib.Core.List.{List}
use native.Mathlib.Omega.{arith}
use Prim.Native.Nat.{ℕ, ◌<◌, ◌^◌}
use Rattle.incremental.specs.Decision.{refuse}
use Rattle.writer.specs.LaidOut.{Description, Numbers}
use Rattle.writer.specs.Private.{Widths}
use Rattle.incremental.specs.Plan.{decided}
use Rattle.incremental.specs.declared.Refusal.{Refusal}
use Rattle.writer.specs.Writes.{description_of, output_after}
use Rattle.writer.proofs.Answering.{drafted_exit, read_refused, given_there, given_missing, plan_is, carried_is, version_large, version_endless}
use Rattle.writer.proofs.write.write_version.Goals as goal

place_kept : (file output : List ℕ) (f : Refusal) → output ≡ output_after (decided (refuse f)) file output
place_kept file output f = refl

-- the numbers of a description have their widths, those of its slices and the others
record Others (d : Description) : Type 0 where
  hash : d.stored_hash < 256 ^ 4
  time : d.run_time < 256 ^ 8
  count : d.run_count < 256 ^ 4
  volumes : d.volume_count < 256 ^ 4

numbers_of : (d : Description) → Widths d.name d.metrics d.trace → Others d → Numbers d
numbers_of d w o =
    record { units = w.units; hash = o.hash; time = o.time; count = o.count; metrics = w.fields; trace = w.links; volumes = o.volumes }

pub returns-in_err-plan : goal.returns-in_err-plan
returns-in_err-plan c =
    let q = given_missing _ _ _ _ c.in_err-plan.ensures in
    drafted_exit _ _ _ _ _ _ c.from_residual.ensures.1
    (rw q.1 (read_refused _ _ _ _ (version_large c.args.version c.requires (description_of c.args.contents)
    (numbers_of (description_of c.args.contents) c.have_widths.ensures (record { hash = omega arith; time = omega arith; count = omega arith; volumes = omega arith })) _ _ c.of-layout.ensures _ c.plan_of.ensures q.0)))
    place_kept

pub returns-in_err-units : goal.returns-in_err-units
returns-in_err-units c =
    let q = given_missing _ _ _ _ c.in_err-units.ensures in
    let p = plan_is c.of-layout.result (description_of c.args.contents) _ _ c.plan_of.ensures (given_there _ _ _ _ c.in_ok-plan.ensures) in
    drafted_exit _ _ _ _ _ _ c.from_residual-in_err-units.ensures.1
    (rw q.1 (read_refused _ _ _ _ (version_endless c.args.version c.requires (description_of c.args.contents)
    (numbers_of (description_of c.args.contents) c.have_widths.ensures (record { hash = omega arith; time = omega arith; count = omega arith; volumes = omega arith })) _ _ c.of-layout.ensures p.1 _ c.carried_units.ensures q.0)))
    place_kept

pub invariant_of-draft : goal.invariant_of-draft
invariant_of-draft c =
    let p = plan_is c.of-layout.result (description_of c.args.contents) _ _ c.plan_of.ensures (given_there _ _ _ _ c.in_ok-plan.ensures) in
    let n = carried_is _ _ _ c.carried_units.ensures (given_there _ _ _ _ c.in_ok-units.ensures) in
    record {
      ready = record {
        laid = c.of-layout.ensures;
        writable = rw c.of-layout.ensures c.requires;
        numbers = numbers_of (description_of c.args.contents) c.have_widths.ensures (record { hash = omega arith; time = omega arith; count = omega arith; volumes = omega arith });
        plan = p.0;
        small = p.1;
        named = n.0;
        short = n.1;
      };
    }
