-- How many working places: of all checks only 7 counts them, so that a refusal with 7 says that they are few; and where they are, 7 is said.
use mathlib.Core.Path.{◌≡◌, refl, sym, ap, ◌∙◌}
use mathlib.Core.List.{List}
use Prim.Native.Nat.{ℕ, ◌≤◌, ◌<◌}
use native.Mathlib.Omega.{arith}
use lib.ListN.{length}
use Rattle.layout.specs.Head.{trace_count_at}
use Rattle.layout.specs.Versions.{head_end}
use Rattle.incremental.specs.Decision.{accept, refuse, refusal}
use Rattle.incremental.specs.Plan.{Answer, decided, wants, run}
use Rattle.incremental.proofs.Plan.{run_then, answer_then, reach_here, check_fault}
use Rattle.sections.specs.Fields.{link_count}
use Rattle.sections.proofs.Cases.{places_few}
use Rattle.head.specs.Checks.{open_plan}
use Rattle.head.proofs.Facts.{open_facts}
use Rattle.head.specs.declared.checks.Opening.{Opening}
use Rattle.query.specs.Queries.{places_needed}
use Rattle.reader.specs.Verdict.{values_of, answer_values}
use Rattle.reader.proofs.Values.{refused_answer, same_values}
use Rattle.reader.specs.Checks.{prefix_answer, counts_plan, rest_plan, read_plan}
use Rattle.claims.specs.Places.{PlacesSay}
use Rattle.lists.proofs.Tests.{never}
use Rattle.claims.proofs.Offsets.{Few, each_placed}
use Rattle.std.specs.Prelude.{Err, None, Some}
use Rattle.incremental.specs.declared.Stop.TheVariants.{Refused}

-- check 7 refuses where there are fewer places than entries with a next index
room_short : (m : ℕ) (o : Opening) (p : List ℕ) → head_end o.layout ≤ length p → m < link_count o.layout o.head
    → run (rest_plan m o) p ≡ decided (refuse (refusal 7 0 trace_count_at))
unfolding rest_plan counts_plan
room_short m o p w h =
    sym
    (answer_then (counts_plan m o) _ p _
    (reach_here (head_end o.layout) _ p w ∙ check_fault 7 _ _ p 0 _ (sym (places_few m (link_count o.layout o.head) h))))

pub places_say : PlacesSay
unfolding read_plan
places_say p buffer n v after q r =
    record {
      enough = λ k a l i at z. let w = few i at z in let e = w.1 in let s : link_count w.0.layout w.0.head ≡ k = same a e in omega (arith, w.2);
      short = λ k a l. go (run open_plan p) refl a l;
      unknown = λ a i at z. let w = few i at z in let s = needed w.1 in never (cc);
    }
  where
    m : ℕ
    m = length buffer

    few : (i at : ℕ) → v ≡ Err (Refused (refusal 7 i at)) → Few p m
    few i at z = ((each_placed p m).refuses _ (refused_answer (prefix_answer p m) (refusal 7 i at) (ap values_of (sym z) ∙ r.verdict))).2 refl

    needed : {o : Opening} → run open_plan p ≡ decided (accept o) → n ≡ Some (link_count o.layout o.head)
    needed e = q.answer ∙ rw e

    same : {o : Opening} {k : ℕ} → n ≡ Some k → run open_plan p ≡ decided (accept o) → link_count o.layout o.head ≡ k
    same a e = let s = needed e in cc

    go : (x : Answer Opening) → run open_plan p ≡ x → {k : ℕ} → n ≡ Some k → m < k → v ≡ Err (Refused (refusal 7 0 trace_count_at))
    go (decided (accept o)) e a l =
        let s = same a e in
        let rest : prefix_answer p m ≡ run (rest_plan m o) p = run_then open_plan (rest_plan m) p ∙ rw e in
        same_values v (Err (Refused (refusal 7 0 trace_count_at)))
        (r.verdict ∙ ap answer_values (rest ∙ room_short m o p ((open_facts p).holds o e).whole (omega arith)))
    go (decided (refuse f)) e a l = let s : places_needed p ≡ None = rw e in never (cc q.answer)
    go (wants j) e a l = let s : places_needed p ≡ None = rw e in never (cc q.answer)
