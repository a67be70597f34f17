-- The working buffer after what isn't an acceptance, and the trace links of an allowed file.
use mathlib.Core.Path.{◌≡◌}
use mathlib.Core.List.{List}
use Prim.Native.Nat.{ℕ}
use native.Mathlib.Omega.{arith}
use Rattle.incremental.specs.Decision.{accept, refuse}
use Rattle.incremental.specs.Plan.{Answer, decided, wants}
use Rattle.head.specs.declared.checks.Opening.{Opening}
use Rattle.layout.specs.Versions.{trace_entry}
use Rattle.sections.specs.Fields.{link_count, part}
use Rattle.lists.specs.Filled.{filled}
use Rattle.trace.specs.Links.{chains}
use Rattle.trace.proofs.Steps.{length-nexts}
use Rattle.reader.specs.Verdict.{Acceptable, Reads}
use Rattle.reader.specs.Checks.{nexts_in, link_at}
use Rattle.reader.specs.Allowed.{Allowed}
use Rattle.reader.proofs.Values.{same_values}
use Rattle.reader.proofs.Taken.{links_few}
use Rattle.reader.proofs.Free.{free_clear}
use Rattle.reader.proofs.Rest.{links_pass}
use Rattle.reader.proofs.Allowed.{opens}
use Rattle.claims.specs.Claims.{NotAccepted, Linked}
use Rattle.reader.specs.declared.verdict.Acceptance.{Acceptance}
use Rattle.std.specs.Prelude.{Ok, Result}
use Rattle.incremental.specs.declared.Stop.{Stop}

pub not_accepted_filled : (x : Answer Acceptable) (m : ℕ) (v : Result Acceptance Stop) (after : List ℕ) → Reads x m v after → NotAccepted v → after ≡ filled m
not_accepted_filled (decided (accept x)) m v after r n = absurd (n x.fields (same_values v (Ok x.fields) r.verdict))
not_accepted_filled (decided (refuse f)) m v after r n = r.buffer
not_accepted_filled (wants k) m v after r n = r.buffer

pub allowed_linked : (p : List ℕ) (o : Opening) → Allowed p o → Linked (nexts_in o p)
allowed_linked p o a =
    let size = length-nexts (part o.head.trace p) (trace_entry o.layout) (link_count o.layout o.head) in
    let few = links_few p o (opens p o a) in
    let s = nexts_in o p in
    let c = free_clear s _ size few (link_at o) (record { links = a.links; unshared = a.unshared; acyclic = a.acyclic }) in
    record { short = omega (arith, size, few); at = link_at o; count = chains s; passes = links_pass (link_at o) s c.0 c.1 c.2 }
