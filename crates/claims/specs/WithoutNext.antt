-- Request 107: files whose trace entries have no next index, and the head forms.
use Rattle.std.specs.Prelude.{◌≡◌, false, ◌⊎◌, ℕ, ◌+◌, ◌≤◌, ◌<◌, length, get_or}
use mathlib.Core.List.{List, Memᴰ}
use Rattle.layout.specs.Versions.{layout_of, has_next, head_end, forms}
use Rattle.layout.specs.declared.Layout.{Layout}
use Rattle.layout.specs.declared.Version.TheVariants.{V30}
use Rattle.incremental.specs.Decision.{accept}
use Rattle.incremental.specs.Plan.{decided, run}
use Rattle.sections.specs.Fields.{link_count}
use Rattle.sections.specs.declared.Section.{Section}
use Rattle.head.specs.Checks.{open_plan}
use Rattle.head.specs.declared.checks.Opening.{Opening}
use Rattle.lists.specs.Filled.{filled}
use Rattle.trace.specs.Links.{chains, predecessors}
use Rattle.reader.specs.Checks.{trace_required, nexts_in, ReadsPrefix}
use Rattle.reader.specs.declared.verdict.Acceptance.{Acceptance}
use Rattle.std.specs.Prelude.{Result}
use Rattle.incremental.specs.declared.Stop.{Stop}

-- as many bytes, and the same ones outside a section
pub record SameOutside (s : Section) (p q : List ℕ) : Type 0 where
  pub long : length p ≡ length q
  pub outside : (i : ℕ) → (i < s.at) ⊎ (s.at + s.len ≤ i) → get_or p i 0 ≡ get_or q i 0

pub record WithoutNext : Type 0 where
  -- "checks 11 to 13 pass with reach H, the working buffer stays filled, the chain count is 0 and check 7 asks for no places"
  pub reach : (o : Opening) → has_next o.layout ≡ false → trace_required o.layout o.head ≡ head_end o.layout
  pub places : (o : Opening) → has_next o.layout ≡ false → link_count o.layout o.head ≡ 0
  pub no_chain : (o : Opening) (b : List ℕ) → has_next o.layout ≡ false → chains (nexts_in o b) ≡ 0
  pub stays_filled : (o : Opening) (b : List ℕ) (m : ℕ) → has_next o.layout ≡ false → predecessors (nexts_in o b) m ≡ filled m
  -- the verdict depends neither on the bytes of the trace section nor on the length of the working buffer
  pub verdict : (p q buffer buffer' : List ℕ) (o : Opening) (v w : Result Acceptance Stop) (after after' : List ℕ)
      → run open_plan p ≡ decided (accept o)
      → has_next o.layout ≡ false
      → SameOutside o.head.trace p q
      → ReadsPrefix p buffer v after
      → ReadsPrefix q buffer' w after'
      → v ≡ w
  -- "refusal 3 and the catalogue take the smallest H of the forms": that of the version's own constants is one of theirs, and none is smaller
  pub smallest_one : Memᴰ (layout_of V30) forms
  pub smallest : (l : Layout) → Memᴰ l forms → head_end (layout_of V30) ≤ head_end l
