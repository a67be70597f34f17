-- What the promise of the walk says of a file, by the laws over its links.
use mathlib.Core.Path.{◌≡◌, refl, sym, ap, ◌∙◌}
use mathlib.Core.Bool.{true, false}
use mathlib.Core.List.{List, [], ◌++◌}
use Prim.Native.Nat.{ℕ, ◌≤◌}
use native.Mathlib.Omega.{arith}
use borrow.Author.Tests.{le-ltb}
use lib.Dec.{ltb}
use lib.ListN.{length, take, drop}
use lib.Seq.{take_at}
use Rattle.lists.specs.Those.{those}
use Rattle.lists.proofs.Tests.{by_test, never}
use Rattle.lists.proofs.Table.{length-tabulate}
use Rattle.layout.specs.Versions.{has_next}
use Rattle.incremental.specs.Decision.{Decision, accept, refuse}
use Rattle.incremental.specs.Plan.{Answer, decided, wants, run}
use Rattle.sections.specs.Fields.{link_count}
use Rattle.sections.proofs.Cases.{links_all}
use Rattle.head.specs.Checks.{open_plan}
use Rattle.head.specs.declared.checks.Opening.{Opening}
use Rattle.head.proofs.Facts.{open_complete}
use Rattle.trace.specs.Links.{end, namers, chains}
use Rattle.trace.proofs.Chains.{chains_ends}
use Rattle.trace.proofs.Steps.{length-nexts}
use Rattle.reader.specs.declared.verdict.Acceptance.{Acceptance}
use Rattle.reader.specs.Verdict.{Acceptable}
use Rattle.reader.specs.Checks.{nexts_in, link_at, record_of, prefix_answer, file_answer}
use Rattle.reader.proofs.Taken.{links_few}
use Rattle.reader.proofs.Free.{free_clear}
use Rattle.reader.proofs.Rest.{read_facts, whole_accepted, links_pass}
use Rattle.walk.specs.Walk.{walk, flat_map, along, blocks, nexts_of, blocks_of, blocks_in}
use Rattle.walk.specs.Walk.{Visited, walked, Values, walked_values, values_of, decision_values, order_after}
use Rattle.walk.specs.EveryEntry.{EveryEntry, times}
use Rattle.walk.proofs.EveryEntry.{every_entry}
use Rattle.claims.specs.Walks.{WalksSay}
use Rattle.claims.proofs.WithoutNext.{no_nexts}
use Rattle.std.specs.Prelude.{Err, Ok, Result}
use Rattle.incremental.specs.declared.Refusal.{Refusal}
use Rattle.walk.specs.declared.Visits.{Visits}
use Rattle.walk.specs.Walk.{steps_walked}

-- a walk is an acceptance
accepted_walk : (d : Decision Visited) (n t : ℕ) → values_of (Ok (steps_walked n t)) ≡ decision_values d
    → (v : Visited) × (d ≡ accept v) × (n ≡ length v.order) × (t ≡ v.total)
accepted_walk (accept v) n t e = (v, refl, ap (λ (w : Values). w.steps) e, ap (λ (w : Values). w.total) e)
accepted_walk (refuse r) n t e = never (ap (λ (w : Values). w.kind) e)

-- and so the whole-file reader accepts, and the list and the total are those of the file
abbrev visits : List ℕ → Acceptable → Visited
visits p x = record { order = walk (nexts_of p); total = along (blocks_of p) (walk (nexts_of p)); table = x.table }

reader_accepted : (p : List ℕ) (m n : ℕ) (v : Visited) → walked p m n ≡ accept v → (x : Acceptable) × (file_answer p m ≡ decided (accept x)) × (visits p x ≡ v)
unfolding walked
reader_accepted p m n v e = go (file_answer p m) refl
  where
    go : (a : Answer Acceptable) → file_answer p m ≡ a → (x : Acceptable) × (file_answer p m ≡ decided (accept x)) × (visits p x ≡ v)
    go (decided (accept x)) w = (x, w, by_test (ltb n (length (nexts_of p))) (λ q. never (cc)) (λ q. cc))
    go (decided (refuse r)) w = never cc
    go (wants k) w = never cc

-- the links of a file that is accepted pass, so its walk visits every entry once, and its chains are as many as its ends
links_visited : (p : List ℕ) (m : ℕ) (x : Acceptable) (o : Opening) → file_answer p m ≡ decided (accept x) → run open_plan p ≡ decided (accept o)
    → EveryEntry (nexts_in o p) × (x.fields.chain_count ≡ namers (nexts_in o p) (length (nexts_in o p)) end)
unfolding record_of
links_visited p m x o e opens =
    let t = (read_facts m p).holds x (whole_accepted (length p) (prefix_answer p m) x e).0 in
    let q : decided (accept t.0) ≡ decided (accept o) = sym (open_complete p t.0 t.1) ∙ opens in
    let same : t.0 ≡ o = cc in
    let few = links_few p t.0 t.1 in
    let size = length-nexts _ _ _ in
    let s = nexts_in t.0 p in
    let c = free_clear s _ size few (link_at t.0) t.2.free in
    let passes = links_pass (link_at t.0) s c.0 c.1 c.2 in
    let short : length s ≤ end = omega (arith, size, few) in
    let counted : x.fields.chain_count ≡ namers s (length s) end =
    ap (λ (a : Acceptance). a.chain_count) t.2.fields ∙ chains_ends (link_at t.0) s (chains s) short passes in
    (rw same at (every_entry (link_at t.0) s (chains s) short passes), rw same at counted)

length-blocks : (section : List ℕ) (size entries : ℕ) → length (blocks section size entries) ≡ entries
unfolding blocks
length-blocks section size entries = length-tabulate entries _

-- where there is nothing to list no place is too short
accepted_walked : (p : List ℕ) (m n : ℕ) (x : Acceptable) → file_answer p m ≡ decided (accept x) → nexts_of p ≡ [] → walked p m n ≡ accept (visits p x)
unfolding walked
accepted_walked p m n x e q =
    let room : ltb n (length (nexts_of p)) ≡ false = ap (λ (s : List ℕ). ltb n (length s)) q ∙ le-ltb n 0 (omega arith) in
    rw (e, room)

-- an answer is known by its values
same_answer : (r : Result Visits Refusal) (n t : ℕ) → values_of r ≡ walked_values n t → r ≡ Ok (steps_walked n t)
same_answer (Ok w) n t e = λ i. Ok (steps_walked (ap (λ (w : Values). w.steps) e i) (ap (λ (w : Values). w.total) e i))
same_answer (Err f) n t e = never (ap (λ (w : Values). w.kind) (sym e))

nothing : walk [] ≡ []
unfolding those flat_map
nothing = refl

pub walks_say : WalksSay
unfolding along
walks_say p buffer order o r buffer' order' opens w =
    record {
      each_once = λ h n t q.
          let a = accepted_walk (walked p m k) n t (ap values_of (sym q) ∙ w.answer) in
          let b = reader_accepted p m k a.0 a.1 in
          let every = (links_visited p m b.0 o b.1 opens).0 in
          let size : length (nexts_in o p) ≡ o.head.trace.count = length-nexts _ _ _ ∙ all h in
          let order_is : a.0.order ≡ walk (nexts_in o p) = ap (λ (v : Visited). v.order) (sym b.2) ∙ ap walk nexts-are in
          let steps : n ≡ length (walk (nexts_in o p)) = a.2 ∙ ap length order_is in
          let sum : t ≡ along (blocks_in o p) (walk (nexts_in o p)) =
          a.3 ∙ ap (λ (v : Visited). v.total) (sym b.2) ∙ (λ i. along (blocks-are i) (walk (nexts-are i))) in
          let list : take n order' ≡ walk (nexts_in o p) =
          ap (take n) (w.placed ∙ ap (λ (d : Decision Visited). order_after d order) a.1) ∙ take_at a.0.order _ n (sym a.2) ∙ order_is in
          record {
            steps = steps ∙ every.long ∙ size;
            sum = sum ∙ every.sums (blocks_in o p) (length-blocks _ _ _ ∙ sym (length-nexts _ _ _));
            once = λ e l. ap (λ (xs : List ℕ). times xs e) list ∙ every.once e (omega (arith, size));
            entries = λ j l. rw list (omega (arith, every.entries j (omega (arith, steps)), size));
            chains_ends = λ x e. (links_visited p m x o e opens).1 ∙ ap (λ (c : ℕ). namers (nexts_in o p) c end) size;
            heads_ends = every.heads_ends ∙ ap (λ (c : ℕ). namers (nexts_in o p) c end) size;
          };
      none = λ h n t q.
          let a = accepted_walk (walked p m k) n t (ap values_of (sym q) ∙ w.answer) in
          let b = reader_accepted p m k a.0 a.1 in
          let e = empty h in
          let list : a.0.order ≡ [] = ap (λ (v : Visited). v.order) (sym b.2) ∙ e in (
            a.2 ∙ ap length list,
            a.3 ∙ ap (λ (v : Visited). v.total) (sym b.2) ∙ ap (along (blocks_of p)) e,
            w.placed ∙ ap (λ (d : Decision Visited). order_after d order) a.1 ∙ ap (λ (l : List ℕ). l ++ drop (length l) order) list,
          );
      never_23 = λ h x e.
          same_answer r 0 0
          (w.answer ∙ ap decision_values (walks-empty h x e) ∙ (λ i. walked_values (length (empty h i)) (along (blocks_of p) (empty h i))));
    }
  where
    m : ℕ
    m = length buffer

    k : ℕ
    k = length order

    nexts-are : nexts_of p ≡ nexts_in o p
    nexts-are = rw opens

    blocks-are : blocks_of p ≡ blocks_in o p
    blocks-are = rw opens

    all : has_next o.layout ≡ true → link_count o.layout o.head ≡ o.head.trace.count
    all h = sym (links_all o.layout o.head h)

    empty : has_next o.layout ≡ false → walk (nexts_of p) ≡ []
    empty h = ap walk (nexts-are ∙ no_nexts o p h) ∙ nothing

    walks-empty : has_next o.layout ≡ false → (x : Acceptable) → file_answer p m ≡ decided (accept x) → walked p m k ≡ accept (visits p x)
    walks-empty h x e = accepted_walked p m k x e (nexts-are ∙ no_nexts o p h)
