-- THE EMPTY PROGRAMS of document 01's "What the contracts have to settle": none of them meets the readers' promises.
use Rattle.std.specs.Prelude.{◌≡◌, List, [], ◌∷◌, ◌++◌, ℕ, ◌≤◌, length}
use Rattle.layout.specs.declared.Version.{Version}
use Rattle.incremental.specs.declared.Refusal.{Refusal}
use Rattle.sections.specs.Fields.{link_count}
use Rattle.head.specs.declared.checks.Opening.{Opening}
use Rattle.trace.specs.Links.{chains}
use Rattle.reader.specs.declared.verdict.Acceptance.{Acceptance}
use Rattle.reader.specs.Verdict.{Reads, verdict_in}
use Rattle.reader.specs.Checks.{nexts_in, file_answer, ReadsPrefix, ReadsFile}
use Rattle.reader.specs.Allowed.{Allowed}
use Rattle.claims.specs.Examples.{full, full_chains}
use Rattle.std.specs.Prelude.{Err, Ok, Result}
use Rattle.incremental.specs.declared.Stop.TheVariants.{Refused, Wanted}
use Rattle.incremental.specs.declared.Stop.{Stop}

-- a program, by what it gives for any bytes and any working buffer: its verdict, and the buffer as it leaves it
pub record Program : Type 0 where
  pub verdict : List ℕ → List ℕ → Result Acceptance Stop
  pub left : List ℕ → List ℕ → List ℕ

-- the two readers that a program may claim to be
pub data Reader : Type 0 where
  part : Reader
  whole : Reader

-- it meets the reader's promise on all inputs; the promise of the whole-file reader is said of a verdict, as `ReadsFile` says it
abbrev pub Meets : Reader → Program → Type 0
Meets part f = (p buffer : List ℕ) → ReadsPrefix p buffer (f.verdict p buffer) (f.left p buffer)
Meets whole f = (p buffer : List ℕ) → Reads (file_answer p (length buffer)) (length buffer) (f.verdict p buffer) (f.left p buffer)

-- no program that answers in one of these ways meets its reader's promise
pub record EmptyPrograms : Type 0 where
  -- what meets `ReadsFile` meets this, as a verdict
  pub reads_file : (r : List ℕ → List ℕ → Result Acceptance Refusal) (left : List ℕ → List ℕ → List ℕ)
      → ((p buffer : List ℕ) → ReadsFile p buffer (r p buffer) (left p buffer))
      → Meets whole (record { verdict = λ p buffer. verdict_in (r p buffer); left = left })
  -- the promises can be met, and settle what a program gives
  pub can_be_met : (k : Reader) → (f : Program) × Meets k f
  pub settled : (k : Reader) (f g : Program) → Meets k f → Meets k g → (p buffer : List ℕ)
      → (f.verdict p buffer ≡ g.verdict p buffer) × (f.left p buffer ≡ g.left p buffer)
  -- one that refuses always, whatever its refusals; one that refuses a single file that the layout allows
  pub refuses_always : (k : Reader) (f : Program) → Meets k f
      → ((p buffer : List ℕ) → (r : Refusal) × (f.verdict p buffer ≡ Err (Refused r))) → ⊥
  pub refuses_allowed : (f : Program) → Meets whole f
      → (p buffer : List ℕ) (o : Opening) → Allowed p o → link_count o.layout o.head ≤ length buffer
      → (r : Refusal) → f.verdict p buffer ≡ Err (Refused r) → ⊥
  -- one that asks for 4 bytes always
  pub asks_for_four : (k : Reader) (f : Program) → Meets k f
      → ((p buffer : List ℕ) → f.verdict p buffer ≡ Err (Wanted 4)) → ⊥
  -- one that accepts always with one fixed record; one that has a single record for all that it accepts
  pub accepts_always : (k : Reader) (f : Program) → Meets k f
      → (a : Acceptance) → ((p buffer : List ℕ) → f.verdict p buffer ≡ Ok a) → ⊥
  pub fixed_record : (k : Reader) (f : Program) → Meets k f
      → (a : Acceptance) → ((p buffer : List ℕ) (b : Acceptance) → f.verdict p buffer ≡ Ok b → b ≡ a) → ⊥
  -- one that does nothing to the working buffer; nothing where it accepts; nothing where it refuses; nothing where it asks for more
  pub buffer_left : (k : Reader) (f : Program) → Meets k f
      → ((p buffer : List ℕ) → f.left p buffer ≡ buffer) → ⊥
  pub buffer_left_accepted : (k : Reader) (f : Program) → Meets k f
      → ((p buffer : List ℕ) (a : Acceptance) → f.verdict p buffer ≡ Ok a → f.left p buffer ≡ buffer) → ⊥
  pub buffer_left_refused : (k : Reader) (f : Program) → Meets k f
      → ((p buffer : List ℕ) (r : Refusal) → f.verdict p buffer ≡ Err (Refused r) → f.left p buffer ≡ buffer) → ⊥
  pub buffer_left_wanted : (f : Program) → Meets part f
      → ((p buffer : List ℕ) (n : ℕ) → f.verdict p buffer ≡ Err (Wanted n) → f.left p buffer ≡ buffer) → ⊥
  -- one that asks for n bytes on a prefix and on all that go on from it; one that asks for n and, given n or more, asks for n again
  pub repeats_always : (f : Program) → Meets part f
      → (p buffer : List ℕ) (n : ℕ) → ((q : List ℕ) → f.verdict (p ++ q) buffer ≡ Err (Wanted n)) → ⊥
  pub repeats_request : (f : Program) → Meets part f
      → (p q buffer : List ℕ) (n : ℕ) → f.verdict p buffer ≡ Err (Wanted n) → n ≤ length (p ++ q) → f.verdict (p ++ q) buffer ≡ Err (Wanted n) → ⊥
  -- one that invents a chain count. The count is the defined one; it is that of any program that meets the promise; for two trace
  -- entries in one chain it is 1, and 0 where they have no next index, whatever the buffer holds.
  pub chain_count : (f : Program) → Meets whole f
      → (p buffer : List ℕ) (a : Acceptance) → f.verdict p buffer ≡ Ok a → (o : Opening) × Allowed p o × (a.chain_count ≡ chains (nexts_in o p))
  pub invented_count : (k : Reader) (f honest : Program) → Meets k f → Meets k honest
      → (p buffer : List ℕ) (a b : Acceptance) → f.verdict p buffer ≡ Ok a → honest.verdict p buffer ≡ Ok b
      → (a.chain_count ≡ b.chain_count → ⊥) → ⊥
  pub one_chain : (k : Reader) (f : Program) → Meets k f
      → (v : Version) (x y : ℕ) (a : Acceptance) → f.verdict (full v) (x ∷ y ∷ []) ≡ Ok a → a.chain_count ≡ full_chains v
