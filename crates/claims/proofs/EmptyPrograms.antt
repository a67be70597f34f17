-- No empty program meets the readers' promises: by the example files, the points, and demands 2 and 3.
use mathlib.Core.Path.{◌≡◌, refl, sym, ap, ◌∙◌}
use mathlib.Core.List.{List, [], ◌∷◌, ◌++◌, append-nil}
use Prim.Native.Nat.{ℕ, ◌≤◌, ◌<◌}
use native.Mathlib.Omega.{arith}
use lib.ListN.{length, get_or, take, replicate, length-append, length-replicate}
use lib.Seq.{take_at, take-length}
use Rattle.lists.proofs.Tests.{never}
use Rattle.incremental.specs.Decision.{accept, refuse, refusal}
use Rattle.incremental.specs.Plan.{Answer, decided, wants}
use Rattle.incremental.specs.declared.Refusal.{Refusal}
use Rattle.trace.specs.Links.{end}
use Rattle.reader.specs.declared.verdict.Acceptance.{Acceptance}
use Rattle.reader.specs.Verdict.{Acceptable, Reads, values_of, answer_values, buffer_after}
use Rattle.reader.proofs.Values.{same_values}
use Rattle.reader.specs.Checks.{record_of, prefix_answer, file_answer, ReadsPrefix, ReadsFile, whole as whole_answer}
use Rattle.reader.proofs.Rest.{whole_accepted}
use Rattle.reader.proofs.Allowed.{demand_2}
use Rattle.reader.proofs.Early.{demand_3}
use Rattle.claims.proofs.Points.{points}
use Rattle.claims.specs.Examples.{smallest, smallest_record, full}
use Rattle.claims.proofs.Examples.{examples}
use Rattle.claims.specs.EmptyPrograms.{Program, Reader, part, whole, Meets, EmptyPrograms}
use Rattle.std.specs.Prelude.{Err, Ok, Result}
use Rattle.incremental.specs.declared.Stop.TheVariants.{Refused, Wanted}
use Rattle.incremental.specs.declared.Stop.{Stop}

-- what the reader's checks answer
abbrev answer_of : Reader → List ℕ → ℕ → Answer Acceptable
answer_of part p m = prefix_answer p m
answer_of whole p m = file_answer p m

-- one form of both promises
reads : (k : Reader) (f : Program) → Meets k f → (p buffer : List ℕ)
    → Reads (answer_of k p (length buffer)) (length buffer) (f.verdict p buffer) (f.left p buffer)
reads part f h = h
reads whole f h = h

-- what a program gives where the checks' answer is that of a verdict `v`
gives : (k : Reader) (f : Program) → Meets k f → (p buffer : List ℕ) (x : Answer Acceptable) (v : Result Acceptance Stop)
    → answer_of k p (length buffer) ≡ x → answer_values x ≡ values_of v
    → (f.verdict p buffer ≡ v) × (f.left p buffer ≡ buffer_after x (length buffer))
gives k f h p buffer x v e q =
    let r = reads k f h p buffer in
    (same_values _ v (r.verdict ∙ ap answer_values e ∙ q), r.buffer ∙ ap (λ (y : Answer Acceptable). buffer_after y (length buffer)) e)

-- where the whole-file reader's checks accept, both readers do
accepts : (k : Reader) (f : Program) → Meets k f → (p buffer : List ℕ) (a : Acceptance) (t : List ℕ)
    → file_answer p (length buffer) ≡ decided (accept (record { fields = a; table = t }))
    → (f.verdict p buffer ≡ Ok a) × (f.left p buffer ≡ t)
accepts part f h p buffer a t e =
    gives part f h p buffer _ (Ok a) (whole_accepted (length p) (prefix_answer p (length buffer)) (record { fields = a; table = t }) e).0 refl
accepts whole f h p buffer a t e = gives whole f h p buffer _ (Ok a) e refl

-- four bytes of version 24 are refused by both
refused_24 : (k : Reader) (m : ℕ) → answer_of k (24 ∷ 0 ∷ 0 ∷ 0 ∷ []) m ≡ decided (refuse (refusal 1 0 0))
refused_24 part m = points.prefixes.version_24 m
refused_24 whole m = ap (whole_answer 4) (points.prefixes.version_24 m)

-- a filled place does not hold 0
filled-not-zero : (left : List ℕ) → left ≡ end ∷ [] → left ≡ 0 ∷ [] → ⊥
filled-not-zero left e q = let z : end ≡ 0 = ap (λ (s : List ℕ). get_or s 0 0) (sym e ∙ q) in omega arith

-- the program that gives what the checks answer
abbrev given : Answer Acceptable → Result Acceptance Stop
given (decided (accept x)) = Ok x.fields
given (decided (refuse r)) = Err (Refused r)
given (wants n) = Err (Wanted n)

given_values : (x : Answer Acceptable) → values_of (given x) ≡ answer_values x
given_values (decided (accept x)) = refl
given_values (decided (refuse r)) = refl
given_values (wants n) = refl

abbrev honest : Reader → Program
honest k =
    record {
      verdict = λ p buffer. given (answer_of k p (length buffer));
      left = λ p buffer. buffer_after (answer_of k p (length buffer)) (length buffer);
    }

meets_honest : (k : Reader) → Meets k (honest k)
meets_honest part = λ p buffer. record { verdict = given_values (prefix_answer p (length buffer)); buffer = refl }
meets_honest whole = λ p buffer. record { verdict = given_values (file_answer p (length buffer)); buffer = refl }

module _ (k : Reader) (f : Program) (h : Meets k f) where
  one-run : f.verdict (smallest 1) [] ≡ Ok (smallest_record 1)
  one-run = (accepts k f h (smallest 1) [] _ _ examples.smallest_file.answer).0

  -- the smallest file, and the same with another run count
  never-one-record : (a : Acceptance) → ((p buffer : List ℕ) (b : Acceptance) → f.verdict p buffer ≡ Ok b → b ≡ a) → ⊥
  never-one-record a n =
      let two_runs = (accepts k f h (smallest 2) [] (smallest_record 2) _ examples.smallest_file.runs).0 in
      let z : ◌≡◌ {A = ℕ} 1 2 = ap (λ (b : Acceptance). b.run_count) (n (smallest 1) [] _ one-run ∙ sym (n (smallest 2) [] _ two_runs)) in
      omega arith

  never-left-refused : ((p buffer : List ℕ) (r : Refusal) → f.verdict p buffer ≡ Err (Refused r) → f.left p buffer ≡ buffer) → ⊥
  never-left-refused n =
      let g = gives k f h (24 ∷ 0 ∷ 0 ∷ 0 ∷ []) (0 ∷ []) _ (Err (Refused (refusal 1 0 0))) (refused_24 k 1) refl in
      filled-not-zero _ g.1 (n (24 ∷ 0 ∷ 0 ∷ 0 ∷ []) (0 ∷ []) _ g.0)

agree : (k : Reader) (f g : Program) → Meets k f → Meets k g → (p buffer : List ℕ)
    → (f.verdict p buffer ≡ g.verdict p buffer) × (f.left p buffer ≡ g.left p buffer)
agree k f g h i p buffer =
    let r = reads k f h p buffer in
    let s = reads k g i p buffer in
    (same_values _ _ (r.verdict ∙ sym s.verdict), r.buffer ∙ sym s.buffer)

-- demand 3: what gets the bytes that it asked for does not ask for them again
never_again : (f : Program) → Meets part f → (p q buffer : List ℕ) (n : ℕ) → f.verdict p buffer ≡ Err (Wanted n) → n ≤ length (p ++ q)
    → f.verdict (p ++ q) buffer ≡ Err (Wanted n) → ⊥
never_again f h p q buffer n e l d =
    let xs = p ++ q in
    let r : ReadsPrefix (take (length p) xs) buffer (f.verdict p buffer) (f.left p buffer) = rw (take_at p q (length p) refl) (h p buffer) in
    let s : ReadsPrefix (take (length xs) xs) buffer (f.verdict xs buffer) (f.left xs buffer) = rw (take-length xs) (h xs buffer) in
    let i : length p ≤ length xs = simp length-append (omega arith) in
    let t = demand_3 xs (length p) (length xs) buffer buffer _ _ _ _ i refl r s in
    let w : length xs < n = rw (take-length xs) at ((t.asks_again n e).0 d) in
    omega arith

-- demand 2: what is allowed is accepted, with the defined chain count
pub empty_programs : EmptyPrograms
unfolding record_of
empty_programs =
    record {
      reads_file = λ r left h. h;
      can_be_met = λ k. (honest k, meets_honest k);
      settled = agree;
      refuses_always = λ k f h n. never (cc (one-run k f h, (n (smallest 1) []).1));
      refuses_allowed = λ f h p buffer o a l r e.
          let x : ReadsFile p buffer (Err r) (f.left p buffer) = rw e at (h p buffer) in
          never (cc ((demand_2 p buffer (Err r) _ x).complete o a l).0);
      asks_for_four = λ k f h w. never (cc (one-run k f h, w (smallest 1) []));
      accepts_always = λ k f h a w. never-one-record k f h a (λ p buffer b e. let q : Ok b ≡ Ok a = sym e ∙ w p buffer in cc);
      fixed_record = never-one-record;
      buffer_left = λ k f h w. never-left-refused k f h (λ p buffer r e. w p buffer);
      buffer_left_accepted = λ k f h n.
          let g = accepts k f h (smallest 1) (0 ∷ []) _ _ examples.smallest_file.place in
          filled-not-zero _ g.1 (n (smallest 1) (0 ∷ []) _ g.0);
      buffer_left_refused = never-left-refused;
      buffer_left_wanted = λ f h n.
          let g = gives part f h [] (0 ∷ []) _ (Err (Wanted 4)) (points.prefixes.no_bytes 1) refl in
          filled-not-zero _ g.1 (n [] (0 ∷ []) 4 g.0);
      repeats_always = λ f h p buffer n w.
          let e : f.verdict p buffer ≡ Err (Wanted n) = rw append-nil at (w []) in
          let l : n ≤ length (p ++ replicate n 0) = simp (length-append, length-replicate) (omega arith) in
          never_again f h p (replicate n 0) buffer n e l (w (replicate n 0));
      repeats_request = never_again;
      chain_count = λ f h p buffer a e.
          let x : ReadsFile p buffer (Ok a) (f.left p buffer) = rw e at (h p buffer) in
          let s = (demand_2 p buffer (Ok a) _ x).sound a refl in
          (s.0, s.1, ap (λ (b : Acceptance). b.chain_count) s.3);
      invented_count = λ k f g h i p buffer a b d e n. n (let q = (agree k f g h i p buffer).0 in cc);
      one_chain = λ k f h v x y a e. let q = (accepts k f h (full v) (x ∷ y ∷ []) _ _ (examples.full_file v).answer).0 in cc;
    }
