-- The readers, by the verdict of all checks: what they say, and what the working buffer holds.
use mathlib.Core.Path.{◌≡◌, refl, sym, ap, ◌∙◌}
use mathlib.Core.List.{List}
use Prim.Native.Nat.{ℕ, ◌≤◌, ◌<◌}
use lib.ListN.{length}
use borrow.Author.Tests.{lt-ltb, le-ltb}
use Rattle.lists.specs.Filled.{filled}
use Rattle.lists.proofs.Tests.{never}
use Rattle.layout.specs.Head.{declared_size_at}
use Rattle.incremental.specs.Decision.{accept, refuse, refusal}
use Rattle.incremental.specs.Plan.{Answer, decided, wants, run}
use Rattle.incremental.proofs.Plan.{onward, answer_then}
use Rattle.incremental.specs.declared.Refusal.{Refusal}
use Rattle.head.specs.Checks.{open_plan}
use Rattle.incremental.specs.Plan.{answer_of}
use Rattle.head.specs.declared.checks.Opening.{Opening}
use Rattle.reader.specs.declared.verdict.Acceptance.{Acceptance}
use Rattle.reader.specs.Verdict.{Acceptable, Reads}
use Rattle.reader.specs.Checks.{rest_plan, read_plan, whole, file_answer, ReadsOpened}
use Rattle.reader.specs.Private.{verdict_of, whole_stop, WholeAnswer}
use Rattle.std.specs.Prelude.{Err, Ok, Result}
use Rattle.incremental.specs.declared.Stop.TheVariants.{Refused, Wanted}
use Rattle.incremental.specs.declared.Stop.{Stop}

-- a verdict of all checks, once the working buffer is seen to: an acceptance keeps its table, and after anything else the buffer is filled
pub reads_kept : (answer : Answer Acceptable) (m : ℕ) (after : List ℕ) (v : Result Acceptance Stop) (a : Acceptance) → verdict_of v after ≡ answer → v ≡ Ok a
    → Reads answer m (Ok a) after
reads_kept answer m after v a e q =
    let x : decided (accept (record { fields = a; table = after })) ≡ answer = rw q at e in
    rw (← x) (record { verdict = refl; buffer = refl })

pub reads_filled : (answer : Answer Acceptable) (m : ℕ) (after last : List ℕ) (v : Result Acceptance Stop) (s : Stop) → verdict_of v after ≡ answer → v ≡ Err s
    → last ≡ filled m → Reads answer m (Err s) last
reads_filled answer m after last v s e q f = go s (rw q at e)
  where
    go : (s : Stop) → verdict_of (Err s) after ≡ answer → Reads answer m (Err s) last
    go (Refused r) e = rw (← e) (record { verdict = refl; buffer = f })
    go (Wanted k) e = rw (← e) (record { verdict = refl; buffer = f })

-- ---- the whole-file reader: what it answers, by what checks 1 to 6 and the rest gave
module _ (p : List ℕ) (m : ℕ) where
  file-as : (x : Answer Opening) → run open_plan p ≡ x → file_answer p m ≡ whole (length p) (onward x (λ o. run (rest_plan m o) p))
  unfolding read_plan
  file-as x e = ap (whole (length p)) (sym (answer_then open_plan (rest_plan m) p x e))

  -- the answer is the refusal that was made
  pub whole_refused : (f g : Refusal) (after : List ℕ) → f ≡ g → file_answer p m ≡ decided (refuse g) → WholeAnswer p m (Err f) after
  whole_refused f g after q e = record { refused = λ r z. let i : f ≡ r = cc in e ∙ ap (λ (x : Refusal). decided (refuse x)) (sym q ∙ i); accepted = λ a o z. never cc }

  pub head_stopped : (x : Result Opening Stop) (s : Stop) → answer_of x ≡ run open_plan p → x ≡ Err s → file_answer p m ≡ decided (refuse (whole_stop s))
  head_stopped x (Refused f) e q = file-as (decided (refuse f)) (sym e ∙ ap answer_of q)
  head_stopped x (Wanted k) e q = file-as (wants k) (sym e ∙ ap answer_of q)

  module _ (x : Result Opening Stop) (o : Opening) (e : answer_of x ≡ run open_plan p) (q : x ≡ Ok o) (v : Result Acceptance Stop) (after : List ℕ)
      (rest : verdict_of v after ≡ run (rest_plan m o) p) where
    opened : run open_plan p ≡ decided (accept o)
    opened = sym e ∙ ap answer_of q

    rest-as : (w : Result Acceptance Stop) → v ≡ w → file_answer p m ≡ whole (length p) (verdict_of w after)
    rest-as w z = file-as (decided (accept o)) opened ∙ ap (whole (length p)) (sym rest ∙ ap (λ (y : Result Acceptance Stop). verdict_of y after) z)

    pub rest_stopped : (s : Stop) → v ≡ Err s → file_answer p m ≡ decided (refuse (whole_stop s))
    rest_stopped (Refused f) z = rest-as (Err (Refused f)) z
    rest_stopped (Wanted k) z = rest-as (Err (Wanted k)) z

    module _ (a : Acceptance) (z : v ≡ Ok a) where
      pub file_short : length p < a.declared_size → file_answer p m ≡ decided (refuse (refusal 16 0 declared_size_at))
      file_short l = rest-as (Ok a) z ∙ rw (lt-ltb _ _ l)

      pub file_long : a.declared_size ≤ length p → a.declared_size < length p → file_answer p m ≡ decided (refuse (refusal 17 0 declared_size_at))
      file_long l h = rest-as (Ok a) z ∙ rw (le-ltb _ _ l, lt-ltb _ _ h)

      pub file_exact : a.declared_size ≤ length p → length p ≤ a.declared_size → WholeAnswer p m (Ok (a, o)) after
      file_exact l h =
          let answer : file_answer p m ≡ decided (accept (record { fields = a; table = after })) = rest-as (Ok a) z ∙ rw (le-ltb _ _ l, le-ltb _ _ h) in
          record {
            refused = λ f y. never cc;
            accepted = λ b u y. let same : (a, o) ≡ (b, u) = cc in
                (answer ∙ ap (λ (w : Acceptance × Opening). decided (accept (record { fields = w.0; table = after }))) same, opened ∙ ap (λ (w : Acceptance × Opening). decided (accept w.1)) same);
          }

-- the working buffer of `buffer`'s length afterwards
module _ (p buffer : List ℕ) where
  pub opened_kept : (r : Result (Acceptance × Opening) Refusal) (x : Acceptance × Opening) (after : List ℕ) → WholeAnswer p (length buffer) r after → r ≡ Ok x
      → ReadsOpened p buffer (Ok x) after
  opened_kept r (a, o) after w q =
      let t = w.accepted a o q in
      record { reads = rw t.0 (record { verdict = refl; buffer = refl }); opens = λ b u y. (w.accepted b u (q ∙ y)).1 }

  pub opened_filled : (r : Result (Acceptance × Opening) Refusal) (f : Refusal) (after last : List ℕ) → WholeAnswer p (length buffer) r after → r ≡ Err f
      → last ≡ filled (length buffer) → ReadsOpened p buffer (Err f) last
  opened_filled r f after last w q h = record { reads = rw (w.refused f q) (record { verdict = refl; buffer = h }); opens = λ a o z. never cc }
