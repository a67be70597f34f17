-- The checks on tables one after another: the first that refuses answers.
use mathlib.Core.Path.{◌≡◌, refl, sym, ap, ◌∙◌}
use mathlib.Core.List.{List}
use Prim.Native.Nat.{ℕ}
use lib.ListN.{length}
use Rattle.lists.proofs.Tests.{never}
use Rattle.layout.specs.Head.{entry_offset}
use Rattle.layout.specs.Versions.{volume_entry, trace_entry}
use Rattle.layout.specs.declared.Layout.{Layout}
use Rattle.incremental.specs.Decision.{Decision, accept, refuse, check, decision_of, ◌>>=◌, ◌>>◌}
use Rattle.incremental.specs.declared.Fault.{Fault}
use Rattle.incremental.specs.declared.Refusal.{Refusal}
use Rattle.incremental.proofs.Decision.{check_goes, check_stops}
use Rattle.names.specs.Names.{in_pairs, misfit_fault, unsound_fault}
use Rattle.sections.specs.Fields.{places_fault, entries_fault}
use Rattle.std.proofs.lemmas.Result.{err_from_is_err_and}
use Rattle.std.specs.Prelude.{Err, Ok, Option, Result}
use Rattle.std.specs.Result.{IsErrAnd}
use Rattle.trace.specs.Links.{firsts, link_checks, trace_checks, predecessors, held, LinkListAnswer}
use Rattle.trace.proofs.Steps.{length-firsts}
use Rattle.volumes.specs.Volumes.{volumes_from, volumes_checks}
use Rattle.writer.specs.LaidOut.{Description, metrics_at}
use Rattle.writer.specs.Plans.{plan_for}
use Rattle.writer.specs.Private.{section_checks, SectionsAnswered}
use Rattle.writer.specs.declared.draft.Plan.{Plan}

-- a check has passed, and `x` is what those after it decide
passed : {A : Type 0} (n : ℕ) (f e : Option Fault) (later x : Decision A) → e ≡ f → accept tt ≡ check n e → x ≡ later → x ≡ (check n f >> later)
passed n f e later x q h k = k ∙ sym (check_goes n f e later q tt h)

module _ (l : Layout) (d : Description) (m : ℕ) (p : Plan) (plan : p ≡ plan_for l d) where
  abbrev pub Seven : Option Fault → Type 0
  Seven f = f ≡ places_fault m p.trace

  abbrev pub Eight : Option Fault → Type 0
  Eight f = f ≡ entries_fault d.volume_count (volume_entry l) (length d.volumes)

  abbrev pub Nine : Option Fault → Type 0
  Nine f = f ≡ misfit_fault l (metrics_at l) (in_pairs d.metrics) p.metrics (length d.strings)

  abbrev pub Ten : Option Fault → Type 0
  Ten f = f ≡ unsound_fault l (metrics_at l) (in_pairs d.metrics) p.metrics d.strings

  abbrev at : ℕ → ℕ
  at = entry_offset p.trace_at (trace_entry l)

  abbrev s : List ℕ
  s = firsts d.trace p.trace

  -- the checks by the plan
  abbrev checks : Decision ℕ
  checks =
      check 7 (places_fault m p.trace)
      >> (check 8 (entries_fault d.volume_count (volume_entry l) (length d.volumes))
      >> (check 9 (misfit_fault l (metrics_at l) (in_pairs d.metrics) p.metrics (length d.strings))
      >> (check 10 (unsound_fault l (metrics_at l) (in_pairs d.metrics) p.metrics d.strings)
      >> (link_checks at s >>= λ n. (volumes_from d.volumes l p.volumes_at d.volume_count 0 >> accept n)))))

  by_plan : checks ≡ section_checks l d m
  unfolding section_checks
  by_plan = rw plan refl

  -- the way out of a `?`
  exit : (f : Refusal) (r : Result ℕ Refusal) (buffer : List ℕ) → IsErrAnd r (λ y. y ≡ f) → refuse f ≡ checks → SectionsAnswered l d m r buffer
  exit f r buffer e h =
      let q = err_from_is_err_and r e in
      rw (q.1, q.2) (record { answer = h ∙ by_plan; holds = λ n z. never cc })

  module _ (r : Result ℕ Refusal) (buffer : List ℕ) (f : Refusal) (out : IsErrAnd r (λ y. y ≡ f)) where
    pub refused_7 : (a : Option Fault) → Seven a → refuse f ≡ check 7 a → SectionsAnswered l d m r buffer
    refused_7 a e h = exit f r buffer out (check_stops 7 _ a _ e f h)

  module _ (a : Option Fault) (ea : Seven a) (ha : accept tt ≡ check 7 a) where
    module _ (r : Result ℕ Refusal) (buffer : List ℕ) (f : Refusal) (out : IsErrAnd r (λ y. y ≡ f)) where
      pub refused_8 : (b : Option Fault) → Eight b → refuse f ≡ check 8 b → SectionsAnswered l d m r buffer
      refused_8 b e h = exit f r buffer out (passed 7 _ a _ _ ea ha (check_stops 8 _ b _ e f h))

    module _ (b : Option Fault) (eb : Eight b) (hb : accept tt ≡ check 8 b) where
      module _ (r : Result ℕ Refusal) (buffer : List ℕ) (f : Refusal) (out : IsErrAnd r (λ y. y ≡ f)) where
        pub refused_9 : (g : Option Fault) → Nine g → refuse f ≡ check 9 g → SectionsAnswered l d m r buffer
        refused_9 g e h = exit f r buffer out (passed 7 _ a _ _ ea ha (passed 8 _ b _ _ eb hb (check_stops 9 _ g _ e f h)))

        pub refused_10 : (g k : Option Fault) → Nine g → accept tt ≡ check 9 g → Ten k → refuse f ≡ check 10 k → SectionsAnswered l d m r buffer
        refused_10 g k eg hg e h =
            exit f r buffer out (passed 7 _ a _ _ ea ha (passed 8 _ b _ _ eb hb (passed 9 _ g _ _ eg hg (check_stops 10 _ k _ e f h))))

      module _ (g : Option Fault) (eg : Nine g) (hg : accept tt ≡ check 9 g) (k : Option Fault) (ek : Ten k) (hk : accept tt ≡ check 10 k)
          (t : Result ℕ Refusal) (buffer : List ℕ) (w : LinkListAnswer at s m t buffer) where
        -- 7 has passed, so the trace decides by 11 to 13
        places : trace_checks at s m ≡ link_checks at s
        unfolding trace_checks
        places = check_goes 7 _ a _ (ea ∙ ap (places_fault m) (sym (length-firsts d.trace p.trace))) tt ha

        links : decision_of t ≡ link_checks at s
        links = w.answer ∙ places

        -- what 7 to 13 leave to decide
        so_far : (x : Decision ℕ) → x ≡ (decision_of t >>= λ n. (volumes_from d.volumes l p.volumes_at d.volume_count 0 >> accept n)) → x ≡ checks
        so_far x e =
            passed 7 _ a _ _ ea ha (passed 8 _ b _ _ eb hb (passed 9 _ g _ _ eg hg (passed 10 _ k _ _ ek hk
            (e ∙ ap (λ (y : Decision ℕ). y >>= λ n. (volumes_from d.volumes l p.volumes_at d.volume_count 0 >> accept n)) links))))

        pub refused_links : (r : Result ℕ Refusal) (f : Refusal) → IsErrAnd r (λ y. y ≡ f) → t ≡ Err f → SectionsAnswered l d m r buffer
        refused_links r f out e = exit f r buffer out (so_far (refuse f) (rw e refl))

        module _ (n : ℕ) (e : t ≡ Ok n) (v : Result Unit Refusal) (h : decision_of v ≡ volumes_checks d.volumes l p.volumes_at d.volume_count) where
          -- 8 has passed, so the volumes decide by 14 and 15
          volumes : decision_of v ≡ volumes_from d.volumes l p.volumes_at d.volume_count 0
          unfolding volumes_checks
          volumes = h ∙ check_goes 8 _ b _ eb tt hb

          decided : (x : Decision ℕ) → x ≡ (decision_of v >> accept n) → x ≡ checks
          decided x q = so_far x (q ∙ ap (λ (y : Decision Unit). y >> accept n) volumes ∙ rw e refl)

          pub refused_volumes : (r : Result ℕ Refusal) (f : Refusal) → IsErrAnd r (λ y. y ≡ f) → v ≡ Err f → SectionsAnswered l d m r buffer
          refused_volumes r f out q = exit f r buffer out (decided (refuse f) (rw q refl))

          pub all_passed : v ≡ Ok tt → SectionsAnswered l d m (Ok n) buffer
          all_passed q =
              record {
                answer = decided (accept n) (rw q refl) ∙ by_plan;
                holds = λ j z. w.holds ∙ ap (λ (y : Decision ℕ). held y s m) (sym w.answer ∙ ap decision_of e)
                    ∙ ap (λ (q : Plan). predecessors (firsts d.trace q.trace) m) plan;
              }
