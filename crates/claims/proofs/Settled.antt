-- Every promise settles its answer: what is equal to one thing is equal, and each map from the cases of an enum to numbers is one-to-one.
use mathlib.Core.Path.{◌≡◌, refl, sym, ap, ◌∙◌}
use mathlib.Core.List.{List}
use Prim.Native.Nat.{ℕ, ◌≤◌, ◌<◌}
use native.Mathlib.Omega.{arith}
use lib.Dec.{eqb}
use lib.ListN.{length, take, get_or}
use denote.Ref.{Bor, MutBor}
use Rattle.lists.specs.Answer.{Said, Answers}
use Rattle.lists.specs.Count.{pick}
use Rattle.lists.specs.Part.{IsPart}
use Rattle.text.specs.Put.{Put, Puts, Begun}
use Rattle.text.specs.declared.Text.{Text}
use Rattle.incremental.specs.Decision.{Decision, accept, refuse, refusal, decision_of}
use Rattle.incremental.specs.Plan.{Answer, decided, wants, run, answer_of}
use Rattle.catalogue.specs.Line.{LineAnswer, read_answer, no_line, Writing}
use Rattle.catalogue.specs.declared.Fields.{Fields}
use Rattle.catalogue.specs.declared.NoLine.{NoLine}
use Rattle.catalogue.specs.declared.Unwritten.{Unwritten}
use Rattle.head.specs.Checks.{open_plan}
use Rattle.head.specs.declared.checks.Opening.{Opening}
use Rattle.reader.specs.declared.verdict.Acceptance.{Acceptance}
use Rattle.reader.specs.Verdict.{Acceptable, Reads, verdict_in}
use Rattle.reader.specs.Checks.{ReadsOpened, accepted_in}
use Rattle.reader.proofs.Values.{same_values, same_verdicts}
use Rattle.lists.specs.Pairs.{PairsListed}
use Rattle.walk.specs.Walk.{Values, values_of}
use Rattle.readings.specs.Replay.{said_of}
use Rattle.readings.specs.declared.BadLine.{BadLine}
use Rattle.year.specs.Year.{Refusal as YearRefused, number_of, refused_by}
use Rattle.year.specs.declared.YearRefusal.{YearRefusal}
use Rattle.year.specs.declared.Fault.{Fault}
use Rattle.year.specs.declared.Fault.TheVariants as fault
use Rattle.year.proofs.Taking.{numbered}
use Rattle.hivesaddle.specs.Output.{Answered, ReadOut}
use Rattle.claims.specs.Settled.{Settles, Settles₁, Settles₂, SettlesPart, SettlesText, SettlesBytes, SettlesStep, Settled}
use Rattle.std.specs.Prelude.{IfErr, IfOk, IfSome, IsSome, MatchResult, None, Result, Ok, Err, Some, ◌↔◌, drop, map}
use Rattle.path_hash.specs.Hash.{eight_at}
use Rattle.std.specs.Result.{result_ok}
use Rattle.layout.specs.declared.UnknownVersion.{UnknownVersion}
use Rattle.layout.specs.Versions.{version_of, known_said}
use Rattle.incremental.specs.declared.Refusal.{Refusal}
use Rattle.incremental.specs.declared.Stop.TheVariants.{Refused, Wanted}
use Rattle.incremental.specs.declared.Stop.{Stop}
use Rattle.walk.specs.declared.Visits.{Visits}
use Rattle.walk.specs.Walk.{steps_walked}

-- ---- maps from cases to what they say, each one-to-one: the case can be told from it

told : {A B : Type 0} (said : A → B) (back : B → A) → ((a : A) → back (said a) ≡ a) → (a b : A) → said a ≡ said b → a ≡ b
told said back same a b e = sym (same a) ∙ ap back e ∙ same b

abbrev answer_back : {A : Type 0} → Answer A → Result A Stop
answer_back (decided (accept x)) = Ok x
answer_back (decided (refuse x)) = Err (Refused x)
answer_back (wants k) = Err (Wanted k)

answer : {A : Type 0} (r : Result A Stop) → answer_back (answer_of r) ≡ r
answer (Ok x) = refl
answer (Err (Refused x)) = refl
answer (Err (Wanted x)) = refl

abbrev decision_back : {A : Type 0} → Decision A → Result A Refusal
decision_back (accept x) = Ok x
decision_back (refuse x) = Err x

decision : {A : Type 0} (r : Result A Refusal) → decision_back (decision_of r) ≡ r
decision (Ok x) = refl
decision (Err x) = refl

abbrev walk_back : Values → Result Visits Refusal
walk_back v =
    pick (eqb v.kind 0) (Ok (steps_walked v.steps v.total)) (Err (refusal v.number v.index v.offset))

walk : (r : Result Visits Refusal) → walk_back (values_of r) ≡ r
walk (Ok w) = refl
walk (Err x) = refl

abbrev replay_back : Said → Result Unit BadLine
replay_back v = pick (eqb v.number 0) (Ok tt) (Err (record { number = get_or v.values 0 0 }))

replay : (r : Result Unit BadLine) → replay_back (said_of r) ≡ r
replay (Ok x) = refl
replay (Err x) = refl

abbrev line_back : LineAnswer → Result Fields NoLine
line_back a = pick (eqb a.number 0) (Ok a.fields) (Err no_line)

read_line_lem : (r : Result Fields NoLine) → line_back (read_answer r) ≡ r
read_line_lem (Ok f) = refl
read_line_lem (Err n) = refl

-- a line is written or not, and if not there is one reason
written : (f : Fields) (out : List ℕ) (r s : Result (Unit {0}) Unwritten) (a b : List ℕ) → Writing f out r a → Writing f out s b → r ≡ s
written f out (Ok u) (Ok v) a b p q = refl
written f out (Ok u) (Err e) a b p q = absurd (omega (arith, p.number, q.number))
written f out (Err d) (Ok v) a b p q = absurd (omega (arith, p.number, q.number))
written f out (Err d) (Err e) a b p q = ap Err (p.why d refl ∙ sym (q.why e refl))

abbrev year_refusal_back : YearRefused → YearRefusal
year_refusal_back f = record { fault = pick (eqb f.number 18) fault.BadLine (pick (eqb f.number 24) fault.TooManyHashes fault.TooManyItems); place = f.place }

year_refusal : (e : YearRefusal) → year_refusal_back (refused_by {A = ℕ} (Err e)) ≡ e
year_refusal e = ap (λ (f : Fault). record { fault = f; place = e.place }) (same e.fault)
  where
    same : (f : Fault) → pick (eqb (number_of f) 18) fault.BadLine (pick (eqb (number_of f) 24) fault.TooManyHashes fault.TooManyItems) ≡ f
    same fault.BadLine = refl
    same fault.TooManyHashes = refl
    same fault.TooManyItems = refl

-- ---- promises that several functions have

-- the refusal, and where there is none the value
year_given : {A : Type 0} (v : A) (f : YearRefused) (r s : Result A YearRefusal) → refused_by r ≡ f → refused_by s ≡ f → IfOk r (λ x. x ≡ v)
    → IfOk s (λ x. x ≡ v) → r ≡ s
year_given v f (Ok x) (Ok y) a b p q = ap Ok (p ∙ sym q)
year_given v f (Ok x) (Err e) a b p q = absurd (numbered e (ap (λ (f : YearRefused). f.number) (b ∙ sym a)))
year_given v f (Err d) (Ok y) a b p q = absurd (numbered d (ap (λ (f : YearRefused). f.number) (a ∙ sym b)))
year_given v f (Err d) (Err e) a b p q = ap Err (sym (year_refusal d) ∙ ap year_refusal_back (a ∙ sym b) ∙ year_refusal e)

part : (bytes : Bor (List ℕ)) (at len : ℕ) → SettlesPart (IsPart bytes at len)
part bytes at len r s p q =
    record { contents = p.contents ∙ sym q.contents; allocation = p.allocation ∙ sym q.allocation; offset = p.offset ∙ sym q.offset }

put : (out : List ℕ) (at : ℕ) (bytes : List ℕ) → Settles₁ (Put out at bytes)
put out at bytes r s a b p q = (cc, cc)

begun : (out : MutBor (List ℕ)) (at : ℕ) → SettlesText (Begun out at)
begun out at r s p q =
    record { buffer = p.buffer ∙ sym q.buffer; bytes = p.bytes ∙ sym q.bytes; position = p.position ∙ sym q.position }

puts : (t : Text) (bytes : List ℕ) → SettlesText (Puts t bytes)
puts t bytes r s p q = let h = put _ _ _ _ _ _ _ p.text q.text in record { buffer = p.buffer ∙ sym q.buffer; bytes = h.1; position = h.0 }

eight_step : {T : Type 0} (value : T → ℕ) (h : ℕ) (numbers : List T)
    → SettlesStep (λ r. (IsSome r ↔ (8 ≤ length numbers)) × IfSome r (λ p. (p.0 ≡ eight_at h (map value numbers) 0) × (p.1.now ≡ drop 8 numbers)))
eight_step value h numbers (Some a) (Some b) p q = ap Some (let e = p.1.0 ∙ sym q.1.0 in let f = p.1.1 ∙ sym q.1.1 in cc)
eight_step value h numbers (Some a) None p q = let z = q.0.1 (p.0.0 refl) in cc
eight_step value h numbers None (Some b) p q = let z = p.0.1 (q.0.0 refl) in cc
eight_step value h numbers None None p q = refl

-- a number is a version's, or the error has it
version : (n : ℕ) → Settles (λ r. Answers known_said (version_of n) (result_ok r) × IfErr r (λ (u : UnknownVersion). u.0 ≡ n))
version n (Ok v) (Ok w) p q = let h = p.0.answer ∙ sym q.0.answer in cc
version n (Ok v) (Err e) p q = let h = p.0.answer ∙ sym q.0.answer in cc
version n (Err d) (Ok w) p q = let h = p.0.answer ∙ sym q.0.answer in cc
version n (Err d) (Err e) p q = ap (λ (u : UnknownVersion). Err u) (ap (λ (k : ℕ). record { 0 = k }) (p.1 ∙ sym q.1))

handed_on : (file : List ℕ) (k : ℕ)
    → SettlesBytes (λ r. MatchResult r (λ b. (k ≤ length file) × (b.now ≡ take k file)) (λ s. (length file < k) × (s ≡ Wanted k)))
handed_on file k (Ok b) (Ok c) p q = ap Ok (p.1 ∙ sym q.1)
handed_on file k (Ok b) (Err x) p q = absurd (omega (arith, p.0, q.0))
handed_on file k (Err x) (Ok c) p q = absurd (omega (arith, p.0, q.0))
handed_on file k (Err x) (Err y) p q = ap Err (p.1 ∙ sym q.1)

answered : (said : Said) (out : List ℕ) → Settles₁ (λ r. Answered said r out)
answered said out r s a b p q = (cc, cc)

reads : (answer : Answer Acceptable) (m : ℕ) → Settles₁ (Reads answer m)
reads answer m r s a b p q = (same_values r s (p.verdict ∙ sym q.verdict), cc)

full : (answer : Answer Acceptable) (m : ℕ) → Settles₁ (λ r. Reads answer m (verdict_in r))
full answer m r s a b p q = (same_verdicts r s (p.verdict ∙ sym q.verdict), cc)

read_out : (answer : Answer Acceptable) (m : ℕ) (out : List ℕ) → Settles₂ (λ r buffer. ReadOut answer m r buffer out)
read_out answer m out r s a b c d p q =
    let h = answered _ out r s c d p.said q.said in
    (h.0, p.places ∙ sym q.places, h.1)

pairs : (all held : List ℕ) → Settles₁ (PairsListed all held)
pairs all held r s a b x y = (omega (arith, x.count, y.count), cc)

-- the opening that an acceptance comes with is the one that the checks give
opened : (p buffer : List ℕ) → Settles₁ (ReadsOpened p buffer)
opened p buffer r s a b x y =
    let h = full _ _ (accepted_in r) (accepted_in s) a b x.reads y.reads in
    (go r s h.0 x.opens y.opens, h.1)
  where
    go : (r s : Result (Acceptance × Opening) Refusal) → accepted_in r ≡ accepted_in s
        → ((a : Acceptance) (o : Opening) → r ≡ Ok (a, o) → run open_plan p ≡ decided (accept o))
        → ((a : Acceptance) (o : Opening) → s ≡ Ok (a, o) → run open_plan p ≡ decided (accept o))
        → r ≡ s
    go (Ok (a, o)) (Ok (b, n)) e f g =
        let u : run open_plan p ≡ decided (accept o) = f a o refl in
        let v : run open_plan p ≡ decided (accept n) = g b n refl in
        cc
    go (Ok (a, o)) (Err y) e f g = cc
    go (Err x) (Ok (b, n)) e f g = cc
    go (Err x) (Err y) e f g = cc

pub settled : Settled
settled =
    record {
      lists_part = part;
      sections_part_of = λ bytes s. part bytes s.at s.len;
      text_new = λ out. begun out 0;
      text_resume = begun;
      text_put = λ t b. puts t _;
      text_put_all = puts;
      text_put_decimal = λ t n. puts t _;
      text_put_hex = λ t width x. puts t _;
      catalogue_read_line = λ line r s p q. told read_answer line_back read_line_lem r s (p ∙ sym q);
      catalogue_write_line = λ f out r s a b p q. (written f out r s a b p q, cc);
      path_hash_eight_step = eight_step;
      layout_try_from = version;
      layout_of_form = λ start r s p q. p ∙ sym q;
      incremental_reach = handed_on;
      incremental_check = λ n f r s p q. told decision_of decision_back decision r s (p ∙ sym q);
      incremental_given = λ n at o r s p q. told decision_of decision_back decision r s (p ∙ sym q);
      sections_find_form = λ l b r s p q. p ∙ sym q;
      head_read_start = λ bytes r s p q. told answer_of answer_back answer r s (p ∙ sym q);
      head_read_open = λ bytes r s p q. told answer_of answer_back answer r s (p ∙ sym q);
      trace_check_links = λ at nexts m r s a b p q. (told decision_of decision_back decision r s (p.answer ∙ sym q.answer), cc);
      volumes_check_volume = λ section l at i r s p q. told decision_of decision_back decision r s (p ∙ sym q);
      volumes_check_volumes = λ section l at count r s p q. told decision_of decision_back decision r s (p ∙ sym q);
      reader_read_prefix = λ bytes buffer. reads _ _;
      reader_read_file = λ bytes buffer. full _ _;
      reader_read_opened = opened;
      query_program_name = λ bytes. part bytes _ _;
      query_entry_name = λ bytes i. part bytes _ _;
      query_volume_path = λ bytes i. part bytes _ _;
      query_path_in = λ bytes o i. part bytes _ _;
      query_directories = λ bytes i held. pairs _ held;
      query_references = λ bytes i held. pairs _ held;
      path_search_list_paths = λ bytes held. pairs _ held;
      walk_walk = λ bytes buffer order r s a b c d p q. (told values_of walk_back walk r s (p.answer ∙ sym q.answer), cc, cc);
      writer_write_file = λ version d buffer output r s a b c e p q. let h = full _ _ r s a b p.reads q.reads in (h.0, h.1, cc);
      listing_text_list = λ bytes buffer out r s a b c d p q. let h = put out 0 _ r s c d p.text q.text in (h.0, cc, h.1);
      readings_replay = λ recording times boards work answers r s a b c d p q. (told said_of replay_back replay r s (p.says ∙ sym q.says), cc, cc);
      readings_begin = λ times boards work answers r s a b c d p q. (cc, cc, cc);
      readings_feed = λ p piece times boards work answers r s a b x y. (cc, cc);
      readings_finish = λ p waiting times boards work answers r s a b c d x y. (told said_of replay_back replay r s (x.says ∙ sym y.says), cc, cc);
      replay_input_take_starts = λ piece held times boards r s a b c d p q. (cc, cc, cc);
      replay_input_take_step = λ buffer end input times boards work answers r s a b c d e f g h i j p q. (cc, cc, cc, cc, cc, cc);
      replay_input_end_input = λ input times boards work answers r s a b c d p q. (told said_of replay_back replay r s (p.says ∙ sym q.says), cc, cc);
      replay_input_put_answers = λ answers starts from out r s a b p q.
          let n : r.next ≡ s.next = cc in
          let m : r.bytes ≡ s.bytes = cc in
          (λ t. record { next = n t; bytes = m t }, cc);
      replay_input_put_refused = λ line out. put out 0 _;
      year_year_table = λ bytes hashes answers r s p q. year_given _ _ r s p.refusal q.refusal p.table q.table;
      year_year_rows = λ bytes hashes answers rows r s a b p q. (year_given _ _ r s p.refusal q.refusal p.count q.count, cc);
      hivesaddle_hs_hash_swap = λ h old p new out. answered _ out;
      hivesaddle_hs_hash_swap_bytes = λ h old p new out. answered _ out;
      hivesaddle_hs_places = λ bytes out. answered _ out;
      hivesaddle_hs_program_name = λ bytes out. answered _ out;
      hivesaddle_hs_entry_name = λ bytes i out. answered _ out;
      hivesaddle_hs_volume = λ bytes i out. answered _ out;
      hivesaddle_hs_reference = λ bytes i k out. answered _ out;
      hivesaddle_hs_directories = λ bytes i held. pairs _ held;
      hivesaddle_hs_references = λ bytes i held. pairs _ held;
      hivesaddle_hs_entry_reference = λ bytes i out. answered _ out;
      hivesaddle_hs_cost = λ bytes out. answered _ out;
      hivesaddle_hs_find_path_from = λ bytes v new out. answered _ out;
      hivesaddle_hs_find_path = λ bytes out. answered _ out;
      hivesaddle_hs_catalogue_read = λ line out. answered _ out;
      hivesaddle_hs_catalogue_write = λ f out r s a b p q. (cc, cc);
      hivesaddle_hs_list_paths = λ bytes held. pairs _ held;
      hivesaddle_hs_read_prefix = λ bytes buffer out. read_out _ _ out;
      hivesaddle_hs_read_file = λ bytes buffer out. read_out _ _ out;
      hivesaddle_hs_walk = λ bytes buffer order out r s a b c d e f p q. let h = answered _ out r s e f p.said q.said in (h.0, cc, cc, h.1);
      hivesaddle_hs_write_file = λ version d buffer output out r s a b c e f g p q.
          let h = read_out _ _ out r s a b f g p.said q.said in
          (h.0, h.1, cc, h.2);
      hivesaddle_hs_replay = λ recording times boards work answers out r s a b c d e f p q.
          let h = answered _ out r s e f p.said q.said in
          (h.0, cc, cc, h.1);
      hivesaddle_hs_replay_begin = λ times boards work answers out r s a b c d e f p q.
          let h = answered _ out r s e f p.said q.said in
          (h.0, cc, cc, h.1);
      hivesaddle_hs_replay_feed = λ p piece times boards work answers out r s a b c d x y.
          let h = answered _ out r s c d x.said y.said in
          (h.0, cc, h.1);
      hivesaddle_hs_replay_finish = λ p waiting times boards work answers out r s a b c d e f x y.
          let h = answered _ out r s e f x.said y.said in
          (h.0, cc, cc, h.1);
      hivesaddle_hs_year_table = λ bytes hashes answers rows out r s a b c d p q.
          let h = answered _ out r s c d p.said q.said in
          (h.0, cc, h.1);
    }
