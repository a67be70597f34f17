-- EVERY PROMISE SETTLES ITS ANSWER (document 01, "What the contracts have to settle"): two answers, with two sets of lists afterwards, that
-- both meet the promise of a public function on the same inputs, are the same. Where a promise is plainly an equation for its answer and for
-- each list that it changes, that is so at a glance; every other public function of a library has a row here, under its name.
use Rattle.std.specs.Prelude.{◌≡◌, List, [], ◌∷◌, ℕ, ◌≤◌, ◌<◌, length, take, Option, Some, None, IsSome, IfSome, Result, Ok, Err, MatchResult, IfErr, ◌↔◌, drop, map}
use Rattle.std.specs.Borrow.{Bor, MutBor}
use Rattle.std.specs.Result.{result_ok}
use Rattle.lists.specs.Part.{IsPart}
use Rattle.lists.specs.Answer.{Answers}
use Rattle.digits.specs.Hex.{hex_digits}
use Rattle.text.specs.Decimal.{decimal}
use Rattle.text.specs.Put.{Put, Puts, Begun}
use Rattle.text.specs.declared.Text.{Text}
use Rattle.layout.specs.declared.Layout.{Layout}
use Rattle.layout.specs.declared.UnknownVersion.{UnknownVersion}
use Rattle.layout.specs.Versions.{version_of, known_said, forms, form_at}
use Rattle.incremental.specs.Decision.{decision_of, check, given}
use Rattle.incremental.specs.declared.Fault.{Fault}
use Rattle.incremental.specs.declared.Stop.{Stop}
use Rattle.incremental.specs.declared.Stop.TheVariants.{Wanted}
use Rattle.incremental.specs.Plan.{run, answer_of}
use Rattle.catalogue.specs.Line.{reading, read_answer, Writing}
use Rattle.catalogue.specs.declared.Fields.{Fields}
use Rattle.sections.specs.declared.Section.{Section}
use Rattle.sections.specs.Fields.{form_in}
use Rattle.path_hash.specs.Hash.{eight_at}
use Rattle.power_hash.specs.Powers.{swap_answer, swap_said}
use Rattle.head.specs.Checks.{start_plan, open_plan}
use Rattle.trace.specs.Links.{LinkListAnswer}
use Rattle.volumes.specs.Volumes.{volume_checks, volumes_checks}
use Rattle.reader.specs.Checks.{ReadsPrefix, ReadsFile, ReadsOpened}
use Rattle.query.specs.Queries.{ShownAt, places_needed, places_said, place_of, place_said, program_place, entry_place}
use Rattle.head.specs.declared.checks.Opening.{Opening}
use Rattle.query.specs.Queries.{path_place, volume_asked, volume_values, volume_said, reference_asked, reference_said}
use Rattle.query.specs.Contents.{ListsDirectories, ListsReferences, entry_reference_asked, entry_reference_said}
use Rattle.query.specs.Cost.{cost_asked, cost_said}
use Rattle.path_search.specs.Search.{path_found, path_said, ListsPaths}
use Rattle.path_search.specs.From.{path_found_from}
use Rattle.walk.specs.Walk.{Walks}
use Rattle.writer.specs.LaidOut.{Description}
use Rattle.writer.specs.Writes.{Writes}
use Rattle.readings.specs.Replay.{Replays}
use Rattle.readings.specs.Feeding.{Begins, Feeds, Finishes}
use Rattle.readings.specs.declared.pieces.Progress.{Progress}
use Rattle.replay_input.specs.Starts.{TakesStarts}
use Rattle.replay_input.specs.Input.{refused_line}
use Rattle.replay_input.specs.Text.{PutsAnswers}
use Rattle.replay_input.specs.Program.{Steps, Ends}
use Rattle.replay_input.specs.declared.steps.Input.{Input}
use Rattle.year.specs.Year.{Gives, RowsPut}
use Rattle.listing_text.specs.Listing.{Listed}
use Rattle.hivesaddle.specs.Output.{Answered, line_said, LineWriting, PrefixOut, FileOut, WalkOut, WriteOut, ReplayOut, YearOut}
use Rattle.hivesaddle.specs.Output.{BeginOut, FeedOut, FinishOut}

-- an answer; an answer and a list; and two lists; three; five
abbrev pub Settles : {R : Type 0} → (R → Type 0) → Type 0
Settles P = (r s : _) → P r → P s → r ≡ s

abbrev pub Settles₁ : {R : Type 0} → (R → List ℕ → Type 0) → Type 0
Settles₁ P = (r s : _) (a b : List ℕ) → P r a → P s b → (r ≡ s) × (a ≡ b)

abbrev pub Settles₂ : {R : Type 0} → (R → List ℕ → List ℕ → Type 0) → Type 0
Settles₂ P = (r s : _) (a b c d : List ℕ) → P r a c → P s b d → (r ≡ s) × (a ≡ b) × (c ≡ d)

abbrev pub Settles₃ : {R : Type 0} → (R → List ℕ → List ℕ → List ℕ → Type 0) → Type 0
Settles₃ P = (r s : _) (a b c d e f : List ℕ) → P r a c e → P s b d f → (r ≡ s) × (a ≡ b) × (c ≡ d) × (e ≡ f)

abbrev pub Settles₅ : {R : Type 0} → (R → List ℕ → List ℕ → List ℕ → List ℕ → List ℕ → Type 0) → Type 0
Settles₅ P =
    (r s : _) (a b c d e f g h i j : List ℕ) → P r a c e g i → P s b d f h j → (r ≡ s) × (a ≡ b) × (c ≡ d) × (e ≡ f) × (g ≡ h) × (i ≡ j)

-- two parts that are one: the same bytes at the same place
pub record SamePart (r s : Bor (List ℕ)) : Type 0 where
  pub contents : r.now ≡ s.now
  pub allocation : r.ref_ptr.0 ≡ s.ref_ptr.0
  pub offset : r.ref_ptr.1 ≡ s.ref_ptr.1

abbrev pub SettlesPart : (Bor (List ℕ) → Type 0) → Type 0
SettlesPart P = (r s : Bor (List ℕ)) → P r → P s → SamePart r s

-- two texts that are one: the same bytes up to the same position of one buffer
pub record SameText (r s : Text) : Type 0 where
  pub buffer : r.out.ghost_name ≡ s.out.ghost_name
  pub bytes : r.out.now ≡ s.out.now
  pub position : r.at ≡ s.at

abbrev pub SettlesText : (Text → Type 0) → Type 0
SettlesText P = (r s : Text) → P r → P s → SameText r s

-- bytes that are handed on, or what stops
abbrev pub bytes_in : Result (Bor (List ℕ)) Stop → Result (List ℕ) Stop
bytes_in (Ok b) = Ok b.now
bytes_in (Err x) = Err x

abbrev pub SettlesBytes : (Result (Bor (List ℕ)) Stop → Type 0) → Type 0
SettlesBytes P = (r s : Result (Bor (List ℕ)) Stop) → P r → P s → bytes_in r ≡ bytes_in s

-- a hash, and numbers that are left
abbrev pub step_in : {T : Type 0} → Option (ℕ × Bor (List T)) → Option (ℕ × List T)
step_in (Some p) = Some (p.0, p.1.now)
step_in None = None

abbrev pub SettlesStep : {T : Type 0} → (Option (ℕ × Bor (List T)) → Type 0) → Type 0
SettlesStep P = (r s : _) → P r → P s → step_in r ≡ step_in s

pub record Settled : Type 1 where
  -- ---- parts of lists, texts, lines
  pub lists_part : (bytes : Bor (List ℕ)) (at len : ℕ) → SettlesPart (IsPart bytes at len)
  pub sections_part_of : (bytes : Bor (List ℕ)) (s : Section) → SettlesPart (IsPart bytes s.at s.len)
  pub text_new : (out : MutBor (List ℕ)) → SettlesText (Begun out 0)
  pub text_resume : (out : MutBor (List ℕ)) (at : ℕ) → SettlesText (Begun out at)
  pub text_put : (t : Text) (b : ℕ) → SettlesText (Puts t (b ∷ []))
  pub text_put_all : (t : Text) (s : List ℕ) → SettlesText (Puts t s)
  pub text_put_decimal : (t : Text) (n : ℕ) → SettlesText (Puts t (decimal n))
  pub text_put_hex : (t : Text) (width x : ℕ) → SettlesText (Puts t (hex_digits width x))
  pub catalogue_read_line : (line : List ℕ) → Settles (λ r. read_answer r ≡ reading line)
  pub catalogue_write_line : (f : Fields) (out : List ℕ) → Settles₁ (Writing f out)
  -- ---- what is hashed
  pub path_hash_eight_step : {T : Type 0} (value : T → ℕ) (h : ℕ) (numbers : List T)
      → SettlesStep (λ r. (IsSome r ↔ (8 ≤ length numbers)) × IfSome r (λ p. (p.0 ≡ eight_at h (map value numbers) 0) × (p.1.now ≡ drop 8 numbers)))
  -- ---- versions and forms
  pub layout_try_from : (n : ℕ) → Settles (λ r. Answers known_said (version_of n) (result_ok r) × IfErr r (λ (u : UnknownVersion). u.0 ≡ n))
  pub layout_of_form : (start : ℕ) → Settles (λ r. r ≡ form_at start forms)
  -- ---- checks
  pub incremental_reach : (file : List ℕ) (k : ℕ)
      → SettlesBytes (λ r. MatchResult r (λ b. (k ≤ length file) × (b.now ≡ take k file)) (λ s. (length file < k) × (s ≡ Wanted k)))
  pub incremental_check : (n : ℕ) (f : Option Fault) → Settles (λ r. decision_of r ≡ check n f)
  pub incremental_given : {A : Type 0} (n at : ℕ) (o : Option A) → Settles (λ r. decision_of r ≡ given n at o)
  -- ---- heads and sections
  pub sections_find_form : (l : Layout) (b : List ℕ) → Settles (λ r. r ≡ form_in l b)
  pub head_read_start : (file : List ℕ) → Settles (λ r. answer_of r ≡ run start_plan file)
  pub head_read_open : (file : List ℕ) → Settles (λ r. answer_of r ≡ run open_plan file)
  pub trace_check_links : (at : ℕ → ℕ) (nexts : List ℕ) (m : ℕ) → Settles₁ (LinkListAnswer at nexts m)
  pub volumes_check_volume : (section : List ℕ) (l : Layout) (start i : ℕ) → Settles (λ r. decision_of r ≡ volume_checks section l start i)
  pub volumes_check_volumes : (section : List ℕ) (l : Layout) (start count : ℕ) → Settles (λ r. decision_of r ≡ volumes_checks section l start count)
  -- ---- whole files
  pub reader_read_prefix : (file buffer : List ℕ) → Settles₁ (ReadsPrefix file buffer)
  pub reader_read_file : (file buffer : List ℕ) → Settles₁ (ReadsFile file buffer)
  pub reader_read_opened : (file buffer : List ℕ) → Settles₁ (ReadsOpened file buffer)
  pub query_program_name : (file : Bor (List ℕ)) → SettlesPart (ShownAt file (place_of (program_place file.now)))
  pub query_entry_name : (file : Bor (List ℕ)) (i : ℕ) → SettlesPart (ShownAt file (place_of (entry_place file.now i)))
  pub query_volume_path : (file : Bor (List ℕ)) (i : ℕ) → SettlesPart (ShownAt file (volume_values (volume_asked file.now i)).path)
  pub query_path_in : (file : Bor (List ℕ)) (o : Opening) (i : ℕ) → SettlesPart (ShownAt file (path_place o file.now i))
  pub query_directories : (file : List ℕ) (i : ℕ) (pairs : List ℕ) → Settles₁ (ListsDirectories file i pairs)
  pub query_references : (file : List ℕ) (i : ℕ) (pairs : List ℕ) → Settles₁ (ListsReferences file i pairs)
  pub path_search_list_paths : (file pairs : List ℕ) → Settles₁ (ListsPaths file pairs)
  pub walk_walk : (file buffer order : List ℕ) → Settles₂ (Walks file buffer order)
  pub writer_write_file : (version : ℕ) (d : Description) (buffer output : List ℕ) → Settles₂ (Writes version d buffer output)
  pub listing_text_list : (file buffer out : List ℕ) → Settles₂ (Listed file buffer out)
  -- ---- recordings and tables
  pub readings_replay : (recording times boards work answers : List ℕ) → Settles₂ (Replays recording times boards work answers)
  pub readings_begin : (times boards work answers : List ℕ) → Settles₂ (Begins times boards work answers)
  pub readings_feed : (p : Progress) (piece times boards work answers : List ℕ) → Settles₁ (Feeds p piece times boards work answers)
  pub readings_finish : (p : Progress) (waiting : ℕ) (times boards work answers : List ℕ) → Settles₂ (Finishes p waiting times boards work answers)
  pub replay_input_take_starts : (piece : List ℕ) (held : ℕ) (times boards : List ℕ) → Settles₂ (TakesStarts piece held times boards)
  pub replay_input_take_step : (buffer : List ℕ) (end : ℕ) (input : Input) (times boards work answers : List ℕ)
      → Settles₅ (Steps buffer end input times boards work answers)
  pub replay_input_end_input : (input : Input) (times boards work answers : List ℕ) → Settles₂ (Ends input times boards work answers)
  pub replay_input_put_answers : (answers : List ℕ) (starts from : ℕ) (out : List ℕ) → Settles₁ (PutsAnswers answers starts from out)
  pub replay_input_put_refused : (line : ℕ) (out : List ℕ) → Settles₁ (Put out 0 (refused_line line))
  pub year_year_table : (bytes hashes answers : List ℕ) → Settles (Gives bytes hashes answers)
  pub year_year_rows : (bytes hashes answers rows : List ℕ) → Settles₁ (RowsPut bytes hashes answers rows)
  -- ---- the library for C
  pub hivesaddle_hs_hash_swap : (h : ℕ) (old : List ℕ) (p : ℕ) (start out : List ℕ) → Settles₁ (λ r. Answered (swap_said (swap_answer h old p start)) r out)
  pub hivesaddle_hs_hash_swap_bytes : (h : ℕ) (old : List ℕ) (p : ℕ) (start out : List ℕ)
      → Settles₁ (λ r. Answered (swap_said (swap_answer h old p start)) r out)
  pub hivesaddle_hs_places : (file out : List ℕ) → Settles₁ (λ r. Answered (places_said (places_needed file)) r out)
  pub hivesaddle_hs_program_name : (file out : List ℕ) → Settles₁ (λ r. Answered (place_said (program_place file)) r out)
  pub hivesaddle_hs_entry_name : (file : List ℕ) (i : ℕ) (out : List ℕ) → Settles₁ (λ r. Answered (place_said (entry_place file i)) r out)
  pub hivesaddle_hs_volume : (file : List ℕ) (i : ℕ) (out : List ℕ) → Settles₁ (λ r. Answered (volume_said (volume_asked file i)) r out)
  pub hivesaddle_hs_reference : (file : List ℕ) (i k : ℕ) (out : List ℕ) → Settles₁ (λ r. Answered (reference_said (reference_asked file i k)) r out)
  pub hivesaddle_hs_directories : (file : List ℕ) (i : ℕ) (pairs : List ℕ) → Settles₁ (ListsDirectories file i pairs)
  pub hivesaddle_hs_references : (file : List ℕ) (i : ℕ) (pairs : List ℕ) → Settles₁ (ListsReferences file i pairs)
  pub hivesaddle_hs_entry_reference : (file : List ℕ) (i : ℕ) (out : List ℕ)
      → Settles₁ (λ r. Answered (entry_reference_said (entry_reference_asked file i)) r out)
  pub hivesaddle_hs_cost : (file out : List ℕ) → Settles₁ (λ r. Answered (cost_said (cost_asked file)) r out)
  pub hivesaddle_hs_find_path_from : (file : List ℕ) (v : ℕ) (start out : List ℕ) → Settles₁ (λ r. Answered (path_said (path_found_from file v start)) r out)
  pub hivesaddle_hs_find_path : (file out : List ℕ) → Settles₁ (λ r. Answered (path_said (path_found file)) r out)
  pub hivesaddle_hs_catalogue_read : (line out : List ℕ) → Settles₁ (λ r. Answered (line_said (reading line)) r out)
  pub hivesaddle_hs_catalogue_write : (f : Fields) (out : List ℕ) → Settles₁ (LineWriting f out)
  pub hivesaddle_hs_list_paths : (file pairs : List ℕ) → Settles₁ (ListsPaths file pairs)
  pub hivesaddle_hs_read_prefix : (file buffer out : List ℕ) → Settles₂ (λ r buffer'. PrefixOut file buffer r buffer' out)
  pub hivesaddle_hs_read_file : (file buffer out : List ℕ) → Settles₂ (λ r buffer'. FileOut file buffer r buffer' out)
  pub hivesaddle_hs_walk : (file buffer order out : List ℕ) → Settles₃ (λ r buffer' order'. WalkOut file buffer order r buffer' order' out)
  pub hivesaddle_hs_write_file : (version : ℕ) (d : Description) (buffer output out : List ℕ)
      → Settles₃ (λ r buffer' output'. WriteOut version d buffer output r buffer' output' out)
  pub hivesaddle_hs_replay : (recording times boards work answers out : List ℕ)
      → Settles₃ (λ r work' answers'. ReplayOut recording times boards work answers r work' answers' out)
  pub hivesaddle_hs_replay_begin : (times boards work answers out : List ℕ)
      → Settles₃ (λ r work' answers'. BeginOut times boards work answers r work' answers' out)
  pub hivesaddle_hs_replay_feed : (p : Progress) (piece times boards work answers out : List ℕ)
      → Settles₂ (λ r answers'. FeedOut p piece times boards work answers r answers' out)
  pub hivesaddle_hs_replay_finish : (p : Progress) (waiting : ℕ) (times boards work answers out : List ℕ)
      → Settles₃ (λ r work' answers'. FinishOut p waiting times boards work answers r work' answers' out)
  pub hivesaddle_hs_year_table : (bytes hashes answers rows out : List ℕ)
      → Settles₂ (λ r rows'. YearOut bytes hashes answers r rows rows' out)
