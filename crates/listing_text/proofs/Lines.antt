-- The lines of a listing, joined, and the answers that they list.
use mathlib.Core.Path.{◌≡◌, refl, sym, ap, ◌∙◌}
use mathlib.Core.List.{List, [], ◌∷◌, ◌++◌, append_assoc}
use Prim.Native.Nat.{ℕ, zero, suc, ◌+◌, ◌*◌, ◌≤◌, ◌<◌}
use native.Mathlib.Nat.{sub-zero}
use native.Mathlib.Numerals.{add-one}
use native.Mathlib.Omega.{arith}
use borrow.Author.Tests.{lt-ltb, le-ltb}
use lib.ListN.{length, take}
use Rattle.lists.specs.Table.{tabulate}
use Rattle.little_endian.specs.Number.{le}
use Rattle.incremental.specs.Decision.{accept, refuse}
use Rattle.incremental.specs.Plan.{Answer, decided, wants}
use Rattle.incremental.specs.declared.Refusal.{Refusal}
use Rattle.digits.specs.Hex.{hex_digits}
use Rattle.reader.specs.Verdict.{Acceptable, Values, Reads, answer_values, accepted_values, refused_values, values_of}
use Rattle.reader.specs.Checks.{file_answer}
use Rattle.reader.specs.declared.verdict.Acceptance.{Acceptance}
use Rattle.path_search.specs.Search.{path_found}
use Rattle.text.specs.Decimal.{decimal}
use Rattle.text.specs.Put.{Put, Puts}
use Rattle.listing_text.specs.Private.{count_lines, places_left}
use Rattle.text.specs.declared.Text.{Text}
use Rattle.text.proofs.Growth.{put_whole, puts_none, puts_then, puts_from}
use Rattle.listing_text.specs.Listing.{line, version·word, name·word, hash·word, runs·word, files·word, chains·word, volumes·word}
use Rattle.listing_text.specs.Listing.{path·word, too_long, shown_unit, shown_name, path_text, accepted_text, refused_text}
use Rattle.listing_text.specs.Listing.{answer_text, file_limit, listing, Listed}
use Rattle.listing_text.proofs.Bounds.{Bytes}
use Rattle.listing_text.proofs.ListingRoom.{listing_short}
use Rattle.std.specs.Prelude.{Err, Ok, Result}
use Rattle.incremental.specs.declared.Stop.TheVariants.{Refused}
use Rattle.incremental.specs.declared.Stop.{Stop}

-- ---- the units of the name
-- the last entry of a list that is given by its entries
tabulate_last : (n : ℕ) (f : ℕ → ℕ) → tabulate (suc n) f ≡ tabulate n f ++ (f n ∷ [])
unfolding tabulate
tabulate_last zero f = refl
tabulate_last (suc n) f = ap (λ (l : List ℕ). f 0 ∷ l) (tabulate_last n (λ k. f (suc k)))

pub name_none : (t : Text) (p : List ℕ) → Puts t (shown_name p 0) t
unfolding tabulate
name_none t p = puts_none t

pub name_next : {a b c : Text} (p : List ℕ) (k u : ℕ) → u ≡ shown_unit (le 2 p (16 + 2 * k)) → Puts a (shown_name p k) b → Puts b (u ∷ []) c
    → Puts a (shown_name p (k + 1)) c
name_next p k u e g h = rw (add-one, tabulate_last, ← e) (puts_then g h)

-- ---- the lines

-- two numbers and the blank between them
pub pair_of : (a b c d : Text) (m n : ℕ) → Puts a (decimal m) b → Puts b (32 ∷ []) c → Puts c (decimal n) d → Puts a (decimal m ++ (32 ∷ decimal n)) d
pair_of a b c d m n f g h = puts_then f (puts_then g h)

-- a word, what is said behind it, and the line feed
pub line_of : {a b c d : Text} {word s : List ℕ} → Puts a word b → Puts b s c → Puts c (10 ∷ []) d → Puts a (line (word ++ s)) d
line_of f g h = puts_then (puts_then f g) h

pub counts_of : {t u v w x : Text} (a : Acceptance)
    → Puts t (line (runs·word ++ decimal a.run_count)) u
    → Puts u (line (files·word ++ decimal a.metrics_count)) v
    → Puts v (line (chains·word ++ decimal a.chain_count)) w
    → Puts w (line (volumes·word ++ decimal a.volume_count)) x
    → Puts t (count_lines a) x
unfolding count_lines
counts_of a f g h k = puts_then f (puts_then g (puts_then h k))

-- the eight lines: three before the counts and one after them
regroup : (a b c d e : List ℕ) → (a ++ (b ++ (c ++ d))) ++ e ≡ a ++ (b ++ (c ++ (d ++ e)))
regroup a b c d e = simp append_assoc

pub accepted_of : {t u v w x y : Text} (a : Acceptance) (file : List ℕ)
    → Puts t (line (version·word ++ decimal a.version)) u
    → Puts u (line (name·word ++ shown_name file a.name_units)) v
    → Puts v (line (hash·word ++ hex_digits 8 a.stored_hash)) w
    → Puts w (count_lines a) x
    → Puts x (line (path·word ++ path_text (path_found file))) y
    → Puts t (accepted_text a file) y
unfolding accepted_text count_lines
accepted_of a file f g h k l =
    let m = rw (regroup (line (runs·word ++ decimal a.run_count)) _ _ _ _) at (puts_then k l) in
    puts_then f (puts_then g (puts_then h m))

-- ---- which listing it is
module _ (p : List ℕ) (n : ℕ) where
  pub listing_long : file_limit < length p → line too_long ≡ listing p n
  unfolding listing
  listing_long l = rw (lt-ltb file_limit (length p) l)

  module _ (l : length p ≤ file_limit) (m : ℕ) (v : Result Acceptance Stop) (after : List ℕ) (z : Reads (file_answer p n) m v after) where
    listing-read : answer_text (file_answer p n) p ≡ listing p n
    unfolding listing
    listing-read = rw (le-ltb file_limit (length p) l)

    -- what the answer is by the verdict's values
    accepted_answer : (a : Acceptance) (x : Answer Acceptable) → accepted_values a ≡ answer_values x → accepted_text a p ≡ answer_text x p
    accepted_answer a (decided (accept y)) e = ap (λ (b : Acceptance). accepted_text b p) (ap (λ (w : Values). w.fields) e)
    accepted_answer a (decided (refuse q)) e = absurd (omega (arith, ap (λ (w : Values). w.kind) e))
    accepted_answer a (wants k) e = absurd (omega (arith, ap (λ (w : Values). w.kind) e))

    refused_answer : (f : Refusal) (x : Answer Acceptable) → refused_values f ≡ answer_values x
        → refused_text f.number f.index ≡ answer_text x p
    refused_answer f (decided (accept y)) e = absurd (omega (arith, ap (λ (w : Values). w.kind) e))
    refused_answer f (decided (refuse q)) e = rw (ap (λ (w : Values). w.number) e, ap (λ (w : Values). w.index) e)
    refused_answer f (wants k) e = absurd (omega (arith, ap (λ (w : Values). w.kind) e))

    pub listing_accepted : (a : Acceptance) → v ≡ Ok a → accepted_text a p ≡ listing p n
    listing_accepted a q = accepted_answer a (file_answer p n) (ap values_of (sym q) ∙ z.verdict) ∙ listing-read

    pub listing_refused : (f : Refusal) → v ≡ Err (Refused f) → refused_text f.number f.index ≡ listing p n
    listing_refused f q = refused_answer f (file_answer p n) (ap values_of (sym q) ∙ z.verdict) ∙ listing-read

-- what stands in the text stands in the output; where there is room for every listing, all of it does
pub listed : (p buffer : List ℕ) → Bytes p → (o : List ℕ) (t u : Text) (after : List ℕ) → t.out.now ≡ o → t.at ≡ 0 → Puts t (listing p (length buffer)) u
    → after ≡ places_left p (length buffer) → (r : ℕ) (o' : List ℕ) → r ≡ u.at → o' ≡ u.out.now → Listed p buffer o r after o'
listed p buffer h o t u after b z g e r o' q w =
    let text : Put o 0 (listing p (length buffer)) r o' = puts_from t u b z g r o' q w in
    record {
      text = text;
      whole = λ l.
          ap (λ (k : ℕ). take k o') (sym (sub-zero r))
          ∙ put_whole o 0 (listing p (length buffer)) r o' text (omega arith) (omega (arith, listing_short p (length buffer) h));
      places = e;
    }
