-- Document 01's "Program": what the listing says of a file.
use Rattle.std.specs.Prelude.{◌≡◌, ◌&&◌, List, [], ◌∷◌, ◌++◌, ℕ, ◌+◌, ◌*◌, ◌≤◌, leb, ltb, length, take}
use Rattle.lists.specs.Count.{pick}
use Rattle.lists.specs.Table.{tabulate}
use Rattle.little_endian.specs.Number.{le}
use Rattle.digits.specs.Hex.{hex_digits}
use Rattle.layout.specs.Head.{program_name_at}
use Rattle.text.specs.Ascii.{ascii}
use Rattle.text.specs.Decimal.{decimal}
use Rattle.text.specs.Put.{Put}
use Rattle.lists.specs.Filled.{filled}
use Rattle.incremental.specs.Decision.{accept, refuse}
use Rattle.incremental.specs.Plan.{Answer, decided, wants}
use Rattle.reader.specs.Verdict.{Acceptable, buffer_after}
use Rattle.reader.specs.Checks.{file_answer}
use Rattle.reader.specs.declared.verdict.Acceptance.{Acceptance}
use Rattle.path_search.specs.Search.{path_found}
use Rattle.std.specs.Prelude.{None, Option, Some}
use Rattle.path_search.specs.declared.PathEntry.{PathEntry}

-- the words
abbrev pub version·word : List ℕ
version·word = ascii "version "

abbrev pub name·word : List ℕ
name·word = ascii "name "

abbrev pub hash·word : List ℕ
hash·word = ascii "hash "

abbrev pub runs·word : List ℕ
runs·word = ascii "runs "

abbrev pub files·word : List ℕ
files·word = ascii "files "

abbrev pub chains·word : List ℕ
chains·word = ascii "chains "

abbrev pub volumes·word : List ℕ
volumes·word = ascii "volumes "

abbrev pub path·word : List ℕ
path·word = ascii "path "

abbrev pub refused·word : List ℕ
refused·word = ascii "refused "

abbrev pub too_long : List ℕ
too_long = ascii "too long"

-- each line ends in a line feed
abbrev pub line : List ℕ → List ℕ
line s = s ++ (10 ∷ [])

-- name units outside 33 to 126 are shown as `?`
abbrev pub shown_unit : ℕ → ℕ
shown_unit u = pick (leb 33 u && leb u 126) u 63

abbrev pub shown_name : List ℕ → ℕ → List ℕ
shown_name p units = tabulate units (λ k. shown_unit (le 2 p (program_name_at + 2 * k)))

-- the entry's index, a blank and its number (request 105), or `none`
abbrev pub path_text : Option PathEntry → List ℕ
path_text (Some w) = decimal w.index ++ (32 ∷ decimal w.number)
path_text None = ascii "none"

-- the eight lines
unfoldable pub accepted_text : Acceptance → List ℕ → List ℕ
accepted_text a p =
    line (version·word ++ decimal a.version)
    ++ (line (name·word ++ shown_name p a.name_units)
    ++ (line (hash·word ++ hex_digits 8 a.stored_hash)
    ++ (line (runs·word ++ decimal a.run_count)
    ++ (line (files·word ++ decimal a.metrics_count)
    ++ (line (chains·word ++ decimal a.chain_count)
    ++ (line (volumes·word ++ decimal a.volume_count)
    ++ line (path·word ++ path_text (path_found p))))))))

-- `refused 2 0`: number and index
unfoldable pub refused_text : ℕ → ℕ → List ℕ
refused_text number index = line (refused·word ++ (decimal number ++ (32 ∷ decimal index)))

abbrev pub answer_text : Answer Acceptable → List ℕ → List ℕ
answer_text (decided (accept x)) p = accepted_text x.fields p
answer_text (decided (refuse r)) p = refused_text r.number r.index
answer_text (wants k) p = []

-- the longest file that is read
abbrev pub file_limit : ℕ
file_limit = 49_151

-- THE LISTING of the bytes read, with a working buffer of m places
unfoldable pub listing : List ℕ → ℕ → List ℕ
listing p m = pick (ltb file_limit (length p)) (line too_long) (answer_text (file_answer p m) p)

-- room for every listing
abbrev pub room : ℕ
room = 256

-- THE PROMISE: the listing from the output's start and the position after it, the output's other bytes as they were; and the working
-- buffer afterwards, filled where the file is too long, else as the whole-file reader leaves it
pub record Listed (p buffer out : List ℕ) (r : ℕ) (buffer' out' : List ℕ) : Type 0 where
  pub text : Put out 0 (listing p (length buffer)) r out'
  pub whole : room ≤ length out → take r out' ≡ listing p (length buffer)
  pub places : buffer' ≡ pick (ltb file_limit (length p)) (filled (length buffer)) (buffer_after (file_answer p (length buffer)) (length buffer))
