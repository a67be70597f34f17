-- Lines of the listing that are written together, and the working buffer that it leaves.
use Rattle.std.specs.Prelude.{List, ◌++◌, ℕ, ltb, length}
use Rattle.lists.specs.Count.{pick}
use Rattle.lists.specs.Filled.{filled}
use Rattle.reader.specs.Verdict.{buffer_after}
use Rattle.reader.specs.Checks.{file_answer}
use Rattle.text.specs.Decimal.{decimal}
use Rattle.reader.specs.declared.verdict.Acceptance.{Acceptance}
use Rattle.listing_text.specs.Listing.{line, runs·word, files·word, chains·word, volumes·word, file_limit}

-- the four counts
unfoldable pub count_lines : Acceptance → List ℕ
count_lines a =
    line (runs·word ++ decimal a.run_count)
    ++ (line (files·word ++ decimal a.metrics_count)
    ++ (line (chains·word ++ decimal a.chain_count)
    ++ line (volumes·word ++ decimal a.volume_count)))

-- filled where the file is too long, else as the whole-file reader leaves it
abbrev pub places_left : List ℕ → ℕ → List ℕ
places_left p m = pick (ltb file_limit (length p)) (filled m) (buffer_after (file_answer p m) m)
