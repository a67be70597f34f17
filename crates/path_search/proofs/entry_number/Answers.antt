-- A name that fits ends in the strings.
use Rattle.std.proofs.Common.{sym, ◌∙◌, arith}
use Rattle.names.proofs.Laws.{fits_le}
use Rattle.path_search.proofs.entry_number.Goals as goal

pub slice_bounds-number_of-end : goal.slice_bounds-number_of-end
slice_bounds-number_of-end c =
    let h = fits_le _ _ _ (sym c.name_fits.ensures ∙ c.if-not-name_fits.false) in
    omega arith
