use Rattle.std.proofs.Common.{◌≡◌, fold, zip, take, reverse, length, refl, rules}
use Rattle.std.proofs.lemmas.Fn.{fold_over, fronts}
use Rattle.std.proofs.lemmas.Iterator.{YieldsList-from_slice, YieldsList-from_zip, zips}
use Rattle.std.proofs.lemmas.Iterator.Adapters.{YieldsList-from_rev_slice}
use Rattle.std.specs.Iterator.Adapters.{rev_steps}
use Rattle.std.specs.Slice.Iter.{iter_steps_back}
use Rattle.std.proofs.lemmas.List.Sums.{fold-append}
use Rattle.power_hash.proofs.Table.{turn, sum_vista}
use Rattle.power_hash.proofs.sum_powers.Goals as goal

pub returns : goal.returns
returns g c =
    let v = g.T.Number.value in
    let s = c.args.numbers.now in
    let t = take (length s) c.power_table.result.now in
    sum_vista v c.power_table.result.now c.power_table.ensures s c.fold.result c.requires
    (fold_over (zips fronts (rev_steps iter_steps_back)) (λ p. (p.0.now, p.1.now)) _ (λ ys n. n ≡ fold (λ b p. turn b (v p.0) p.1) 0 ys) _ (λ ys a x b f' j k. search (rules, fold-append))
    c.zip.result (zip s (reverse t)) _ _ (YieldsList-from_zip {s = c.zip.result} (YieldsList-from_slice s (search rules)) (YieldsList-from_rev_slice t (search rules))).runs refl c.fold.ensures.ran)
