-- The six pairs are tested in order of their later section, so the first pair that shares gives the fault.
use Rattle.sections.proofs.Cases.{picks, by_pairs}
use Rattle.sections.proofs.overlap_fault.Goals as goal

pub returns-then-share-2 : goal.returns-then-share-2
returns-then-share-2 c = by_pairs _ _ (search picks depth 9)

pub returns : goal.returns
returns c = by_pairs _ _ (search picks depth 9)

pub returns-then-share-5 : goal.returns-then-share-5
returns-then-share-5 c = by_pairs _ _ (search picks depth 9)

pub returns-then-share : goal.returns-then-share
returns-then-share c = by_pairs _ _ (search picks depth 9)

pub returns-then-share-6 : goal.returns-then-share-6
returns-then-share-6 c = by_pairs _ _ (search picks depth 9)

pub returns-then-share-3 : goal.returns-then-share-3
returns-then-share-3 c = by_pairs _ _ (search picks depth 9)

pub returns-then-share-4 : goal.returns-then-share-4
returns-then-share-4 c = by_pairs _ _ (search picks depth 9)
