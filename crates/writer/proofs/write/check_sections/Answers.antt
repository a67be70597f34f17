-- The first check that refuses answers; those before it passed.
use Rattle.writer.specs.Writes.{description_of}
use Rattle.writer.proofs.Deciding.{refused_7, refused_8, refused_9, refused_10, refused_links, refused_volumes, all_passed}
use Rattle.writer.proofs.write.check_sections.Goals as goal

pub returns-in_err-check : goal.returns-in_err-check
returns-in_err-check c =
    refused_7 c.args.draft.layout (description_of c.args.draft.contents) _ _ c.args.draft.ready.plan
    _ _ _ c.from_residual.ensures.1 _ c.places_fault.ensures c.in_err-check.ensures

pub returns-in_err-check-2 : goal.returns-in_err-check-2
returns-in_err-check-2 c =
    refused_8 c.args.draft.layout (description_of c.args.draft.contents) _ _ c.args.draft.ready.plan
    _ c.places_fault.ensures c.in_ok-check.ensures _ _ _ c.from_residual-in_err-check-2.ensures.1
    _ c.entries_fault.ensures c.in_err-check-2.ensures

pub returns-in_err-check-3 : goal.returns-in_err-check-3
returns-in_err-check-3 c =
    refused_9 c.args.draft.layout (description_of c.args.draft.contents) _ _ c.args.draft.ready.plan
    _ c.places_fault.ensures c.in_ok-check.ensures _ c.entries_fault.ensures c.in_ok-check-2.ensures _ _ _ c.from_residual-in_err-check-3.ensures.1
    _ c.misfit_fault.ensures c.in_err-check-3.ensures

pub returns-in_err-check-4 : goal.returns-in_err-check-4
returns-in_err-check-4 c =
    refused_10 c.args.draft.layout (description_of c.args.draft.contents) _ _ c.args.draft.ready.plan
    _ c.places_fault.ensures c.in_ok-check.ensures _ c.entries_fault.ensures c.in_ok-check-2.ensures _ _ _ c.from_residual-in_err-check-4.ensures.1
    _ _ c.misfit_fault.ensures c.in_ok-check-3.ensures c.unsound_fault.ensures c.in_err-check-4.ensures

pub returns-in_err-chains : goal.returns-in_err-chains
returns-in_err-chains c =
    refused_links c.args.draft.layout (description_of c.args.draft.contents) _ _ c.args.draft.ready.plan
    _ c.places_fault.ensures c.in_ok-check.ensures _ c.entries_fault.ensures c.in_ok-check-2.ensures _ c.misfit_fault.ensures c.in_ok-check-3.ensures _ c.unsound_fault.ensures c.in_ok-check-4.ensures _ _ c.check_links.ensures
    _ _ c.from_residual-in_err-chains.ensures.1 c.in_err-chains.was

pub returns-in_err-check_volumes : goal.returns-in_err-check_volumes
returns-in_err-check_volumes c =
    refused_volumes c.args.draft.layout (description_of c.args.draft.contents) _ _ c.args.draft.ready.plan
    _ c.places_fault.ensures c.in_ok-check.ensures _ c.entries_fault.ensures c.in_ok-check-2.ensures _ c.misfit_fault.ensures c.in_ok-check-3.ensures _ c.unsound_fault.ensures c.in_ok-check-4.ensures _ _ c.check_links.ensures
    _ c.in_ok-chains.was _ c.check_volumes.ensures _ _ c.from_residual-in_err-check_volumes.ensures.1 c.in_err-check_volumes.was

pub returns : goal.returns
returns c =
    all_passed c.args.draft.layout (description_of c.args.draft.contents) _ _ c.args.draft.ready.plan
    _ c.places_fault.ensures c.in_ok-check.ensures _ c.entries_fault.ensures c.in_ok-check-2.ensures _ c.misfit_fault.ensures c.in_ok-check-3.ensures _ c.unsound_fault.ensures c.in_ok-check-4.ensures _ _ c.check_links.ensures
    _ c.in_ok-chains.was _ c.check_volumes.ensures c.in_ok-check_volumes.was
