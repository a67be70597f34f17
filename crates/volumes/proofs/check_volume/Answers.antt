-- The check of an entry, at the entry's own place and file offset.
use Rattle.volumes.proofs.Laws.{volume_checked}
use Rattle.volumes.proofs.check_volume.Goals as goal

pub returns : goal.returns
returns c = volume_checked _ c.args.l _ _ _ c.entry_offset-place.ensures.0 c.of.ensures.0 c.of.ensures.1 c.check.ensures
