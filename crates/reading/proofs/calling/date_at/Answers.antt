-- The bytes up to the next quote are read as a date.
use Rattle.reading.proofs.CallingLaws.{find_in}
use Rattle.reading.proofs.calling.date_at.Goals as goal

pub slice_bounds-date_of-end : goal.slice_bounds-date_of-end
slice_bounds-date_of-end c = find_in _ _ _ c.requires c.find-e.ensures
