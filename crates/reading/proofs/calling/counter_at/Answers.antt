-- The bytes up to the next quote are looked for among the day counters.
use Rattle.reading.proofs.CallingLaws.{find_in}
use Rattle.reading.proofs.calling.counter_at.Goals as goal

pub slice_bounds-place_in-end : goal.slice_bounds-place_in-end
slice_bounds-place_in-end c = find_in _ _ _ c.requires c.find-e.ensures
