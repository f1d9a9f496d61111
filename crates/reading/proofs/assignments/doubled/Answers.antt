use Rattle.reading.proofs.HoldLaws.{start_in}
use Rattle.reading.proofs.assignments.doubled.Goals as goal

pub named_node-requires : goal.named_node-requires
named_node-requires c = start_in c.requires.0.0
