use Rattle.reading.proofs.HoldLaws.{next_follows}
use Rattle.reading.proofs.atoms.next.Goals as goal

pub returns : goal.returns
returns c = next_follows c.requires c.next.ensures
