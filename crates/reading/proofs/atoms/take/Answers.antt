use Rattle.reading.proofs.HoldLaws.{takes_next, takes_not}
use Rattle.reading.proofs.atoms.take.Goals as goal

pub returns-then-c-code : goal.returns-then-c-code
returns-then-c-code c = rw c.at.ensures (takes_not c.requires.0 _ c.if-c-code.true)

pub returns : goal.returns
returns c = takes_next c.requires.0 c.next.ensures _ c.requires.1 c.if-c-code.false
