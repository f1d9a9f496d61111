-- A comma is read, a closing sign is not, and anything else is refused.
use Rattle.reading.proofs.CallingLaws.{end_comma, end_close, end_not}
use Rattle.reading.proofs.calling.follow.Goals as goal

pub returns-then-c-eq-COMMA : goal.returns-then-c-eq-COMMA
returns-then-c-eq-COMMA c = (c.next.ensures.holds, λ es. end_comma c.requires.0 _ es c.next.ensures c.if-c-eq-COMMA.true)

pub returns-then-c-close : goal.returns-then-c-close
returns-then-c-close c = (c.requires.0, λ es. end_close c.requires.0 _ es c.if-c-eq-COMMA.false c.if-c-close.true)

pub returns : goal.returns
returns c = λ es. rw c.at.ensures (end_not c.requires.0 _ es c.if-c-eq-COMMA.false c.if-c-close.false)
