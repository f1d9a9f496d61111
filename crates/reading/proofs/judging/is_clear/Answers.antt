use Rattle.reading.proofs.JudgeLaws.{clear_is}
use Rattle.reading.proofs.judging.is_clear.Goals as goal

pub returns : goal.returns
returns c = clear_is c.args.text.now c.find.ensures
