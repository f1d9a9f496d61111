-- UnaryMinus is one record behind what was read.
use Rattle.reading.proofs.StepLaws.{put_fields, negate_reads}
use Rattle.reading.proofs.calling.negative.Goals as goal

pub returns : goal.returns
returns c = λ t R o h. negate_reads c.args.place t R c.args.n o _ _ _ _ _ h (put_fields _ _ _ _ _ _ _ _ _ _ c.plain-node.ensures c.put.ensures)
