-- A leaf is one record.
use Rattle.reading.proofs.CallingLaws.{leaf_written}
use Rattle.reading.proofs.calling.written.Goals as goal

pub returns : goal.returns
returns c = λ t R m. leaf_written c.args.leaf m c.put.ensures
