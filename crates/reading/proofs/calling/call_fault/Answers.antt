-- The count of arguments is judged first, and of a cvg its strings.
use mathlib.Core.Path.{ap}
use Rattle.reading.specs.Rows.{kind_number}
use Rattle.reading.proofs.CallingLaws.{call_cvg}
use Rattle.reading.proofs.calling.call_fault.Goals as goal

pub returns-in-Cvg : goal.returns-in-Cvg
returns-in-Cvg c = λ es S e. call_cvg _ _ _ es e c.if-not-is_right_count.ensures (ap kind_number c.in-Cvg.is) (c.cvg_fault.ensures es S)
