use native.Mathlib.Omega.{arith}
use Rattle.reading.proofs.AtomLaws.{toks_some}
use Rattle.reading.proofs.calling.special.Goals as goal

pub written-requires : goal.written-requires
written-requires c = omega (arith, toks_some c.requires.0, c.requires.1)
