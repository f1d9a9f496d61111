-- The loop over the statements of a script.
use mathlib.Core.Path.{◌≡◌}
use lib.ListN.{length, drop}
use Rattle.reading.specs.Meets.{language_of, toks_at}
use Rattle.reading.proofs.WholeLaws.{Chain}
use Rattle.reading.proofs.scripts.all.Given as goal

abbrev pub invariant-loop-at : goal.invariant-loop-at
invariant-loop-at l = (length l.records ≡ length l.initial.records) × (length l.directory ≡ length l.initial.directory) × Chain (language_of l.language) l.s l.initial.records l.initial.directory l.base l.at l.n l.k l.latest l.records l.directory

abbrev pub decreases-loop-at : goal.decreases-loop-at
decreases-loop-at l = length (toks_at (drop l.base l.s) l.at.start)
