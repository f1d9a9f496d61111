-- The readers of statements and blocks, which call one another.
use Prim.Native.Nat.{◌+◌, ◌*◌}
use mathlib.Core.Path.{◌≡◌}
use lib.ListN.{length}
use Rattle.grammar.specs.Trees.{nil}
use Rattle.grammar.specs.Readers.{loop}
use Rattle.grammar.specs.Grammar as G
use Rattle.reading.specs.Meets.{language_of, toks_at}
use Rattle.reading.proofs.BodyLaws.{BlockChain}
use Rattle.reading.proofs.statements.+statements.Given as goal

abbrev pub decreases-block : goal.decreases-block
decreases-block l = 8 * l.depth + 4

abbrev pub decreases-conditional : goal.decreases-conditional
decreases-conditional l = 8 * l.depth + 2

abbrev pub decreases-repetition : goal.decreases-repetition
decreases-repetition l = 8 * l.depth + 2

abbrev pub decreases-statement : goal.decreases-statement
decreases-statement l = 8 * l.depth + 3

abbrev pub invariant-block-loop-at : goal.invariant-block-loop-at
invariant-block-loop-at l = (length l.out ≡ length l.initial.out) × BlockChain (G.statement (language_of l.language) l.depth) l.s (loop (G.block_turn (G.statement (language_of l.language) l.depth)) nil (toks_at l.s l.initial.at.start)) l.n l.initial.out l.at l.m l.count l.out

abbrev pub decreases-block-loop-at : goal.decreases-block-loop-at
decreases-block-loop-at l = length (toks_at l.s l.at.start)
