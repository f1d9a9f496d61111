-- `place_in` meets its contract: a name is not there, or is walked to.
use mathlib.Core.Path.{sym, ap}
use Rattle.tokens.specs.Names.{index_of}
use borrow.Author.Tests.{not-true}
use Rattle.tokens.proofs.names.place_in.Goals as goal

pub returns-then-not-may_hold : goal.returns-then-not-may_hold
returns-then-not-may_hold c = ap index_of (sym (c.may_hold.ensures (not-true _ c.if-not-may_hold.true-raw)))
