-- What is read stands behind what came before.
use Rattle.std.proofs.Common.{rules}
use Rattle.listing.proofs.InputLaws.{consumed_behind}
use Rattle.listing.proofs.take_input.Goals as goal

pub loop-n-preserved : goal.loop-n-preserved
loop-n-preserved g c = record {
  within = search rules;
  taken = consumed_behind _ _ _ _ _ _ _ _ c.loop-n.invariant.within c.in_ok-more.ensures.bound.0 c.loop-n.invariant.taken c.in_ok-more.ensures.bytes.0;
}
