-- The loop over the records. What is found so far, and what is still to be found, are together what all have.
use Prim.Native.Nat.{◌-◌, ◌*◌}
use native.Mathlib.Omega.{arith}
use lib.ListN.{length, drop}
use borrow.Author.Tests.{le-leb}
use Rattle.grammar.specs.Sizes.{record_width}
use Rattle.grammar.proofs.LatestLaws.{latest_turn, latest_none}
use Rattle.reading.proofs.latest.latest_of.Goals as goal

pub loop-i-preserved : goal.loop-i-preserved
loop-i-preserved c =
    let args = c.args in
    (c.loop-i.invariant.0, omega (arith, c.max-latest.ensures, c.date_of-date.ensures, latest_turn args.records.now c.loop-i.i args.m (omega arith), c.loop-i.invariant.1))

pub returns : goal.returns
returns c =
    let args = c.args in
    rw (le-leb (record_width * args.m) (length args.records.now) c.loop-i.invariant.0)
    (omega (arith, c.loop-i.invariant.1, latest_none (args.m - c.loop-i.i) (drop (record_width * c.loop-i.i) args.records.now) (omega arith)))
