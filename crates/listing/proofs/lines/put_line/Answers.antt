-- What stands in memory and the rest of the line make the whole line.
use Rattle.listing.proofs.LineLaws.{line_room, gap_room, line_on, line_done}
use Rattle.listing.proofs.lines.put_line.Goals as goal

pub put_word-k-requires : goal.put_word-k-requires
put_word-k-requires c = line_room _ _ c.loop-i.invariant c.loop-i-test.true c.requires

pub put-k-requires : goal.put-k-requires
put-k-requires c = gap_room _ _ c.loop-i.invariant c.loop-i-test.true c.requires c.put_word-k.ensures

pub loop-i-preserved : goal.loop-i-preserved
loop-i-preserved c = line_on _ _ c.loop-i.invariant c.loop-i-test.true c.put_word-k.ensures c.gap.ensures c.put-k.ensures

pub returns : goal.returns
returns c = line_done _ _ c.loop-i.invariant c.loop-i-test.false
