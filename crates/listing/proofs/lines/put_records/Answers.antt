-- What stands in memory and the lines of the records that are left make all the lines.
use mathlib.Core.Path.{sym, ◌∙◌}
use Rattle.listing.proofs.LineLaws.{record_room, records_on, records_done}
use Rattle.listing.proofs.lines.put_records.Goals as goal

pub put_record-k-requires : goal.put_record-k-requires
put_record-k-requires c =
    let l = c.loop-record.invariant in
    let s = c.in-Some.ensures.steps in
    (record_room _ _ _ _ l.2 l.1 _ s.1 c.requires.0 c.requires.1, sym (s.0.1.1 ∙ l.0))

pub loop-record-preserved : goal.loop-record-preserved
loop-record-preserved c =
    let l = c.loop-record.invariant in
    let s = c.in-Some.ensures.steps in
    let on = records_on _ _ _ _ l.2 l.1 _ _ _ s.1 s.0.1.0 (s.0.1.1 ∙ l.0) c.put_record-k.ensures in
    (s.0.0 ∙ l.0, on.0, on.1)

pub returns : goal.returns
returns c =
    let l = c.loop-record.invariant in
    records_done _ _ _ _ l.2 l.1 (λ more. rw (← l.0) (c.in-None.ensures.steps more).1.0)
