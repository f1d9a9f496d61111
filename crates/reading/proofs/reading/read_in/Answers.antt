-- Whole scripts: judged, then read, then what is left in memory.
use mathlib.Core.Path.{refl, sym}
use lib.Seq.{length-take-le}
use Rattle.std.specs.Prelude.{Ok}
use Rattle.std.proofs.lemmas.Result.{err_from_is_err_and}
use Rattle.tokens.specs.LentLists.{lists_of}
use Rattle.reading.specs.Editions.{edition_of}
use Rattle.reading.proofs.ReadLaws.{Good, judged_good, bytes_in, text_ready, never_refused, leaves_not, leaves_wide, leaves_many, leaves_read}
use Rattle.reading.proofs.reading.read_in.Goals.{In_ok-c, then-c-record_room-via-then-c-record_room, then-c-record_room-via-else-c-record_room+then-c-statement_room}
use Rattle.reading.proofs.reading.read_in.Goals as goal

judged_so : (c : In_ok-c) → Good (edition_of c.args.edition) (lists_of c.args.lists.now) c.args.script.now c.in_ok-c.c
judged_so c = judged_good (edition_of c.args.edition) (lists_of c.args.lists.now) c.args.script.now (sym c.in_ok-c.ensures)

pub returns-in_err-c : goal.returns-in_err-c
returns-in_err-c c =
    let p = err_from_is_err_and c.from_residual.result c.from_residual.ensures.1 in
    rw (p.1, p.2) (leaves_not (edition_of c.args.edition) (lists_of c.args.lists.now) c.args.script.now _ _ (sym c.in_err-c.ensures))

pub returns-then-c-record_room : goal.returns-then-c-record_room
returns-then-c-record_room c =
    let E = edition_of c.args.edition in
    let lists = lists_of c.args.lists.now in
    let good = judged_so (goal.at.returns-then-c-record_room c).In_ok-c in
    elim c.then-c-record_room.branch [
      | then-c-record_room-via-then-c-record_room w ↦ leaves_wide E lists c.args.script.now _ _ good c.record_room.ensures w.if-c-record_room.true
      | then-c-record_room-via-else-c-record_room+then-c-statement_room w ↦ leaves_many E lists c.args.script.now _ _ good c.record_room.ensures w.if-c-record_room.false w.statement_room.ensures w.if-c-statement_room.true
    ]

pub slice_bounds-all-end : goal.slice_bounds-all-end
slice_bounds-all-end c =
    sym (length-take-le _ c.args.script.now (bytes_in (edition_of c.args.edition) (lists_of c.args.lists.now) c.args.script.now (judged_so (goal.at.slice_bounds-all-end c).In_ok-c)))

pub all-requires : goal.all-requires
all-requires c = (text_ready (edition_of c.args.edition) (lists_of c.args.lists.now) c.args.script.now (judged_so (goal.at.all-requires c).In_ok-c)).0

pub invariant_of-language : goal.invariant_of-language
invariant_of-language c = record { few = (text_ready (edition_of c.args.edition) (lists_of c.args.lists.now) c.args.script.now (judged_so (goal.at.invariant_of-language c).In_ok-c)).1 }

-- the second reading can refuse in the types only
pub returns-in_err-r : goal.returns-in_err-r
returns-in_err-r c =
    absurd (never_refused (edition_of c.args.edition) (lists_of c.args.lists.now) c.args.script.now (judged_so (goal.at.returns-in_err-r c).In_ok-c) (rw c.is_second.ensures at c.in_err-r.ensures))

pub returns : goal.returns
returns c =
    leaves_read (edition_of c.args.edition) (lists_of c.args.lists.now) c.args.script.now _ _ (judged_so (goal.at.returns c).In_ok-c) c.acceptance.ensures c.record_room.ensures c.if-c-record_room.false c.statement_room.ensures c.if-c-statement_room.false (Ok c.in_ok-r.r) refl (rw c.is_second.ensures at c.in_ok-r.ensures)
