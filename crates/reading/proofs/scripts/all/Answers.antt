-- The loop over the statements of a script.
use mathlib.Core.Path.{refl, ◌∙◌}
use mathlib.Core.List.{[]}
use Rattle.std.proofs.Common.{rules}
use Rattle.std.specs.Prelude.{Ok, Err}
use Rattle.reading.specs.Meets.{language_of}
use Rattle.reading.proofs.HoldLaws.{start_in}
use Rattle.reading.proofs.WholeLaws.{chain_start, chain_exit, chain_less, chain_next, ready_at, meets_at, chain_refused}
use Rattle.reading.proofs.MapLaws.{ok_was, err_was}
use Rattle.reading.proofs.scripts.all.Goals as goal

pub loop-at-init : goal.loop-at-init
loop-at-init c = (refl, refl, chain_start (language_of c.args.language.now) c.args.s.now _ _ c.requires _ c.start-at.ensures)

pub returns : goal.returns
returns c = chain_exit (language_of c.args.language.now) c.args.s.now _ _ c.loop-at.invariant.2 c.loop-at-test.false

pub rebased-c-requires : goal.rebased-c-requires
rebased-c-requires c = start_in c.loop-at.invariant.2.holds

pub statement-read-requires : goal.statement-read-requires
statement-read-requires c = (ready_at (language_of c.args.language.now) c.args.s.now _ _ c.loop-at.invariant.2 c.rebased-c.ensures)

pub returns-in_err-r : goal.returns-in_err-r
returns-in_err-r c =
    let words = language_of c.args.language.now in
    let l = c.loop-at.invariant.2 in
    let e = err_was _ c.statement-read.result c.map_err.result c.in_err-r.field-0.0 c.map_err.ensures.cases (c.in_err-r.was {u = tt}) in
    let h = chain_refused words c.args.s.now _ _ l c.loop-at-test.true (meets_at words c.args.s.now _ _ l c.rebased-c.ensures (Err e.0) [] (rw e.1 at c.statement-read.ensures)) in
    search rules

pub loop-at-smaller : goal.loop-at-smaller
loop-at-smaller c =
    let words = language_of c.args.language.now in
    let l = c.loop-at.invariant.2 in
    chain_less words c.args.s.now _ _ l c.loop-at-test.true (meets_at words c.args.s.now _ _ l c.rebased-c.ensures (Ok c.in_ok-r.r) c.statement-read.new.out (rw (ok_was _ c.statement-read.result c.map_err.result c.in_ok-r.r c.map_err.ensures.cases (c.in_ok-r.was {u = tt})) at c.statement-read.ensures))

pub loop-at-preserved : goal.loop-at-preserved
loop-at-preserved c =
    let words = language_of c.args.language.now in
    let l = c.loop-at.invariant in
    (c.statement-read.auto.out ∙ l.0, c.put_entry.auto.directory ∙ l.1, chain_next words c.args.s.now _ _ l.2 c.loop-at-test.true (meets_at words c.args.s.now _ _ l.2 c.rebased-c.ensures (Ok c.in_ok-r.r) c.statement-read.new.out (rw (ok_was _ c.statement-read.result c.map_err.result c.in_ok-r.r c.map_err.ensures.cases (c.in_ok-r.was {u = tt})) at c.statement-read.ensures)) l.0 c.latest_of-own.ensures c.put_entry.ensures c.max-latest.ensures)
