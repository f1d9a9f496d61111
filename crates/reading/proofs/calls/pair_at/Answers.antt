-- A pair of currencies: the second, and a date where there is one.
use mathlib.Core.List.{[]}
use Rattle.std.proofs.lemmas.Result.{err_from_is_err_and}
use Rattle.reading.specs.Meets.{words_in}
use Rattle.reading.proofs.CallLaws.{pair_alone, pair_no, pair_late, pair_is}
use Rattle.reading.proofs.calls.pair_at.Goals as goal

pub returns-then-c-ne-COMMA : goal.returns-then-c-ne-COMMA
returns-then-c-ne-COMMA c = pair_alone c.requires (words_in [] c.args.language.now.lists.currencies.now []) c.args.place c.args.first c.if-c-ne-COMMA.true c.leaf.result c.leaf.ensures

pub returns-in_err-second : goal.returns-in_err-second
returns-in_err-second c =
    let p = err_from_is_err_and c.from_residual.result c.from_residual.ensures.1 in
    rw (p.1, p.2) (pair_no c.requires (words_in [] c.args.language.now.lists.currencies.now []) c.args.place c.args.first c.next.ensures c.if-c-ne-COMMA.false c.in_err-second.ensures)

pub returns-in_err-day : goal.returns-in_err-day
returns-in_err-day c =
    let p = err_from_is_err_and c.from_residual-in_err-day.result c.from_residual-in_err-day.ensures.1 in
    rw (p.1, p.2) (pair_late c.requires (words_in [] c.args.language.now.lists.currencies.now []) c.args.place c.args.first c.next.ensures c.if-c-ne-COMMA.false c.in_ok-second.ensures c.in_err-day.ensures)

pub returns : goal.returns
returns c = pair_is c.requires (words_in [] c.args.language.now.lists.currencies.now []) c.args.place c.args.first c.next.ensures c.if-c-ne-COMMA.false c.in_ok-second.ensures c.in_ok-day.ensures c.leaf-2.result c.leaf-2.ensures
