-- Spot: its sign, its first string, what stands behind that, and the closing sign.
use mathlib.Core.Path.{ap, ◌∙◌}
use mathlib.Core.List.{[]}
use Rattle.std.proofs.lemmas.Result.{err_from_is_err_and}
use Rattle.reading.specs.Meets.{words_in}
use Rattle.grammar.specs.Readers.{bind}
use Rattle.reading.specs.Calls.{ending}
use Rattle.reading.proofs.CallLaws.{leaf_as, spot_no, spot_not, spot_is}
use Rattle.reading.proofs.calls.spot_at.Goals as goal

pub returns-in_err-name : goal.returns-in_err-name
returns-in_err-name c =
    let p = err_from_is_err_and c.from_residual.result c.from_residual.ensures.1 in
    rw (p.1, p.2) (spot_no c.args.s.now (words_in [] c.args.language.now.lists.currencies.now []) c.args.place c.args.c c.in_err-name.ensures)

pub returns-in_err-d : goal.returns-in_err-d
returns-in_err-d c =
    let p = err_from_is_err_and c.from_residual-in_err-d.result c.from_residual-in_err-d.ensures.1 in
    rw (p.1, p.2) (spot_not c.args.s.now (words_in [] c.args.language.now.lists.currencies.now []) c.args.place c.args.c c.in_ok-name.ensures c.in_err-d.ensures)

pub returns-in_err-spot_of : goal.returns-in_err-spot_of
returns-in_err-spot_of c =
    let p = err_from_is_err_and c.from_residual-in_err-spot_of.result c.from_residual-in_err-spot_of.ensures.1 in
    rw (p.1, p.2) (spot_is c.args.s.now (words_in [] c.args.language.now.lists.currencies.now []) c.args.place c.args.c c.in_ok-name.ensures c.in_ok-d.ensures ∙ ap (bind ending) c.in_err-spot_of.ensures)

pub returns : goal.returns
returns c = leaf_as c.args.s.now c.closed.result (spot_is c.args.s.now (words_in [] c.args.language.now.lists.currencies.now []) c.args.place c.args.c c.in_ok-name.ensures c.in_ok-d.ensures) (c.closed.ensures _ c.in_ok-spot_of.ensures)
