-- The judgement of a text is what the scan answers, or else what the reader of all statements answers.
use mathlib.Core.Path.{sym}
use Rattle.std.proofs.lemmas.Result.{err_from_is_err_and}
use Rattle.tokens.specs.LentLists.{lists_of}
use Rattle.reading.specs.Meets.{edition_by}
use Rattle.reading.proofs.JudgeLaws.{passed, text_refused, text_clean, text_not, text_good}
use Rattle.reading.proofs.judging.judge_text.Goals as goal

pub returns-in_err-scanned : goal.returns-in_err-scanned
returns-in_err-scanned c =
    let language = c.args.language.now in
    let p = err_from_is_err_and c.from_residual.result c.from_residual.ensures.1 in
    rw (p.1, p.2) (sym (text_refused (edition_by language.two) (lists_of language.lists) c.args.s.now (sym c.in_err-scanned.ensures)))

pub all-requires : goal.all-requires
all-requires c =
    let language = c.args.language.now in
    (text_clean (edition_by language.two) (lists_of language.lists) c.args.s.now (passed c.args.s.now (sym c.in_ok-scanned.ensures)) c.requires)

pub returns-in_err-read : goal.returns-in_err-read
returns-in_err-read c =
    let language = c.args.language.now in
    let p = err_from_is_err_and c.from_residual-in_err-read.result c.from_residual-in_err-read.ensures.1 in
    rw (p.1, p.2) (sym (text_not (edition_by language.two) (lists_of language.lists) c.args.s.now (passed c.args.s.now (sym c.in_ok-scanned.ensures)) c.in_err-read.ensures))

pub returns : goal.returns
returns c =
    let language = c.args.language.now in
    sym (text_good (edition_by language.two) (lists_of language.lists) c.args.s.now (passed c.args.s.now (sym c.in_ok-scanned.ensures)) c.in_ok-read.ensures)
