-- Where the sign stands, a currency is read behind it.
use mathlib.Core.List.{[]}
use Rattle.reading.specs.Meets.{words_in}
use Rattle.grammar.specs.Grammar.{a_currency}
use Rattle.reading.proofs.CallLaws.{optional_no, optional_yes, number_as}
use Rattle.reading.proofs.calls.optional_currency.Goals as goal

pub returns-then-c-sign : goal.returns-then-c-sign
returns-then-c-sign c = (c.requires.0, optional_no c.requires.0 c.args.sign 0 (a_currency (words_in [] c.args.language.now.lists.currencies.now [])) c.if-c-sign.true)

pub returns : goal.returns
returns c = number_as c.args.s.now c.currency.result (optional_yes c.requires.0 c.args.sign 0 (a_currency (words_in [] c.args.language.now.lists.currencies.now [])) c.next.ensures c.requires.1 c.if-c-sign.false) c.currency.ensures
