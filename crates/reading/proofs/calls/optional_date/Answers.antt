-- Where the sign stands, a date is read behind it.
use Rattle.grammar.specs.Grammar.{a_date}
use Rattle.reading.proofs.CallLaws.{optional_no, optional_yes, number_as}
use Rattle.reading.proofs.calls.optional_date.Goals as goal

pub returns-then-c-sign : goal.returns-then-c-sign
returns-then-c-sign c = (c.requires.0, optional_no c.requires.0 c.args.sign 0 a_date c.if-c-sign.true)

pub returns : goal.returns
returns c = number_as c.args.s.now c.date.result (optional_yes c.requires.0 c.args.sign 0 a_date c.next.ensures c.requires.1 c.if-c-sign.false) c.date.ensures
