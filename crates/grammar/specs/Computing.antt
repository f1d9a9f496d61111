-- Everything of the definition unfolds where `unfolding computing` stands.
use Rattle.tokens.specs.Computing.{computing as lexing}
use Rattle.grammar.specs.Trees.{size, records, meaning}
use Rattle.grammar.specs.Readers.{◌>>=◌, ◌>>◌, turns, loop, skip, last_of, give, fail, fail_at, ask, look, peek, read, the}
use Rattle.grammar.specs.Grammar.{constant, deeper, optional, group_turn, grouped, raise_turn, raised, power, signed, sum, comparison, expression, item_turn, items, arguments, method, postfix_turn, postfixes, date_of, a_date, df, rate_index, call_of, block_turn, block, if_over, ended, currency_of, a_currency, equity, pair, spot, cvg, call, named, name, pay_turn, payments, pays, minus, primary_over, primary, for_over, paid, target, assign, compound, assign_paid, name_first, plain, statement_over, statement}
use Rattle.grammar.specs.Latest.{latest_in}
use Rattle.grammar.specs.Words.{latest_of}
use Rattle.grammar.specs.Script.{entry_of, onward, turn, up_to, from, statements, of_tokens, read_script, reading_in, reading}

unfoldable pub computing : Unit {0}
unfolding lexing size records meaning ◌>>=◌ ◌>>◌ turns loop skip last_of give fail fail_at ask look peek read the constant deeper optional group_turn grouped raise_turn raised power signed sum comparison expression item_turn items arguments method postfix_turn postfixes date_of a_date df rate_index call_of block_turn block if_over ended currency_of a_currency equity pair spot cvg call named name pay_turn payments pays minus primary_over primary for_over paid target assign compound assign_paid name_first plain statement_over statement entry_of onward turn up_to from statements of_tokens read_script reading_in reading latest_in latest_of
computing = tt
