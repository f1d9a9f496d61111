-- Everything of the definition unfolds where `unfolding computing` stands, the lookup too.
use Rattle.grammar.specs.Computing.{computing as grammar}
use Rattle.reading.specs.Calls.{call_kind, call_by, right_count, method_kind}
use Rattle.reading.specs.Parts.{first_name, name_in, text_at, lines, name_at, currency_at, part_at}

unfoldable pub computing : Unit {0}
unfolding grammar call_kind call_by right_count method_kind first_name name_in text_at lines name_at currency_at part_at
computing = tt
