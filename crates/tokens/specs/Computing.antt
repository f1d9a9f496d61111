-- Everything of the definition unfolds where `unfolding computing` stands.
use Rattle.std.specs.Float.Ieee.{of_int, div, to_bits, neg}
use Rattle.tokens.specs.Text.{bytes, leading, same, begins, every, count, script}
use Rattle.tokens.specs.Places.{line, since, column}
use Rattle.tokens.specs.Names.{push, names, place, distinct, good_names, good_list, good_lists}
use Rattle.tokens.specs.Numbers.{digits, decimals, number_fault, value, value_of}
use Rattle.calendar.specs.Calendar.{total}
use Rattle.tokens.specs.Dates.{date}
use Rattle.tokens.specs.Tokens.{entry, code, word, numeral, quoted, sign, lexeme, scan, tokens, end_of}
use Rattle.tokens.specs.Keys.{pack, lookup, keyed, key_of, keyword_by, pair_by, lone_by}
use Rattle.tokens.specs.Kinds.{kind_by}
use Rattle.tokens.specs.Lexing.{script_end, mark_from, mark_at, step_at, scan_of, settle_from, cursor_at, advanced}
use Rattle.tokens.specs.Views.{place_after}

unfoldable pub computing : Unit {0}
unfolding of_int div to_bits neg bytes leading same begins every count script line since column push names place distinct good_names good_list good_lists digits decimals number_fault value value_of total date entry code word numeral quoted sign lexeme scan tokens end_of pack lookup keyed key_of keyword_by pair_by lone_by kind_by script_end mark_from mark_at step_at scan_of settle_from cursor_at advanced place_after
computing = tt
