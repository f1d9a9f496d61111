-- What is asked of the list of currencies where it is read by.
use Rattle.std.specs.Prelude.{List, ℕ, ◌≤◌, length}
use Rattle.tokens.specs.Names.{names}

-- currencies have few names, so that a place fits a word
abbrev pub Few : List ℕ → Type 0
Few currencies = length (names currencies) ≤ 256
