-- The primaries that are one token, as readers of their own.
use Rattle.std.specs.Prelude.{Bool, ℕ, if◌then◌else◌}
use Rattle.tokens.specs.Numbers.{value, signed}
use Rattle.grammar.specs.Trees.{Tree, none as unused}
use Rattle.grammar.specs.Readers.{Reader, ◌>>=◌, ◌>>◌, is, give, fail, peek, the}
use Rattle.grammar.specs.Grammar.{leaf, string, constant}

-- a number, negated where a minus stood before it, with its place
abbrev pub literal : ℕ → Bool → Reader Tree
literal b minus = peek >>= λ t. the "number" >> give (constant b (signed minus (value t.text)) t)

-- a number, true, false or a string
unfoldable pub atom : Reader Tree
atom = peek >>= λ t.
    if is "number" t then (the "number" >> give (constant t.from (value t.text) t))
    else if is "true" t then (the "true" >> give (leaf 3 t.from unused))
    else if is "false" t then (the "false" >> give (leaf 4 t.from unused))
    else if is "string" t then (the "string" >> give (string t))
    else fail 8
