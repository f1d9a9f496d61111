-- The kinds of tokens as the code names them, and the number of each.
use Rattle.std.specs.Prelude.{true, false, List, [], ◌∷◌, map, ℕ, eqb, if◌then◌else◌}
use Rattle.tokens.specs.Numbers.{value_of}
use Rattle.tokens.specs.Keys.{lookup}
use Rattle.tokens.specs.declared.kinds.Literal.{Literal}
use Rattle.tokens.specs.declared.kinds.Literal.TheVariants.{Number, Truth}
use Rattle.tokens.specs.declared.kinds.Kind.{Kind}
use Rattle.tokens.specs.declared.kinds.Kind.TheVariants.{Value, Identifier, String, Plus, PlusAssign, Minus, MinusAssign, Multiply, MultiplyAssign, Divide, DivideAssign, Power, Assign, Equal, NotEqual, Superior, Inferior, SuperiorOrEqual, InferiorOrEqual, OpenParen, CloseParen, OpenCurlyParen, CloseCurlyParen, OpenBracket, CloseBracket, Comma, Dot, Semicolon, And, Or, Not, If, Then, Else, End, For, Pays, On, In, Newline, Eof}

-- the number of a literal's kind
abbrev pub literal_code : Literal → ℕ
literal_code (Number x) = 2
literal_code (Truth true) = 3
literal_code (Truth false) = 4

-- the number of a kind, as the table of tokens has it
abbrev pub code_of : Kind → ℕ
code_of Identifier = 1
code_of String = 5
code_of Plus = 8
code_of Minus = 9
code_of Multiply = 10
code_of Divide = 11
code_of Power = 12
code_of Equal = 13
code_of NotEqual = 14
code_of Superior = 15
code_of Inferior = 16
code_of SuperiorOrEqual = 17
code_of InferiorOrEqual = 18
code_of And = 19
code_of Or = 20
code_of PlusAssign = 28
code_of MinusAssign = 29
code_of MultiplyAssign = 30
code_of DivideAssign = 31
code_of Pays = 36
code_of Assign = 37
code_of If = 38
code_of For = 39
code_of OpenParen = 40
code_of CloseParen = 41
code_of OpenCurlyParen = 42
code_of CloseCurlyParen = 43
code_of OpenBracket = 44
code_of CloseBracket = 45
code_of Comma = 46
code_of Dot = 47
code_of Semicolon = 48
code_of Else = 49
code_of On = 50
code_of In = 51
code_of Then = 52
code_of End = 53
code_of Not = 54
code_of Newline = 55
code_of (Value v) = literal_code v
code_of Eof = 0

-- every kind but those of a number literal and of the end, with its number
abbrev pub kinds : List (ℕ × Kind)
kinds =
    map (λ (k : Kind). (code_of k, k))
    (Identifier ∷ Value (Truth true) ∷ Value (Truth false) ∷ String ∷ Plus ∷ Minus ∷ Multiply
    ∷ Divide ∷ Power ∷ Equal ∷ NotEqual ∷ Superior ∷ Inferior ∷ SuperiorOrEqual ∷ InferiorOrEqual
    ∷ And ∷ Or ∷ PlusAssign ∷ MinusAssign ∷ MultiplyAssign ∷ DivideAssign ∷ Pays ∷ Assign ∷ If
    ∷ For ∷ OpenParen ∷ CloseParen ∷ OpenCurlyParen ∷ CloseCurlyParen ∷ OpenBracket ∷ CloseBracket
    ∷ Comma ∷ Dot ∷ Semicolon ∷ Else ∷ On ∷ In ∷ Then ∷ End ∷ Not ∷ Newline ∷ [])

unfoldable pub kind_by : ℕ → Kind
kind_by c = lookup Eof c kinds

-- the kind of the token that has a number and bytes
abbrev pub kind_of : ℕ → List ℕ → Kind
kind_of c w = if eqb c 2 then Value (Number (value_of w)) else kind_by c
