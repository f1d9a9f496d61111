-- Tokens: what a script's bytes are read as, before any grammar.
use Rattle.std.specs.Prelude.{Bool, true, false, ◌||◌, not, List, [], ◌∷◌, ◌++◌, ℕ, zero, suc, ◌+◌, ◌-◌, ltb, eqb, length, take, if◌then◌else◌}
use Prim.Native.String.{String}
use lib.Text.{eqt}
use Rattle.tokens.specs.Text.{bytes, same, begins, leading, letter, digit, name_byte, number_byte, blank, other}
use Rattle.tokens.specs.Numbers.{number_fault}

-- A token's kind is a number. Where a token makes a record, it is the record's kind: name 1, number 2, true 3, false 4, string 5.
-- `x += e` makes 8: 20 more. End is 0.
abbrev pub pairs : List (String × ℕ)
pairs =
    ("+=", 28) ∷ ("-=", 29) ∷ ("*=", 30) ∷ ("/=", 31) ∷ ("**", 12) ∷ ("==", 13) ∷ ("!=", 14) ∷ (">=", 17) ∷ ("<=", 18) ∷ []

abbrev pub lones : List (String × ℕ)
lones =
    ("+", 8) ∷ ("-", 9) ∷ ("*", 10) ∷ ("/", 11) ∷ (">", 15) ∷ ("<", 16) ∷ ("=", 37)
    ∷ ("(", 40) ∷ (")", 41) ∷ ("{", 42) ∷ ("}", 43) ∷ ("[", 44) ∷ ("]", 45) ∷ (",", 46) ∷ (".", 47) ∷ (";", 48) ∷ []

-- the longest sign wins: those of two bytes come first
abbrev pub signs : List (String × ℕ)
signs = pairs ++ lones

abbrev pub keywords : List (String × ℕ)
keywords =
    ("if", 38) ∷ ("else", 49) ∷ ("and", 19) ∷ ("or", 20) ∷ ("for", 39) ∷ ("true", 3) ∷ ("false", 4) ∷ ("pays", 36) ∷ ("on", 50) ∷ ("in", 51)
    ∷ ("then", 52) ∷ ("end", 53) ∷ ("not", 54) ∷ []

abbrev pub others : List (String × ℕ)
others = ("name", 1) ∷ ("number", 2) ∷ ("string", 5) ∷ ("End", 0) ∷ ("Newline", 55) ∷ []

-- the first entry of a table that passes the test; 99 where there is none
unfoldable pub entry : (String → Bool) → List (String × ℕ) → String × ℕ
entry f [] = ("", 99)
entry f (e ∷ es) = elim (f e.0) [ true ↦ e | false ↦ entry f es ]

-- the kind that a sign, a keyword or one of the other words stands for
unfoldable pub code : String → ℕ
unfolding entry
code s = (entry (eqt s) (signs ++ (keywords ++ others))).1

-- A token: its kind, its first byte's place, its bytes
pub record Token : Type 0 where
  pub kind : ℕ
  pub from : ℕ
  pub text : List ℕ

-- ---- what stands at a byte

-- Something of n bytes that is no token, a token of a kind and n bytes, or a fault
pub data Lexeme : Type 0 where
  gap : ℕ → Lexeme
  piece : ℕ → ℕ → Lexeme
  fault : ℕ → Lexeme

-- a name or a keyword: its n bytes
unfoldable pub word : List ℕ → ℕ → Lexeme
word w n = let k = (entry (λ s. same (bytes s) w) keywords).1 in piece (if eqb k 99 then 1 else k) n

-- a number: its n bytes
unfoldable pub numeral : List ℕ → ℕ → Lexeme
numeral w n = let f = number_fault w in if eqb f 0 then piece 2 n else fault f

-- n bytes stand between the quotes; they must not be all that is left
unfoldable pub quoted : List ℕ → ℕ → Lexeme
quoted bs n = if ltb n (length bs) then piece 5 (suc (suc n)) else fault 4

-- the first sign of the table that the bytes begin with
unfoldable pub sign : List ℕ → Lexeme
sign bs = let e = entry (λ s. begins (bytes s) bs) signs in if eqb e.1 99 then fault 3 else piece e.1 (length (bytes e.0))

-- f of the first n bytes
abbrev pub cut : (List ℕ → ℕ → Lexeme) → List ℕ → ℕ → Lexeme
cut f bs n = f (take n bs) n

-- what stands at the byte b, with bs behind it
unfoldable pub lexeme : ℕ → List ℕ → Lexeme
lexeme b bs =
    if blank b then gap 1
    else if eqb b 10 then piece (code "Newline") 1
    else if eqb b 35 || begins (bytes "//") (b ∷ bs) then gap (suc (leading (other 10) bs))
    else if letter b then cut word (b ∷ bs) (suc (leading name_byte bs))
    else if digit b then cut numeral (b ∷ bs) (suc (leading number_byte bs))
    else if eqb b 34 then quoted bs (leading (other 34) bs)
    else sign (b ∷ bs)

-- ---- the tokens of a text

pub data Lexed : Type 0 where
  lexed : List Token → Lexed
  refused : ℕ → ℕ → Lexed

abbrev pub before : Token → Lexed → Lexed
before t (lexed ts) = lexed (t ∷ ts)
before t (refused n p) = refused n p

-- a lexeme of the bytes bs, at the place p; go n reads on behind its n bytes
abbrev pub taken : ℕ → List ℕ → (ℕ → Lexed) → Lexeme → Lexed
taken p bs go (gap n) = go n
taken p bs go (piece k n) = before (record { kind = k; from = p; text = take n bs }) (go n)
taken p bs go (fault f) = refused f p

-- The tokens of the bytes from place p on, k bytes of which belong to what was read before: Newlines too. A refusal is the first from the left
unfoldable pub scan : ℕ → ℕ → List ℕ → Lexed
scan k p [] = lexed []
scan (suc k) p (b ∷ bs) = scan k (suc p) bs
scan zero p (b ∷ bs) = taken p (b ∷ bs) (λ n. scan (n - 1) (suc p) bs) (lexeme b bs)

-- End, at the text's end
abbrev pub final : ℕ → Token
final n = record { kind = 0; from = n; text = [] }

abbrev pub finished : ℕ → Lexed → Lexed
finished n (lexed ts) = lexed (ts ++ (final n ∷ []))
finished n (refused f p) = refused f p

unfoldable pub tokens : List ℕ → Lexed
tokens bs = finished (length bs) (scan 0 0 bs)

-- ---- the count of tokens

-- Newlines are not counted among tokens
abbrev pub counts : Token → Bool
counts t = not (eqb (code "Newline") t.kind)

-- the byte past the last token, Newlines aside; p where there is none
unfoldable pub end_of : ℕ → List Token → ℕ
end_of p [] = p
end_of p (t ∷ ts) = end_of (if counts t then t.from + length t.text else p) ts
