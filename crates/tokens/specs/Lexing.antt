-- The token step, the scan of a whole text and the cursor, as values of the code.
use Rattle.std.specs.Prelude.{◌≡◌, Bool, true, false, ◌&&◌, ◌||◌, List, [], ◌∷◌, ℕ, zero, suc, ◌+◌, ◌-◌, ◌<◌, leb, ltb, eqb, length, get_or, take, drop, Result, Ok, Err, if◌then◌else◌}
use Rattle.tokens.specs.Limits.{most_bytes, most_tokens}
use Rattle.tokens.specs.Text.{leading, name_byte, number_byte, other, count, script}
use Rattle.tokens.specs.Tokens.{Token, Lexeme, gap, piece, fault, word, numeral, quoted, cut, code, lexeme, Lexed, lexed, refused, scan, counts, end_of}
use Rattle.tokens.specs.Kinds.{kind_of}
use Rattle.tokens.specs.Refusals.{number_of}
use Rattle.tokens.specs.ScriptEnd.{ScriptEnd}
use Rattle.tokens.specs.ScriptEnd as ends
use Rattle.tokens.specs.Found.{Found}
use Rattle.tokens.specs.Found as found
use Rattle.tokens.specs.Scanned.{Scanned}
use Rattle.tokens.specs.Scanned as scanned
use Rattle.tokens.specs.declared.refusals.Refusal.{Refusal}
use Rattle.tokens.specs.declared.lexing.Mark.{Mark}
use Rattle.tokens.specs.declared.cursor.Cursor.{Cursor}

-- ---- the script's end

-- a script that is too long is refused (1) at byte 0
unfoldable pub script_end : List ℕ → ScriptEnd
script_end bs = let n = length (script bs) in if ltb most_bytes n then ends.Refused 1 0 else ends.At n

-- ---- what stands at a place of a text

abbrev pub byte_at : List ℕ → ℕ → ℕ
byte_at s at = get_or s at 0

abbrev pub lexeme_at : List ℕ → ℕ → Lexeme
lexeme_at s at = lexeme (byte_at s at) (drop (at + 1) s)

-- `#` and `//`
abbrev pub comment : ℕ → ℕ → Bool
comment b c = eqb b 35 || (eqb b 47 && eqb c 47)

abbrev pub word_at : List ℕ → ℕ → Lexeme
word_at s at = cut word (drop at s) (suc (leading name_byte (drop (at + 1) s)))

abbrev pub number_at : List ℕ → ℕ → Lexeme
number_at s at = cut numeral (drop at s) (suc (leading number_byte (drop (at + 1) s)))

abbrev pub string_at : List ℕ → ℕ → Lexeme
string_at s at = quoted (drop (at + 1) s) (leading (other 34) (drop (at + 1) s))

-- how much of a lexeme is no token
abbrev pub gap_width : Lexeme → ℕ
gap_width (gap n) = n
gap_width (piece k n) = 0
gap_width (fault f) = 0

-- ---- marks

-- the text's end
abbrev pub final : ℕ → Mark
final p = record { start = p; end = p; code = 0 }

-- a lexeme at the place p: a token has its kind's number, a fault 100 and its ground
abbrev pub mark_of : ℕ → Lexeme → Mark
mark_of p (gap n) = final p
mark_of p (piece k n) = record { start = p; end = p + n; code = k }
mark_of p (fault f) = record { start = p; end = p; code = 100 + f }

-- go n reads on behind n bytes that are no token
abbrev pub marked : ℕ → (ℕ → Mark) → Lexeme → Mark
marked p go (gap n) = go n
marked p go (piece k n) = mark_of p (piece k n)
marked p go (fault f) = mark_of p (fault f)

-- the first token of the bytes from place p on, k bytes of which belong to what was read before
unfoldable pub mark_from : ℕ → ℕ → List ℕ → Mark
mark_from k p [] = final p
mark_from (suc k) p (b ∷ bs) = mark_from k (suc p) bs
mark_from zero p (b ∷ bs) = marked p (λ n. mark_from (n - 1) (suc p) bs) (lexeme b bs)

-- the first token at or behind a place, Newlines among them
unfoldable pub mark_at : List ℕ → ℕ → Mark
mark_at s at = mark_from 0 at (drop at s)

-- a refusal has no bytes
abbrev pub refused_mark : Refusal → Mark
refused_mark e = record { start = e.byte; end = e.byte; code = 100 + number_of e.cause }

-- what the code answers tells a mark: a token's, or that of a fault
abbrev pub Tells : Mark → Result Mark Refusal → Type 0
Tells m (Ok t) = (t ≡ m) × (t.code < 100)
Tells m (Err e) = refused_mark e ≡ m

-- the token of a mark of the text s, as the definition has it
abbrev pub token_of : List ℕ → Mark → Token
token_of s m = record { kind = m.code; from = m.start; text = take (m.end - m.start) (drop m.start s) }

-- ---- the token step

-- a mark of the text s as its token, or as the ground and place on which s is refused there
abbrev pub found_by : List ℕ → Mark → Found
found_by s m =
    if leb 100 m.code
    then found.Refused (m.code - 100) m.start
    else found.Token (record { start = m.start; end = m.end; kind = kind_of m.code (take (m.end - m.start) (drop m.start s)) })

unfoldable pub step_at : List ℕ → ℕ → Found
step_at s at = found_by s (mark_at s at)

-- ---- the scan of a whole text

-- too many tokens are refused (7) at the text's end
abbrev pub judged_by : ℕ → ℕ → ℕ → Scanned
judged_by n last end = if ltb most_tokens n then scanned.Refused 7 end else scanned.Counted n last

-- n tokens were read before, and the last of them ended at e
abbrev pub summary : ℕ → ℕ → ℕ → Lexed → Scanned
summary n e end (lexed ts) = judged_by (n + count counts ts) (end_of e ts) end
summary n e end (refused f p) = scanned.Refused f p

unfoldable pub scan_of : List ℕ → Scanned
scan_of s = summary 0 0 (length s) (scan 0 0 s)

-- ---- the cursor

abbrev pub settled : ℕ → (Bool → ℕ → Bool × Mark) → Bool → Lexeme → Bool × Mark
settled p go b (gap n) = go b n
settled p go b (piece k n) = if eqb (code "Newline") k then go true n else (b, mark_of p (piece k n))
settled p go b (fault f) = (b, mark_of p (fault f))

-- the first token but a Newline, and whether a Newline stands before it; b says it of what was read before
unfoldable pub settle_from : Bool → ℕ → ℕ → List ℕ → Bool × Mark
settle_from b k p [] = (b, final p)
settle_from b (suc k) p (c ∷ cs) = settle_from b k (suc p) cs
settle_from b zero p (c ∷ cs) = settled p (λ d n. settle_from d (n - 1) (suc p) cs) b (lexeme c cs)

abbrev pub cursor_of : ℕ → ℕ → Bool × Mark → Cursor
cursor_of taken last m =
    record { start = m.1.start; end = m.1.end; taken = taken; last = last; code = m.1.code; broken = m.0 }

-- the cursor at the first token at or behind a place
unfoldable pub cursor_at : List ℕ → ℕ → ℕ → ℕ → Cursor
cursor_at s at taken last = cursor_of taken last (settle_from false 0 at (drop at s))

-- one more, as far as sixteen bits count
abbrev pub one_more : ℕ → ℕ
one_more n = if ltb n 65535 then n + 1 else n

-- the token is taken; the end stays
unfoldable pub advanced : List ℕ → Cursor → Cursor
advanced s c = if eqb c.code 0 then c else cursor_at s c.end (one_more c.taken) c.end
