-- Texts and their tokens, each computed by the definition: a table for each rule.
use Rattle.std.specs.Prelude.{if◌then◌else◌}
use mathlib.Core.Path.{◌≡◌, refl}
use mathlib.Core.Bool.{Bool, true, false, ◌&&◌}
use mathlib.Core.List.{List, [], ◌∷◌, ◌++◌, map}
use Prim.Native.Nat.{ℕ, zero, suc}
use Prim.Native.String.{String}
use lib.Dec.{eqb}
use lib.ListN.{replicate}
use Rattle.tokens.specs.Text.{bytes, same, every}
use Rattle.tokens.specs.Names.{push}
use Rattle.tokens.specs.Numbers.{value}
use Rattle.tokens.specs.Places.{place_of}
use Rattle.tokens.specs.Tokens.{Token, Lexed, lexed, refused, entry, code, signs, keywords, others, final, tokens}
use Rattle.tokens.specs.Lexing.{script_end, mark_at, step_at, scan_of, cursor_at, advanced}
use Rattle.tokens.specs.Views.{token_after}
use Rattle.tokens.specs.Computing.{computing}
use Rattle.tokens.specs.declared.kinds.Literal.TheVariants.{Number, Truth}
use Rattle.tokens.specs.declared.kinds.Kind.TheVariants as kind
use Rattle.tokens.specs.ScriptEnd as ends
use Rattle.tokens.specs.Found as found
use Rattle.tokens.specs.Scanned as scanned
use Rattle.tokens.specs.declared.cursor.Cursor.{Cursor}

-- ---- what is said of a text

-- words parted by blanks
parted : List ℕ → List (List ℕ)
parted [] = [] ∷ []
parted (b ∷ bs) = if eqb b 32 then [] ∷ parted bs else push b (parted bs)

-- the kind that a word stands for, 99 where it stands for none
kind_of : List ℕ → ℕ
kind_of w = (entry (λ s. same (bytes s) w) (signs ++ (keywords ++ others))).1

-- the kinds of its tokens, each by its sign, its keyword or another word; or the ground and the byte of its refusal
data Said : Type 0 where
  reads : String → Said
  refuses : ℕ → ℕ → Said

holds : Lexed → Said → Bool
unfolding computing parted kind_of
holds (lexed ts) (reads s) = same (map (λ t. t.kind) ts) (map kind_of (parted (bytes s)))
holds (lexed ts) (refuses n p) = false
holds (refused n p) (reads s) = false
holds (refused n p) (refuses m q) = eqb n m && eqb p q

judged : String × Said → Bool
unfolding computing holds
judged r = holds (tokens (bytes r.0)) r.1

-- ---- blanks, Newlines, comments

-- blanks part tokens and are none; every other byte below 0x20 but the line feed is invalid, and so is 0x7F
blanks : every judged
    (("", reads "End")
    ∷ (" \t\u{b}\u{c}\r", reads "End")
    ∷ ("a\tb\u{b}c\u{c}d\re f", reads "name name name name name name End")
    ∷ ("a\0", refuses 3 1)
    ∷ ("a\u{1}", refuses 3 1)
    ∷ (" \u{8}", refuses 3 1)
    ∷ ("\u{e}", refuses 3 0)
    ∷ ("\u{1f}", refuses 3 0)
    ∷ ("\u{7f}", refuses 3 0)
    ∷ []) ≡ true
unfolding judged
blanks = refl

-- each line feed is a Newline, also the one that ends a comment
lines : every judged
    (("\n", reads "Newline End")
    ∷ ("a\n\nb\r\n", reads "name Newline Newline name Newline End")
    ∷ ("# a $ \" 1.2.3", reads "End")
    ∷ ("a # b\nc", reads "name Newline name End")
    ∷ ("a // b // c\n// d\n", reads "name Newline Newline End")
    ∷ ("a#b\rc\nd", reads "name Newline name End")
    ∷ ("a/ /b", reads "name / / name End")
    ∷ ("a///b", reads "name End")
    ∷ ("a//", reads "name End")
    ∷ ("#", reads "End")
    ∷ ("\"#\" \"//\" a", reads "string string name End")
    ∷ []) ≡ true
unfolding judged
lines = refl

-- ---- names and keywords

names : every judged
    (("a Z x1 x_ x_1_y aZ09_", reads "name name name name name name End")
    ∷ ("then_ trues iff If IF on_ in1 fo nots ends Else els falsee pay", reads "name name name name name name name name name name name name name name End")
    ∷ ("if then else end and or not for true false pays on in", reads "if then else end and or not for true false pays on in End")
    ∷ ("if(", reads "if ( End")
    ∷ ("x.in", reads "name . in End")
    ∷ ("notif", reads "name End")
    ∷ ("_a", refuses 3 0)
    ∷ ("a@", refuses 3 1)
    ∷ ("1a", reads "number name End")
    ∷ ("a1.5", reads "name . number End")
    ∷ []) ≡ true
unfolding judged
names = refl

-- the words that have an x in place of one of their bytes
near : List ℕ → List (List ℕ)
near [] = []
near (b ∷ bs) = (120 ∷ bs) ∷ map (λ w. b ∷ w) (near bs)

-- no keyword is told by all of its bytes but one
near_keywords : every (λ (e : String × ℕ). every (λ w. holds (tokens w) (reads "name End")) (near (bytes e.0))) keywords ≡ true
unfolding computing near holds
near_keywords = refl

-- ---- strings

-- no escapes; not closed is said of the opening quote
strings : every judged
    (("\"\"", reads "string End")
    ∷ ("\"a\"", reads "string End")
    ∷ ("\"a\"\"b\"", reads "string string End")
    ∷ ("\"a\nb\n\" c", reads "string name End")
    ∷ ("\"a\\\"", reads "string End")
    ∷ ("\"a\\\"b\"", refuses 4 5)
    ∷ ("\"", refuses 4 0)
    ∷ ("x = \"a;\n", refuses 4 4)
    ∷ ("\"\u{1}\t$\"", reads "string End")
    ∷ ("'a'", refuses 3 0)
    ∷ []) ≡ true
unfolding judged
strings = refl

-- ---- numbers

numbers : every judged
    (("1.", reads "number End")
    ∷ (".5", reads ". number End")
    ∷ ("1e5", reads "number name End")
    ∷ ("-1", reads "- number End")
    ∷ ("1_0", refuses 3 1)
    ∷ ("1.2.3", refuses 5 0)
    ∷ ("x = 1..;", refuses 5 4)
    ∷ ("1.5.mean", refuses 5 0)
    ∷ ("1.mean", reads "number name End")
    ∷ ("9007199254740992", reads "number End")
    ∷ (" 9007199254740993", refuses 6 1)
    ∷ ("900719925474099.2", reads "number End")
    ∷ ("900719925474099.3", refuses 6 0)
    ∷ ("0.123456789012345", reads "number End")
    ∷ ("0.1234567890123456", refuses 6 0)
    ∷ ("18446744073709551616", refuses 6 0)
    ∷ ("18446744073709551617", refuses 6 0)
    ∷ ("36893488147419103232", refuses 6 0)
    ∷ ("99999999999999999999.9.9", refuses 5 0)
    ∷ []) ≡ true
unfolding judged
numbers = refl

-- ---- signs

-- the longest wins; a lone `!` and any byte that no rule takes are invalid
signed : every judged
    (("+ += - -= * ** *= / /= = == != > >= < <= ( ) { } [ ] , . ;", reads "+ += - -= * ** *= / /= = == != > >= < <= ( ) { } [ ] , . ; End")
    ∷ ("**=", reads "** = End")
    ∷ ("***", reads "** * End")
    ∷ ("*=*", reads "*= * End")
    ∷ ("==>=", reads "== >= End")
    ∷ ("<==", reads "<= = End")
    ∷ ("===", reads "== = End")
    ∷ ("=>=<", reads "= >= < End")
    ∷ ("=!=", reads "= != End")
    ∷ ("+-+=-=", reads "+ - += -= End")
    ∷ ("/=/", reads "/= / End")
    ∷ ("/ =", reads "/ = End")
    ∷ ("!", refuses 3 0)
    ∷ ("a! =", refuses 3 1)
    ∷ ("a = $;", refuses 3 4)
    ∷ []) ≡ true
unfolding judged
signed = refl

-- n bytes from b on
span : ℕ → ℕ → List ℕ
span b zero = []
span b (suc n) = b ∷ span (suc b) n

-- those of them that are an invalid character where they are the whole text
invalid : List ℕ → List ℕ
unfolding computing holds
invalid [] = []
invalid (b ∷ bs) = let t = invalid bs in if holds (tokens (b ∷ [])) (refuses 3 0) then b ∷ t else t

-- of all 256 bytes these are invalid
invalids : invalid (span 0 256) ≡ span 0 9 ++ (span 14 18 ++ (bytes "!$%&':?@\\^_`|~" ++ span 127 129))
unfolding invalid span
invalids = refl

-- a byte from 0x80 on is taken in strings and comments, and refused elsewhere
high : tokens (97 ∷ 0x80 ∷ []) ≡ refused 3 1
unfolding computing
high = refl

high_in_string : tokens (34 ∷ 0xc3 ∷ 0xa9 ∷ 34 ∷ 35 ∷ 0xc3 ∷ 0xa9 ∷ [])
    ≡ lexed (record { kind = code "string"; from = 0; text = 34 ∷ 0xc3 ∷ 0xa9 ∷ 34 ∷ [] } ∷ final 7 ∷ [])
unfolding computing
high_in_string = refl

-- ---- the first refusal from the left

leftmost : every judged
    ((") ( $", refuses 3 4)
    ∷ ("$ 1.2.3 \"", refuses 3 0)
    ∷ ("1.2.3 $ \"", refuses 5 0)
    ∷ ("9007199254740993 1.2.3", refuses 6 0)
    ∷ ("\"a\" \" $", refuses 4 4)
    ∷ ("# $\n1.2.3", refuses 5 4)
    ∷ []) ≡ true
unfolding judged
leftmost = refl

-- ---- places and bytes

token : String → ℕ → String → Token
unfolding computing
token k p s = record { kind = code k; from = p; text = bytes s }

-- a token is its bytes, a string with its quotes; End is behind trailing blanks and comments
whole : tokens (bytes " x+=1.5;# c\n\"a\nb\"// d")
    ≡ lexed (token "name" 1 "x" ∷ token "+=" 2 "+=" ∷ token "number" 4 "1.5" ∷ token ";" 7 ";" ∷ token "Newline" 11 "\n" ∷ token "string" 12 "\"a\nb\"" ∷ token "End" 21 "" ∷ [])
unfolding computing token
whole = refl

-- ---- marks and the token step

-- a text of one statement over two lines: x, `=`, a tenth, `;`
abbrev text : List ℕ
text = bytes "x\n = 0.1; # c"

mark_name : mark_at text 0 ≡ record { start = 0; end = 1; code = code "name" }
unfolding computing
mark_name = refl

-- Newlines are among the marks
mark_newline : mark_at text 1 ≡ record { start = 1; end = 2; code = code "Newline" }
unfolding computing
mark_newline = refl

mark_behind_blanks : mark_at text 2 ≡ record { start = 3; end = 4; code = code "=" }
unfolding computing
mark_behind_blanks = refl

-- behind the last token the end stands at the text's end, and behind the text's end where it is asked for
mark_end : mark_at text 9 ≡ record { start = 13; end = 13; code = 0 }
unfolding computing
mark_end = refl

mark_behind_end : mark_at text 20 ≡ record { start = 20; end = 20; code = 0 }
unfolding computing
mark_behind_end = refl

-- a fault is 100 and its ground
mark_fault : mark_at (bytes "a 1.2.3") 1 ≡ record { start = 2; end = 2; code = 105 }
unfolding computing
mark_fault = refl

step_number : step_at text 4 ≡ found.Token (record { start = 5; end = 8; kind = kind.Value (Number (value (bytes "0.1"))) })
unfolding computing
step_number = refl

step_truth : step_at (bytes "a true") 1 ≡ found.Token (record { start = 2; end = 6; kind = kind.Value (Truth true) })
unfolding computing
step_truth = refl

step_name : step_at text 0 ≡ found.Token (record { start = 0; end = 1; kind = kind.Identifier })
unfolding computing
step_name = refl

step_newline : step_at text 1 ≡ found.Token (record { start = 1; end = 2; kind = kind.Newline })
unfolding computing
step_newline = refl

step_end : step_at text 9 ≡ found.Token (record { start = 13; end = 13; kind = kind.Eof })
unfolding computing
step_end = refl

step_refused : step_at (bytes "a \"b") 1 ≡ found.Refused 4 2
unfolding computing
step_refused = refl

-- ---- the token behind so many others

after_none : token_after text 0 ≡ found.Token (record { start = 0; end = 1; kind = kind.Identifier })
unfolding computing
after_none = refl

-- Newlines are among those passed
after_three : token_after text 3 ≡ found.Token (record { start = 5; end = 8; kind = kind.Value (Number (value (bytes "0.1"))) })
unfolding computing
after_three = refl

-- the end and a refused place are not passed
after_all : token_after text 9 ≡ found.Token (record { start = 13; end = 13; kind = kind.Eof })
unfolding computing
after_all = refl

after_refused : token_after (bytes "a \"b") 3 ≡ found.Refused 4 2
unfolding computing
after_refused = refl

-- ---- the scan of a whole text

-- Newlines are not counted, and the last token's end is before what follows it
scan_counts : scan_of text ≡ scanned.Counted 4 9
unfolding computing
scan_counts = refl

scan_empty : scan_of (bytes "\n # c\n") ≡ scanned.Counted 0 0
unfolding computing
scan_empty = refl

scan_refused : scan_of (bytes "a\n9007199254740993 $") ≡ scanned.Refused 6 2
unfolding computing
scan_refused = refl

-- at most 4,096 tokens; too many are refused at the text's end, behind every other ground
lines_of : ℕ → List ℕ → List ℕ
lines_of zero l = l
lines_of (suc n) l = let t = lines_of n l in 43 ∷ 10 ∷ t

scan_most : scan_of (lines_of 4096 []) ≡ scanned.Counted 4096 8191
unfolding computing lines_of
scan_most = refl

scan_too_many : scan_of (lines_of 4097 []) ≡ scanned.Refused 7 8194
unfolding computing lines_of
scan_too_many = refl

scan_fault_first : scan_of (lines_of 4097 (bytes "$")) ≡ scanned.Refused 3 8194
unfolding computing lines_of
scan_fault_first = refl

-- ---- the cursor

-- a Newline is passed by, and said of the token behind it
first : cursor_at text 0 0 0 ≡ record { start = 0; end = 1; taken = 0; last = 0; code = code "name"; broken = false }
unfolding computing
first = refl

second : advanced text (cursor_at text 0 0 0) ≡ record { start = 3; end = 4; taken = 1; last = 1; code = code "="; broken = true }
unfolding computing
second = refl

third : advanced text (advanced text (cursor_at text 0 0 0)) ≡ record { start = 5; end = 8; taken = 2; last = 4; code = code "number"; broken = false }
unfolding computing
third = refl

-- blanks and comments before the first token are passed by, and a comment's line feed is a Newline
later : cursor_at (bytes " # c\n\n pays") 0 0 0 ≡ record { start = 7; end = 11; taken = 0; last = 0; code = code "pays"; broken = true }
unfolding computing
later = refl

-- the end stays, and nothing more is taken
abbrev end : Cursor
end = record { start = 13; end = 13; taken = 4; last = 9; code = 0; broken = false }

at_end : advanced text (advanced text (advanced text (advanced text (cursor_at text 0 0 0)))) ≡ end
unfolding computing
at_end = refl

end_stays : advanced text end ≡ end
unfolding computing
end_stays = refl

-- ---- where a script ends

-- the first zero byte, or else the slice's end
ends_at_zero : script_end (bytes "x;\0y;\0") ≡ ends.At 2
unfolding computing
ends_at_zero = refl

ends_at_end : script_end (bytes "x;y;") ≡ ends.At 4
unfolding computing
ends_at_end = refl

ends_at_start : script_end [] ≡ ends.At 0
unfolding computing
ends_at_start = refl

-- at most 16,384 bytes: a zero byte right behind them is soon enough, one byte later it is not
abbrev long : ℕ → List ℕ → List ℕ
long n l = replicate n 32 ++ l

longest : script_end (long 16384 []) ≡ ends.At 16384
unfolding computing
longest = refl

longest_with_zero : script_end (long 16384 (0 ∷ 32 ∷ [])) ≡ ends.At 16384
unfolding computing
longest_with_zero = refl

too_long : script_end (long 16385 (0 ∷ [])) ≡ ends.Refused 1 0
unfolding computing
too_long = refl

zero_early : script_end (bytes "x;\0" ++ replicate 20000 120) ≡ ends.At 2
unfolding computing
zero_early = refl

-- ---- line and column

-- line feeds in strings and comments count
abbrev spread : List ℕ
spread = bytes "\"a\nb\"\n $"

place_first : place_of spread 0 ≡ record { line = 1; column = 1 }
unfolding computing
place_first = refl

-- a line feed stands in the line that it ends
place_feed : place_of spread 2 ≡ record { line = 1; column = 3 }
unfolding computing
place_feed = refl

place_within : place_of spread 4 ≡ record { line = 2; column = 2 }
unfolding computing
place_within = refl

place_last : place_of spread 7 ≡ record { line = 3; column = 2 }
unfolding computing
place_last = refl

place_end : place_of (bytes "x = 1\n") 6 ≡ record { line = 2; column = 1 }
unfolding computing
place_end = refl

-- byte 0 is there in any text, an empty one too
place_none : place_of [] 0 ≡ record { line = 1; column = 1 }
unfolding computing
place_none = refl

-- ---- columns count characters

-- `"éè"$`: the byte 6 is the fifth character
accents : List ℕ
accents = 34 ∷ 0xC3 ∷ 0xA9 ∷ 0xC3 ∷ 0xA8 ∷ 34 ∷ 36 ∷ []

place_accents : (tokens accents ≡ refused 3 6) × (place_of accents 6 ≡ record { line = 1; column = 5 })
unfolding computing accents
place_accents = (refl, refl)

-- `# é`, a line feed, `$`: what stands in the line before plays no part
place_anew : place_of (35 ∷ 32 ∷ 0xC3 ∷ 0xA9 ∷ 10 ∷ 36 ∷ []) 5 ≡ record { line = 2; column = 1 }
unfolding computing
place_anew = refl

-- the column of a `$` behind one byte
behind : ℕ → ℕ
unfolding computing
behind b = (place_of (b ∷ 36 ∷ []) 1).column

-- bytes are judged one by one: 0x80 to 0xBF count nowhere, alone or not, and all others do, 0xC0 to 0xFF too
place_alone : map behind (0x7F ∷ 0x80 ∷ 0x81 ∷ 0xBE ∷ 0xBF ∷ 0xC0 ∷ 0xC1 ∷ 0xFE ∷ 0xFF ∷ []) ≡ 2 ∷ 1 ∷ 1 ∷ 1 ∷ 1 ∷ 2 ∷ 2 ∷ 2 ∷ 2 ∷ []
unfolding computing behind
place_alone = refl

-- nor is a place before itself: a script that is 0x80 alone is refused at column 1
place_itself : (tokens (0x80 ∷ []) ≡ refused 3 0) × (place_of (0x80 ∷ []) 0 ≡ record { line = 1; column = 1 })
unfolding computing
place_itself = (refl, refl)
