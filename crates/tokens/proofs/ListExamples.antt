-- Lent lists, well formed and malformed in each way, computed by the definition.
use mathlib.Core.Path.{◌≡◌, refl}
use mathlib.Core.Bool.{Bool, true, false, not}
use mathlib.Core.List.{List, [], ◌∷◌, ◌++◌}
use Prim.Native.Nat.{ℕ, zero, suc, ◌+◌, ◌/◌, ◌%◌}
use Prim.Native.String.{String}
use lib.Dec.{eqb}
use Rattle.tokens.specs.Text.{bytes, every}
use Rattle.tokens.specs.Names.{names, place, good_list, good_lists}
use Rattle.tokens.specs.Computing.{computing}

well : Bool → String → Bool
well money s = good_list money (bytes s)

ill : Bool → String → Bool
ill money s = not (good_list money (bytes s))

-- ---- reserved words and day counters

-- 1 to 32 bytes from 0x20 to 0x7E; only 0x22 is a quote, and a name may have blanks
others_well : every (well false)
    (""
    ∷ "a\n"
    ∷ "a\nb\nA\nab\n"
    ∷ "it's\n"
    ∷ " \n  \n"
    ∷ "#// ;'\n"
    ∷ " !#~\n"
    ∷ "12345678901234567890123456789012\n"
    ∷ []) ≡ true
unfolding computing well
others_well = refl

others_ill : every (ill false)
    -- the last name does not end in a line feed
    ("a"
    ∷ "a\nb"
    -- an empty name
    ∷ "\n"
    ∷ "a\n\n"
    ∷ "\na\n"
    -- 33 bytes
    ∷ "123456789012345678901234567890123\n"
    -- a quote
    ∷ "a\"b\n"
    -- bytes outside
    ∷ "a\u{7f}\n"
    ∷ "\u{1f}\n"
    ∷ "a\tb\n"
    ∷ "a\r\nb\r\n"
    ∷ "a\n\0"
    ∷ "a\0\n"
    -- a name twice
    ∷ "a\na\n"
    ∷ "ab\nc\nd\nab\n"
    ∷ []) ≡ true
unfolding computing ill
others_ill = refl

high_ill : good_list false (0x80 ∷ 10 ∷ []) ≡ false
unfolding computing
high_ill = refl

-- ---- currencies

money_well : every (well true)
    ("USD\n"
    ∷ "USD\nEUR\n"
    ∷ "USD\nAAA\nZZZ\n"
    ∷ []) ≡ true
unfolding computing well
money_well = refl

money_ill : every (ill true)
    -- empty: USD is not first
    (""
    ∷ "EUR\n"
    ∷ "EUR\nUSD\n"
    -- not three bytes
    ∷ "USD\nEU\n"
    ∷ "USD\nEURO\n"
    ∷ "US\nUSD\n"
    -- not capital letters
    ∷ "usd\n"
    ∷ "USD\neur\n"
    ∷ "USD\nEU1\n"
    ∷ "USD\nEU@\n"
    ∷ "USD\nEU[\n"
    -- as in any list
    ∷ "USD"
    ∷ "USD\nEUR"
    ∷ "USD\n\n"
    ∷ "USD\nUSD\n"
    ∷ "USD\nEUR\nEUR\n"
    ∷ []) ≡ true
unfolding computing ill
money_ill = refl

-- ---- at most 256 names

-- n different names of three capital letters, the last ones first, before a text
many : ℕ → List ℕ → List ℕ
many zero l = l
many (suc n) l = 65 ∷ (65 + n / 26) ∷ (65 + n % 26) ∷ 10 ∷ many n l

full : good_list false (many 256 []) ≡ true
unfolding computing many
full = refl

over : good_list false (many 257 []) ≡ false
unfolding computing many
over = refl

-- USD and 255 others
money_full : good_list true (bytes "USD\n" ++ many 255 []) ≡ true
unfolding computing many
money_full = refl

money_over : good_list true (bytes "USD\n" ++ many 256 []) ≡ false
unfolding computing many
money_over = refl

-- the last of many names stands twice
full_double : good_list false (many 255 (bytes "AAA\n")) ≡ false
unfolding computing many
full_double = refl

-- ---- the three lists

-- the same name in two lists; the other two lists empty
together : good_lists (record { reserved = bytes "USD\nx\n"; currencies = bytes "USD\n"; counters = bytes "x\n" }) ≡ true
unfolding computing
together = refl

alone : good_lists (record { reserved = []; currencies = bytes "USD\n"; counters = [] }) ≡ true
unfolding computing
alone = refl

none : good_lists (record { reserved = []; currencies = []; counters = [] }) ≡ false
unfolding computing
none = refl

-- each of them is judged
reserved_ill : good_lists (record { reserved = bytes "x"; currencies = bytes "USD\n"; counters = [] }) ≡ false
unfolding computing
reserved_ill = refl

counters_ill : good_lists (record { reserved = []; currencies = bytes "USD\n"; counters = bytes "x\nx\n" }) ≡ false
unfolding computing
counters_ill = refl

-- ---- the place of a name

-- from 0, plus 1, by equal bytes; 0 where it is absent
placed : String × ℕ → Bool
placed r = eqb (place (names (bytes "USD\nEUR\nab\na\n")) (bytes r.0)) r.1

places : every placed
    (("USD", 1)
    ∷ ("EUR", 2)
    ∷ ("ab", 3)
    ∷ ("a", 4)
    ∷ ("eur", 0)
    ∷ ("EU", 0)
    ∷ ("EURO", 0)
    ∷ ("", 0)
    ∷ ("R\na", 0)
    ∷ []) ≡ true
unfolding computing placed
places = refl
