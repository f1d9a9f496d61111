-- One statement's text is replaced by another text: the new script, its statements, and how the new text must end.
use Rattle.std.specs.Prelude.{◌≡◌, Bool, false, ◌&&◌, ◌||◌, List, [], ◌∷◌, ◌++◌, map, ℕ, ◌+◌, ◌-◌, ◌≤◌, T, eqb, length, take, drop, get_or}
use Rattle.tokens.specs.Limits.{most_bytes, most_tokens}
use Rattle.tokens.specs.Text.{count}
use Rattle.tokens.specs.Names.{Lists}
use Rattle.grammar.specs.Grammar.{Edition}
use Rattle.tokens.specs.Tokens.{Lexed, lexed, refused as faulty, scan, counts, end_of}
use Rattle.grammar.specs.Readers.{first, last_of, closes}
use Rattle.grammar.specs.Script.{Entry, moved_entry, accepted, read_script, no_zero, tokens_of}

-- ---- 18

-- unless the new text is empty, or ends in a line feed, or in its last token's last byte; and its last token (no Newline), if any, is `;` or `}`
abbrev pub well_ended : List ℕ → Lexed → Bool
well_ended n (lexed ts) =
    (eqb (length n) 0 || eqb (get_or n (length n - 1) 0) 10 || eqb (end_of 0 ts) (length n)) && (eqb (count counts ts) 0 || closes (last_of (first []) ts))
well_ended n (faulty f p) = false

unfoldable pub ends_well : List ℕ → Bool
ends_well n = well_ended n (scan 0 0 n)

-- the end byte of the last statement; p where there is none
abbrev pub last_end : ℕ → List Entry → ℕ
last_end p [] = p
last_end p (e ∷ es) = last_end e.end es

-- 18 of a text with the statements ns, without its tokens (`ends_by`): it is empty, or ends in a line feed, or where its last statement ends;
-- and the byte before that statement's end, if there is one, is `;` or `}`
abbrev pub ends_by : List ℕ → List Entry → Bool
ends_by n ns =
    (eqb (length n) 0 || eqb (get_or n (length n - 1) 0) 10 || eqb (last_end 0 ns) (length n))
    && (eqb (length ns) 0 || (eqb 59 (get_or n (last_end 0 ns - 1) 0) || eqb 125 (get_or n (last_end 0 ns - 1) 0)))

-- ---- the new script

-- the script with the statement's text replaced
abbrev pub replaced : List ℕ → Entry → List ℕ → List ℕ
replaced s e n = take e.start s ++ n ++ drop e.end s

-- an entry behind a text of a bytes that stands where one of b bytes stood
abbrev pub between : ℕ → ℕ → Entry → Entry
between a b e = record { start = e.start + a - b; end = e.end + a - b; tree = e.tree; tokens = e.tokens }

-- its statements: those before e, those of the new text of n bytes, those behind e
abbrev pub amended_list : List Entry → Entry → List Entry → ℕ → List Entry → List Entry
amended_list es e es' n ns = es ++ (map (moved_entry e.start) ns ++ map (between n (e.end - e.start)) es')

-- ---- the law, as a statement: what a script reads as after one of its statements is replaced

abbrev pub AmendLaw : Type 0
AmendLaw =
    (E : Edition) (l : Lists) (s n : List ℕ) (es es' ns : List Entry) (e : Entry)
    → T (no_zero (s ++ n))
    → read_script E l s ≡ accepted (es ++ (e ∷ es'))
    → read_script E l n ≡ accepted ns
    → T (ends_well n)
    → length (replaced s e n) ≤ most_bytes
    → tokens_of (es ++ (ns ++ es')) ≤ most_tokens
    → read_script E l (replaced s e n) ≡ accepted (amended_list es e es' (length n) ns)
