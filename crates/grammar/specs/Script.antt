-- The reading of a whole script: its statements, or a refusal.
use Rattle.std.specs.Prelude.{Bool, not, List, [], ◌∷◌, map, ℕ, zero, suc, ◌+◌, ◌-◌, ltb, eqb, length, take, if◌then◌else◌}
use Rattle.tokens.specs.Limits.{most_bytes, most_tokens, most_depth}
use Rattle.tokens.specs.Text.{script, every, other, count}
use Rattle.tokens.specs.Names.{Lists, good_lists, names}
use Rattle.tokens.specs.Tokens.{Token, Lexed, lexed, refused as faulty, tokens, counts, end_of}
use Rattle.grammar.specs.Trees.{Tree, size}
use Rattle.grammar.specs.Readers.{Out, ok, refused as wrong, first, is, skip}
use Rattle.grammar.specs.Grammar.{Edition, one, two, Language, statement}

-- a top-level statement: its first byte, the byte past its last token, its tree, how many tokens it has
pub record Entry : Type 0 where
  pub start : ℕ
  pub end : ℕ
  pub tree : Tree
  pub tokens : ℕ

-- the same statement, d bytes further on
abbrev pub moved_entry : ℕ → Entry → Entry
moved_entry d e = record { start = e.start + d; end = e.end + d; tree = e.tree; tokens = e.tokens }

-- the statements, or a refusal: its number and its byte
pub data Outcome : Type 0 where
  accepted : List Entry → Outcome
  refused : ℕ → ℕ → Outcome

-- a statement in front of the others; a refusal stays
abbrev pub front : Entry → Outcome → Outcome
front e (accepted es) = accepted (e ∷ es)
front e (refused n p) = refused n p

-- places are bytes from the first byte of the top-level statement, which is at s
abbrev pub back : ℕ → Token → Token
back s t = record { kind = t.kind; from = t.from - s; text = t.text }

-- the entry of a statement that begins at the byte s: it had the tokens ts, with places from there, and left those of r
unfoldable pub entry_of : ℕ → List Token → Tree → List Token → Entry
entry_of s ts t r =
    let us = take (length ts - length r) ts in
    record { start = s; end = s + end_of 0 us; tree = t; tokens = count counts us }

-- what comes of a statement at the byte s, where k reads on
unfoldable pub onward : (ℕ → List Token → Outcome) → ℕ → List Token → Out Tree → Outcome
onward k s ts (ok t r) = front (entry_of s ts t r) (k s r)
onward k s ts (wrong n p) = refused n (s + p)

module _ (W : Language) where
  -- one statement, and k on what is left. The tokens' places are from the byte b of the script, and no Newline comes first
  unfoldable pub turn : (ℕ → List Token → Outcome) → ℕ → List Token → Outcome
  turn k b ts =
      let s = (first ts).from in
      let vs = map (back s) ts in
      if is "End" (first ts) then accepted [] else onward k (b + s) vs (statement W most_depth vs)

  -- at most n statements; the ground of more is never met
  unfoldable pub up_to : ℕ → ℕ → List Token → Outcome
  up_to zero b ts = refused 8 0
  up_to (suc n) b ts = turn (λ b' ts'. up_to n b' ts') b (skip ts)

  -- each statement has a token, so that the bound is not met
  unfoldable pub from : ℕ → List Token → Outcome
  from b ts = up_to (suc (length ts)) b ts

  -- the statements of a script, from its tokens
  unfoldable pub statements : List Token → Outcome
  statements ts = from 0 ts

-- the language of an edition and the lent lists
abbrev pub language : Edition → Lists → Language
language e l = record { edition = e; reserved = names l.reserved; currencies = names l.currencies; counters = names l.counters }

-- too many tokens (7), End aside; n is the text's end
unfoldable pub of_tokens : Edition → Lists → ℕ → Lexed → Outcome
of_tokens e l n (lexed ts) = if ltb most_tokens (count counts ts - 1) then refused 7 n else statements (language e l) ts
of_tokens e l n (faulty f p) = refused f p

-- order of checks: 1, 2, first of 3 to 6 from the left, 7, first of 8 to 15 as reading meets it
unfoldable pub read_script : Edition → Lists → List ℕ → Outcome
read_script e l bs =
    let s = script bs in
    if ltb most_bytes (length s) then refused 1 0
    else if not (good_lists l) then refused 2 0
    else of_tokens e l (length s) (tokens s)

-- no zero byte: the whole text is then the script
abbrev pub no_zero : List ℕ → Bool
no_zero bs = every (other 0) bs

-- ---- counts

-- records
abbrev pub nodes : List Entry → ℕ
nodes [] = 0
nodes (e ∷ es) = size e.tree + nodes es

-- tokens
abbrev pub tokens_of : List Entry → ℕ
tokens_of [] = 0
tokens_of (e ∷ es) = e.tokens + tokens_of es

-- ---- room

-- no room (16): n is the text's end
abbrev pub fitting : ℕ → ℕ → ℕ → Outcome → Outcome
fitting n max_nodes max_entries (accepted es) =
    if ltb max_nodes (nodes es) then refused 16 n
    else if ltb max_entries (length es) then refused 16 n else accepted es
fitting n max_nodes max_entries (refused f p) = refused f p

-- with room for so many records and statements: `record_room` and `statement_room` of the lent slices
unfoldable pub reading_in : Edition → Lists → ℕ → ℕ → List ℕ → Outcome
reading_in e l max_nodes max_entries bs = fitting (length (script bs)) max_nodes max_entries (read_script e l bs)

-- ---- the edition by its number

-- the caller names edition 1 or 2: what comes of the one of this number, or a where it is another number
abbrev pub numbered : {A : Type 0} → ℕ → A → (Edition → A) → A
numbered n a f = if eqb n 1 then f one else if eqb n 2 then f two else a

abbrev pub number_of : Edition → ℕ
number_of one = 1
number_of two = 2

-- 26, at byte 0, for another edition number, before all others
unfoldable pub reading : ℕ → Lists → ℕ → ℕ → List ℕ → Outcome
reading n l max_nodes max_entries bs = numbered n (refused 26 0) λ e. reading_in e l max_nodes max_entries bs
