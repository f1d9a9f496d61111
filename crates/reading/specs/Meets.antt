-- What the readers of the code answer, in terms of the definition's readers.
use Rattle.std.specs.Prelude.{◌≡◌, Bool, true, false, Option, Some, None, Result, Ok, Err, List, [], ◌∷◌, ◌++◌, ℕ, suc, ◌+◌, ◌-◌, ◌*◌, ◌≤◌, eqb, length, take, drop, if◌then◌else◌}
use Rattle.tokens.specs.Limits.{most_bytes}
use Rattle.tokens.specs.Text.{leading, other, count}
use Rattle.tokens.specs.Names.{names}
use Rattle.tokens.specs.Dates.{unless_0}
use Rattle.tokens.specs.Tokens.{Token, Lexed, lexed, refused as faulty, scan, final, counts, end_of}
use Rattle.tokens.specs.Lexing.{mark_at}
use Rattle.tokens.specs.declared.cursor.Cursor.{Cursor}
use Rattle.grammar.specs.Trees.{Tree, Trees, node, nil, fields, size, sizes}
use Rattle.grammar.specs.Readers.{Out, ok, Reader, ◌>>=◌, ◌>>◌, next, fail, peek, read}
use Rattle.grammar.specs.Grammar.{Edition, one, two, Language, lone}
use Rattle.reading.specs.Rows.{rows, rows_of, put_rows}
use Rattle.reading.specs.Faults.{refused_by}
use Rattle.reading.specs.declared.language.Language.{Language as Lent}
use Rattle.reading.specs.declared.answers.Fault.{Fault}
use Rattle.reading.specs.declared.answers.Read.{Read}
use Rattle.reading.specs.declared.answers.Leaf.{Leaf}
use Rattle.reading.specs.declared.answers.Number.{Number}

-- the edition, by whether it is the second
abbrev pub edition_by : Bool → Edition
edition_by false = one
edition_by true = two

-- the edition, and what the three lent lists decide
abbrev pub language_in : Bool → List ℕ → List ℕ → List ℕ → Language
language_in second reserved currencies counters =
    record { edition = edition_by second; reserved = names reserved; currencies = names currencies; counters = names counters }

-- the language that the code is lent
abbrev pub language_of : Lent → Language
language_of l = language_in l.two l.lists.reserved.now l.lists.currencies.now l.lists.counters.now

-- for what is the same in both editions: the lists alone
abbrev pub words_in : List ℕ → List ℕ → List ℕ → Language
words_in reserved currencies counters = language_in false reserved currencies counters

-- ---- cursors

abbrev pub listed : Lexed → List Token
listed (lexed ts) = ts
listed (faulty f p) = []

-- the tokens of a text from a place on, End among them
unfoldable pub toks_at : List ℕ → ℕ → List Token
toks_at t at = listed (scan 0 at (drop at t)) ++ (final (length t) ∷ [])

-- the token that the cursor c holds
abbrev pub token_at : List ℕ → Cursor → Token
token_at t c = record { kind = c.code; from = c.start; text = take (c.end - c.start) (drop c.start t) }

-- The cursor c holds the token that stands at its place of the text t, which has no fault: what was taken before it, and what is left
pub record Holds (t : List ℕ) (c : Cursor) : Type 0 where
  pub short : length t ≤ most_bytes
  pub past : List Token
  pub left : List Token
  pub whole : scan 0 0 t ≡ lexed (past ++ left)
  pub here : scan 0 c.start (drop c.start t) ≡ lexed left
  pub start_is : (mark_at t c.start).start ≡ c.start
  pub end_is : (mark_at t c.start).end ≡ c.end
  pub code_is : (mark_at t c.start).code ≡ c.code
  pub inside : c.start ≤ length t
  pub no_line : c.code ≡ 55 → ⊥
  pub taken_is : c.taken ≡ count counts past
  pub last_is : c.last ≡ end_of 0 past

-- the records so far and those that the tokens left can make are few
abbrev pub Room : List ℕ → Cursor → ℕ → Type 0
Room t c n = n + 3 * length (toks_at t c.start) ≤ 50000

-- a cursor to read from, with room for what can be read
abbrev pub Ready : List ℕ → Cursor → ℕ → Type 0
Ready t c n = Holds t c × Room t c n

-- the cursor d stands behind the token of c; the end stays
pub record Follows (t : List ℕ) (c d : Cursor) : Type 0 where
  pub holds : Holds t d
  pub reads : (c.code ≡ 0 → ⊥) → read (toks_at t c.start) ≡ ok (token_at t c) (toks_at t d.start)
  pub next_is : (c.code ≡ 0 → ⊥) → (next (toks_at t c.start)).kind ≡ (if d.broken then 55 else d.code)
  pub fewer : (c.code ≡ 0 → ⊥) → suc (length (toks_at t d.start)) ≤ length (toks_at t c.start)

-- the token of this kind and no other
abbrev pub the_by : ℕ → Reader Token
the_by k = peek >>= λ t. if eqb k t.kind then read else fail 8

abbrev pub Takes : List ℕ → ℕ → Cursor → Result Cursor Fault → Type 0
Takes t k c (Ok d) = Follows t c d × (c.code ≡ k) × (the_by k (toks_at t c.start) ≡ ok (token_at t c) (toks_at t d.start))
Takes t k c (Err e) = the_by k (toks_at t c.start) ≡ refused_by e

-- a number that is all that a minus before it takes in, and the cursor behind it
abbrev pub Lone : List ℕ → Language → Cursor → Option Cursor → Type 0
Lone t W c (Some d) = Follows t c d × (c.code ≡ 2) × (lone W (toks_at t c.start) ≡ true)
Lone t W c None = lone W (toks_at t c.start) ≡ false

-- ---- what was read

-- where the content of a String node stands, 0 for any other node
abbrev pub string_at : Tree → ℕ
string_at (node k l x (fields a b c d) ts) = if eqb k 5 then a else 0

-- the bytes of a String node are those of the text up to the next quote
abbrev pub Quoted : List ℕ → Tree → Type 0
Quoted t (node k l x (fields a b c d) ts) = k ≡ 5 → (1 ≤ a) × (x ≡ take (leading (other 34) (drop a t)) (drop a t)) × (a ≤ length t)

-- The reading R of the text t, with n records before it and the memory o: a tree, the cursor c behind it, m records then, where its
-- string stands, and the memory o'
pub record Reads (t : List ℕ) (R : Out Tree) (n : ℕ) (o : List ℕ) (c : Cursor) (m : ℕ) (p : Option ℕ) (o' : List ℕ) : Type 0 where
  pub tree : Tree
  pub is : R ≡ ok tree (toks_at t c.start)
  pub counts : m ≡ n + size tree
  pub writes : o' ≡ put_rows o n (rows tree)
  pub holds : Holds t c
  pub string : p ≡ unless_0 (string_at tree)
  pub quoted : Quoted t tree

abbrev pub Meets : List ℕ → Out Tree → ℕ → List ℕ → Result Read Fault → List ℕ → Type 0
Meets t R n o (Ok r) o' = Reads t R n o r.at r.records r.string o'
Meets t R n o (Err e) o' = R ≡ refused_by e

-- a number, as a date or a currency
abbrev pub MeetsNumber : List ℕ → Out ℕ → Result Number Fault → Type 0
MeetsNumber t R (Ok x) = Holds t x.at × (R ≡ ok x.value (toks_at t x.at.start))
MeetsNumber t R (Err e) = R ≡ refused_by e

-- a node without parts, which the code has not written yet, whatever bytes it names
abbrev pub MeetsLeaf : List ℕ → Out Tree → Result Leaf Fault → Type 0
MeetsLeaf t R (Ok l) =
    Holds t l.at × (l.node.nodes ≡ 1) × (l.node.parts ≡ 0) × (l.node.kind ≡ 5 → ⊥)
    × ((s : List ℕ) × (R ≡ ok (node l.node.kind l.node.place s (fields l.node.f1 l.node.f2 l.node.f3 l.node.f4) nil) (toks_at t l.at.start)))
MeetsLeaf t R (Err e) = R ≡ refused_by e

-- the token of a kind k, and a string token behind it, at which the answer stands
abbrev pub Leads : List ℕ → ℕ → Cursor → Result Cursor Fault → Type 0
Leads t k c (Ok d) =
    Holds t d × (d.code ≡ 5)
    × ((f : Token → Reader Tree) → (the_by k >> (the_by 5 >>= f)) (toks_at t c.start) ≡ (the_by 5 >>= f) (toks_at t d.start))
Leads t k c (Err e) = (f : Token → Reader Tree) → (the_by k >> (the_by 5 >>= f)) (toks_at t c.start) ≡ refused_by e

-- the parts es stand before, from the record n on, and make m records in the memory o'
pub record Before (n : ℕ) (o : List ℕ) (es : Trees) (m : ℕ) (o' : List ℕ) : Type 0 where
  pub counts : m ≡ n + sizes es
  pub writes : o' ≡ put_rows o n (rows_of es)
