-- The readers of the code inside an expression: what is one deeper, parts of a list, postfixes.
use Rattle.std.specs.Prelude.{◌≡◌, Bool, ◌||◌, not, Option as Maybe, Some, None, Result, Ok, Err, List, [], ◌⊎◌, ℕ, zero, suc, ◌+◌, ◌≤◌, ◌<◌, eqb, length, take, drop, if◌then◌else◌}
use Rattle.std.proofs.Math.Option.{Option, none, some}
use Rattle.tokens.specs.Text.{leading, other}
use Rattle.tokens.specs.Names.{member}
use Rattle.tokens.specs.Dates.{date, unless_0}
use Rattle.tokens.specs.Tokens.{Token}
use Rattle.tokens.specs.Refusals.{number_of}
use Rattle.tokens.specs.declared.cursor.Cursor.{Cursor}
use Rattle.tokens.specs.declared.refusals.Ground.{Ground}
use Rattle.grammar.specs.Trees.{Tree, Trees, node, nil, ◌▹◌, none as unused, snoc, size, sizes, parts}
use Rattle.grammar.specs.Readers.{Out, ok, refused, Reader, ◌>>=◌, ◌>>◌, Turn, again, done, loop, is, give, fail, ask, peek, read, the}
use Rattle.grammar.specs.Grammar.{Language, power, signed, product, sum, comparison, expression, arguments, method_of, index_of, postfix_turn, postfixes, strings, text, spot, df, rate_index, deeper, call, name, pays, minus, parenthesis, listed, primary}
use Rattle.reading.specs.Rows.{rows, rows_of, put_rows}
use Rattle.reading.specs.Calls.{right_count}
use Rattle.reading.specs.Meets.{toks_at, Holds, Ready, string_at, Quoted}
use Rattle.reading.specs.Faults.{refused_by}
use Rattle.reading.specs.declared.answers.Fault.{Fault}
use Rattle.reading.specs.declared.answers.Read.{Read}
use Rattle.reading.specs.declared.answers.Texts.{Texts}
use Rattle.reading.specs.declared.answers.Items.{Items}

-- what can be read one deeper, with d left
unfoldable pub inner : Language → ℕ → Option (Reader Tree)
inner W zero = none
inner W (suc d) = some (primary W d)

-- ---- the readers of the grammar, with d left

abbrev pub power_at : Language → ℕ → Reader Tree
power_at W d = power W (primary W d)

abbrev pub signed_at : Language → ℕ → Reader Tree
signed_at W d = signed W (primary W d)

-- the levels above a power, or a power alone
abbrev pub product_or : Bool → Language → ℕ → Reader Tree
product_or alone W d = if alone then power_at W d else product W (primary W d)

abbrev pub sum_or : Bool → Language → ℕ → Reader Tree
sum_or alone W d = if alone then power_at W d else sum W (primary W d)

abbrev pub comparison_or : Bool → Language → ℕ → Reader Tree
comparison_or alone W d = if alone then power_at W d else comparison W (primary W d)

abbrev pub expression_or : Bool → Language → ℕ → Reader Tree
expression_or alone W d = if alone then power_at W d else expression W (primary W d)

-- behind a minus, which is the token u
abbrev pub minus_at : Language → ℕ → Token → Reader Tree
minus_at W d u = minus W (inner W d) u

-- an expression in parentheses, whose `(` is the token u
abbrev pub parenthesised : Language → ℕ → Token → Reader Tree
parenthesised W d u = deeper u (inner W d) (λ p. read >> parenthesis W p)

-- a list with postfixes, whose `[` is the token u
abbrev pub list_postfixed : Language → ℕ → Token → Reader Tree
list_postfixed W d u = deeper u (inner W d) (λ p. read >> listed W u.from p) >>= postfixes W (inner W d) u.from

abbrev pub pays_at : Language → ℕ → Reader Tree
pays_at W d = pays W (inner W d)

-- behind a name, which is the token u
abbrev pub name_at : Language → ℕ → Token → Reader Tree
name_at W d u = name W (inner W d) u

abbrev pub call_at : Language → ℕ → Token → (ℕ × ℕ × ℕ) → Reader Tree
call_at W d u c = call W (inner W d) u c

abbrev pub arguments_at : Language → ℕ → Reader Trees
arguments_at W d = arguments W (inner W d)

abbrev pub postfixes_at : Language → ℕ → ℕ → Tree → Reader Tree
postfixes_at W d b x = postfixes W (inner W d) b x

abbrev pub postfix_turn_at : Language → ℕ → ℕ → Tree → Reader (Turn Tree Tree)
postfix_turn_at W d b x = postfix_turn W (inner W d) b x

abbrev pub method_at : Language → ℕ → ℕ → Tree → Reader (Turn Tree Tree)
method_at W d b x = method_of W (inner W d) b x

abbrev pub index_at : Language → ℕ → ℕ → Tree → Reader (Turn Tree Tree)
index_at W d b x = index_of W (primary W d) b x

-- ---- signs

-- UnaryMinus of what was read, its minus at b
abbrev pub negated_by : ℕ → Out Tree → Out Tree
negated_by b (ok x r) = ok (node 7 b [] unused (x ▹ nil)) r
negated_by b (refused k p) = refused k p

-- ---- what ends a pays

-- `;`, `)`, `on`, `in`, the end
abbrev pub pays_stop : ℕ → Bool
pays_stop k = eqb 48 k || eqb 41 k || eqb 50 k || eqb 51 k || eqb 0 k

-- ---- parts of a list

-- `)` or `]`
abbrev pub Closing : ℕ → Type 0
Closing k = (k ≡ 41) ⊎ (k ≡ 45)

-- what follows an expression of a list: a comma, which is read, or the closing sign
abbrev pub item_end : ℕ → Trees → Reader (Turn Trees Trees)
item_end k es = do
  t ← peek
  if is "," t then (do the ","; give (again es))
      else if eqb k t.kind then give (again es) else fail 8

-- `item_turn` and `items` with the closing sign's number
abbrev pub item_turn_by : Language → ℕ → Reader Tree → Trees → Reader (Turn Trees Trees)
item_turn_by W k p es = ask (λ t. eqb k t.kind) (give (done es)) (do e ← expression W p; item_end k (snoc es e))

unfoldable pub items_by : Language → ℕ → Reader Tree → Reader Trees
items_by W k p = loop (item_turn_by W k p) nil

abbrev pub items_at : Language → ℕ → ℕ → Reader Trees
items_at W k d = items_by W k (primary W d)

abbrev pub FollowsItem : List ℕ → ℕ → Cursor → Result Cursor Fault → Type 0
FollowsItem t k c (Ok d) = Holds t d × ((es : Trees) → item_end k es (toks_at t c.start) ≡ ok (again es) (toks_at t d.start))
FollowsItem t k c (Err e) = (es : Trees) → item_end k es (toks_at t c.start) ≡ refused_by e

-- where the string of the i-th part stands
abbrev pub string_of : Trees → ℕ → ℕ
string_of nil i = 0
string_of (t ▹ ts) zero = string_at t
string_of (t ▹ ts) (suc i) = string_of ts i

abbrev pub AllQuoted : List ℕ → Trees → Type 0
AllQuoted t nil = Unit {0}
AllQuoted t (x ▹ xs) = Quoted t x × AllQuoted t xs

-- the strings of the first three parts
pub record Shown (t : List ℕ) (es : Trees) (x : Texts) : Type 0 where
  pub first : x.first ≡ unless_0 (string_of es 0)
  pub second : x.second ≡ unless_0 (string_of es 1)
  pub third : x.third ≡ unless_0 (string_of es 2)
  pub quoted : AllQuoted t es

-- a string stands inside the text, if there is one
abbrev pub StandsIn : List ℕ → Maybe ℕ → Type 0
StandsIn t None = Unit {0}
StandsIn t (Some p) = p ≤ length t

-- they stand inside the text
abbrev pub Inside : List ℕ → Texts → Type 0
Inside t x = StandsIn t x.first × StandsIn t x.second × StandsIn t x.third

-- the bytes of the text from a place on, up to the next quote
abbrev pub content_at : List ℕ → ℕ → List ℕ
content_at t p = take (leading (other 34) (drop p t)) (drop p t)

-- one more part, whose string stands at p, behind n others
abbrev pub shown_by : Texts → ℕ → Maybe ℕ → Texts
shown_by x n p =
    record {
      first = if eqb n 0 then p else x.first;
      second = if eqb n 1 then p else x.second;
      third = if eqb n 2 then p else x.third;
    }

pub record ReadsItems (t : List ℕ) (R : Out Trees) (n : ℕ) (o : List ℕ) (c : Cursor) (m k : ℕ) (x : Texts) (o' : List ℕ) : Type 0 where
  pub items : Trees
  pub is : R ≡ ok items (toks_at t c.start)
  pub counts : m ≡ n + sizes items
  pub parts_are : k ≡ parts items
  pub writes : o' ≡ put_rows o n (rows_of items)
  pub holds : Holds t c
  pub shown : Shown t items x

abbrev pub MeetsItems : List ℕ → Out Trees → ℕ → List ℕ → Result Items Fault → List ℕ → Type 0
MeetsItems t R n o (Ok r) o' = ReadsItems t R n o r.at r.records r.count r.texts o'
MeetsItems t R n o (Err e) o' = R ≡ refused_by e

-- the closing sign stands behind the parts
abbrev pub Closed : ℕ → Result Items Fault → Type 0
Closed close (Ok r) = r.at.code ≡ close
Closed close (Err e) = Unit {0}

-- ---- what a call's arguments are refused for: 0 where they are taken

abbrev pub cvg_fault : List (List ℕ) → Trees → ℕ
cvg_fault counters es =
    if not (strings es) then 14
    else if eqb (date (text es 0)) 0 || eqb (date (text es 1)) 0 then 11
    else if member counters (text es 2) then 0
    else 13

abbrev pub call_fault : List (List ℕ) → ℕ → Trees → ℕ
call_fault counters k es =
    if not (right_count k (parts es)) then 10
    else if eqb k 25 then cvg_fault counters es
    else 0

-- the number of the ground on which the code refuses them
abbrev pub ground_or_0 : Result (Unit {0}) Ground → ℕ
ground_or_0 (Ok u) = 0
ground_or_0 (Err g) = number_of g

-- Spot, Df, RateIndex, whose name is at b
abbrev pub special_of : Language → ℕ → ℕ → Reader Tree
special_of W k b = if eqb k 32 then spot W b else if eqb k 34 then df b else rate_index b

-- ---- postfixes

abbrev pub Unquoted : Tree → Type 0
Unquoted (node k p x f ts) = k ≡ 5 → ⊥

-- the records from n to m are those of the tree x, which is no String node
pub record Tops (n : ℕ) (o : List ℕ) (x : Tree) (m : ℕ) (o' : List ℕ) : Type 0 where
  pub counts : m ≡ n + size x
  pub writes : o' ≡ put_rows o n (rows x)
  pub unquoted : Unquoted x

pub record ReadsTurn (t : List ℕ) (R : Out (Turn Tree Tree)) (n : ℕ) (o : List ℕ) (c : Cursor) (m : ℕ) (o' : List ℕ) : Type 0 where
  pub tree : Tree
  pub is : R ≡ ok (again tree) (toks_at t c.start)
  pub tops : Tops n o tree m o'
  pub holds : Holds t c

abbrev pub MeetsTurn : List ℕ → Out (Turn Tree Tree) → ℕ → List ℕ → Result Read Fault → List ℕ → Type 0
MeetsTurn t R n o (Ok r) o' = ReadsTurn t R n o r.at r.records o'
MeetsTurn t R n o (Err e) o' = R ≡ refused_by e

-- whatever tree stood before: there is room behind the turn, which has read a token at least
abbrev pub Onward : List ℕ → Cursor → ℕ → Result Read Fault → Type 0
Onward t c n (Ok r) = Ready t r.at r.records × (n < r.records) × (length (toks_at t r.at.start) < length (toks_at t c.start))
Onward t c n (Err e) = Unit {0}

-- a turn over every tree x whose records are those from n to m
abbrev pub MeetsTurns : List ℕ → (Tree → Out (Turn Tree Tree)) → ℕ → ℕ → List ℕ → Cursor → Result Read Fault → List ℕ → Type 0
MeetsTurns t R n m o₁ c r o₂ = ((x : Tree) (o : List ℕ) → Tops n o x m o₁ → MeetsTurn t (R x) n o r o₂) × Onward t c n r
