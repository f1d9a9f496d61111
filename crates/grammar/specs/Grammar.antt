-- The grammar, line by line as the paper has it under "Reading" and "Depth", in both editions. Places are those of the tokens that are handed in.
use Rattle.std.specs.Prelude.{Bool, true, false, ◌&&◌, ◌||◌, not, List, [], ◌∷◌, ℕ, zero, suc, ◌-◌, leb, eqb, length, take, drop, Float, if◌then◌else◌}
use Rattle.std.proofs.Math.Option.{Option, none, some}
use Prim.Native.String.{String}
use Rattle.std.specs.Float.Ieee.{neg}
use Rattle.tokens.specs.Text.{bytes, same, within}
use Rattle.tokens.specs.Names.{place, member}
use Rattle.tokens.specs.Numbers.{value, bits_of}
use Rattle.tokens.specs.Dates.{date}
use Rattle.tokens.specs.Tokens.{Token, code}
use Rattle.grammar.specs.Trees.{Tree, Trees, node, nil, ◌▹◌, Fields, fields, none as unused, place_of, snoc, join, parts}
use Rattle.grammar.specs.Readers.{Reader, ◌>>=◌, ◌>>◌, Turn, again, done, loop, first, next, second, is, give, fail, fail_at, ask, look, peek, read, the}

-- ---- the language

-- the script language has two editions
pub data Edition : Type 0 where
  one : Edition
  two : Edition

-- what the one has, or the other
abbrev pub in_edition : {A : Type 0} → Edition → A → A → A
in_edition one a b = a
in_edition two a b = b

-- what a script is read by: its edition, and the names of the three lent lists
pub record Language : Type 0 where
  pub edition : Edition
  pub reserved : List (List ℕ)
  pub currencies : List (List ℕ)
  pub counters : List (List ℕ)

-- ---- nodes

-- a node without parts: its kind and place
abbrev pub leaf : ℕ → ℕ → Fields → Tree
leaf k b f = node k b [] f nil

-- a node without parts that names bytes
abbrev pub naming : ℕ → ℕ → List ℕ → Fields → Tree
naming k b w f = node k b w f nil

-- a node of two parts, whose text begins at b
abbrev pub binary : ℕ → ℕ → Tree → Tree → Tree
binary k b l r = node k b [] unused (l ▹ r ▹ nil)

-- a string's content: what stands between the quotes
abbrev pub content : Token → List ℕ
content t = take (length t.text - 2) (drop 1 t.text)

-- 1, 5: start, length of the name or string content
abbrev pub variable : Token → Tree
variable t = naming 1 t.from t.text (fields t.from (length t.text) 0 0)

abbrev pub string : Token → Tree
string t = naming 5 t.from (content t) (fields (suc t.from) (length (content t)) 0 0)

-- 2: f64 bits high, low, literal start, length without sign. Its place is the sign's, where it has one
unfoldable pub constant : ℕ → Float → Token → Tree
constant b x t = leaf 2 b (fields (bits_of x).high (bits_of x).low t.from (length t.text))

-- ---- forms that recur

-- What is one deeper, behind the token t that opens it, can be read if there is depth left (15)
unfoldable pub deeper : {X A : Type 0} → Token → Option X → (X → Reader A) → Reader A
deeper t none k = fail_at t 15
deeper t (some x) k = k x

-- where the sign stands, it is read, then what follows it; a where it does not
unfoldable pub optional : {A : Type 0} → String → A → Reader A → Reader A
optional sign a m = ask (is sign) (the sign >> m) (give a)

-- a chain, by its first operand and what goes on behind it: every node of it is placed where its first token stands, parentheses and plus included
abbrev pub chain : Reader Tree → (ℕ → Tree → Reader Tree) → Reader Tree
chain operand rest = do t ← peek; l ← operand; rest t.from l

-- operands joined by operators, left to right, in a chain that begins at b
unfoldable pub group_turn : (Token → Bool) → Reader Tree → ℕ → Tree → Reader (Turn Tree Tree)
group_turn op operand b l = ask op (do t ← read; r ← operand; give (again (binary t.kind b l r))) (give (done l))

-- an operand, then operators and operands as long as there are any
unfoldable pub grouped : (Token → Bool) → Reader Tree → Reader Tree
grouped op operand = chain operand λ b l. loop (group_turn op operand b) l

-- What was read of a chain of `**` that groups right: its last operand and where that one's text begins, and the same of those before it, the nearest first
abbrev pub Chain : Type 0
Chain = ℕ × Tree × List (ℕ × Tree)

-- r is the right part of the nearest operand, and so on outwards. Each node begins where its left part's text does
abbrev pub onto : Tree → List (ℕ × Tree) → Tree
onto r [] = r
onto r (l ∷ ls) = onto (binary 12 l.0 l.1 r) ls

-- one operand more, as long as there is a `**`; then all are joined, from the right
unfoldable pub raise_turn : Reader Tree → Chain → Reader (Turn Chain Tree)
raise_turn operand c =
    ask (is "**")
    (do read; t ← peek; r ← operand; give (again (t.from, r, (c.0, c.1) ∷ c.2)))
    (give (done (onto c.1 c.2)))

-- operands joined by `**`, right to left. The chain is a loop: it is not counted for depth
unfoldable pub raised : Reader Tree → Reader Tree
raised operand = chain operand λ b l. loop (raise_turn operand) (b, l, [])

-- a method m of x, which begins at b: arguments are read before method name and count
unfoldable pub method : ℕ → Tree → Token → Trees → Reader Tree
method b x m es =
    if same (bytes "append") m.text && eqb (parts es) 1 then give (node 29 b [] unused (x ▹ es))
    else if same (bytes "mean") m.text && eqb (parts es) 0 then give (node 30 b [] unused (x ▹ nil))
    else if same (bytes "std") m.text && eqb (parts es) 0 then give (node 31 b [] unused (x ▹ nil))
    else fail_at m 10

-- ---- calls

-- a string token's date (11)
unfoldable pub date_of : Token → Reader ℕ
date_of t = let d = date (content t) in if eqb d 0 then fail_at t 11 else give d

-- a string token that must be a date
unfoldable pub a_date : Reader ℕ
a_date = the "string" >>= date_of

-- the curve of a Df, or none
abbrev pub curve : ℕ → ℕ → Reader Tree
curve b d =
    optional "," (leaf 34 b (fields d 0 0 0))
    (do s ← the "string"; give (naming 34 b (content s) (fields d (suc s.from) (length (content s)) 0)))

-- Df(date[,"curve"]), its name at b
unfoldable pub df : ℕ → Reader Tree
df b = do
  the "("
  d ← a_date
  e ← curve b d
  the ")"
  give e

-- the strings of a RateIndex: its name and two dates
abbrev pub rate_of : ℕ → Token → Token → Token → Reader Tree
rate_of b s t u = do c ← date_of t; d ← date_of u; give (naming 35 b (content s) (fields (suc s.from) (length (content s)) c d))

-- RateIndex("name",date,date), its name at b, dates judged after `)`
unfoldable pub rate_index : ℕ → Reader Tree
rate_index b = do
  the "("
  s ← the "string"
  the ","
  t ← the "string"
  the ","
  u ← the "string"
  the ")"
  rate_of b s t u

-- a String node
abbrev pub is_string : Tree → Bool
is_string (node k b s f ts) = eqb k 5

-- the bytes that a node names: of a String its content
abbrev pub text_of : Tree → List ℕ
text_of (node k b s f ts) = s

-- all are String nodes
abbrev pub strings : Trees → Bool
strings nil = true
strings (t ▹ ts) = is_string t && strings ts

-- the bytes of the i-th
abbrev pub text : Trees → ℕ → List ℕ
text nil i = []
text (t ▹ ts) zero = text_of t
text (t ▹ ts) (suc i) = text ts i

-- calls by argument count: ln 1, exp 1, pow 2, min and max 2 to 100, cvg 3, fif 4, range 2. A record's kind, the fewest and the most arguments
abbrev pub calls : List (String × (ℕ × ℕ × ℕ))
calls =
    ("ln", (21, 1, 1)) ∷ ("exp", (22, 1, 1)) ∷ ("pow", (12, 2, 2)) ∷ ("min", (23, 2, 100)) ∷ ("max", (24, 2, 100)) ∷ ("cvg", (25, 3, 3))
    ∷ ("fif", (26, 4, 4)) ∷ ("range", (27, 2, 2)) ∷ []

-- what the table has for a name; kind 0 where it has nothing
unfoldable pub call_of : List ℕ → List (String × (ℕ × ℕ × ℕ)) → ℕ × ℕ × ℕ
call_of n [] = (0, 0, 0)
call_of n (c ∷ cs) = elim (same (bytes c.0) n) [ true ↦ c.1 | false ↦ call_of n cs ]

-- what is one deeper in an `if` or a `for`: statements, and primaries
pub record Inner : Type 0 where
  pub statement : Reader Tree
  pub primary : Reader Tree

-- primaries alone
abbrev pub deep : Option Inner → Option (Reader Tree)
deep none = none
deep (some i) = some i.primary

-- `{ .. }`: statements up to the closing sign
unfoldable pub block_turn : Reader Tree → Trees → Reader (Turn Trees Trees)
block_turn statement ss = ask (is "}") (give (done ss)) (do s ← statement; give (again (snoc ss s)))

unfoldable pub block : Reader Tree → Reader Trees
block statement = do
  the "{"
  ss ← loop (block_turn statement) nil
  the "}"
  give ss

module _ (W : Language) where
  -- ---- expressions, over the reader of a primary

  -- sums, products and `**` all group left; in edition two `**` groups right
  unfoldable pub power : Reader Tree → Reader Tree
  power primary = in_edition W.edition (grouped (is "**") primary) (raised primary)

  -- A sign takes in a primary. In edition two `**` binds tighter than unary minus: signs take in the `**` after them
  unfoldable pub signed : Reader Tree → Reader Tree
  signed primary = in_edition W.edition primary (power primary)

  -- and a minus before a number t makes a negated constant; in edition two, before a number without `**` after it: u follows
  abbrev pub lone_by : Token → Token → Bool
  lone_by t u = is "number" t && in_edition W.edition true (not (is "**" u))

  abbrev pub lone : List Token → Bool
  lone ts = lone_by (first ts) (second ts)

  abbrev pub product : Reader Tree → Reader Tree
  product primary = grouped (λ t. is "*" t || is "/" t) (power primary)

  unfoldable pub sum : Reader Tree → Reader Tree
  sum primary = grouped (λ t. is "+" t || is "-" t) (product primary)

  -- at most one comparator between sums: == != > < >= <= are 13 to 18
  unfoldable pub comparison : Reader Tree → Reader Tree
  comparison primary = chain (sum primary) λ b l.
      ask (λ t. within 13 18 t.kind) (do t ← read; r ← sum primary; give (binary t.kind b l r)) (give l)

  -- comparisons joined by `and` and `or`, one level, left to right; in edition two `and` binds tighter than `or`
  unfoldable pub expression : Reader Tree → Reader Tree
  expression primary =
      in_edition W.edition
      (grouped (λ t. is "and" t || is "or" t) (comparison primary))
      (grouped (is "or") (grouped (is "and") (comparison primary)))

  -- ---- lists and arguments

  -- expressions with commas between them, up to the closing sign; a comma may trail. One of them, and its comma
  unfoldable pub item_turn : String → Reader Tree → Trees → Reader (Turn Trees Trees)
  item_turn close primary es = ask (is close) (give (done es)) (do
    e ← expression primary
    t ← peek
    if is "," t then (do the ","; give (again (snoc es e)))
        else if is close t then give (again (snoc es e)) else fail 8)

  -- all of them; the closing sign is not read
  unfoldable pub items : String → Reader Tree → Reader Trees
  items close primary = loop (item_turn close primary) nil

  -- all of them and the closing sign
  abbrev pub closed : String → Reader Tree → Reader Trees
  closed close primary = do es ← items close primary; the close; give es

  -- an argument list: inner reads a primary one deeper
  unfoldable pub arguments : Option (Reader Tree) → Reader Trees
  arguments inner = do
    t ← peek
    if is "(" t then deeper t inner (λ p. read >> closed ")" p) else fail 8

  -- ---- postfixes: .append(e), .mean(), .std(), [e]. Each node begins where what it stands behind begins, at b

  -- a method of x, behind its `.`
  abbrev pub method_of : Option (Reader Tree) → ℕ → Tree → Reader (Turn Tree Tree)
  method_of inner b x = do m ← the "name"; es ← arguments inner; y ← method b x m es; give (again y)

  -- an index of x, behind its `[`
  abbrev pub index_of : Reader Tree → ℕ → Tree → Reader (Turn Tree Tree)
  index_of primary b x = do i ← expression primary; the "]"; give (again (binary 28 b x i))

  -- one postfix of x, if there is one
  unfoldable pub postfix_turn : Option (Reader Tree) → ℕ → Tree → Reader (Turn Tree Tree)
  postfix_turn inner b x = do
    t ← peek
    if is "." t then (read >> method_of inner b x)
        else if is "[" t then deeper t inner (λ p. read >> index_of p b x)
        else give (done x)

  -- all of them
  unfoldable pub postfixes : Option (Reader Tree) → ℕ → Tree → Reader Tree
  postfixes inner b = loop (postfix_turn inner b)

  -- `if e { .. }` with optional `else { .. }`
  unfoldable pub if_over : Inner → Reader Tree
  if_over i = do
    t ← read
    e ← expression i.primary
    ss ← block i.statement
    ask (is "else")
        (do read; us ← block i.statement; give (node 38 t.from [] (fields (suc (parts ss)) 0 0 0) (e ▹ join ss us)))
        (give (node 38 t.from [] unused (e ▹ ss)))

  -- `e;`
  unfoldable pub ended : Reader Tree → Reader Tree
  ended primary = do e ← expression primary; the ";"; give e

  -- a string token's currency (12)
  unfoldable pub currency_of : Token → Reader ℕ
  currency_of t = let c = place W.currencies (content t) in if eqb c 0 then fail_at t 12 else give c

  -- a string token that must be a currency
  unfoldable pub a_currency : Reader ℕ
  a_currency = the "string" >>= currency_of

  -- a first string that is no currency is an equity, Spot("name"[,date])
  unfoldable pub equity : ℕ → Token → Reader Tree
  equity b s = do d ← optional "," 0 a_date; give (naming 33 b (content s) (fields (suc s.from) (length (content s)) d 0))

  -- Spot("CCY"), second USD; Spot("CCY","CCY"[,date])
  unfoldable pub pair : ℕ → ℕ → Reader Tree
  pair b c = optional "," (leaf 32 b (fields c 1 0 0)) (do k ← a_currency; d ← optional "," 0 a_date; give (leaf 32 b (fields c k d 0)))

  -- the first string decides
  abbrev pub spot_of : ℕ → Token → Reader Tree
  spot_of b s = let c = place W.currencies (content s) in if eqb c 0 then equity b s else pair b c

  -- the name `Spot` is at b
  unfoldable pub spot : ℕ → Reader Tree
  spot b = do
    the "("
    s ← the "string"
    e ← spot_of b s
    the ")"
    give e

  -- cvg's arguments must be String nodes (14): date, date, day counter. Strings before dates, dates before the day counter
  unfoldable pub cvg : Token → Trees → Reader Tree
  cvg t es =
      if not (strings es) then fail_at t 14
      else if eqb (date (text es 0)) 0 || eqb (date (text es 1)) 0 then fail_at t 11
      else if member W.counters (text es 2) then give (node 25 t.from [] unused es)
      else fail_at t 13

  -- an ordinary call, behind its name t: count before strings
  unfoldable pub call : Option (Reader Tree) → Token → (ℕ × ℕ × ℕ) → Reader Tree
  call inner t c = do
    es ← arguments inner
    if not (within c.1 c.2 (parts es)) then fail_at t 10
        else if eqb c.0 25 then cvg t es
        else give (node c.0 t.from [] unused es)

  -- a variable may not be reserved (9)
  unfoldable pub named : Token → Reader Tree
  named t = if member W.reserved t.text then fail_at t 9 else give (variable t)

  -- call names are recognised before that test
  unfoldable pub name : Option (Reader Tree) → Token → Reader Tree
  name inner t =
      let c = call_of t.text calls in
      if leb 1 c.0 then call inner t c
      else if same (bytes "Spot") t.text then spot t.from
      else if same (bytes "Df") t.text then df t.from
      else if same (bytes "RateIndex") t.text then rate_index t.from
      else (named t >>= postfixes inner t.from)

  -- ---- pays

  -- expressions until `;`, `)`, `on`, `in` or the end, each as long as it can be
  unfoldable pub pay_turn : Reader Tree → Trees → Reader (Turn Trees Trees)
  pay_turn primary es =
      ask (λ t. is ";" t || is ")" t || is "on" t || is "in" t || is "End" t)
      (give (done es))
      (do e ← expression primary; give (again (snoc es e)))

  -- the parts of a pays
  unfoldable pub payments : Reader Tree → Reader Trees
  payments primary = loop (pay_turn primary) nil

  -- then optional `on` date, then optional `in` currency
  abbrev pub payday : ℕ → Trees → Reader Tree
  payday b es = do d ← optional "on" 0 a_date; c ← optional "in" 0 a_currency; give (node 36 b [] (fields d c 0 0) es)

  -- what stands behind the word `pays`, which is at b
  abbrev pub payment : ℕ → Reader Tree → Reader Tree
  payment b primary = do es ← payments primary; payday b es

  unfoldable pub pays : Option (Reader Tree) → Reader Tree
  pays inner = peek >>= λ t. deeper t inner λ p. the "pays" >> payment t.from p

  -- ---- primaries

  -- UnaryMinus of what the minus takes in: it is at b
  abbrev pub negative : ℕ → Reader Tree → Reader Tree
  negative b primary = do x ← signed primary; give (node 7 b [] unused (x ▹ nil))

  -- a number, negated: the minus is at b
  abbrev pub negated : ℕ → Reader Tree
  negated b = do t ← the "number"; give (constant b (neg (value t.text)) t)

  -- unary `-`, s, is read: a negated constant, else UnaryMinus of what it takes in
  unfoldable pub minus : Option (Reader Tree) → Token → Reader Tree
  minus inner s = look lone (negated s.from) (deeper s inner (negative s.from))

  -- an expression and its `)`
  abbrev pub parenthesis : Reader Tree → Reader Tree
  parenthesis primary = do e ← expression primary; the ")"; give e

  -- the elements of a list and its `]`; its `[` is at b
  abbrev pub listed : ℕ → Reader Tree → Reader Tree
  listed b primary = do es ← items "]" primary; the "]"; give (node 6 b [] unused es)

  -- Primary: ( e ), without postfix; unary `+`, which vanishes; unary `-`; list with postfixes; number, true, false, string; pays; call; variable with postfixes
  unfoldable pub primary_over : Option (Reader Tree) → Reader Tree
  primary_over inner = do
    t ← peek
    if is "(" t then deeper t inner (λ p. read >> parenthesis p)
        else if is "+" t then deeper t inner (λ p. read >> signed p)
        else if is "-" t then (read >> minus inner t)
        else if is "[" t then (deeper t inner (λ p. read >> listed t.from p) >>= postfixes inner t.from)
        else if is "number" t then (do the "number"; give (constant t.from (value t.text) t))
        else if is "true" t then (do the "true"; give (leaf 3 t.from unused))
        else if is "false" t then (do the "false"; give (leaf 4 t.from unused))
        else if is "string" t then (do the "string"; give (string t))
        else if is "pays" t then pays inner
        else if is "name" t then (do the "name"; name inner t)
        else fail 8

  -- d is how much deeper one may go
  unfoldable pub primary : ℕ → Reader Tree
  primary zero = primary_over none
  primary (suc d) = primary_over (some (primary d))

  -- ---- statements

  -- `for v in e { .. }`
  unfoldable pub for_over : Inner → Reader Tree
  for_over i = do
    t ← read
    v ← the "name"
    named v
    the "in"
    e ← expression i.primary
    ss ← block i.statement
    give (node 39 t.from v.text (fields v.from (length v.text) 0 0) (e ▹ ss))

  -- a `;` after a statement's pays is optional
  unfoldable pub paid : Option (Reader Tree) → Reader Tree
  paid inner = do e ← pays inner; optional ";" e (give e)

  -- the variable of a name that begins a statement
  unfoldable pub target : Reader Tree
  target = the "name" >>= named

  -- x is assigned e, at x's place
  abbrev pub assigned : Tree → Tree → Tree
  assigned x e = binary 37 (place_of x) x e

  -- `x = e;`
  unfoldable pub assign : Reader Tree → Reader Tree
  assign primary = do x ← target; read; e ← ended primary; give (assigned x e)

  -- `x += e` is Assign(x, Add(x, e)), all but e at the name's place; so -= *= /=
  unfoldable pub compound : Reader Tree → Reader Tree
  compound primary = do x ← target; o ← read; e ← ended primary; give (assigned x (binary (o.kind - 20) (place_of x) x e))

  -- `x pays ..` is Assign(x, Add(x, Pays)), so too
  unfoldable pub assign_paid : Option (Reader Tree) → Reader Tree
  assign_paid inner = do x ← target; e ← paid inner; give (assigned x (binary 8 (place_of x) x e))

  -- the kind of the very next token, Newline included; in edition two a line break after a name no longer matters
  abbrev pub next_kind : List Token → ℕ
  next_kind ts = (in_edition W.edition (next ts) (second ts)).kind

  -- a name that begins a statement is an assignment, compound assignment or `x pays` only if the next token, of the kind k, is that sign
  unfoldable pub name_first : Reader Tree → Option (Reader Tree) → ℕ → Reader Tree
  name_first primary inner k =
      if eqb k (code "=") then assign primary
      else if within (code "+=") (code "/=") k then compound primary
      else if eqb k (code "pays") then assign_paid inner
      else ended primary

  -- a statement that does not begin with a name
  unfoldable pub plain : Reader Tree → Option Inner → Reader Tree
  plain primary inner = do
    t ← peek
    if is "if" t then deeper t inner if_over
        else if is "for" t then deeper t inner for_over
        else if is "pays" t then paid (deep inner)
        else ended primary

  -- Statement: if, for, pays, `x = e;`, `x += e;` (also -= *= /=), `x pays ..`, or `e;`
  unfoldable pub statement_over : Reader Tree → Option Inner → Reader Tree
  statement_over primary inner ts =
      (if is "name" (first ts) then name_first primary (deep inner) (next_kind ts) else plain primary inner) ts

  -- d is how much deeper one may go
  unfoldable pub statement : ℕ → Reader Tree
  statement zero = statement_over (primary zero) none
  statement (suc d) = statement_over (primary (suc d)) (some (record { statement = statement d; primary = primary d }))
