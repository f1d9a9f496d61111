-- Each reader of the grammar leaves an end of its tokens, and of what it leaves it looks at the first token alone.
use mathlib.Core.Path.{ap}
use mathlib.Core.Bool.{Bool}
use mathlib.Core.List.{◌++◌}
use mathlib.Core.Option.{Option, none, some}
use Prim.Native.Nat.{ℕ, zero, suc, ◌+◌, ◌≤◌}
use Prim.Native.String.{String}
use native.Mathlib.Omega.{arith}
use Rattle.tokens.specs.Tokens.{Token}
use Rattle.grammar.specs.Trees.{Tree, Trees}
use Rattle.grammar.specs.Readers.{Reader, ◌>>=◌, ◌>>◌, Turn, again, done, give, ask, peek, read, the}
use Rattle.grammar.specs.Grammar as G
use Rattle.grammar.specs.Grammar.{deeper, optional, grouped, sum, comparison, expression, items, arguments, method, postfixes, date_of, a_date, df, rate_index, Edition, one, two, in_edition, Language, Inner}
use Rattle.grammar.proofs.Laws.{Rel, Near, near_follows, Law, bind_law, ask_law, the_law, give_law, fail_law, fail_at_law, if_law, weaken, peek_law, read_law, near_append, second_near, Looks, look_law, cost, loop_law}

abbrev pub Stays : {A : Type 0} → Reader A → Type 0
Stays m = Law Near (λ a. 0) m

abbrev pub Moves : {A : Type 0} → Reader A → Type 0
Moves m = Law Near (λ a. 1) m

abbrev pub Steps : {S A : Type 0} → Reader (Turn S A) → Type 0
Steps m = Law Near cost m

module _ {A : Type 0} {m : Reader A} where
  pub moving_stays : Moves m → Stays m
  moving_stays h = weaken (λ a. 0) (λ a. 1) (λ a. omega arith) h

module _ {A B : Type 0} {m : Reader A} {f : A → Reader B} where
  -- what stays, then what has any law
  pub stay_then : {c : B → ℕ} → Stays m → ((a : A) → Law Near c (f a)) → Law Near c (m >>= f)
  stay_then {c} hm hf = bind_law 0 c c (λ b. omega arith) near_follows hm hf

  pub stay_stay : Stays m → ((a : A) → Stays (f a)) → Stays (m >>= f)
  stay_stay hm hf = stay_then hm hf

  pub move_then : Moves m → ((a : A) → Stays (f a)) → Moves (m >>= f)
  move_then hm hf = bind_law 1 (λ b. 0) (λ b. 1) (λ b. omega arith) near_follows hm hf

module _ {A B : Type 0} {m : Reader A} {n : Reader B} where
  pub stay_next : Stays m → Stays n → Stays (m >> n)
  unfolding ◌>>◌
  stay_next hm hn = stay_then hm (λ a. hn)

  pub move_next : Moves m → Stays n → Moves (m >> n)
  unfolding ◌>>◌
  move_next hm hn = move_then hm (λ a. hn)

module _ {B : Type 0} {f : Token → Reader B} where
  pub peek_then : {c : B → ℕ} → ((t : Token) → Law Near c (f t)) → Law Near c (peek >>= f)
  peek_then h = stay_then peek_law h

pub read_stays : Stays read
read_stays = moving_stays (read_law near_follows)

pub read_moves : Moves read
read_moves = read_law near_follows

pub the_moves : (s : String) → Moves (the s)
the_moves s = the_law near_follows s

module _ {A : Type 0} {m n : Reader A} where
  pub ask_near : {c : A → ℕ} (test : Token → Bool) → Law Near c m → Law Near c n → Law Near c (ask test m n)
  ask_near {c} test hm hn = ask_law c test (λ r r' e. ap test e) hm hn

pub the_stays : (s : String) → Stays (the s)
the_stays s = moving_stays (the_moves s)

module _ {A : Type 0} where
  pub give_stays : (a : A) → Stays (give a)
  give_stays a = give_law (λ a. 0) a (omega arith)

  pub give_done : {S : Type 0} (a : A) → Steps {S = S} (give (done a))
  give_done a = give_law cost (done a) (omega arith)

cost_le : {S B : Type 0} (u : Turn S B) → cost u ≤ 1 + 0
cost_le (again s) = omega arith
cost_le (done a) = omega arith

module _ {S A B : Type 0} {m : Reader A} {f : A → Reader (Turn S B)} where
  -- a turn that reads a token may go on
  pub move_on : Moves m → ((a : A) → Stays (f a)) → Steps (m >>= f)
  move_on hm hf = bind_law 1 (λ b. 0) cost cost_le near_follows hm hf

module _ {S A B : Type 0} {m : Reader A} {n : Reader (Turn S B)} where
  pub next_on : Moves m → Stays n → Steps (m >> n)
  unfolding ◌>>◌
  next_on hm hn = move_on hm (λ a. hn)

-- what is one deeper has its law
pub data Each : Option (Reader Tree) → Type 0 where
  nothing : Each none
  just : {p : Reader Tree} → Moves p → Each (some p)

module _ {A : Type 0} {P : Rel} {c : A → ℕ} {k : Reader Tree → Reader A} where
  pub deeper_law : (t : Token) (o : Option (Reader Tree)) → Each o → ((p : Reader Tree) → Moves p → Law P c (k p)) → Law P c (deeper t o k)
  unfolding deeper
  deeper_law t none nothing h = fail_at_law c t 15
  deeper_law t (some p) (just m) h = h p m

pub ruleset laws = (peek_then, stay_stay, stay_next, move_then, move_next, move_on, next_on, if_law, give_stays, give_done, fail_law, fail_at_law, read_moves, read_stays, the_moves, the_stays, ask_near, loop_law, deeper_law)

module _ {A : Type 0} where
  pub optional_law : (s : String) (a : A) (m : Reader A) → Stays m → Stays (optional s a m)
  unfolding optional
  optional_law s a m h = search laws depth 9

pub group_turn_law : (op : Token → Bool) (operand : Reader Tree) → Moves operand → (b : ℕ) (l : Tree) → Steps (G.group_turn op operand b l)
unfolding G.group_turn
group_turn_law op operand h b l = search (laws, moving_stays h) depth 9

pub grouped_law : (op : Token → Bool) (operand : Reader Tree) → Moves operand → Moves (grouped op operand)
unfolding grouped
grouped_law op operand h = peek_then λ t. move_then h λ l. loop_law (group_turn_law op operand h _) l

pub raise_turn_law : (operand : Reader Tree) → Moves operand → (c : G.Chain) → Steps (G.raise_turn operand c)
unfolding G.raise_turn
raise_turn_law operand h c = search (laws, moving_stays h) depth 9

pub raised_law : (operand : Reader Tree) → Moves operand → Moves (G.raised operand)
unfolding G.raised
raised_law operand h = peek_then λ t. move_then h λ l. loop_law (raise_turn_law operand h) _

module _ {A : Type 0} {P : Rel} where
  -- what each edition has has its law
  pub edition_law : (c : A → ℕ) (e : Edition) {m n : Reader A} → Law P c m → Law P c n → Law P c (in_edition e m n)
  edition_law c one hm hn = hm
  edition_law c two hm hn = hn

pub method_law : (b : ℕ) (x : Tree) (m : Token) (es : Trees) → Stays (method b x m es)
unfolding method
method_law b x m es = search laws depth 12

pub date_of_law : (t : Token) → Stays (date_of t)
unfolding date_of
date_of_law t = search laws depth 12

pub a_date_law : Moves a_date
unfolding a_date
a_date_law = search (laws, date_of_law)

pub df_law : (b : ℕ) → Moves (df b)
unfolding df
df_law b = search (laws, moving_stays a_date_law, optional_law) depth 16

pub rate_index_law : (b : ℕ) → Moves (rate_index b)
unfolding rate_index
rate_index_law b =
    move_next (the_moves "(") (stay_stay (the_stays "string") λ s. stay_next (the_stays ",") (stay_stay (the_stays "string") λ t. stay_next (the_stays ",")
    (stay_stay (the_stays "string") λ u. search (laws, date_of_law) depth 9)))

pub block_turn_law : (s : Reader Tree) → Moves s → (ss : Trees) → Steps (G.block_turn s ss)
unfolding G.block_turn
block_turn_law s h ss = search laws depth 9

pub record InnerLaw (i : Inner) : Type 0 where
  pub statement : Moves i.statement
  pub primary : Moves i.primary

module _ (W : Language) where
  pub power_law : (p : Reader Tree) → Moves p → Moves (G.power W p)
  unfolding G.power
  power_law p h = search (edition_law, grouped_law, raised_law)

  pub signed_law : (p : Reader Tree) → Moves p → Moves (G.signed W p)
  unfolding G.signed
  signed_law p h = search (edition_law, power_law)

  pub sum_law : (p : Reader Tree) → Moves p → Moves (sum W p)
  unfolding sum
  sum_law p h = search (grouped_law, power_law)

  pub comparison_law : (p : Reader Tree) → Moves p → Moves (comparison W p)
  unfolding comparison
  comparison_law p h = search (laws, sum_law, moving_stays (sum_law p h)) depth 12

  pub expression_law : (p : Reader Tree) → Moves p → Moves (expression W p)
  unfolding expression
  expression_law p h = search (edition_law, grouped_law, comparison_law)

  pub expression_stays : (p : Reader Tree) → Moves p → Stays (expression W p)
  expression_stays p h = moving_stays (expression_law p h)

  pub item_turn_law : (s : String) (p : Reader Tree) → Moves p → (es : Trees) → Steps (G.item_turn W s p es)
  unfolding G.item_turn
  item_turn_law s p h es = search (laws, expression_law) depth 9

  pub items_law : (s : String) (p : Reader Tree) → Moves p → Stays (items W s p)
  unfolding items
  items_law s p h = loop_law (item_turn_law s p h) _

  pub arguments_law : (o : Option (Reader Tree)) → Each o → Moves (arguments W o)
  unfolding arguments
  arguments_law o h = search (laws, items_law) depth 12

  pub arguments_stays : (o : Option (Reader Tree)) → Each o → Stays (arguments W o)
  arguments_stays o h = moving_stays (arguments_law o h)

  pub postfix_turn_law : (o : Option (Reader Tree)) → Each o → (b : ℕ) (x : Tree) → Steps (G.postfix_turn W o b x)
  unfolding G.postfix_turn
  postfix_turn_law o h b x = search (laws, arguments_stays, method_law, expression_stays) depth 12

  pub postfixes_law : (o : Option (Reader Tree)) → Each o → (b : ℕ) (x : Tree) → Stays (postfixes W o b x)
  unfolding postfixes
  postfixes_law o h b x = loop_law (postfix_turn_law o h b) x

  pub currency_of_law : (t : Token) → Stays (G.currency_of W t)
  unfolding G.currency_of
  currency_of_law t = search laws depth 6

  pub a_currency_law : Moves (G.a_currency W)
  unfolding G.a_currency
  a_currency_law = search (laws, currency_of_law)

  pub equity_law : (b : ℕ) (t : Token) → Stays (G.equity W b t)
  unfolding G.equity
  equity_law b t = search (laws, optional_law, moving_stays a_date_law) depth 8

  pub pair_law : (b c : ℕ) → Stays (G.pair W b c)
  unfolding G.pair
  pair_law b c = search (laws, optional_law, moving_stays a_date_law, moving_stays a_currency_law) depth 12

  pub spot_law : (b : ℕ) → Moves (G.spot W b)
  unfolding G.spot
  spot_law b = search (laws, equity_law, pair_law) depth 14

  pub cvg_law : (t : Token) (es : Trees) → Stays (G.cvg W t es)
  unfolding G.cvg
  cvg_law t es = search laws depth 8

  pub call_law : (o : Option (Reader Tree)) → Each o → (t : Token) (c : ℕ × ℕ × ℕ) → Moves (G.call W o t c)
  unfolding G.call
  call_law o h t c = search (laws, arguments_law, cvg_law) depth 8

  pub call_stays : (o : Option (Reader Tree)) → Each o → (t : Token) (c : ℕ × ℕ × ℕ) → Stays (G.call W o t c)
  call_stays o h t c = moving_stays (call_law o h t c)

  pub named_law : (t : Token) → Stays (G.named W t)
  unfolding G.named
  named_law t = search laws depth 6

  pub name_law : (o : Option (Reader Tree)) → Each o → (t : Token) → Stays (G.name W o t)
  unfolding G.name
  name_law o h t = search (laws, call_stays, moving_stays (spot_law t.from), moving_stays (df_law t.from), moving_stays (rate_index_law t.from), named_law, postfixes_law) depth 10

  pub pay_turn_law : (p : Reader Tree) → Moves p → (es : Trees) → Steps (G.pay_turn W p es)
  unfolding G.pay_turn
  pay_turn_law p h es = search (laws, expression_law) depth 8

  pub payments_law : (p : Reader Tree) → Moves p → Stays (G.payments W p)
  unfolding G.payments
  payments_law p h = loop_law (pay_turn_law p h) _

  pub pays_law : (o : Option (Reader Tree)) → Each o → Moves (G.pays W o)
  unfolding G.pays
  pays_law o h = search (laws, payments_law, optional_law, moving_stays a_date_law, moving_stays a_currency_law) depth 14

  -- a number, and what stands behind it
  pub lone_looks : Looks (G.lone W)
  lone_looks x r nl r' h q c e = λ i. G.lone_by W (near_append x r (nl ++ r') h i) (second_near x r nl r' h q c e i)

  pub signed_stays : (p : Reader Tree) → Moves p → Stays (G.signed W p)
  signed_stays p h = moving_stays (signed_law p h)

  pub minus_law : (o : Option (Reader Tree)) → Each o → (t : Token) → Moves (G.minus W o t)
  unfolding G.minus
  minus_law o h t = look_law (G.lone W) lone_looks (search laws) (search (laws, signed_law) depth 8)

  pub minus_stays : (o : Option (Reader Tree)) → Each o → (t : Token) → Stays (G.minus W o t)
  minus_stays o h t = moving_stays (minus_law o h t)

  pub primary_over_law : (o : Option (Reader Tree)) → Each o → Moves (G.primary_over W o)
  unfolding G.primary_over
  primary_over_law o h = search (laws, expression_stays, signed_stays, items_law, postfixes_law, minus_stays, pays_law, name_law) depth 24

  pub primary_law : (d : ℕ) → Moves (G.primary W d)
  unfolding G.primary
  primary_law zero = primary_over_law none nothing
  primary_law (suc d) = primary_over_law (some (G.primary W d)) (just (primary_law d))

  pub target_law : Moves (G.target W)
  unfolding G.target
  target_law = search (laws, named_law) depth 9
