-- Whatever is read has true dates: each is the count of a day that a text writes, so that none is past the last.
-- A reader's law follows the reader's own text, by the laws of `GivesLaws`.
use Rattle.std.specs.Prelude.{if◌then◌else◌}
use mathlib.Core.Path.{◌≡◌, refl, sym, ap, subst, ◌∙◌}
use mathlib.Core.Logic.{inl, inr, ⊎_elim}
use mathlib.Core.Bool.{cond, Bool, true, false, ◌||◌, not}
use mathlib.Core.List.{List, [], ◌∷◌, map, Memᴰ}
use mathlib.Core.Option.{Option, none, some}
use Prim.Native.Nat.{ℕ, zero, suc, ◌+◌, ◌-◌, ◌≤◌}
use Prim.Native.String.{String}
use native.Mathlib.Omega.{arith}
use lib.Dec.{eqb, ltb}
use borrow.Author.Tests.{eqb-true}
use lib.ListN.{length}
use Rattle.calendar.specs.Calendar.{last_count}
use Rattle.tokens.specs.Limits.{most_tokens, most_depth}
use Rattle.tokens.specs.Text.{script, count}
use Rattle.tokens.specs.Names.{Lists}
use Rattle.tokens.specs.Dates.{date, is_date}
use Rattle.tokens.specs.Tokens.{Token, Lexed, lexed, refused as faulty, tokens, counts}
use Rattle.tokens.proofs.DateLaws.{date_none, date_most}
use Rattle.grammar.specs.Trees.{Tree, Trees, node, nil, ◌▹◌, Fields, fields, none as unused, snoc, join, size, records}
use Rattle.grammar.specs.Latest.{latest_in, Date, spot, equity, df, from, to, pays, Has, here, below, HasPart, this, other}
use Rattle.grammar.specs.Readers.{Out, ok, refused, Reader, ◌>>=◌, first, is, skip, peek, the}
use Rattle.grammar.specs.Grammar as G
use Rattle.grammar.specs.Grammar.{Edition, Language, Inner, grouped, sum, comparison, expression, items, arguments, method, postfixes, date_of, a_date, rate_index, deep, block, if_over, ended}
use Rattle.grammar.specs.Script.{Entry, Outcome, accepted, refused as wrong, front, back, entry_of, onward, turn, up_to, from as from_byte, statements, language, of_tokens, read_script}
use Rattle.grammar.specs.Words.{row_of, latest_of}
use Rattle.grammar.proofs.Refusals.{Each, nothing, just, Both, each_deep, by_order}
use Rattle.grammar.proofs.GivesLaws.{Passing, Gives, Turned, forms, bind_gives, then_gives, next_gives, give_gives, if_gives, ask_gives, edition_gives, loop_gives}
use Rattle.grammar.proofs.LatestLaws.{NoneOr, latest_had}

-- ---- trees whose dates are counts

-- the count of a text's date, or 0, as of a text that is none
data Counted : ℕ → Type 0 where
  counted : (s : List ℕ) → Counted (date s)

none_counted : Counted 0
unfolding date
none_counted = counted []

-- so is each field that holds a date, by the kind
abbrev Dates : ℕ → Fields → Type 0
Dates k (fields a b c d) =
    cond (eqb k 32 || eqb k 33) (Counted c) (cond (eqb k 34 || eqb k 36) (Counted a) (cond (eqb k 35) (Counted c × Counted d) (Unit {0})))

-- and so for each node of a tree
mutual
  data Dated : Tree → Type 0 where
    node_dated : {k p : ℕ} {s : List ℕ} {f : Fields} {ts : Trees} → Dates k f → DatedAll ts → Dated (node k p s f ts)

  data DatedAll : Trees → Type 0 where
    nil_dated : DatedAll nil
    more_dated : {t : Tree} {ts : Trees} → Dated t → DatedAll ts → DatedAll (t ▹ ts)

-- a node whose fields are unused, whatever its kind
unused_dated : {k p : ℕ} {s : List ℕ} {ts : Trees} → DatedAll ts → Dated (node k p s unused ts)
unused_dated {k} h = node_dated (go (eqb k 32 || eqb k 33) (eqb k 34 || eqb k 36) (eqb k 35)) h
  where
    go : (p q r : Bool) → cond p (Counted 0) (cond q (Counted 0) (cond r (Counted 0 × Counted 0) (Unit {0})))
    go true q r = none_counted
    go false true r = none_counted
    go false false true = (none_counted, none_counted)
    go false false false = tt

snoc_dated : {ts : Trees} {t : Tree} → DatedAll ts → Dated t → DatedAll (snoc ts t)
snoc_dated nil_dated h = more_dated h nil_dated
snoc_dated (more_dated g gs) h = more_dated g (snoc_dated gs h)

join_dated : {ts us : Trees} → DatedAll ts → DatedAll us → DatedAll (join ts us)
join_dated nil_dated h = h
join_dated (more_dated g gs) h = more_dated g (join_dated gs h)

-- each date that the tree has is a count
date_counted : {k x : ℕ} {f : Fields} → Date k f x → Dates k f → Counted x
date_counted spot h = h
date_counted equity h = h
date_counted df h = h
date_counted from h = h.0
date_counted to h = h.1
date_counted pays h = h

mutual
  has_counted : {x : ℕ} {t : Tree} → Has x t → Dated t → Counted x
  has_counted (here d) (node_dated h hs) = date_counted d h
  has_counted (below p) (node_dated h hs) = part_counted p hs

  part_counted : {x : ℕ} {ts : Trees} → HasPart x ts → DatedAll ts → Counted x
  part_counted (this p) (more_dated h hs) = has_counted p h
  part_counted (other p) (more_dated h hs) = part_counted p hs

-- ---- readers that give trees whose dates are counts

module _ {B : Type 0} {Q : B → Type 0} where
  then_tree : {m : Reader Tree} {f : Tree → Reader B} → Gives Dated m → ((t : Tree) → Dated t → Gives Q (f t)) → Gives Q (m >>= f)
  then_tree hm hf = bind_gives Dated hm hf

  then_trees : {m : Reader Trees} {f : Trees → Reader B} → Gives DatedAll m → ((ts : Trees) → DatedAll ts → Gives Q (f ts)) → Gives Q (m >>= f)
  then_trees hm hf = bind_gives DatedAll hm hf

  then_date : {m : Reader ℕ} {f : ℕ → Reader B} → Gives Counted m → ((d : ℕ) → Counted d → Gives Q (f d)) → Gives Q (m >>= f)
  then_date hm hf = bind_gives Counted hm hf

ruleset laws = (then_tree, then_trees, then_date, forms, unused_dated, node_dated, nil_dated, more_dated, snoc_dated, join_dated, none_counted)

-- ---- the readers of the grammar

-- a reader of a tree
abbrev Reads : Reader Tree → Type 0
Reads m = Gives Dated m

group_turn_dated : (op : Token → Bool) (operand : Reader Tree) → Reads operand → (b : ℕ) (l : Tree) → Dated l → Gives (Turned Dated Dated) (G.group_turn op operand b l)
unfolding G.group_turn
group_turn_dated op operand h b l g = search laws depth 9

grouped_dated : (op : Token → Bool) (operand : Reader Tree) → Reads operand → Reads (grouped op operand)
unfolding grouped
grouped_dated op operand h = then_gives peek λ t. then_tree h λ l g. loop_gives (group_turn_dated op operand h _) l g

-- the operands that wait in a chain of `**`
abbrev DatedWaiting : List (ℕ × Tree) → Type 0
DatedWaiting [] = Unit {0}
DatedWaiting (l ∷ ls) = Dated l.1 × DatedWaiting ls

abbrev DatedChain : G.Chain → Type 0
DatedChain c = Dated c.1 × DatedWaiting c.2

onto_dated : (r : Tree) (ls : List (ℕ × Tree)) → Dated r → DatedWaiting ls → Dated (G.onto r ls)
onto_dated r [] h hs = h
onto_dated r (l ∷ ls) h hs = onto_dated (G.binary 12 l.0 l.1 r) ls (unused_dated (more_dated hs.0 (more_dated h nil_dated))) hs.1

raise_turn_dated : (operand : Reader Tree) → Reads operand → (c : G.Chain) → DatedChain c → Gives (Turned DatedChain Dated) (G.raise_turn operand c)
unfolding G.raise_turn
raise_turn_dated operand h c g =
    ask_gives (is "**") (next_gives _ (then_gives peek λ t. then_tree h λ r k. give_gives _ (k, g))) (give_gives _ (onto_dated c.1 c.2 g.0 g.1))

raised_dated : (operand : Reader Tree) → Reads operand → Reads (G.raised operand)
unfolding G.raised
raised_dated operand h = then_gives peek λ t. then_tree h λ l g. loop_gives {R = DatedChain} (raise_turn_dated operand h) _ (g, tt)

method_dated : (b : ℕ) (x : Tree) → Dated x → (m : Token) (es : Trees) → DatedAll es → Reads (method b x m es)
unfolding method
method_dated b x h m es hs = search laws depth 12

date_of_counted : (t : Token) → Gives Counted (date_of t)
unfolding date_of
date_of_counted t = search (laws, counted)

a_date_counted : Gives Counted a_date
unfolding a_date
a_date_counted = search (laws, date_of_counted)

df_dated : (b : ℕ) → Reads (G.df b)
unfolding G.df
df_dated b = search (laws, a_date_counted) depth 16

rate_index_dated : (b : ℕ) → Reads (rate_index b)
unfolding rate_index
rate_index_dated b = search (laws, date_of_counted) depth 20

block_turn_dated : (s : Reader Tree) → Reads s → (ss : Trees) → DatedAll ss → Gives (Turned DatedAll DatedAll) (G.block_turn s ss)
unfolding G.block_turn
block_turn_dated s h ss g = search laws depth 9

block_dated : (s : Reader Tree) → Reads s → Gives DatedAll (block s)
unfolding block
block_dated s h =
    next_gives (the "{") (then_trees (loop_gives (block_turn_dated s h) nil nil_dated) λ ss g. next_gives (the "}") (give_gives ss g))

module _ (W : Language) where
  power_dated : (p : Reader Tree) → Reads p → Reads (G.power W p)
  unfolding G.power
  power_dated p h = search (edition_gives, grouped_dated, raised_dated)

  signed_dated : (p : Reader Tree) → Reads p → Reads (G.signed W p)
  unfolding G.signed
  signed_dated p h = search (edition_gives, power_dated)

  sum_dated : (p : Reader Tree) → Reads p → Reads (sum W p)
  unfolding sum
  sum_dated p h = search (grouped_dated, power_dated)

  comparison_dated : (p : Reader Tree) → Reads p → Reads (comparison W p)
  unfolding comparison
  comparison_dated p h = search (laws, sum_dated) depth 12

  expression_dated : (p : Reader Tree) → Reads p → Reads (expression W p)
  unfolding expression
  expression_dated p h = search (edition_gives, grouped_dated, comparison_dated)

  item_turn_dated : (s : String) (p : Reader Tree) → Reads p → (es : Trees) → DatedAll es → Gives (Turned DatedAll DatedAll) (G.item_turn W s p es)
  unfolding G.item_turn
  item_turn_dated s p h es g = search (laws, expression_dated) depth 12

  items_dated : (s : String) (p : Reader Tree) → Reads p → Gives DatedAll (items W s p)
  unfolding items
  items_dated s p h = loop_gives (item_turn_dated s p h) nil nil_dated

  arguments_dated : (o : Option (Reader Tree)) → Each Reads o → Gives DatedAll (arguments W o)
  unfolding arguments
  arguments_dated o h = search (laws, items_dated) depth 12

  postfix_turn_dated : (o : Option (Reader Tree)) → Each Reads o → (b : ℕ) (x : Tree) → Dated x → Gives (Turned Dated Dated) (G.postfix_turn W o b x)
  unfolding G.postfix_turn
  postfix_turn_dated o h b x g = search (laws, arguments_dated, method_dated, expression_dated) depth 12

  postfixes_dated : (o : Option (Reader Tree)) → Each Reads o → (b : ℕ) (x : Tree) → Dated x → Reads (postfixes W o b x)
  unfolding postfixes
  postfixes_dated o h b = loop_gives (postfix_turn_dated o h b)

  if_over_dated : (i : Inner) → Both Reads i → Reads (if_over W i)
  unfolding if_over
  if_over_dated i h = search (laws, expression_dated, block_dated) depth 16

  ended_dated : (p : Reader Tree) → Reads p → Reads (ended W p)
  unfolding ended
  ended_dated p h = search (laws, expression_dated) depth 9

  equity_dated : (b : ℕ) (t : Token) → Reads (G.equity W b t)
  unfolding G.equity
  equity_dated b t = search (laws, a_date_counted) depth 8

  pair_dated : (b c : ℕ) → Reads (G.pair W b c)
  unfolding G.pair
  pair_dated b c = search (laws, a_date_counted) depth 12

  spot_dated : (b : ℕ) → Reads (G.spot W b)
  unfolding G.spot
  spot_dated b = search (laws, equity_dated, pair_dated) depth 14

  cvg_dated : (t : Token) (es : Trees) → DatedAll es → Reads (G.cvg W t es)
  unfolding G.cvg
  cvg_dated t es h = search laws depth 8

  call_dated : (o : Option (Reader Tree)) → Each Reads o → (t : Token) (c : ℕ × ℕ × ℕ) → Reads (G.call W o t c)
  unfolding G.call
  call_dated o h t c = search (laws, arguments_dated, cvg_dated) depth 8

  named_dated : (t : Token) → Reads (G.named W t)
  unfolding G.named
  named_dated t = search laws depth 6

  name_dated : (o : Option (Reader Tree)) → Each Reads o → (t : Token) → Reads (G.name W o t)
  unfolding G.name
  name_dated o h t = search (laws, call_dated, spot_dated, df_dated, rate_index_dated, named_dated, postfixes_dated) depth 10

  pay_turn_dated : (p : Reader Tree) → Reads p → (es : Trees) → DatedAll es → Gives (Turned DatedAll DatedAll) (G.pay_turn W p es)
  unfolding G.pay_turn
  pay_turn_dated p h es g = search (laws, expression_dated) depth 8

  payments_dated : (p : Reader Tree) → Reads p → Gives DatedAll (G.payments W p)
  unfolding G.payments
  payments_dated p h = loop_gives (pay_turn_dated p h) nil nil_dated

  pays_dated : (o : Option (Reader Tree)) → Each Reads o → Reads (G.pays W o)
  unfolding G.pays
  pays_dated o h = search (laws, payments_dated, a_date_counted) depth 14

  minus_dated : (o : Option (Reader Tree)) → Each Reads o → (t : Token) → Reads (G.minus W o t)
  unfolding G.minus G.constant
  minus_dated o h t = search (laws, signed_dated) depth 9

  primary_over_dated : (o : Option (Reader Tree)) → Each Reads o → Reads (G.primary_over W o)
  unfolding G.primary_over G.constant
  primary_over_dated o h = search (laws, expression_dated, signed_dated, items_dated, postfixes_dated, minus_dated, pays_dated, name_dated) depth 24

  primary_dated : (d : ℕ) → Reads (G.primary W d)
  unfolding G.primary
  primary_dated zero = primary_over_dated none nothing
  primary_dated (suc d) = primary_over_dated (some (G.primary W d)) (just (primary_dated d))

  target_dated : Reads (G.target W)
  unfolding G.target
  target_dated = search (laws, named_dated) depth 9

  for_over_dated : (i : Inner) → Both Reads i → Reads (G.for_over W i)
  unfolding G.for_over
  for_over_dated i h = search (laws, expression_dated, block_dated) depth 16

  paid_dated : (o : Option (Reader Tree)) → Each Reads o → Reads (G.paid W o)
  unfolding G.paid
  paid_dated o h = search (laws, pays_dated) depth 9

  assign_dated : (p : Reader Tree) → Reads p → Reads (G.assign W p)
  unfolding G.assign
  assign_dated p h = search (laws, target_dated, ended_dated) depth 12

  compound_dated : (p : Reader Tree) → Reads p → Reads (G.compound W p)
  unfolding G.compound
  compound_dated p h = search (laws, target_dated, ended_dated) depth 12

  assign_paid_dated : (o : Option (Reader Tree)) → Each Reads o → Reads (G.assign_paid W o)
  unfolding G.assign_paid
  assign_paid_dated o h = search (laws, target_dated, paid_dated) depth 12

  name_first_dated : (p : Reader Tree) (o : Option (Reader Tree)) → Reads p → Each Reads o → (k : ℕ) → Reads (G.name_first W p o k)
  unfolding G.name_first
  name_first_dated p o h g k = search (if_gives, assign_dated, compound_dated, assign_paid_dated, ended_dated)

  plain_dated : (p : Reader Tree) (o : Option Inner) → Reads p → Each (Both Reads) o → Reads (G.plain W p o)
  unfolding G.plain
  plain_dated p o h g = search (laws, if_over_dated, for_over_dated, paid_dated, each_deep, ended_dated) depth 9

  statement_over_dated : (p : Reader Tree) (o : Option Inner) → Reads p → Each (Both Reads) o → Reads (G.statement_over W p o)
  unfolding G.statement_over
  statement_over_dated p o h g = record { goes = λ ts. (if_gives (is "name" (first ts)) (name_first_dated p (deep o) h (each_deep o g) (G.next_kind W ts)) (plain_dated p o h g)).goes ts }

  statement_dated : (d : ℕ) → Reads (G.statement W d)
  unfolding G.statement
  statement_dated zero = statement_over_dated (G.primary W zero) none (primary_dated zero) nothing
  statement_dated (suc d) =
      statement_over_dated (G.primary W (suc d)) (some (record { statement = G.statement W d; primary = G.primary W d })) (primary_dated (suc d))
      (just (record { statement = statement_dated d; primary = primary_dated d }))

-- ---- scripts

-- the trees of all statements
abbrev AllDated : List Entry → Type 0
AllDated [] = Unit {0}
AllDated (e ∷ es) = Dated e.tree × AllDated es

-- those of a script that is accepted
abbrev Sound : Outcome → Type 0
Sound (accepted es) = AllDated es
Sound (wrong f p) = Unit {0}

front_sound : (e : Entry) → Dated e.tree → (o : Outcome) → Sound o → Sound (front e o)
front_sound e h (accepted es) hs = (h, hs)
front_sound e h (wrong f p) hs = tt

module _ (W : Language) where
  turn_sound : (k : ℕ → List Token → Outcome) → ((b : ℕ) (ts : List Token) → Sound (k b ts)) → (b : ℕ) (ts : List Token) → Sound (turn W k b ts)
  unfolding turn onward entry_of
  turn_sound k h b ts = go (is "End" (first ts)) (G.statement W most_depth vs) ((statement_dated W most_depth).goes vs)
    where
      s : ℕ
      s = (first ts).from

      vs : List Token
      vs = map (back s) ts

      read_on : (o : Out Tree) → Passing Dated o → Sound (onward k (b + s) vs o)
      read_on (ok t r) g = front_sound (entry_of (b + s) vs t r) g (k (b + s) r) (h (b + s) r)
      read_on (refused f p) g = tt

      go : (e : Bool) (o : Out Tree) → Passing Dated o → Sound (if e then accepted [] else onward k (b + s) vs o)
      go true o g = tt
      go false o g = read_on o g

  up_to_sound : (n b : ℕ) (ts : List Token) → Sound (up_to W n b ts)
  unfolding up_to
  up_to_sound zero b ts = tt
  up_to_sound (suc n) b ts = turn_sound (λ b' ts'. up_to W n b' ts') (up_to_sound n) b (skip ts)

of_tokens_sound : (E : Edition) (l : Lists) (n : ℕ) (o : Lexed) → Sound (of_tokens E l n o)
unfolding of_tokens statements from_byte
of_tokens_sound E l n (lexed ts) = go (ltb most_tokens (count counts ts - 1))
  where
    go : (b : Bool) → Sound (if b then wrong 7 n else statements (language E l) ts)
    go true = tt
    go false = up_to_sound (language E l) (suc (length ts)) 0 ts
of_tokens_sound E l n (faulty f p) = tt

read_sound : (E : Edition) (l : Lists) (bs : List ℕ) → Sound (read_script E l bs)
read_sound E l bs = by_order Sound E l bs tt tt λ h. of_tokens_sound E l (length (script bs)) (tokens (script bs))

-- ---- what is read has true dates

-- the count of a true day, as a text writes it
abbrev pub TrueDay : ℕ → Type 0
TrueDay x = (s : List ℕ) × (is_date s ≡ true) × (x ≡ date s)

counted_day : {x : ℕ} → Counted x → NoneOr TrueDay x
counted_day (counted s) = go (is_date s) refl
  where
    go : (b : Bool) → is_date s ≡ b → NoneOr TrueDay (date s)
    go true e = inr (s, e, refl)
    go false e = inl (eqb-true (date s) 0 (date_none s ∙ ap not e))

counted_most : {x : ℕ} → Counted x → x ≤ last_count
counted_most (counted s) = date_most s

entry_dated : {e : Entry} {es : List Entry} → Memᴰ e es → AllDated es → Dated e.tree
entry_dated (Memᴰ.head e) h = subst Dated (ap (λ (x : Entry). x.tree) (sym e)) h.0
entry_dated (Memᴰ.tail m) h = entry_dated m h.1

tree_most : (t : Tree) → Dated t → latest_in (size t) (records t) ≤ last_count
tree_most t h = ⊎_elim (λ z. omega arith) (λ m. counted_most (has_counted m h)) (latest_had t)

latest_most : (es : List Entry) → AllDated es → latest_of (map row_of es) ≤ last_count
unfolding latest_of
latest_most [] h = omega arith
latest_most (e ∷ es) h = omega (arith, tree_most e.tree h.0, latest_most es h.1)

module _ (E : Edition) (l : Lists) (bs : List ℕ) {es : List Entry} (e : read_script E l bs ≡ accepted es) where
  -- each date of a statement is 0, where none is written, or the count of a true day
  pub read_dates : (t : Entry) → Memᴰ t es → (x : ℕ) → Has x t.tree → NoneOr TrueDay x
  read_dates t m x h = counted_day (has_counted h (entry_dated m (subst Sound e (read_sound E l bs))))

  -- so the script's latest date is not past the last day
  pub read_latest : latest_of (map row_of es) ≤ last_count
  read_latest = latest_most es (subst Sound e (read_sound E l bs))
