-- On which grounds a script is refused, and where: 1 to 15, of a reading with room 16 as well, and no further than the script's end; 26 before them all.
-- Each form that readers are made of has its law, so that a reader's law follows the reader's own text.
use Rattle.std.specs.Prelude.{if◌then◌else◌}
use mathlib.Core.Path.{◌≡◌, refl, subst}
use mathlib.Core.Bool.{Bool, true, false, not}
use mathlib.Core.Logic.{◌⊎◌, inl, inr, ⊎_elim}
use mathlib.Core.List.{List, [], ◌∷◌, ◌++◌, map}
use mathlib.Core.Option.{Option, none, some}
use Prim.Native.Nat.{ℕ, zero, suc, ◌+◌, ◌-◌, ◌≤◌}
use Prim.Native.String.{String}
use native.Mathlib.Nat.{zero-add}
use native.Mathlib.Omega.{arith}
use lib.Dec.{T, eqb, leb, ltb, leb→le}
use mir.Facts.{and_yes}
use borrow.Author.Tests.{eqb-true, ltb-false}
use lib.ListN.{length}
use Rattle.tokens.specs.Limits.{most_bytes, most_tokens, most_depth}
use Rattle.tokens.specs.Text.{script, within, count}
use Rattle.tokens.specs.Names.{Lists, good_lists}
use Rattle.tokens.specs.Tokens.{Token, Lexed, lexed, refused as faulty, scan, final, finished, tokens, counts}
use Rattle.tokens.proofs.Shapes.{Sorted, scan_sorted, scan_refused}
use Rattle.grammar.specs.Trees.{Tree, Trees}
use Rattle.grammar.specs.Readers.{Out, ok, refused, Reader, bind, ◌>>=◌, ◌>>◌, Turn, again, done, follow, turns, loop, first, is, skip, give, fail, fail_at, ask, look, peek, read, the}
use Rattle.grammar.specs.Grammar as G
use Rattle.grammar.specs.Grammar.{deeper, optional, grouped, sum, comparison, expression, items, arguments, method, postfixes, date_of, a_date, df, rate_index, Edition, one, two, in_edition, Language, Inner, deep, block, if_over, ended}
use Rattle.grammar.specs.Script.{Entry, Outcome, accepted, refused as wrong, front, back, entry_of, onward, turn, up_to, from, statements, language, of_tokens, read_script, fitting, reading_in, reading, nodes}

-- the number f is one of the grounds 1 to last, and the place p no further than the byte n
pub record Ground (last n f p : ℕ) : Type 0 where
  pub least : 1 ≤ f
  pub most : f ≤ last
  pub inside : p ≤ n

-- a number that computes
ground : {last n p : ℕ} (f : ℕ) → T (within 1 last f) → p ≤ n → Ground last n f p
ground {last} f h l = let k = and_yes (leb 1 f) (leb f last) h in record { least = leb→le 1 f k.0; most = leb→le f last k.1; inside = l }

-- ---- readers that refuse on a ground, at a token's place

-- tokens that begin no further than the byte n
abbrev Inside : ℕ → List Token → Type 0
Inside n [] = Unit {0}
Inside n (t ∷ ts) = (t.from ≤ n) × Inside n ts

-- what is read passes a test, and the tokens left are inside; a refusal has a ground
abbrev Right : {A : Type 0} → ℕ → (A → Type 0) → Out A → Type 0
Right n P (ok a r) = P a × Inside n r
Right n P (refused f p) = Ground 15 n f p

-- what is one deeper has its law
pub data Each {X : Type 0} (P : X → Type 0) : Option X → Type 0 where
  nothing : Each P none
  just : {x : X} → P x → Each P (some x)

-- and so, in a statement, have its statements and its primaries
pub record Both (P : Reader Tree → Type 0) (i : Inner) : Type 0 where
  pub statement : P i.statement
  pub primary : P i.primary

pub each_deep : {P : Reader Tree → Type 0} (o : Option Inner) → Each (Both P) o → Each P (deep o)
each_deep none nothing = nothing
each_deep (some i) (just h) = just h.primary

-- what a reader tells of tokens that are inside
record Law {A : Type 0} (n : ℕ) (P : A → Type 0) (m : Reader A) : Type 0 where
  goes : (ts : List Token) → Inside n ts → Right n P (m ts)

first_inside : (n : ℕ) (ts : List Token) → Inside n ts → (first ts).from ≤ n
first_inside n [] i = omega arith
first_inside n (t ∷ ts) i = i.0

skip_inside : (n : ℕ) (ts : List Token) → Inside n ts → Inside n (skip ts)
unfolding skip
skip_inside n [] i = tt
skip_inside n (t ∷ ts) i = go (is "Newline" t) (skip_inside n ts i.1)
  where
    go : (b : Bool) → Inside n (skip ts) → Inside n (elim b as (λ _. List Token) [ true ↦ skip ts | false ↦ t ∷ ts ])
    go true h = h
    go false h = i

module _ (n : ℕ) where
  -- a reader, whatever it reads
  abbrev Fair : {A : Type 0} → Reader A → Type 0
  Fair m = Law n (λ a. Unit {0}) m

  -- a reader of a token that is inside
  abbrev Placed : Reader Token → Type 0
  Placed m = Law n (λ t. t.from ≤ n) m

  -- ---- the forms that readers are made of

  module _ {A B : Type 0} {m : Reader A} {f : A → Reader B} where
    bind_law : {P : A → Type 0} {Q : B → Type 0} → Law n P m → ((a : A) → P a → Law n Q (f a)) → Law n Q (m >>= f)
    unfolding ◌>>=◌
    bind_law {P} {Q} hm hf = record { goes = λ ts i. go (m ts) (hm.goes ts i) }
      where
        go : (o : Out A) → Right n P o → Right n Q (bind f o)
        go (ok a r) h = (hf a h.0).goes r h.1
        go (refused x p) h = h

    then_fair : Fair m → ((a : A) → Fair (f a)) → Fair (m >>= f)
    then_fair hm hf = bind_law hm (λ a h. hf a)

  module _ {B : Type 0} {m : Reader Token} {f : Token → Reader B} where
    then_placed : Placed m → ((t : Token) → t.from ≤ n → Fair (f t)) → Fair (m >>= f)
    then_placed hm hf = bind_law hm hf

  module _ {A B : Type 0} {m : Reader A} {k : Reader B} where
    next_fair : Fair m → Fair k → Fair (m >> k)
    unfolding ◌>>◌
    next_fair hm hk = then_fair hm (λ a. hk)

  module _ {A : Type 0} where
    give_fair : (a : A) → Fair (give a)
    unfolding give
    give_fair a = record { goes = λ ts i. (tt, i) }

    fail_law : {P : A → Type 0} → Law n P (fail 8)
    unfolding fail
    fail_law = record { goes = λ ts i. ground 8 tt (first_inside n ts i) }

    fail_at_fair : (t : Token) (f : ℕ) → t.from ≤ n → T (within 1 15 f) → Fair {A = A} (fail_at t f)
    unfolding fail_at
    fail_at_fair t f h g = record { goes = λ ts i. ground f g h }

    if_law : {P : A → Type 0} (b : Bool) {m k : Reader A} → Law n P m → Law n P k → Law n P (if b then m else k)
    if_law true hm hk = hm
    if_law false hm hk = hk

    ask_fair : (test : Token → Bool) {m k : Reader A} → Fair m → Fair k → Fair (ask test m k)
    unfolding ask
    ask_fair test hm hk = record { goes = λ ts i. (if_law (test (first ts)) hm hk).goes ts i }

    look_fair : (test : List Token → Bool) {m k : Reader A} → Fair m → Fair k → Fair (look test m k)
    unfolding look
    look_fair test hm hk = record { goes = λ ts i. (if_law (test ts) hm hk).goes ts i }

    edition_fair : (e : Edition) {m k : Reader A} → Fair m → Fair k → Fair (in_edition e m k)
    edition_fair one hm hk = hm
    edition_fair two hm hk = hk

  peek_placed : Placed peek
  unfolding peek
  peek_placed = record { goes = λ ts i. (first_inside n ts i, i) }

  read_placed : Placed read
  unfolding read
  read_placed = record { goes = go }
    where
      go : (ts : List Token) → Inside n ts → Right n (λ t. t.from ≤ n) (read ts)
      go [] i = ground 8 tt (omega arith)
      go (t ∷ ts) i = (i.0, skip_inside n ts i.1)

  the_placed : (s : String) → Placed (the s)
  unfolding the
  the_placed s = bind_law peek_placed (λ t h. if_law (is s t) read_placed fail_law)

  placed_fair : {m : Reader Token} → Placed m → Fair m
  placed_fair {m} h = record { goes = λ ts i. go (m ts) (h.goes ts i) }
    where
      go : (o : Out Token) → Right n (λ t. t.from ≤ n) o → Right n (λ t. Unit {0}) o
      go (ok t r) k = (tt, k.1)
      go (refused x p) k = k

  read_fair : Fair read
  read_fair = placed_fair read_placed

  the_fair : (s : String) → Fair (the s)
  the_fair s = placed_fair (the_placed s)

  module _ {S A : Type 0} {step : S → Reader (Turn S A)} (steps : (s : S) → Fair (step s)) where
    turns_right : (k : ℕ) (s : S) (ts : List Token) → Inside n ts → Right n (λ a. Unit {0}) (turns k step s ts)
    unfolding turns
    turns_right zero s ts i = ground 8 tt (omega arith)
    turns_right (suc k) s ts i = go (turns_right k) (step s ts) ((steps s).goes ts i)
      where
        go : ((s' : S) (r : List Token) → Inside n r → Right n (λ a. Unit {0}) (turns k step s' r)) → (o : Out (Turn S A)) → Right n (λ a. Unit {0}) o
            → Right n (λ a. Unit {0}) (follow (λ s' ts'. turns k step s' ts') o)
        go ih (ok (again s') r) h = ih s' r h.1
        go ih (ok (done a) r) h = h
        go ih (refused x p) h = h

    loop_fair : (s : S) → Fair (loop step s)
    unfolding loop
    loop_fair s = record { goes = λ ts i. turns_right (suc (length ts)) s ts i }

  module _ {X A : Type 0} {P : X → Type 0} {k : X → Reader A} where
    deeper_fair : (t : Token) (o : Option X) → t.from ≤ n → Each P o → ((x : X) → P x → Fair (k x)) → Fair (deeper t o k)
    unfolding deeper
    deeper_fair t none h nothing g = fail_at_fair t 15 h tt
    deeper_fair t (some x) h (just l) g = g x l

  ruleset laws = (then_placed, then_fair, next_fair, if_law, give_fair, fail_law, fail_at_fair, ask_fair, look_fair, edition_fair, peek_placed, read_placed, the_placed, read_fair, the_fair, loop_fair, deeper_fair)

  -- ---- the readers of the grammar

  module _ {A : Type 0} where
    optional_fair : (s : String) (a : A) (m : Reader A) → Fair m → Fair (optional s a m)
    unfolding optional
    optional_fair s a m h = search laws depth 9

  group_turn_fair : (op : Token → Bool) (operand : Reader Tree) → Fair operand → (b : ℕ) (l : Tree) → Fair (G.group_turn op operand b l)
  unfolding G.group_turn
  group_turn_fair op operand h b l = search laws depth 9

  grouped_fair : (op : Token → Bool) (operand : Reader Tree) → Fair operand → Fair (grouped op operand)
  unfolding grouped
  grouped_fair op operand h = then_placed peek_placed λ t k. then_fair h λ l. loop_fair (group_turn_fair op operand h _) l

  raise_turn_fair : (operand : Reader Tree) → Fair operand → (c : G.Chain) → Fair (G.raise_turn operand c)
  unfolding G.raise_turn
  raise_turn_fair operand h c = search laws depth 9

  raised_fair : (operand : Reader Tree) → Fair operand → Fair (G.raised operand)
  unfolding G.raised
  raised_fair operand h = then_placed peek_placed λ t k. then_fair h λ l. loop_fair (raise_turn_fair operand h) _

  method_fair : (b : ℕ) (x : Tree) (m : Token) (es : Trees) → m.from ≤ n → Fair (method b x m es)
  unfolding method
  method_fair b x m es h = search laws depth 12

  date_of_fair : (t : Token) → t.from ≤ n → Fair (date_of t)
  unfolding date_of
  date_of_fair t h = search laws depth 12

  a_date_fair : Fair a_date
  unfolding a_date
  a_date_fair = search (laws, date_of_fair)

  df_fair : (b : ℕ) → Fair (df b)
  unfolding df
  df_fair b = search (laws, a_date_fair, optional_fair) depth 16

  rate_index_fair : (b : ℕ) → Fair (rate_index b)
  unfolding rate_index
  rate_index_fair b = search (laws, date_of_fair) depth 20

  block_turn_fair : (s : Reader Tree) → Fair s → (ss : Trees) → Fair (G.block_turn s ss)
  unfolding G.block_turn
  block_turn_fair s h ss = search laws depth 9

  block_fair : (s : Reader Tree) → Fair s → Fair (block s)
  unfolding block
  block_fair s h = search (laws, block_turn_fair) depth 9

  module _ (W : Language) where
    power_fair : (p : Reader Tree) → Fair p → Fair (G.power W p)
    unfolding G.power
    power_fair p h = search (edition_fair, grouped_fair, raised_fair)

    signed_fair : (p : Reader Tree) → Fair p → Fair (G.signed W p)
    unfolding G.signed
    signed_fair p h = search (edition_fair, power_fair)

    sum_fair : (p : Reader Tree) → Fair p → Fair (sum W p)
    unfolding sum
    sum_fair p h = search (grouped_fair, power_fair)

    comparison_fair : (p : Reader Tree) → Fair p → Fair (comparison W p)
    unfolding comparison
    comparison_fair p h = search (laws, sum_fair) depth 12

    expression_fair : (p : Reader Tree) → Fair p → Fair (expression W p)
    unfolding expression
    expression_fair p h = search (edition_fair, grouped_fair, comparison_fair)

    item_turn_fair : (s : String) (p : Reader Tree) → Fair p → (es : Trees) → Fair (G.item_turn W s p es)
    unfolding G.item_turn
    item_turn_fair s p h es = search (laws, expression_fair) depth 9

    items_fair : (s : String) (p : Reader Tree) → Fair p → Fair (items W s p)
    unfolding items
    items_fair s p h = loop_fair (item_turn_fair s p h) _

    arguments_fair : (o : Option (Reader Tree)) → Each Fair o → Fair (arguments W o)
    unfolding arguments
    arguments_fair o h = search (laws, items_fair) depth 12

    postfix_turn_fair : (o : Option (Reader Tree)) → Each Fair o → (b : ℕ) (x : Tree) → Fair (G.postfix_turn W o b x)
    unfolding G.postfix_turn
    postfix_turn_fair o h b x = search (laws, arguments_fair, method_fair, expression_fair) depth 12

    postfixes_fair : (o : Option (Reader Tree)) → Each Fair o → (b : ℕ) (x : Tree) → Fair (postfixes W o b x)
    unfolding postfixes
    postfixes_fair o h b x = loop_fair (postfix_turn_fair o h b) x

    if_over_fair : (i : Inner) → Both Fair i → Fair (if_over W i)
    unfolding if_over
    if_over_fair i h =
        then_fair read_fair λ t. (then_fair (expression_fair i.primary h.primary) λ e. then_fair (block_fair i.statement h.statement) λ ss.
        ask_fair (is "else") (next_fair read_fair (then_fair (block_fair i.statement h.statement) λ us. give_fair _)) (give_fair _))

    ended_fair : (p : Reader Tree) → Fair p → Fair (ended W p)
    unfolding ended
    ended_fair p h = search (laws, expression_fair) depth 9

    currency_of_fair : (t : Token) → t.from ≤ n → Fair (G.currency_of W t)
    unfolding G.currency_of
    currency_of_fair t h = search laws depth 6

    a_currency_fair : Fair (G.a_currency W)
    unfolding G.a_currency
    a_currency_fair = search (laws, currency_of_fair)

    equity_fair : (b : ℕ) (t : Token) → Fair (G.equity W b t)
    unfolding G.equity
    equity_fair b t = search (laws, optional_fair, a_date_fair) depth 8

    pair_fair : (b c : ℕ) → Fair (G.pair W b c)
    unfolding G.pair
    pair_fair b c = search (laws, optional_fair, a_date_fair, a_currency_fair) depth 12

    spot_fair : (b : ℕ) → Fair (G.spot W b)
    unfolding G.spot
    spot_fair b = search (laws, equity_fair, pair_fair) depth 14

    cvg_fair : (t : Token) (es : Trees) → t.from ≤ n → Fair (G.cvg W t es)
    unfolding G.cvg
    cvg_fair t es h = search laws depth 8

    call_fair : (o : Option (Reader Tree)) → Each Fair o → (t : Token) (c : ℕ × ℕ × ℕ) → t.from ≤ n → Fair (G.call W o t c)
    unfolding G.call
    call_fair o h t c k = search (laws, arguments_fair, cvg_fair) depth 8

    named_fair : (t : Token) → t.from ≤ n → Fair (G.named W t)
    unfolding G.named
    named_fair t h = search laws depth 6

    name_fair : (o : Option (Reader Tree)) → Each Fair o → (t : Token) → t.from ≤ n → Fair (G.name W o t)
    unfolding G.name
    name_fair o h t k = search (laws, call_fair, spot_fair, df_fair, rate_index_fair, named_fair, postfixes_fair) depth 10

    pay_turn_fair : (p : Reader Tree) → Fair p → (es : Trees) → Fair (G.pay_turn W p es)
    unfolding G.pay_turn
    pay_turn_fair p h es = search (laws, expression_fair) depth 8

    payments_fair : (p : Reader Tree) → Fair p → Fair (G.payments W p)
    unfolding G.payments
    payments_fair p h = loop_fair (pay_turn_fair p h) _

    pays_fair : (o : Option (Reader Tree)) → Each Fair o → Fair (G.pays W o)
    unfolding G.pays
    pays_fair o h = search (laws, payments_fair, optional_fair, a_date_fair, a_currency_fair) depth 14

    minus_fair : (o : Option (Reader Tree)) → Each Fair o → (t : Token) → t.from ≤ n → Fair (G.minus W o t)
    unfolding G.minus
    minus_fair o h t k = search (laws, signed_fair) depth 8

    primary_over_fair : (o : Option (Reader Tree)) → Each Fair o → Fair (G.primary_over W o)
    unfolding G.primary_over
    primary_over_fair o h = search (laws, expression_fair, signed_fair, items_fair, postfixes_fair, minus_fair, pays_fair, name_fair) depth 24

    primary_fair : (d : ℕ) → Fair (G.primary W d)
    unfolding G.primary
    primary_fair zero = primary_over_fair none nothing
    primary_fair (suc d) = primary_over_fair (some (G.primary W d)) (just (primary_fair d))

    target_fair : Fair (G.target W)
    unfolding G.target
    target_fair = search (laws, named_fair) depth 9

    for_over_fair : (i : Inner) → Both Fair i → Fair (G.for_over W i)
    unfolding G.for_over
    for_over_fair i h =
        then_fair read_fair λ t. (then_placed (the_placed "name") λ v k. next_fair (named_fair v k) (next_fair (the_fair "in")
        (then_fair (expression_fair i.primary h.primary) λ e. then_fair (block_fair i.statement h.statement) λ ss. give_fair _)))

    paid_fair : (o : Option (Reader Tree)) → Each Fair o → Fair (G.paid W o)
    unfolding G.paid
    paid_fair o h = search (laws, pays_fair, optional_fair) depth 9

    assign_fair : (p : Reader Tree) → Fair p → Fair (G.assign W p)
    unfolding G.assign
    assign_fair p h = search (laws, target_fair, ended_fair) depth 12

    compound_fair : (p : Reader Tree) → Fair p → Fair (G.compound W p)
    unfolding G.compound
    compound_fair p h = search (laws, target_fair, ended_fair) depth 12

    assign_paid_fair : (o : Option (Reader Tree)) → Each Fair o → Fair (G.assign_paid W o)
    unfolding G.assign_paid
    assign_paid_fair o h = search (laws, target_fair, paid_fair) depth 12

    name_first_fair : (p : Reader Tree) (o : Option (Reader Tree)) → Fair p → Each Fair o → (k : ℕ) → Fair (G.name_first W p o k)
    unfolding G.name_first
    name_first_fair p o h g k = search (if_law, assign_fair, compound_fair, assign_paid_fair, ended_fair)

    plain_fair : (p : Reader Tree) (o : Option Inner) → Fair p → Each (Both Fair) o → Fair (G.plain W p o)
    unfolding G.plain
    plain_fair p o h g =
        then_placed peek_placed λ t k.
        if_law (is "if" t) (deeper_fair t o k g if_over_fair)
        (if_law (is "for" t) (deeper_fair t o k g for_over_fair) (if_law (is "pays" t) (paid_fair (deep o) (each_deep o g)) (ended_fair p h)))

    statement_over_fair : (p : Reader Tree) (o : Option Inner) → Fair p → Each (Both Fair) o → Fair (G.statement_over W p o)
    unfolding G.statement_over
    statement_over_fair p o h g = record { goes = λ ts i. (if_law (is "name" (first ts)) (name_first_fair p (deep o) h (each_deep o g) (G.next_kind W ts)) (plain_fair p o h g)).goes ts i }

    statement_fair : (d : ℕ) → Fair (G.statement W d)
    unfolding G.statement
    statement_fair zero = statement_over_fair (G.primary W zero) none (primary_fair zero) nothing
    statement_fair (suc d) =
        statement_over_fair (G.primary W (suc d)) (some (record { statement = G.statement W d; primary = G.primary W d })) (primary_fair (suc d))
        (just (record { statement = statement_fair d; primary = primary_fair d }))

-- ---- scripts

-- a refusal has one of the grounds 1 to last, no further than the byte n
abbrev Judged : ℕ → ℕ → Outcome → Type 0
Judged last n (accepted es) = Unit {0}
Judged last n (wrong f p) = Ground last n f p

front_judged : (last n : ℕ) (e : Entry) (o : Outcome) → Judged last n o → Judged last n (front e o)
front_judged last n e (accepted es) h = h
front_judged last n e (wrong f p) h = h

-- places from the byte s on
back_inside : (m s : ℕ) (ts : List Token) → Inside m ts → Inside (m - s) (map (back s) ts)
back_inside m s [] i = tt
back_inside m s (t ∷ ts) i = (omega (arith, i.0), back_inside m s ts i.1)

module _ (W : Language) (n : ℕ) where
  -- what reads on from the byte b, with tokens no further than the byte n of the script
  abbrev Goes : (ℕ → List Token → Outcome) → Type 0
  Goes k = (b m : ℕ) (ts : List Token) → Inside m ts → b + m ≤ n → Judged 15 n (k b ts)

  turn_goes : (k : ℕ → List Token → Outcome) → Goes k → Goes (turn W k)
  unfolding turn onward
  turn_goes k h b m ts i l = go (is "End" (first ts)) (G.statement W most_depth (map (back s) ts)) ((statement_fair (m - s) W most_depth).goes (map (back s) ts) (back_inside m s ts i))
    where
      s : ℕ
      s = (first ts).from

      near : s ≤ m
      near = first_inside m ts i

      read_on : (o : Out Tree) → Right (m - s) (λ a. Unit {0}) o → Judged 15 n (onward k (b + s) (map (back s) ts) o)
      read_on (ok t r) g = front_judged 15 n (entry_of (b + s) (map (back s) ts) t r) (k (b + s) r) (h (b + s) (m - s) r g.1 (omega (arith, near)))
      read_on (refused f p) g = record { least = g.least; most = g.most; inside = omega (arith, g.inside, near) }

      go : (e : Bool) (o : Out Tree) → Right (m - s) (λ a. Unit {0}) o → Judged 15 n (if e then accepted [] else onward k (b + s) (map (back s) ts) o)
      go true o g = tt
      go false o g = read_on o g

  up_to_goes : (c : ℕ) → Goes (up_to W c)
  unfolding up_to
  up_to_goes zero b m ts i l = ground 8 tt (omega arith)
  up_to_goes (suc c) b m ts i l = turn_goes (λ b' ts'. up_to W c b' ts') (up_to_goes c) b m (skip ts) (skip_inside m ts i) l

-- a text's tokens, and its end, are inside
sorted_inside : (i j : ℕ) (ts : List Token) → Sorted i j ts → (i ≤ j) × Inside j (ts ++ (final j ∷ []))
sorted_inside i j [] s = (s, (omega arith, tt))
sorted_inside i j (t ∷ ts) s = let r = sorted_inside t.from j ts s.2 in (omega (arith, s.0, r.0), (r.0, r.1))

of_tokens_judged : (E : Edition) (l : Lists) (bs : List ℕ) → Judged 15 (length bs) (of_tokens E l (length bs) (tokens bs))
unfolding tokens of_tokens statements from
of_tokens_judged E l bs = go (scan 0 0 bs) refl
  where
    counted : (b : Bool) (ts : List Token) → Inside (length bs) ts → Judged 15 (length bs) (if b then wrong 7 (length bs) else statements (language E l) ts)
    counted true ts i = ground 7 tt (omega arith)
    counted false ts i = up_to_goes (language E l) (length bs) (suc (length ts)) 0 (length bs) ts i (omega arith)

    go : (o : Lexed) → scan 0 0 bs ≡ o → Judged 15 (length bs) (of_tokens E l (length bs) (finished (length bs) o))
    go (lexed ts) e =
        let q : Sorted 0 (length bs) ts = subst (λ (j : ℕ). Sorted 0 j ts) (zero-add (length bs)) (scan_sorted 0 0 bs ts e) in
        counted (ltb most_tokens (count counts (ts ++ (final (length bs) ∷ [])) - 1)) (ts ++ (final (length bs) ∷ [])) (sorted_inside 0 (length bs) ts q).1
    go (faulty f p) e = let r = scan_refused 0 0 bs e in record { least = omega (arith, r.0); most = omega (arith, r.1); inside = omega (arith, r.2) }

-- grounds 1 and 2, and what is read of a script that is short enough
pub by_order : (P : Outcome → Type 0) (E : Edition) (l : Lists) (bs : List ℕ) → P (wrong 1 0) → P (wrong 2 0)
    → (length (script bs) ≤ most_bytes → P (of_tokens E l (length (script bs)) (tokens (script bs)))) → P (read_script E l bs)
unfolding read_script
by_order P E l bs long lists short = go (ltb most_bytes (length (script bs))) refl (not (good_lists l))
  where
    go : (t : Bool) → ltb most_bytes (length (script bs)) ≡ t → (u : Bool) → P (if t then wrong 1 0 else if u then wrong 2 0 else of_tokens E l (length (script bs)) (tokens (script bs)))
    go true e u = long
    go false e true = lists
    go false e false = short (ltb-false most_bytes (length (script bs)) e)

further : (k n : ℕ) → k ≤ n → (o : Outcome) → Judged 15 k o → Judged 15 n o
further k n l (accepted es) h = h
further k n l (wrong f p) h = record { least = h.least; most = h.most; inside = omega (arith, h.inside) }

fitting_judged : (n a b : ℕ) (o : Outcome) → Judged 15 n o → (k : ℕ) → k ≤ n → Judged 16 n (fitting k a b o)
fitting_judged n a b (accepted es) h k l = go (ltb a (nodes es)) (ltb b (length es))
  where
    go : (t u : Bool) → Judged 16 n (if t then wrong 16 k else if u then wrong 16 k else accepted es)
    go true u = ground 16 tt l
    go false true = ground 16 tt l
    go false false = tt
fitting_judged n a b (wrong f p) h k l = record { least = h.least; most = omega (arith, h.most); inside = h.inside }

-- n is a bound of a script that is short enough
module _ (E : Edition) (l : Lists) (bs : List ℕ) (n : ℕ) (bound : length (script bs) ≤ most_bytes → length (script bs) ≤ n) where
  text_judged : length (script bs) ≤ most_bytes → Judged 15 n (of_tokens E l (length (script bs)) (tokens (script bs)))
  text_judged h = further (length (script bs)) n (bound h) (of_tokens E l (length (script bs)) (tokens (script bs))) (of_tokens_judged E l (script bs))

  read_judged : Judged 15 n (read_script E l bs)
  read_judged = by_order (Judged 15 n) E l bs (ground 1 tt (omega arith)) (ground 2 tt (omega arith)) text_judged

  reading_judged : (a b : ℕ) → Judged 16 n (reading_in E l a b bs)
  unfolding reading_in
  reading_judged a b =
      by_order (λ o. Judged 16 n (fitting (length (script bs)) a b o)) E l bs (ground 1 tt (omega arith)) (ground 2 tt (omega arith)) λ h.
      fitting_judged n a b (of_tokens E l (length (script bs)) (tokens (script bs))) (text_judged h) (length (script bs)) (bound h)

-- ---- what a refusal is

module _ (E : Edition) (l : Lists) (bs : List ℕ) {f p : ℕ} where
  -- of a script: its number is one of 1 to 15, so never 0, which says that the script is accepted; its byte is one of the script's, or its end
  pub read_refused : read_script E l bs ≡ wrong f p → Ground 15 (length (script bs)) f p
  read_refused e = subst (Judged 15 (length (script bs))) e (read_judged E l bs (length (script bs)) (λ h. omega arith))

  -- however long the text is: 1 is at byte 0
  pub read_small : read_script E l bs ≡ wrong f p → p ≤ most_bytes
  read_small e = (subst (Judged 15 most_bytes) e (read_judged E l bs most_bytes (λ h. h))).inside

  module _ (max_nodes max_entries : ℕ) where
    -- of a script with room for so many records and statements: 16 as well
    pub reading_refused : reading_in E l max_nodes max_entries bs ≡ wrong f p → Ground 16 (length (script bs)) f p
    reading_refused e = subst (Judged 16 (length (script bs))) e (reading_judged E l bs (length (script bs)) (λ h. omega arith) max_nodes max_entries)

    pub reading_small : reading_in E l max_nodes max_entries bs ≡ wrong f p → p ≤ most_bytes
    reading_small e = (subst (Judged 16 most_bytes) e (reading_judged E l bs most_bytes (λ h. h) max_nodes max_entries)).inside

-- ---- by the edition's number

-- another edition number (26, at byte 0), or one of the grounds 1 to last
abbrev pub Named : ℕ → ℕ → ℕ → ℕ → Type 0
Named last n f p = ((f ≡ 26) × (p ≡ 0)) ⊎ Ground last n f p

pub named_least : {last n f p : ℕ} → Named last n f p → 1 ≤ f
named_least g = ⊎_elim (λ e. omega (arith, e.0)) (λ h. h.least) g

pub named_inside : {last n f p : ℕ} → Named last n f p → p ≤ n
named_inside g = ⊎_elim (λ e. omega (arith, e.1)) (λ h. h.inside) g

abbrev JudgedBy : ℕ → Outcome → Type 0
JudgedBy n (accepted es) = Unit {0}
JudgedBy n (wrong f p) = Named 16 n f p

judged_by : (n : ℕ) (o : Outcome) → Judged 16 n o → JudgedBy n o
judged_by n (accepted es) h = tt
judged_by n (wrong f p) h = inr h

module _ (k : ℕ) (l : Lists) (bs : List ℕ) (max_nodes max_entries : ℕ) where
  -- 26 comes before all others: whatever the lists, the script and the room are
  pub edition_first : eqb k 1 ≡ false → eqb k 2 ≡ false → reading k l max_nodes max_entries bs ≡ wrong 26 0
  unfolding reading
  edition_first x y = rw (x, y)

  numbered_judged : (n : ℕ) → (length (script bs) ≤ most_bytes → length (script bs) ≤ n) → JudgedBy n (reading k l max_nodes max_entries bs)
  unfolding reading
  numbered_judged n bound = go (eqb k 1) (eqb k 2)
    where
      in_edition_lem : (E : Edition) → JudgedBy n (reading_in E l max_nodes max_entries bs)
      in_edition_lem E = judged_by n (reading_in E l max_nodes max_entries bs) (reading_judged E l bs n bound max_nodes max_entries)

      go : (x y : Bool) → JudgedBy n (if x then reading_in one l max_nodes max_entries bs else if y then reading_in two l max_nodes max_entries bs else wrong 26 0)
      go true y = in_edition_lem one
      go false true = in_edition_lem two
      go false false = inl (refl, refl)

  -- what is accepted is of an edition
  pub edition_known : {es : List Entry} → reading k l max_nodes max_entries bs ≡ accepted es → (k ≡ 1) ⊎ (k ≡ 2)
  unfolding reading
  edition_known {es} e = go (eqb k 1) (eqb k 2) refl refl e
    where
      go : (x y : Bool) → eqb k 1 ≡ x → eqb k 2 ≡ y
          → (if x then reading_in one l max_nodes max_entries bs else if y then reading_in two l max_nodes max_entries bs else wrong 26 0) ≡ accepted es → (k ≡ 1) ⊎ (k ≡ 2)
      go true y p q h = inl (eqb-true k 1 p)
      go false true p q h = inr (eqb-true k 2 q)
      go false false p q h = absurd (let z : ◌≡◌ {A = ℕ} 0 1 = cc in omega arith)

  module _ {f p : ℕ} (e : reading k l max_nodes max_entries bs ≡ wrong f p) where
    pub numbered_refused : Named 16 (length (script bs)) f p
    numbered_refused = subst (JudgedBy (length (script bs))) e (numbered_judged (length (script bs)) (λ h. omega arith))

    pub numbered_small : p ≤ most_bytes
    numbered_small = named_inside (subst (JudgedBy most_bytes) e (numbered_judged most_bytes (λ h. h)))
