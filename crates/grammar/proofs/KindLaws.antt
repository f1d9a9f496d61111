-- The kinds of what is read are below 64, so that a kind leaves room in its word.
-- A reader's law follows the reader's own text, by the laws of `GivesLaws`.
use mathlib.Core.Path.{◌≡◌, refl, sym}
use mathlib.Core.Bool.{Bool, true, false, ◌&&◌, ◌||◌, true≢false}
use mathlib.Core.List.{List, [], ◌∷◌}
use mathlib.Core.Option.{Option, none, some}
use Prim.Native.Nat.{ℕ, zero, suc, ◌<◌}
use Prim.Native.String.{String}
use native.Mathlib.Omega.{arith}
use lib.Dec.{leb, lit<}
use borrow.Author.Tests.{leb-true}
use Rattle.tokens.specs.Text.{bytes, same, within}
use Rattle.tokens.specs.Tokens.{Token, code}
use Rattle.grammar.specs.Trees.{Tree, Trees, kind_of}
use Rattle.grammar.specs.Readers.{Reader, ◌>>=◌, is, peek}
use Rattle.grammar.specs.Grammar as G
use Rattle.grammar.specs.Grammar.{Language, grouped, sum, comparison, expression, method, postfixes, rate_index, call_of, calls}
use Rattle.grammar.proofs.EndingLaws.{kind_of_lem}
use Rattle.grammar.proofs.Refusals.{Each, nothing, just}
use Rattle.grammar.proofs.GivesLaws.{Gives, Turned, forms, bind_gives, then_gives, edition_gives, read_gives, loop_gives}

abbrev pub Low : Tree → Type 0
Low t = kind_of t < 64

-- ---- readers that give trees of low kinds

module _ {B : Type 0} {Q : B → Type 0} {m : Reader Tree} {f : Tree → Reader B} where
  then_low : Gives Low m → ((t : Tree) → Low t → Gives Q (f t)) → Gives Q (m >>= f)
  then_low hm hf = bind_gives Low hm hf

-- a kind that is a number is judged by `lit<`
ruleset laws = (then_low, read_gives, forms, lit<)

-- ---- the readers of the grammar

-- signs of which each makes a node of a low kind
record Signs (op : Token → Bool) : Type 0 where
  low : (t : Token) → op t ≡ true → t.kind < 64

sign_low : (s : String) → code s < 64 → Signs (is s)
sign_low s h = record { low = λ t e. kind_of_lem s t e (λ (k : ℕ). k < 64) h }

either_low : (s u : String) → code s < 64 → code u < 64 → Signs (λ t. is s t || is u t)
either_low s u h g = record { low = λ t e. go t (is s t) refl e }
  where
    go : (t : Token) (b : Bool) → is s t ≡ b → b || is u t ≡ true → t.kind < 64
    go t true x q = (sign_low s h).low t x
    go t false x q = (sign_low u g).low t q

within_low : (t : Token) → within 13 18 t.kind ≡ true → t.kind < 64
within_low t e = go (leb 13 t.kind) e
  where
    go : (b : Bool) → b && leb t.kind 18 ≡ true → t.kind < 64
    go true q = omega (arith, leb-true t.kind 18 q)
    go false q = absurd (true≢false (sym q))

group_turn_low : (op : Token → Bool) → Signs op → (operand : Reader Tree) (b : ℕ) (l : Tree) → Low l → Gives (Turned Low Low) (G.group_turn op operand b l)
unfolding G.group_turn
group_turn_low op ops operand b l h = search (laws, ops.low) depth 9

grouped_low : (op : Token → Bool) → Signs op → (operand : Reader Tree) → Gives Low operand → Gives Low (grouped op operand)
unfolding grouped
grouped_low op ops operand h = then_gives peek λ t. then_low h λ l g. loop_gives (group_turn_low op ops operand _) l g

onto_low : (r : Tree) → Low r → (ls : List (ℕ × Tree)) → Low (G.onto r ls)
onto_low r h [] = h
onto_low r h (l ∷ ls) = onto_low (G.binary 12 l.0 l.1 r) (omega arith) ls

-- only the last operand's kind is told
abbrev LowChain : G.Chain → Type 0
LowChain c = Low c.1

raise_turn_low : (operand : Reader Tree) → Gives Low operand → (c : G.Chain) → LowChain c → Gives (Turned LowChain Low) (G.raise_turn operand c)
unfolding G.raise_turn
raise_turn_low operand h c g = search (laws, onto_low) depth 9

raised_low : (operand : Reader Tree) → Gives Low operand → Gives Low (G.raised operand)
unfolding G.raised
raised_low operand h = then_gives peek λ t. then_low h λ l g. loop_gives {R = LowChain} (raise_turn_low operand h) _ g

method_low : (b : ℕ) (x : Tree) (m : Token) (es : Trees) → Gives Low (method b x m es)
unfolding method
method_low b x m es = search laws depth 12

df_low : (b : ℕ) → Gives Low (G.df b)
unfolding G.df
df_low b = search laws depth 16

rate_index_low : (b : ℕ) → Gives Low (rate_index b)
unfolding rate_index
rate_index_low b = search laws depth 20

-- the table of calls
abbrev Lows : List (String × (ℕ × ℕ × ℕ)) → Type 0
Lows [] = Unit {0}
Lows (c ∷ cs) = (c.1.0 < 64) × Lows cs

call_of_low : (n : List ℕ) (cs : List (String × (ℕ × ℕ × ℕ))) → Lows cs → (call_of n cs).0 < 64
unfolding call_of
call_of_low n [] h = omega arith
call_of_low n (c ∷ cs) h = go (same (bytes c.0) n) (call_of_low n cs h.1)
  where
    go : (b : Bool) → (call_of n cs).0 < 64 → (elim b as (λ _. ℕ × ℕ × ℕ) [ true ↦ c.1 | false ↦ call_of n cs ]).0 < 64
    go true k = h.0
    go false k = k

calls_low : Lows calls
calls_low = search lit< depth 12

module _ (W : Language) where
  power_low : (p : Reader Tree) → Gives Low p → Gives Low (G.power W p)
  unfolding G.power code
  power_low p h = search (edition_gives, grouped_low, sign_low "**", raised_low, lit<)

  signed_low : (p : Reader Tree) → Gives Low p → Gives Low (G.signed W p)
  unfolding G.signed
  signed_low p h = search (edition_gives, power_low)

  sum_low : (p : Reader Tree) → Gives Low p → Gives Low (sum W p)
  unfolding sum code
  sum_low p h = search (grouped_low, either_low "+" "-", either_low "*" "/", power_low, lit<)

  comparison_low : (p : Reader Tree) → Gives Low p → Gives Low (comparison W p)
  unfolding comparison
  comparison_low p h = search (laws, sum_low, within_low) depth 12

  expression_low : (p : Reader Tree) → Gives Low p → Gives Low (expression W p)
  unfolding expression code
  expression_low p h = search (edition_gives, grouped_low, either_low "and" "or", sign_low "and", sign_low "or", comparison_low, lit<) depth 9

  postfix_turn_low : (o : Option (Reader Tree)) → Each (Gives Low) o → (b : ℕ) (x : Tree) → Low x → Gives (Turned Low Low) (G.postfix_turn W o b x)
  unfolding G.postfix_turn
  postfix_turn_low o h b x g = search (laws, method_low) depth 12

  postfixes_low : (o : Option (Reader Tree)) → Each (Gives Low) o → (b : ℕ) (x : Tree) → Low x → Gives Low (postfixes W o b x)
  unfolding postfixes
  postfixes_low o h b = loop_gives (postfix_turn_low o h b)

  spot_low : (b : ℕ) → Gives Low (G.spot W b)
  unfolding G.spot G.equity G.pair
  spot_low b = search laws depth 14

  call_low : (o : Option (Reader Tree)) (t : Token) (c : ℕ × ℕ × ℕ) → c.0 < 64 → Gives Low (G.call W o t c)
  unfolding G.call G.cvg
  call_low o t c h = search laws depth 12

  named_low : (t : Token) → Gives Low (G.named W t)
  unfolding G.named
  named_low t = search laws depth 6

  name_low : (o : Option (Reader Tree)) → Each (Gives Low) o → (t : Token) → Gives Low (G.name W o t)
  unfolding G.name
  name_low o h t = search (laws, call_low, call_of_low t.text calls calls_low, spot_low, df_low, rate_index_low, named_low, postfixes_low) depth 10

  pays_low : (o : Option (Reader Tree)) → Each (Gives Low) o → Gives Low (G.pays W o)
  unfolding G.pays
  pays_low o h = search laws depth 14

  minus_low : (o : Option (Reader Tree)) → Each (Gives Low) o → (t : Token) → Gives Low (G.minus W o t)
  unfolding G.minus G.constant
  minus_low o h t = search laws depth 9

  primary_over_low : (o : Option (Reader Tree)) → Each (Gives Low) o → Gives Low (G.primary_over W o)
  unfolding G.primary_over G.constant
  primary_over_low o h = search (laws, expression_low, signed_low, postfixes_low, minus_low, pays_low, name_low) depth 24

  -- the operands of a chain
  pub primary_low : (d : ℕ) → Gives Low (G.primary W d)
  unfolding G.primary
  primary_low zero = primary_over_low none nothing
  primary_low (suc d) = primary_over_low (some (G.primary W d)) (just (primary_low d))
