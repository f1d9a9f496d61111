-- What differs between the editions, and nothing else does: edition one's readers are those of the language before there was a second.
use Rattle.std.specs.Prelude.{if◌then◌else◌}
use mathlib.Core.Path.{◌≡◌, refl, sym, ap, ◌∙◌}
use mathlib.Core.Bool.{Bool, true, false, ◌||◌, not, ◌&&◌}
use mathlib.Core.List.{List, [], ◌∷◌}
use mathlib.Core.Option.{Option}
use Prim.Native.Nat.{ℕ}
use lib.Ieee.{neg}
use Rattle.tokens.specs.Numbers.{value}
use Rattle.tokens.specs.Tokens.{Token, code}
use Rattle.grammar.specs.Trees.{Tree}
use Rattle.grammar.specs.Readers.{Reader, bind, ◌>>=◌, ◌>>◌, first, next, second, is, give, fail, look, peek, read, the}
use Rattle.grammar.specs.Grammar as G
use Rattle.grammar.specs.Grammar.{one, two, Language, grouped, raised, deeper, constant, comparison, expression}

module _ (r c d : List (List ℕ)) where
  abbrev pub first_edition : Language
  first_edition = record { edition = one; reserved = r; currencies = c; counters = d }

  abbrev pub second_edition : Language
  second_edition = record { edition = two; reserved = r; currencies = c; counters = d }

  -- ---- edition one

  pub power_one : (p : Reader Tree) → G.power first_edition p ≡ grouped (is "**") p
  unfolding G.power
  power_one p = refl

  pub signed_one : (p : Reader Tree) → G.signed first_edition p ≡ p
  unfolding G.signed
  signed_one p = refl

  pub expression_one : (p : Reader Tree) → expression first_edition p ≡ grouped (λ t. is "and" t || is "or" t) (comparison first_edition p)
  unfolding expression
  expression_one p = refl

  pub next_one : (ts : List Token) → G.next_kind first_edition ts ≡ (next ts).kind
  next_one ts = refl

  -- a minus and the number behind it are one constant, whatever stands behind
  pub minus_one : (o : Option (Reader Tree)) (s : Token) (ts : List Token)
      → G.minus first_edition o s ts
      ≡ (peek >>= λ t. if is "number" t then (the "number" >> give (constant s.from (neg (value t.text)) t)) else deeper s o (G.negative first_edition s.from)) ts
  unfolding G.minus look peek the read give fail ◌>>=◌ ◌>>◌ code
  minus_one o s [] = refl
  minus_one o s (t ∷ ts) = go (is "number" t) refl
    where
      other : Reader Tree
      other = deeper s o (G.negative first_edition s.from)

      number : Token → Tree
      number u = constant s.from (neg (value u.text)) u

      go : (b : Bool) → is "number" t ≡ b
          → (if b && true then (the "number" >>= λ u. give (number u)) else other) (t ∷ ts) ≡ (if b then (the "number" >> give (number t)) else other) (t ∷ ts)
      go true e =
          ap (λ (x : Bool). bind {B = Tree} (λ u. give (number u)) ((if x then read else fail 8) (t ∷ ts))) e
          ∙ sym (ap (λ (x : Bool). bind {B = Tree} (λ u. give (number t)) ((if x then read else fail 8) (t ∷ ts))) e)
      go false e = refl

  -- ---- edition two

  pub power_two : (p : Reader Tree) → G.power second_edition p ≡ raised p
  unfolding G.power
  power_two p = refl

  pub signed_two : (p : Reader Tree) → G.signed second_edition p ≡ raised p
  unfolding G.signed G.power
  signed_two p = refl

  pub expression_two : (p : Reader Tree) → expression second_edition p ≡ grouped (is "or") (grouped (is "and") (comparison second_edition p))
  unfolding expression
  expression_two p = refl

  pub next_two : (ts : List Token) → G.next_kind second_edition ts ≡ (second ts).kind
  next_two ts = refl

  -- a minus and a number without `**` behind it are one constant
  pub lone_two : (ts : List Token) → G.lone second_edition ts ≡ is "number" (first ts) && not (is "**" (second ts))
  lone_two ts = refl
