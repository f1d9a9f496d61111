-- In the second edition a sign takes in the `**` after it: none is left behind what begins with a sign, so that such an operand is a power by itself.
use Rattle.std.specs.Prelude.{if◌then◌else◌}
use mathlib.Core.Path.{◌≡◌, refl, sym, subst}
use mathlib.Core.Bool.{Bool, true, false, ◌&&◌, not, true≢false}
use mathlib.Core.List.{List, [], ◌∷◌}
use mathlib.Core.Option.{Option, none, some}
use Prim.Native.Nat.{ℕ, zero, suc}
use native.Mathlib.Omega.{arith}
use lib.Ieee.{neg}
use lib.ListN.{length}
use Rattle.tokens.specs.Numbers.{value}
use Rattle.tokens.specs.Tokens.{Token, code}
use Rattle.grammar.specs.Trees.{Tree, node, nil, ◌▹◌, none as unused}
use Rattle.grammar.specs.Readers.{Out, ok, refused, Reader, bind, ◌>>=◌, ◌>>◌, Turn, again, done, follow, turns, loop, first, is, skip, give, fail, fail_at, ask, look, peek, read, the}
use Rattle.grammar.specs.Grammar as G
use Rattle.grammar.specs.Grammar.{Chain, onto, raise_turn, raised, deeper}
use Rattle.grammar.proofs.EditionLaws.{second_edition}

-- no `**` comes first in what is left
abbrev pub Bare : List Token → Type 0
Bare r = is "**" (first r) ≡ false

-- ---- a chain goes on as long as there is a `**`

module _ (p : Reader Tree) where
  -- what a turn reads behind a `**`, where q waits
  abbrev next : List (ℕ × Tree) → Reader (Turn Chain Tree)
  next q = read >> (peek >>= λ t. p >>= λ l. give (again (t.from, l, q)))

  -- such a turn is not the last
  next_more : (q : List (ℕ × Tree)) (ts : List Token) (x : Tree) (r : List Token) → next q ts ≡ ok (done x) r → ⊥
  unfolding ◌>>◌ ◌>>=◌ read peek give
  next_more q [] x r e = absurd (let z : ◌≡◌ {A = ℕ} 0 1 = cc in omega arith)
  next_more q (t ∷ ts) x r e = go (p (skip ts)) e
    where
      again_with : Tree → Reader (Turn Chain Tree)
      again_with l = give (again ((first (skip ts)).from, l, q))

      go : (o : Out Tree) → bind again_with o ≡ ok (done x) r → ⊥
      go (ok l us) f = absurd (let z : ◌≡◌ {A = ℕ} 0 1 = cc in omega arith)
      go (refused k b) f = absurd (let z : ◌≡◌ {A = ℕ} 0 1 = cc in omega arith)

  turn_stops : (c : Chain) (ts : List Token) (x : Tree) (r : List Token) → raise_turn p c ts ≡ ok (done x) r → Bare r
  unfolding raise_turn ask give
  turn_stops c ts x r e = go (is "**" (first ts)) refl e
    where
      go : (b : Bool) → is "**" (first ts) ≡ b → (if b then next ((c.0, c.1) ∷ c.2) else give (done (onto c.1 c.2))) ts ≡ ok (done x) r → Bare r
      go true q f = absurd (next_more ((c.0, c.1) ∷ c.2) ts x r f)
      go false q f = let z : ts ≡ r = cc in subst Bare z q

  turns_stop : (n : ℕ) (c : Chain) (ts : List Token) (x : Tree) (r : List Token) → turns n (raise_turn p) c ts ≡ ok x r → Bare r
  unfolding turns
  turns_stop zero c ts x r e = absurd (let z : ◌≡◌ {A = ℕ} 0 1 = cc in omega arith)
  turns_stop (suc n) c ts x r e = go (turns_stop n) (raise_turn p c ts) refl e
    where
      go : ((s : Chain) (us : List Token) (y : Tree) (vs : List Token) → turns n (raise_turn p) s us ≡ ok y vs → Bare vs)
          → (o : Out (Turn Chain Tree)) → raise_turn p c ts ≡ o → follow (λ s us. turns n (raise_turn p) s us) o ≡ ok x r → Bare r
      go ih (ok (again s) us) q f = ih s us x r f
      go ih (ok (done y) us) q f = let z : us ≡ r = cc in subst Bare z (turn_stops c ts y us q)
      go ih (refused k b) q f = absurd (let z : ◌≡◌ {A = ℕ} 0 1 = cc in omega arith)

  pub raised_stops : (ts : List Token) (x : Tree) (r : List Token) → raised p ts ≡ ok x r → Bare r
  unfolding raised ◌>>=◌ peek loop
  raised_stops ts x r e = go _ (p ts) e
    where
      go : (begin : Tree → ℕ) (o : Out Tree) → bind (λ l. loop (raise_turn p) (begin l, l, [])) o ≡ ok x r → Bare r
      go begin (ok l us) f = turns_stop (suc (length us)) (begin l, l, []) us x r f
      go begin (refused k b) f = absurd (let z : ◌≡◌ {A = ℕ} 0 1 = cc in omega arith)

  -- where none is left behind an operand, it is the chain
  pub raised_alone : (ts : List Token) → ((x : Tree) (r : List Token) → p ts ≡ ok x r → Bare r) → raised p ts ≡ p ts
  unfolding raised ◌>>=◌ peek loop turns raise_turn ask give
  raised_alone ts h = go _ (p ts) refl
    where
      go : (begin : Tree → ℕ) (o : Out Tree) → p ts ≡ o → bind (λ l. loop (raise_turn p) (begin l, l, [])) o ≡ o
      go begin (ok l us) q = rw (h l us q)
      go begin (refused k b) q = refl

-- ---- a minus

module _ (r c d : List (List ℕ)) where
  abbrev W : G.Language
  W = second_edition r c d

  pub signed_stops : (p : Reader Tree) (ts : List Token) (x : Tree) (us : List Token) → G.signed W p ts ≡ ok x us → Bare us
  unfolding G.signed G.power
  signed_stops p = raised_stops p

  negative_stops : (b : ℕ) (p : Reader Tree) (ts : List Token) (x : Tree) (us : List Token) → G.negative W b p ts ≡ ok x us → Bare us
  unfolding ◌>>=◌ give
  negative_stops b p ts x us e = go (G.signed W p ts) refl e
    where
      go : (o : Out Tree) → G.signed W p ts ≡ o → bind (λ y. give (node 7 b [] unused (y ▹ nil))) o ≡ ok x us → Bare us
      go (ok y vs) q f = let z : vs ≡ us = cc in subst Bare z (signed_stops p ts y vs q)
      go (refused k j) q f = absurd (let z : ◌≡◌ {A = ℕ} 0 1 = cc in omega arith)

  -- a number that is all that a minus takes in
  negated_stops : (b : ℕ) (ts : List Token) (x : Tree) (us : List Token) → G.lone W ts ≡ true → G.negated W b ts ≡ ok x us → Bare us
  unfolding ◌>>=◌ the read peek give code
  negated_stops b [] x us l e = absurd (true≢false (sym l))
  negated_stops b (t ∷ ts) x us l e = go (is "number" t) (is "**" (first (skip ts))) refl refl l e
    where
      go : (m n : Bool) → is "number" t ≡ m → is "**" (first (skip ts)) ≡ n → (m && not n) ≡ true
          → bind (λ u. give (G.constant b (neg (value u.text)) u)) ((if m then read else fail 8) (t ∷ ts)) ≡ ok x us → Bare us
      go true false p q k f = let z : skip ts ≡ us = cc in subst Bare z q
      go true true p q k f = absurd (true≢false (sym k))
      go false n p q k f = absurd (true≢false (sym k))

  deeper_stops : (o : Option (Reader Tree)) (s : Token) (ts : List Token) (x : Tree) (us : List Token) → deeper s o (G.negative W s.from) ts ≡ ok x us → Bare us
  unfolding deeper fail_at
  deeper_stops none s ts x us e = absurd (let z : ◌≡◌ {A = ℕ} 0 1 = cc in omega arith)
  deeper_stops (some p) s ts x us e = negative_stops s.from p ts x us e

  pub minus_stops : (o : Option (Reader Tree)) (s : Token) (ts : List Token) (x : Tree) (us : List Token) → G.minus W o s ts ≡ ok x us → Bare us
  unfolding G.minus look
  minus_stops o s ts x us e = go (G.lone W ts) refl e
    where
      go : (b : Bool) → G.lone W ts ≡ b → (if b then G.negated W s.from else deeper s o (G.negative W s.from)) ts ≡ ok x us → Bare us
      go true q f = negated_stops s.from ts x us q f
      go false q f = deeper_stops o s ts x us f
