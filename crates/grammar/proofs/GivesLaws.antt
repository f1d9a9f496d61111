-- Readers that give what passes a test: whatever such a reader reads passes it, and a refusal tells nothing.
-- Each form that readers are made of has its law, so that a reader's law follows the reader's own text.
use Rattle.std.specs.Prelude.{if◌then◌else◌}
use mathlib.Core.Path.{◌≡◌, refl, subst}
use mathlib.Core.Bool.{Bool, true, false}
use mathlib.Core.List.{List, [], ◌∷◌}
use mathlib.Core.Option.{Option}
use Prim.Native.Nat.{ℕ, zero, suc}
use Prim.Native.String.{String}
use lib.ListN.{length}
use Rattle.tokens.specs.Tokens.{Token}
use Rattle.grammar.specs.Readers.{Out, ok, refused, Reader, bind, ◌>>=◌, ◌>>◌, Turn, again, done, follow, turns, loop, first, is, skip, give, fail, fail_at, ask, look, read, the}
use Rattle.grammar.specs.Grammar.{deeper, optional, Edition, one, two, in_edition}
use Rattle.grammar.proofs.Refusals.{Each, nothing, just}

-- ---- the notion

-- what is read passes the test; a refusal does
abbrev pub Passing : {A : Type 0} → (A → Type 0) → Out A → Type 0
Passing P (ok a r) = P a
Passing P (refused f p) = Unit {0}

pub record Gives {A : Type 0} (P : A → Type 0) (m : Reader A) : Type 0 where
  pub goes : (ts : List Token) → Passing P (m ts)

-- what a turn goes on with passes the one test, and what it ends with the other
abbrev pub Turned : {S A : Type 0} → (S → Type 0) → (A → Type 0) → Turn S A → Type 0
Turned P Q (again s) = P s
Turned P Q (done a) = Q a

module _ {A : Type 0} {P : A → Type 0} {m : Reader A} {ts r : List Token} {a : A} where
  -- where it is known what was read
  pub gives_ok : Gives P m → m ts ≡ ok a r → P a
  gives_ok h e = subst (Passing P) e (h.goes ts)

-- ---- the forms that readers are made of

module _ {A B : Type 0} {Q : B → Type 0} {f : A → Reader B} where
  pub bind_gives : {m : Reader A} (P : A → Type 0) → Gives P m → ((a : A) → P a → Gives Q (f a)) → Gives Q (m >>= f)
  unfolding ◌>>=◌
  bind_gives {m} P hm hf = record { goes = λ ts. go (m ts) (hm.goes ts) }
    where
      go : (o : Out A) → Passing P o → Passing Q (bind f o)
      go (ok a r) h = (hf a h).goes r
      go (refused x p) h = tt

  -- whatever is read first
  pub then_gives : (m : Reader A) → ((a : A) → Gives Q (f a)) → Gives Q (m >>= f)
  then_gives m hf = bind_gives (λ a. Unit {0}) (record { goes = λ ts. go (m ts) }) (λ a h. hf a)
    where
      go : (o : Out A) → Passing (λ a. Unit {0}) o
      go (ok a r) = tt
      go (refused x p) = tt

module _ {A B : Type 0} {Q : B → Type 0} {k : Reader B} where
  pub next_gives : (m : Reader A) → Gives Q k → Gives Q (m >> k)
  unfolding ◌>>◌
  next_gives m hk = then_gives m (λ a. hk)

module _ {A : Type 0} {P : A → Type 0} where
  pub give_gives : (a : A) → P a → Gives P (give a)
  unfolding give
  give_gives a h = record { goes = λ ts. h }

  pub fail_gives : (n : ℕ) → Gives P (fail n)
  unfolding fail
  fail_gives n = record { goes = λ ts. tt }

  pub fail_at_gives : (t : Token) (n : ℕ) → Gives P (fail_at t n)
  unfolding fail_at
  fail_at_gives t n = record { goes = λ ts. tt }

  pub if_gives : (b : Bool) {m k : Reader A} → Gives P m → Gives P k → Gives P (if b then m else k)
  if_gives true hm hk = hm
  if_gives false hm hk = hk

  pub edition_gives : (e : Edition) {m k : Reader A} → Gives P m → Gives P k → Gives P (in_edition e m k)
  edition_gives one hm hk = hm
  edition_gives two hm hk = hk

  pub ask_gives : (test : Token → Bool) {m k : Reader A} → Gives P m → Gives P k → Gives P (ask test m k)
  unfolding ask
  ask_gives test hm hk = record { goes = λ ts. (if_gives (test (first ts)) hm hk).goes ts }

  pub look_gives : (test : List Token → Bool) {m k : Reader A} → Gives P m → Gives P k → Gives P (look test m k)
  unfolding look
  look_gives test hm hk = record { goes = λ ts. (if_gives (test ts) hm hk).goes ts }

  -- a token that passes a test is read, and what follows may know that it does
  pub read_gives : (test : Token → Bool) {f : Token → Reader A} {k : Reader A} → ((t : Token) → test t ≡ true → Gives P (f t)) → Gives P k → Gives P (ask test (read >>= f) k)
  unfolding ask read ◌>>=◌
  read_gives test {f} {k} hf hk = record { goes = λ ts. go ts (test (first ts)) refl }
    where
      known : (ts : List Token) → test (first ts) ≡ true → Passing P (bind f (read ts))
      known [] e = tt
      known (t ∷ ts) e = (hf t e).goes (skip ts)

      go : (ts : List Token) (b : Bool) → test (first ts) ≡ b → Passing P ((if b then (λ (us : List Token). bind f (read us)) else k) ts)
      go ts true e = known ts e
      go ts false e = hk.goes ts

  pub optional_gives : (s : String) (a : A) {m : Reader A} → P a → Gives P m → Gives P (optional s a m)
  unfolding optional
  optional_gives s a h hm = ask_gives (is s) (next_gives (the s) hm) (give_gives a h)

  module _ {S : Type 0} {R : S → Type 0} {step : S → Reader (Turn S A)} (steps : (s : S) → R s → Gives (Turned R P) (step s)) where
    turns_gives : (n : ℕ) (s : S) → R s → (ts : List Token) → Passing P (turns n step s ts)
    unfolding turns
    turns_gives zero s h ts = tt
    turns_gives (suc n) s h ts = go (turns_gives n) (step s ts) ((steps s h).goes ts)
      where
        go : ((b : S) → R b → (r : List Token) → Passing P (turns n step b r)) → (o : Out (Turn S A)) → Passing (Turned R P) o
            → Passing P (follow (λ b ts'. turns n step b ts') o)
        go ih (ok (again b) r) g = ih b g r
        go ih (ok (done b) r) g = g
        go ih (refused x p) g = tt

    pub loop_gives : (s : S) → R s → Gives P (loop step s)
    unfolding loop
    loop_gives s h = record { goes = λ ts. turns_gives (suc (length ts)) s h ts }

  module _ {X : Type 0} {R : X → Type 0} {k : X → Reader A} where
    pub deeper_gives : (t : Token) {o : Option X} → Each R o → ((x : X) → R x → Gives P (k x)) → Gives P (deeper t o k)
    unfolding deeper
    deeper_gives t nothing g = fail_at_gives t 15
    deeper_gives t (just h) g = g _ h

-- Those that a search may choose by the reader alone. `bind_gives` wants the test of what is read first: each notion has its own law of it
pub ruleset forms = (then_gives, next_gives, give_gives, fail_gives, fail_at_gives, if_gives, ask_gives, look_gives, edition_gives, optional_gives, loop_gives, deeper_gives)
