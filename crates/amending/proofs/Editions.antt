-- Laws of an edition by its number: 1 and 2 name one each, and no other number names any.
use mathlib.Core.Path.{◌≡◌, refl, sym, ap, ◌∙◌}
use mathlib.Core.Bool.{Bool, true, false, false≢true}
use mathlib.Core.List.{List}
use mathlib.Core.Logic.{◌⊎◌, ⊎_elim}
use Prim.Native.Nat.{ℕ}
use native.Mathlib.Omega.{arith}
use lib.Dec.{eqb}
use lib.ListN.{length}
use borrow.Author.Tests.{ne_eqb, eqb-true}
use Rattle.tokens.specs.Names.{Lists}
use Rattle.grammar.specs.Grammar.{Edition, one, two}
use Rattle.grammar.specs.Sizes.{record_room, statement_room}
use Rattle.grammar.specs.Script.{Outcome, accepted, refused, reading_in, reading, numbered, number_of}
use Rattle.grammar.proofs.Refusals.{reading_refused}
use Rattle.reading.specs.Meets.{edition_by}
use Rattle.reading.specs.Reading.{answer_to, read_into, Leaves}
use Rattle.reading.specs.declared.reading.Answer.{Answer}
use Rattle.amending.specs.Memory.{is_edition}

-- what comes of the edition that a number names
pub numbered_is : {A : Type 0} {m : ℕ} (E : Edition) (a : A) (f : Edition → A) → m ≡ number_of E → numbered m a f ≡ f E
numbered_is E a f v = ap (λ (m : ℕ). numbered m a f) v ∙ at E
  where
    at : (E : Edition) → numbered (number_of E) a f ≡ f E
    at one = refl
    at two = refl

-- and where it names none
pub numbered_none : {A : Type 0} (m : ℕ) (a : A) (f : Edition → A) → is_edition m ≡ false → numbered m a f ≡ a
numbered_none m a f e = go (eqb m 1) (eqb m 2) refl refl e
  where
    go : (x y : Bool) → eqb m 1 ≡ x → eqb m 2 ≡ y → is_edition m ≡ false → numbered m a f ≡ a
    go true y p q e = absurd (false≢true (sym e ∙ rw p))
    go false true p q e = absurd (false≢true (sym e ∙ rw (p, q)))
    go false false p q e = rw (p, q)

-- the edition of a number that the code has tested
pub tested : (m : ℕ) → is_edition m ≡ true → m ≡ number_of (edition_by (eqb m 2))
tested m e = go (eqb m 1) (eqb m 2) refl refl e
  where
    go : (x y : Bool) → eqb m 1 ≡ x → eqb m 2 ≡ y → is_edition m ≡ true → m ≡ number_of (edition_by (eqb m 2))
    go x true p q e = eqb-true m 2 q ∙ rw q
    go true false p q e = eqb-true m 1 p ∙ rw q
    go false false p q e = absurd (false≢true (sym (rw (p, q)) ∙ e))

-- a number that is neither 1 nor 2 fails the test
pub none_tested : (m : ℕ) → (m ≡ 1 → ⊥) → (m ≡ 2 → ⊥) → is_edition m ≡ false
none_tested m a b = rw (ne_eqb m 1 a, ne_eqb m 2 b)

-- a number that names an edition is that of one
pub known : (m : ℕ) → (m ≡ 1) ⊎ (m ≡ 2) → (E : Edition) × (m ≡ number_of E)
known m k = ⊎_elim (λ e. (one, e)) (λ e. (two, e)) k

-- and passes the test
pub is_edition_lem : {m : ℕ} (E : Edition) → m ≡ number_of E → is_edition m ≡ true
is_edition_lem E v = ap is_edition v ∙ at E
  where
    at : (E : Edition) → is_edition (number_of E) ≡ true
    at one = refl
    at two = refl

-- a script read in the edition that a number names
pub reading_in_lem : {m : ℕ} (E : Edition) → m ≡ number_of E → (l : Lists) (a b : ℕ) (bs : List ℕ) → reading m l a b bs ≡ reading_in E l a b bs
unfolding reading
reading_in_lem E v l a b bs = numbered_is E _ (λ (F : Edition). reading_in F l a b bs) v

-- and so never refused by 26
pub read_not_26 : {m : ℕ} (E : Edition) → m ≡ number_of E → (l : Lists) {bs o d o' d' : List ℕ} {r : Answer} → Leaves m l bs o d r o' d' → r.number ≡ 26 → ⊥
read_not_26 {m} E v l {bs} {o} {d} {r = r} X z = go (read_into m l bs o d) refl
  where
    go : (x : Outcome) → read_into m l bs o d ≡ x → ⊥
    go (accepted es) e = omega (arith, ap (λ (a : Answer). a.number) (X.answer ∙ ap (answer_to m bs) e), z)
    go (refused f p) e =
        let a = record_room (length o) in
        let b = statement_room (length d) in
        omega (arith, ap (λ (a : Answer). a.number) (X.answer ∙ ap (answer_to m bs) e), z, (reading_refused E l bs a b (sym (reading_in_lem E v l a b bs) ∙ e)).most)
