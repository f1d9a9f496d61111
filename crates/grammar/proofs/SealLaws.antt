-- A statement with another behind it ends in `;`, in `}` or in a string.
use Rattle.std.specs.Prelude.{if◌then◌else◌}
use mathlib.Core.Path.{◌≡◌, refl, sym, ap, ◌∙◌}
use mathlib.Core.Bool.{Bool, true, false, ◌||◌, not, true≢false}
use mathlib.Core.List.{List, [], ◌++◌, append-nil}
use mathlib.Core.Option.{Option, none, some}
use Prim.Native.Nat.{ℕ, zero, suc}
use Prim.Native.String.{String}
use lib.Dec.{eqb}
use Rattle.tokens.specs.Tokens.{Token, code}
use Rattle.grammar.specs.Trees.{Tree}
use Rattle.grammar.specs.Readers.{ok, Reader, ◌>>=◌, ◌>>◌, first, is, give, fail_at, peek, the, last_of, closes}
use Rattle.grammar.specs.Grammar as G
use Rattle.grammar.specs.Grammar.{deeper, optional, date_of, a_date, Language, Inner, deep, next_kind}
use Rattle.grammar.proofs.Laws.{loop_law}
use Rattle.grammar.proofs.GrammarLaws.{Moves, InnerLaw, expression_law, block_turn_law, named_law, payments_law, primary_law, target_law}
use Rattle.grammar.proofs.StatementLaws.{stops, payments_stop, near_tail, statement_tail}
use Rattle.grammar.proofs.EndingLaws.{Ends, Some, last_append, EachFirm, shallow, inside, primary_firm, bind_ends, if_ends, ask_ends, fail_at_ends, the_some, the_last, kind_of_lem, read_some, EndsBy, bind_by}
use Rattle.grammar.proofs.ClosingLaws.{EachInnerFirm, flat, under, firm_deep, law_some}

-- not `;`, `}` or a string
abbrev pub unsealed : Token → Bool
unsealed t = not (closes t || is "string" t)

-- ends in one of the three
abbrev pub Sealed : List Token → Type 0
Sealed x = (d : Token) → unsealed (last_of d x) ≡ false

-- ends so, if what stands before does
abbrev pub Keeps : List Token → Type 0
Keeps x = (d : Token) → unsealed d ≡ false → unsealed (last_of d x) ≡ false

-- nothing, or ends so
pub data Still (x : List Token) : Type 0 where
  idle : x ≡ [] → Still x
  ended : Sealed x → Still x

pub sealed_after : (x y : List Token) → Sealed y → Sealed (x ++ y)
sealed_after x y q d = ap unsealed (last_append d x y) ∙ q (last_of d x)

still_still : (x y : List Token) → Still x → Still y → Still (x ++ y)
still_still x y p (ended q) = ended (sealed_after x y q)
still_still x y (idle p) (idle q) = idle ((λ i. p i ++ q i))
still_still x y (ended p) (idle q) = ended (λ d. ap (λ l. unsealed (last_of d (x ++ l))) q ∙ ap (λ l. unsealed (last_of d l)) (append-nil x) ∙ p d)

module _ {A B : Type 0} {m : Reader A} {f : A → Reader B} where
  some_sealed : Ends Some m → ((a : A) → Ends Sealed (f a)) → Ends Sealed (m >>= f)
  some_sealed = bind_ends Some Sealed Sealed (λ x y p q. sealed_after x y q)

  sealed_keeps : Ends Sealed m → ((a : A) → Ends Keeps (f a)) → Ends Sealed (m >>= f)
  sealed_keeps = bind_ends Sealed Keeps Sealed (λ x y p q d. ap unsealed (last_append d x y) ∙ q (last_of d x) (p d))

  still_then : Ends Still m → ((a : A) → Ends Still (f a)) → Ends Still (m >>= f)
  still_then = bind_ends Still Still Still still_still

module _ {A : Type 0} {m : Reader A} where
  sealed_is_keeps : Ends Sealed m → Ends Keeps m
  sealed_is_keeps h ts a r e = let M : (used : List Token) × (ts ≡ used ++ r) × Sealed used = h ts a r e in (M.0, M.1, λ d n. M.2 d)

  sealed_is_still : Ends Sealed m → Ends Still m
  sealed_is_still h ts a r e = let M : (used : List Token) × (ts ≡ used ++ r) × Sealed used = h ts a r e in (M.0, M.1, ended M.2)

module _ {A : Type 0} where
  keeps_give : (a : A) → Ends Keeps (give a)
  unfolding give last_of
  keeps_give a ts b r e = let q : ts ≡ r = cc in ([], q, λ d x. x)

  still_give : (a : A) → Ends Still (give a)
  unfolding give
  still_give a ts b r e = let q : ts ≡ r = cc in ([], q, idle refl)

the_sealed : (s : String) → (not (eqb (code ";") (code s) || eqb (code "}") (code s) || eqb (code "string") (code s)) ≡ false) → (not (eqb (code "Newline") (code s)) ≡ true) → Ends Sealed (the s)
the_sealed s h g =
    the_last unsealed s (λ t e. kind_of_lem s t e (λ (k : ℕ). not (eqb (code ";") k || eqb (code "}") k || eqb (code "string") k) ≡ false) h)
    (λ t e. kind_of_lem s t e (λ (k : ℕ). not (eqb (code "Newline") k) ≡ true) g)

semicolon_sealed : Ends Sealed (the ";")
unfolding code
semicolon_sealed = the_sealed ";" refl refl

brace_sealed : Ends Sealed (the "}")
unfolding code
brace_sealed = the_sealed "}" refl refl

string_sealed : Ends Sealed (the "string")
unfolding code
string_sealed = the_sealed "string" refl refl

-- ---- blocks

block_sealed : (s : Reader Tree) → Moves s → Ends Sealed (G.block s)
unfolding G.block ◌>>◌
block_sealed s h =
    some_sealed (the_some "{") λ t. some_sealed (law_some (λ a. 0) (loop_law (block_turn_law s h) _)) λ ss. sealed_keeps brace_sealed λ u. keeps_give ss

-- ---- pays: it stops where no statement begins, or has read a string

-- what was read, and that it ends so if pays does not stop at what is left
abbrev pub SealsBy : List Token → List Token → Type 0
SealsBy x r = stops (first r) ≡ false → Sealed x

abbrev pub Seals : {A : Type 0} → Reader A → Type 0
Seals m = EndsBy SealsBy m

module _ {A : Type 0} where
  seals : {m : Reader A} → Ends Sealed m → Seals m
  seals h ts a r e = let M : (used : List Token) × (ts ≡ used ++ r) × Sealed used = h ts a r e in (M.0, M.1, λ q. M.2)

  fail_at_seals : (t : Token) (n : ℕ) → Seals {A = A} (fail_at t n)
  fail_at_seals t n = seals (fail_at_ends t n)

  if_seals : (b : Bool) {m n : Reader A} → Seals m → Seals n → Seals (if b then m else n)
  if_seals true hm hn = hm
  if_seals false hm hn = hn

module _ {B : Type 0} {f : Token → Reader B} where
  peek_seals : ((t : Token) → Seals (f t)) → Seals (peek >>= f)
  unfolding peek ◌>>=◌
  peek_seals h ts b r e = h (first ts) ts b r e

module _ {A B : Type 0} {m : Reader A} {f : A → Reader B} where
  some_seals : Ends Some m → ((a : A) → Seals (f a)) → Seals (m >>= f)
  some_seals = bind_by (λ x r. Some x) SealsBy SealsBy (λ x y r p q n. sealed_after x y (q n))

  -- then a part that reads nothing, or ends so
  seals_still : Seals m → ((a : A) → Ends Still (f a)) → Seals (m >>= f)
  seals_still = bind_by SealsBy (λ x r. Still x) SealsBy still
    where
      still : (x y r : List Token) → SealsBy x (y ++ r) → Still y → SealsBy (x ++ y) r
      still x y r h (idle z) n d =
          ap (λ l. unsealed (last_of d (x ++ l))) z ∙ ap (λ l. unsealed (last_of d l)) (append-nil x) ∙ h (ap (λ l. stops (first (l ++ r))) z ∙ n) d
      still x y r h (ended z) n d = sealed_after x y z d

-- a part that leaves what pays stops at, then one that reads nothing or ends so
module _ {A B : Type 0} {m : Reader A} {f : A → Reader B} where
  stop_seals : Ends Some m → ((ts : List Token) (a : A) (r : List Token) → m ts ≡ ok a r → stops (first r) ≡ true) → ((a : A) → Ends Still (f a)) → Seals (m >>= f)
  stop_seals hm st = seals_still λ ts a r e. ((hm ts a r e).0, (hm ts a r e).1, λ n. absurd (true≢false (sym (st ts a r e) ∙ n)))

module _ {A : Type 0} where
  optional_still : (s : String) (a : A) (m : Reader A) → Ends Sealed m → Ends Still (optional s a m)
  unfolding optional ◌>>◌
  optional_still s a m h = ask_ends (is s) (sealed_is_still (some_sealed (the_some s) λ t. h)) (still_give a)

date_of_keeps : (t : Token) → Ends Keeps (date_of t)
unfolding date_of
date_of_keeps t = search (if_ends, fail_at_ends, keeps_give)

a_date_sealed : Ends Sealed a_date
unfolding a_date
a_date_sealed = sealed_keeps string_sealed date_of_keeps

module _ (W : Language) where
  currency_of_keeps : (t : Token) → Ends Keeps (G.currency_of W t)
  unfolding G.currency_of
  currency_of_keeps t = search (if_ends, fail_at_ends, keeps_give)

  a_currency_sealed : Ends Sealed (G.a_currency W)
  unfolding G.a_currency
  a_currency_sealed = sealed_keeps string_sealed currency_of_keeps

  pays_seals : (o : Option (Reader Tree)) → EachFirm o → Seals (G.pays W o)
  unfolding G.pays deeper ◌>>◌
  pays_seals none shallow = peek_seals λ t. fail_at_seals t 15
  pays_seals (some p) (inside h f) = peek_seals λ t.
      some_seals (the_some "pays") λ u.
      stop_seals (law_some (λ a. 0) (payments_law W p h)) (payments_stop W p h) λ es.
      still_then (optional_still "on" 0 a_date a_date_sealed) λ d. still_then (optional_still "in" 0 (G.a_currency W) a_currency_sealed) λ c. still_give _

  paid_seals : (o : Option (Reader Tree)) → EachFirm o → Seals (G.paid W o)
  unfolding G.paid optional ◌>>◌
  paid_seals o g = seals_still (pays_seals o g) λ e. ask_ends (is ";") (sealed_is_still (sealed_keeps semicolon_sealed λ t. keeps_give e)) (still_give e)

  -- ---- all statements

  ended_sealed : (p : Reader Tree) → Moves p → Ends Sealed (G.ended W p)
  unfolding G.ended ◌>>◌
  ended_sealed p h = some_sealed (law_some (λ a. 1) (expression_law W p h)) λ e. sealed_keeps semicolon_sealed λ t. keeps_give e

  if_over_sealed : (i : Inner) → InnerLaw i → Ends Sealed (G.if_over W i)
  unfolding G.if_over ◌>>◌
  if_over_sealed i h =
      some_sealed read_some λ t. some_sealed (law_some (λ a. 1) (expression_law W i.primary h.primary)) λ e.
      sealed_keeps (block_sealed i.statement h.statement) λ ss.
      ask_ends (is "else") (sealed_is_keeps (some_sealed read_some λ u. sealed_keeps (block_sealed i.statement h.statement) λ us. keeps_give _)) (keeps_give _)

  for_over_sealed : (i : Inner) → InnerLaw i → Ends Sealed (G.for_over W i)
  unfolding G.for_over ◌>>◌
  for_over_sealed i h =
      some_sealed read_some λ t. some_sealed (the_some "name") λ v. some_sealed (law_some (λ a. 0) (named_law W v)) λ x. some_sealed (the_some "in") λ u.
      some_sealed (law_some (λ a. 1) (expression_law W i.primary h.primary)) λ e. sealed_keeps (block_sealed i.statement h.statement) λ ss. keeps_give _

  assign_sealed : (p : Reader Tree) → Moves p → Ends Sealed (G.assign W p)
  unfolding G.assign ◌>>◌
  assign_sealed p h = some_sealed (law_some (λ a. 1) (target_law W)) λ x. some_sealed read_some λ t. sealed_keeps (ended_sealed p h) λ e. keeps_give _

  compound_sealed : (p : Reader Tree) → Moves p → Ends Sealed (G.compound W p)
  unfolding G.compound
  compound_sealed p h = some_sealed (law_some (λ a. 1) (target_law W)) λ x. some_sealed read_some λ t. sealed_keeps (ended_sealed p h) λ e. keeps_give _

  assign_paid_seals : (o : Option (Reader Tree)) → EachFirm o → Seals (G.assign_paid W o)
  unfolding G.assign_paid
  assign_paid_seals o g = some_seals (law_some (λ a. 1) (target_law W)) λ x. seals_still (paid_seals o g) λ e. still_give _

  name_first_seals : (p : Reader Tree) (o : Option (Reader Tree)) → Moves p → EachFirm o → (k : ℕ) → Seals (G.name_first W p o k)
  unfolding G.name_first
  name_first_seals p o h g k = search (if_seals, seals (assign_sealed p h), seals (compound_sealed p h), assign_paid_seals o g, seals (ended_sealed p h))

  plain_seals : (p : Reader Tree) (o : Option Inner) → Moves p → EachInnerFirm o → Seals (G.plain W p o)
  unfolding G.plain deeper
  plain_seals p none h flat = peek_seals λ t. search (if_seals, fail_at_seals, paid_seals none shallow, seals (ended_sealed p h))
  plain_seals p (some i) h (under g f) = peek_seals λ t.
      search (if_seals, seals (if_over_sealed i g), seals (for_over_sealed i g), paid_seals (some i.primary) (inside g.primary f), seals (ended_sealed p h))

  statement_over_seals : (p : Reader Tree) (o : Option Inner) → Moves p → EachInnerFirm o → Seals (G.statement_over W p o)
  unfolding G.statement_over
  statement_over_seals p o h g ts a r e = if_seals (is "name" (first ts)) (name_first_seals p (deep o) h (firm_deep o g) (next_kind W ts)) (plain_seals p o h g) ts a r e

  -- a statement ends in `;`, `}` or a string, unless pays stops at what stands behind it
  pub statement_seals : (d : ℕ) → Seals (G.statement W d)
  unfolding G.statement
  statement_seals zero = statement_over_seals (G.primary W zero) none (primary_law W zero) flat
  statement_seals (suc d) =
      statement_over_seals (G.primary W (suc d)) (some (record { statement = G.statement W d; primary = G.primary W d })) (primary_law W (suc d))
      (under (record { statement = statement_tail W d near_tail; primary = primary_law W d }) (primary_firm W d))
