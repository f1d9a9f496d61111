-- Statements: what may stand behind one, so that it is read the same.
use Rattle.std.specs.Prelude.{if◌then◌else◌}
use mathlib.Core.Path.{◌≡◌, refl, sym, ap, ◌∙◌, subst}
use mathlib.Core.Bool.{Bool, true, false, ◌||◌}
use mathlib.Core.List.{List, [], ◌∷◌, ◌++◌, append_assoc}
use mathlib.Core.Option.{Option, none, some}
use Prim.Native.Nat.{ℕ, zero, suc, ◌+◌, ◌≤◌, ◌<◌}
use Prim.Native.String.{String}
use native.Mathlib.Omega.{arith}
use lib.Dec.{eqb}
use lib.ListN.{length}
use Rattle.tokens.specs.Names.{place}
use Rattle.tokens.specs.Dates.{date}
use Rattle.tokens.specs.Tokens.{Token}
use Rattle.grammar.specs.Trees.{Tree, Trees, snoc}
use Rattle.grammar.specs.Readers.{Out, ok, refused, Reader, bind, ◌>>=◌, ◌>>◌, Turn, again, done, follow, loop, first, next, second, is, skip, give, ask, read}
use Rattle.grammar.specs.Grammar as G
use Rattle.grammar.specs.Grammar.{deeper, optional, expression, a_date, date_of, content, Language, Inner, block, if_over, ended, deep, in_edition, next_kind}
use Rattle.grammar.proofs.Laws.{Rel, Near, Follows, near_follows, near_append, Reads, Law, bind_law, bind_near, ask_law, the_law, give_law, fail_at_law, if_law, weaken, peek_law, read_law, reads_clear, split_same, skip_clear, skip_same, cost, loop_law, loop_eq, left_shorter}
use Rattle.grammar.proofs.GrammarLaws.{Moves, Each, nothing, just, InnerLaw, deeper_law, block_turn_law, expression_law, named_law, payments_law, pay_turn_law, primary_law, target_law}

-- where pays stops
abbrev pub stops : Token → Bool
stops t = is ";" t || is ")" t || is "on" t || is "in" t || is "End" t

-- what may stand behind a statement: nothing that the statement would go on with
pub record Tail (P : Rel) : Type 0 where
  pub follows : Follows P
  pub no_else : (r r' : List Token) → P r r' → is "else" (first r') ≡ is "else" (first r)
  pub no_on : (r r' : List Token) → P r r' → is "on" (first r') ≡ is "on" (first r)
  pub no_in : (r r' : List Token) → P r r' → is "in" (first r') ≡ is "in" (first r)
  pub no_end : (r r' : List Token) → P r r' → is ";" (first r') ≡ is ";" (first r)
  pub stopped : (r r' : List Token) → P r r' → stops (first r) ≡ true → Near r r'

pub near_tail : Tail Near
near_tail = record {
  follows = near_follows;
  no_else = λ r r' e. ap (λ t. is "else" t) e;
  no_on = λ r r' e. ap (λ t. is "on" t) e;
  no_in = λ r r' e. ap (λ t. is "in" t) e;
  no_end = λ r r' e. ap (λ t. is ";" t) e;
  stopped = λ r r' e h. e;
}

-- ---- how a loop ends

module _ {S A : Type 0} {step : S → Reader (Turn S A)} (steps : (s : S) → Law Near cost (step s)) (D : List Token → Type 0)
    (ends : (s : S) (ts : List Token) (a : A) (r : List Token) → step s ts ≡ ok (done a) r → D r) where
  ends_at_lem : (n : ℕ) (s : S) (ts : List Token) (a : A) (r : List Token) → length ts < n → loop step s ts ≡ ok a r → D r
  ends_at_lem zero s ts a r h e = absurd (omega arith)
  ends_at_lem (suc n) s ts a r h e = go (λ s' u. ends_at_lem n s' u a r) (step s ts) refl (sym (loop_eq steps s ts) ∙ e)
    where
      go : ((s' : S) (u : List Token) → length u < n → loop step s' u ≡ ok a r → D r)
          → (o : Out (Turn S A)) → step s ts ≡ o → follow (loop step) o ≡ ok a r → D r
      go ih (ok (again s') u) e' q =
          let l : length u + 1 ≤ length ts = left_shorter (steps s ts (again s') u e') in
          ih s' u (omega arith) q
      go ih (ok (done b) u) e' q = let z : u ≡ r = cc in subst D z (ends s ts b u e')
      go ih (refused x p) e' q = absurd (let z : ◌≡◌ {A = ℕ} 0 1 = cc in omega arith)

  pub loop_ends : (s : S) (ts : List Token) (a : A) (r : List Token) → loop step s ts ≡ ok a r → D r
  loop_ends s ts a r e = ends_at_lem (suc (length ts)) s ts a r (omega arith) e

-- ---- forms of readers, whatever may stand behind

module _ {P : Rel} (F : Follows P) where
  module _ {A B : Type 0} {m : Reader A} {f : A → Reader B} where
    pub moved : Law P (λ a. 1) m → ((a : A) → Law P (λ b. 0) (f a)) → Law P (λ b. 1) (m >>= f)
    moved hm hf = bind_law 1 (λ b. 0) (λ b. 1) (λ b. omega arith) F hm hf

    pub stayed : Law P (λ a. 0) m → ((a : A) → Law P (λ b. 0) (f a)) → Law P (λ b. 0) (m >>= f)
    stayed hm hf = bind_law 0 (λ b. 0) (λ b. 0) (λ b. omega arith) F hm hf

  module _ {A : Type 0} where
    pub given : (a : A) → Law P (λ b. 0) (give a)
    given a = give_law (λ b. 0) a (omega arith)

    pub idle : {m : Reader A} → Law P (λ a. 1) m → Law P (λ a. 0) m
    idle h = weaken (λ a. 0) (λ a. 1) (λ a. omega arith) h

    pub optional_tail : (s : String) → ((r r' : List Token) → P r r' → is s (first r') ≡ is s (first r))
        → (a : A) {m : Reader A} → Law P (λ b. 0) m → Law P (λ b. 0) (optional s a m)
    unfolding optional ◌>>◌
    optional_tail s same a h = ask_law (λ b. 0) (is s) same (idle (moved (the_law F s) (λ t. h))) (given a)

-- the first reads what is followed by a token of the second's
module _ {P : Rel} {A B : Type 0} {m : Reader A} {f : A → Reader B} where
  pub then₁ : Law Near (λ a. 0) m → ((a : A) → Law P (λ b. 1) (f a)) → Law P (λ b. 1) (m >>= f)
  then₁ hm hf = bind_near 0 0 (λ b. 1) (λ b. omega arith) hm hf

module _ {P : Rel} (F : Follows P) where
  pub block_tail : (s : Reader Tree) → Moves s → Law P (λ b. 1) (block s)
  unfolding block ◌>>◌
  block_tail s h =
      then₁ (idle near_follows (the_law near_follows "{")) λ t.
      then₁ (loop_law (block_turn_law s h) _) λ ss.
      moved F (the_law F "}") λ u. given F ss

  module _ (W : Language) where
    pub ended_tail : (p : Reader Tree) → Moves p → Law P (λ b. 1) (ended W p)
    unfolding ended ◌>>◌
    ended_tail p h = then₁ (idle near_follows (expression_law W p h)) λ e. moved F (the_law F ";") λ t. given F e

    pub if_over_tail : ((r r' : List Token) → P r r' → is "else" (first r') ≡ is "else" (first r)) → (i : Inner) → InnerLaw i → Law P (λ b. 1) (if_over W i)
    unfolding if_over ◌>>◌
    if_over_tail no_else i h =
        then₁ (idle near_follows (read_law near_follows)) λ t.
        then₁ (idle near_follows (expression_law W i.primary h.primary)) λ e.
        moved F (block_tail i.statement h.statement) λ ss.
        ask_law (λ b. 0) (is "else") no_else
        (idle F (then₁ (idle near_follows (read_law near_follows)) λ u. moved F (block_tail i.statement h.statement) λ us. given F _))
        (given F _)

    pub for_over_tail : (i : Inner) → InnerLaw i → Law P (λ b. 1) (G.for_over W i)
    unfolding G.for_over ◌>>◌
    for_over_tail i h =
        then₁ (idle near_follows (read_law near_follows)) λ t.
        then₁ (idle near_follows (the_law near_follows "name")) λ v.
        then₁ (named_law W v) λ x.
        then₁ (idle near_follows (the_law near_follows "in")) λ u.
        then₁ (idle near_follows (expression_law W i.primary h.primary)) λ e.
        moved F (block_tail i.statement h.statement) λ ss. given F _

    -- what stands behind the name, and a node made of it
    pub behind_tail : (p : Reader Tree) → Moves p → (f : Token → Tree → Tree) → Law P (λ b. 1) (read >>= λ t. (ended W p >>= λ e. give (f t e)))
    behind_tail p h f = then₁ (idle near_follows (read_law near_follows)) λ t. moved F (ended_tail p h) λ e. given F (f t e)

    pub assign_tail : (p : Reader Tree) → Moves p → Law P (λ b. 1) (G.assign W p)
    unfolding G.assign ◌>>◌
    assign_tail p h = then₁ (idle near_follows (target_law W)) λ x. behind_tail p h _

    pub compound_tail : (p : Reader Tree) → Moves p → Law P (λ b. 1) (G.compound W p)
    unfolding G.compound
    compound_tail p h = then₁ (idle near_follows (target_law W)) λ x. behind_tail p h _

-- ---- statements

pub data EachInner : Option Inner → Type 0 where
  shallow : EachInner none
  inside : {i : Inner} → InnerLaw i → EachInner (some i)

pub each_deep : (o : Option Inner) → EachInner o → Each (deep o)
each_deep none shallow = nothing
each_deep (some i) (inside g) = just g.primary

module _ (W : Language) where
  payments_done : (p : Reader Tree) (es : Trees) (ts : List Token) (a : Trees) (r : List Token)
      → G.pay_turn W p es ts ≡ ok (done a) r → stops (first r) ≡ true
  unfolding G.pay_turn ask give ◌>>=◌
  payments_done p es ts a r e = go (stops (first ts)) refl e
    where
      inner : (o : Out Tree) → bind {B = Turn Trees Trees} (λ x. give (again (snoc es x))) o ≡ ok (done a) r → stops (first r) ≡ true
      inner (ok x u) q = absurd (let z : ◌≡◌ {A = ℕ} 0 1 = cc in omega arith)
      inner (refused n x) q = absurd (let z : ◌≡◌ {A = ℕ} 0 1 = cc in omega arith)

      go : (b : Bool) → stops (first ts) ≡ b → ◌≡◌ {A = Out (Turn Trees Trees)} ((if b then give (done es) else (expression W p >>= λ x. give (again (snoc es x)))) ts) (ok (done a) r)
          → stops (first r) ≡ true
      go true h q = let z : ts ≡ r = cc in subst (λ (l : List Token). stops (first l) ≡ true) z h
      go false h q = inner (expression W p ts) q

  pub payments_stop : (p : Reader Tree) → Moves p → (ts : List Token) (es : Trees) (r : List Token) → G.payments W p ts ≡ ok es r → stops (first r) ≡ true
  unfolding G.payments
  payments_stop p h ts es r e = loop_ends (pay_turn_law W p h) (λ r. stops (first r) ≡ true) (payments_done p) _ ts es r e

-- ---- two tokens

-- behind the first of these tokens there is one that is no Newline
pub record Two (x : List Token) : Type 0 where
  pub fore : List Token
  pub token : Token
  pub rest : List Token
  pub split : x ≡ fore ++ (token ∷ rest)
  pub some : 1 ≤ length fore
  pub clear : is "Newline" token ≡ false

-- a reader that reads such tokens
abbrev pub Twice : {A : Type 0} → Reader A → Type 0
Twice {A} m = (ts : List Token) (a : A) (r : List Token) → m ts ≡ ok a r → (used : List Token) × (ts ≡ used ++ r) × Two used

-- the next token is then the same whatever stands behind, with newlines or without
next_two : (x : List Token) (t : Token) (y z z' : List Token) → 1 ≤ length x → next (x ++ (t ∷ y) ++ z') ≡ next (x ++ (t ∷ y) ++ z)
next_two [] t y z z' h = absurd (omega arith)
next_two (u ∷ []) t y z z' h = refl
next_two (u ∷ v ∷ x) t y z z' h = refl

second_two : (x : List Token) (t : Token) (y z z' : List Token) → 1 ≤ length x → is "Newline" t ≡ false → second (x ++ (t ∷ y) ++ z') ≡ second (x ++ (t ∷ y) ++ z)
second_two [] t y z z' h c = absurd (omega arith)
second_two (u ∷ x) t y z z' h c =
    ap (λ l. first (skip l)) (append_assoc x (t ∷ y) z')
    ∙ skip_same x (t ∷ (y ++ z')) (t ∷ (y ++ z)) (ap first (skip_clear (t ∷ (y ++ z')) c) ∙ ap first (sym (skip_clear (t ∷ (y ++ z)) c)))
    ∙ ap (λ l. first (skip l)) (sym (append_assoc x (t ∷ y) z))

next_same : (W : Language) (x z z' : List Token) → Two x → next_kind W (x ++ z') ≡ next_kind W (x ++ z)
next_same W x z z' T =
    ap (λ l. next_kind W (l ++ z')) T.split
    ∙ (λ i. (in_edition W.edition (next_two T.fore T.token T.rest z z' T.some i) (second_two T.fore T.token T.rest z z' T.some T.clear i)).kind)
    ∙ ap (λ l. next_kind W (l ++ z)) (sym T.split)

-- a part that reads, then another that does
two_append : (x y r : List Token) → 1 ≤ length x → 1 ≤ length y → is "Newline" (first (y ++ r)) ≡ false → Two (x ++ y)
two_append x [] r h g c = absurd (omega arith)
two_append x (t ∷ y) r h g c = record { fore = x; token = t; rest = y; split = refl; some = h; clear = c }

module _ {A B : Type 0} {m : Reader A} {f : A → Reader B} where
  two_then : Moves m → ((a : A) → Moves (f a)) → Twice (m >>= f)
  unfolding ◌>>=◌
  two_then hm hf ts b r e = go (m ts) refl e
    where
      go : (o : Out A) → m ts ≡ o → bind f o ≡ ok b r → (used : List Token) × (ts ≡ used ++ r) × Two used
      go (ok a s) q w =
          let M : Reads Near 1 m ts a s = hm ts a s q in
          let F : Reads Near 1 (f a) s b r = hf a s b r w in (
            M.used ++ F.used,
            M.split ∙ ap (λ l. M.used ++ l) F.split ∙ sym (append_assoc M.used F.used r),
            two_append M.used F.used r M.enough F.enough (ap (λ l. is "Newline" (first l)) (sym F.split) ∙ reads_clear M),
          )
      go (refused x p) q w = absurd (let z : ◌≡◌ {A = ℕ} 0 1 = cc in omega arith)

module _ {A : Type 0} where
  if_twice : (b : Bool) {m n : Reader A} → Twice m → Twice n → Twice (if b then m else n)
  if_twice true hm hn = hm
  if_twice false hm hn = hn

-- a statement is one that begins with a name or another, whatever may stand behind it
module _ (W : Language) (p : Reader Tree) (o : Option Inner) where
  abbrev both : Bool → ℕ → Reader Tree
  both b k = if b then G.name_first W p (deep o) k else G.plain W p o

  pub over_reads : {P : Rel} (ts : List Token) (a : Tree) (r : List Token) → ((k : ℕ) → Twice (both true k))
      → (both true (next_kind W ts) ts ≡ ok a r → Reads P 1 (both true (next_kind W ts)) ts a r) → (both false 0 ts ≡ ok a r → Reads P 1 (both false 0) ts a r)
      → G.statement_over W p o ts ≡ ok a r → Reads P 1 (G.statement_over W p o) ts a r
  unfolding G.statement_over
  over_reads {P} ts a r twice named other e = go (is "name" (first ts)) refl e
    where
      go : (b : Bool) → is "name" (first ts) ≡ b → both b (next_kind W ts) ts ≡ ok a r → Reads P 1 (G.statement_over W p o) ts a r
      go true t q =
          let M : Reads P 1 (both true (next_kind W ts)) ts a r = named q in
          let U : (used : List Token) × (ts ≡ used ++ r) × Two used = twice (next_kind W ts) ts a r q in
          let T : Two M.used = subst Two (split_same U.0 r M.used r (sym U.1 ∙ M.split) refl) U.2 in
          record {
            used = M.used;
            split = M.split;
            enough = M.enough;
            goes = λ nl r'' n g x.
                let r' : List Token = nl ++ r'' in
                ap (λ (l : Token). both (is "name" l) (next_kind W (M.used ++ r')) (M.used ++ r')) (near_append M.used r r' M.enough ∙ ap first (sym M.split))
                ∙ ap (λ (b : Bool). both b (next_kind W (M.used ++ r')) (M.used ++ r')) t
                ∙ ap (λ (k : ℕ). both true k (M.used ++ r')) (next_same W M.used r r' T ∙ ap (next_kind W) (sym M.split))
                ∙ M.goes nl r'' n g x;
          }
      go false t q =
          let M : Reads P 1 (both false 0) ts a r = other q in
          record {
            used = M.used;
            split = M.split;
            enough = M.enough;
            goes = λ nl r'' n g x.
                let r' : List Token = nl ++ r'' in
                ap (λ (l : Token). both (is "name" l) (next_kind W (M.used ++ r')) (M.used ++ r')) (near_append M.used r r' M.enough ∙ ap first (sym M.split))
                ∙ ap (λ (b : Bool). both b (next_kind W (M.used ++ r')) (M.used ++ r')) t
                ∙ M.goes nl r'' n g x;
          }

module _ {P : Rel} (T : Tail P) (W : Language) where
  payments_tail : (p : Reader Tree) → Moves p → Law P (λ b. 0) (G.payments W p)
  payments_tail p h ts es r e =
      let M : Reads Near 0 (G.payments W p) ts es r = payments_law W p h ts es r e in
      record {
        used = M.used;
        split = M.split;
        enough = M.enough;
        goes = λ nl r' n g q. M.goes nl r' n g (T.stopped r r' q (payments_stop W p h ts es r e));
      }

  date_of_tail : (t : Token) → Law P (λ b. 0) (date_of t)
  unfolding date_of
  date_of_tail t = if_law (λ b. 0) (eqb (date (content t)) 0) (fail_at_law (λ b. 0) t 11) (given T.follows (date (content t)))

  currency_of_tail : (t : Token) → Law P (λ b. 0) (G.currency_of W t)
  unfolding G.currency_of
  currency_of_tail t =
      if_law (λ b. 0) (eqb (place W.currencies (content t)) 0) (fail_at_law (λ b. 0) t 12) (given T.follows (place W.currencies (content t)))

  a_date_tail : Law P (λ b. 0) a_date
  unfolding a_date
  a_date_tail = idle T.follows (moved T.follows (the_law T.follows "string") date_of_tail)

  a_currency_tail : Law P (λ b. 0) (G.a_currency W)
  unfolding G.a_currency
  a_currency_tail = idle T.follows (moved T.follows (the_law T.follows "string") currency_of_tail)

  pays_tail : (o : Option (Reader Tree)) → Each o → Law P (λ b. 1) (G.pays W o)
  unfolding G.pays ◌>>◌
  pays_tail o h =
      then₁ peek_law λ t. deeper_law t o h λ p m.
      moved T.follows (the_law T.follows "pays") λ u.
      stayed T.follows (payments_tail p m) λ es.
      stayed T.follows (optional_tail T.follows "on" T.no_on 0 a_date_tail) λ d.
      stayed T.follows (optional_tail T.follows "in" T.no_in 0 a_currency_tail) λ c. given T.follows _

  paid_tail : (o : Option (Reader Tree)) → Each o → Law P (λ b. 1) (G.paid W o)
  unfolding G.paid
  paid_tail o h = moved T.follows (pays_tail o h) λ e. optional_tail T.follows ";" T.no_end e (given T.follows e)

  assign_paid_tail : (o : Option (Reader Tree)) → Each o → Law P (λ b. 1) (G.assign_paid W o)
  unfolding G.assign_paid
  assign_paid_tail o g = then₁ (idle near_follows (target_law W)) λ x. moved T.follows (paid_tail o g) λ e. given T.follows _

  name_first_tail : (p : Reader Tree) (o : Option (Reader Tree)) → Moves p → Each o → (k : ℕ) → Law P (λ b. 1) (G.name_first W p o k)
  unfolding G.name_first
  name_first_tail p o h g k = search (if_law, assign_tail T.follows W p h, compound_tail T.follows W p h, assign_paid_tail o g, ended_tail T.follows W p h)

module _ (W : Language) where
  -- a statement that begins with a name has a second token
  pub name_first_two : (p : Reader Tree) (o : Option (Reader Tree)) → Moves p → Each o → (k : ℕ) → Twice (G.name_first W p o k)
  unfolding G.name_first G.assign G.compound G.assign_paid ended ◌>>◌
  name_first_two p o h g k =
      let assign_two : Twice (G.assign W p) = two_then (target_law W) λ x. behind_tail near_follows W p h _ in
      let compound_two : Twice (G.compound W p) = two_then (target_law W) λ x. behind_tail near_follows W p h _ in
      let paid_two : Twice (G.assign_paid W o) = two_then (target_law W) λ x. moved near_follows (paid_tail near_tail W o g) λ e. given near_follows _ in
      let ended_two : Twice (ended W p) = two_then (expression_law W p h) λ e. moved near_follows (the_law near_follows ";") λ t. given near_follows e in
      search (if_twice, assign_two, compound_two, paid_two, ended_two)

module _ {P : Rel} (T : Tail P) (W : Language) where
  -- the law of what is one deeper in a statement
  plain_tail : (p : Reader Tree) (o : Option Inner) → Moves p → EachInner o → Law P (λ b. 1) (G.plain W p o)
  unfolding G.plain deeper
  plain_tail p none h shallow = then₁ peek_law λ t. search (if_law, fail_at_law, paid_tail T W none nothing, ended_tail T.follows W p h)
  plain_tail p (some i) h (inside g) =
      then₁ peek_law λ t.
      search (if_law, if_over_tail T.follows W T.no_else i g, for_over_tail T.follows W i g, paid_tail T W (some i.primary) (just g.primary), ended_tail T.follows W p h)

  statement_over_tail : (p : Reader Tree) (o : Option Inner) → Moves p → EachInner o → Law P (λ b. 1) (G.statement_over W p o)
  statement_over_tail p o h g ts a r e =
      over_reads W p o ts a r (name_first_two W p (deep o) h (each_deep o g)) (λ q. name_first_tail T W p (deep o) h (each_deep o g) (next_kind W ts) ts a r q) (λ q. plain_tail p o h g ts a r q) e

module _ (W : Language) where
  -- a statement leaves an end of its tokens, and reads the same whatever else may stand behind it
  pub statement_tail : (d : ℕ) {P : Rel} → Tail P → Law P (λ b. 1) (G.statement W d)
  unfolding G.statement
  statement_tail zero T = statement_over_tail T W (G.primary W zero) none (primary_law W zero) shallow
  statement_tail (suc d) T =
      statement_over_tail T W (G.primary W (suc d)) (some (record { statement = G.statement W d; primary = G.primary W d })) (primary_law W (suc d))
      (inside (record { statement = statement_tail d near_tail; primary = primary_law W d }))
