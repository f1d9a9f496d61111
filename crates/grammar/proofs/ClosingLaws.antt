-- A statement whose last token is `;` or `}`: what may stand behind it is nearly anything, End included.
use Rattle.std.specs.Prelude.{if◌then◌else◌}
use mathlib.Core.Path.{◌≡◌, refl, sym, ap, ◌∙◌}
use mathlib.Core.Bool.{Bool, true, false, ◌||◌, not, true≢false}
use mathlib.Core.List.{List, [], ◌∷◌, ◌++◌, append_assoc}
use mathlib.Core.Option.{Option, none, some}
use Prim.Native.Nat.{ℕ, zero, suc}
use Prim.Native.String.{String}
use native.Mathlib.Omega.{arith}
use lib.Dec.{eqb}
use lib.ListN.{length, length-append}
use Rattle.tokens.specs.Tokens.{Token, code, counts}
use Rattle.grammar.specs.Trees.{Tree}
use Rattle.grammar.specs.Readers.{Out, ok, refused, Reader, bind, ◌>>=◌, ◌>>◌, first, is, give, fail, fail_at, ask, peek, read, the, last_of, closes}
use Rattle.grammar.specs.Grammar as G
use Rattle.grammar.specs.Grammar.{deeper, optional, Language, Inner, deep, next_kind}
use Rattle.grammar.proofs.Laws.{Rel, Near, Follows, near_follows, near_append, Reads, Law, bind_goes, fail_at_law, the_law, loop_law}
use Rattle.grammar.proofs.GrammarLaws.{Moves, Each, InnerLaw, expression_law, block_turn_law, named_law, pays_law, primary_law, target_law, moving_stays}
use Rattle.grammar.proofs.StatementLaws.{then₁, moved, given, ended_tail, if_over_tail, for_over_tail, assign_tail, compound_tail, near_tail, statement_tail, name_first_two, over_reads}
use Rattle.grammar.proofs.EndingLaws.{bad, Fine, Firm, Ends, last_append, EachFirm, shallow, inside, each_moves, pays_firm, primary_firm, Some, bind_ends, if_ends, ask_ends, peek_ends, fail_at_ends, the_some, the_last, kind_of_lem, read_some, firm_name, firm_fine, firm_is_fine, named_fine}

-- what was read, up to r, ends in `;` or `}`
abbrev pub Closing : List Token → List Token → Type 0
Closing ts r = (x : List Token) → ts ≡ x ++ r → (d : Token) → bad d ≡ false → closes (last_of d x) ≡ true

-- the law of a reading that ends so
abbrev pub Closed : {A : Type 0} → Rel → ℕ → Reader A → Type 0
Closed {A} P c m = (ts : List Token) (a : A) (r : List Token) → m ts ≡ ok a r → Closing ts r → Reads P c m ts a r

not_bad : (t : Token) → bad t ≡ false → closes t ≡ false
not_bad t e = go (closes t) e
  where
    go : (b : Bool) → b || is "End" t ≡ false → b ≡ false
    go true h = h
    go false h = refl

last_same : (d d' : Token) (x : List Token) → closes d ≡ closes d' → closes (last_of d x) ≡ closes (last_of d' x)
unfolding last_of
last_same d d' [] e = e
last_same d d' (t ∷ x) e = last_same (if counts t then t else d) (if counts t then t else d') x (go (counts t))
  where
    go : (b : Bool) → closes (if b then t else d) ≡ closes (if b then t else d')
    go true = refl
    go false = e

module _ {A : Type 0} {P : Rel} where
  pub law_closed : (c : ℕ) {m : Reader A} → Law P (λ a. c) m → Closed P c m
  law_closed c h ts a r e g = h ts a r e

  fail_at_closed : (c : ℕ) (t : Token) (n : ℕ) → Closed {A = A} P c (fail_at t n)
  fail_at_closed c t n = law_closed c (fail_at_law (λ a. c) t n)

  pub if_closed : (c : ℕ) (b : Bool) {m n : Reader A} → Closed P c m → Closed P c n → Closed P c (if b then m else n)
  if_closed c true hm hn = hm
  if_closed c false hm hn = hn

module _ {B : Type 0} {P : Rel} {f : Token → Reader B} where
  pub peek_closed : ((t : Token) → Closed P 1 (f t)) → Closed P 1 (peek >>= f)
  unfolding peek ◌>>=◌
  peek_closed h ts b r e g =
      let M : Reads P 1 (f (first ts)) ts b r = h (first ts) ts b r e g in
      record {
        used = M.used;
        split = M.split;
        enough = M.enough;
        goes = λ nl r' q k p.
            ap (λ (t : Token). f t (M.used ++ (nl ++ r'))) (near_append M.used r (nl ++ r') M.enough ∙ ap first (sym M.split)) ∙ M.goes nl r' q k p;
      }

module _ {A B : Type 0} {P : Rel} {m : Reader A} where
  -- a reading that is only given another form
  pub map_closed : (c : ℕ) (g : A → B) → Closed P c m → Closed P c (m >>= λ a. give (g a))
  unfolding ◌>>=◌ give
  map_closed c g h ts b r e k = go (m ts) refl e
    where
      go : (o : Out A) → m ts ≡ o → bind {B = B} (λ a. give (g a)) o ≡ ok b r → Reads P c (m >>= λ a. give (g a)) ts b r
      go (ok a s) q w =
          let z : s ≡ r = cc in
          let y : g a ≡ b = cc in
          let M : Reads P c m ts a r = h ts a r (q ∙ ap (ok a) z) k in
          record {
            used = M.used;
            split = M.split;
            enough = M.enough;
            goes = λ nl r' n k' p. ap (bind {B = B} (λ x. give (g x))) (M.goes nl r' n k' p) ∙ ap (λ x. ok x r') y;
          }
      go (refused x p) q w = absurd (let z : ◌≡◌ {A = ℕ} 0 1 = cc in omega arith)

module _ {A B : Type 0} {P : Rel} {m : Reader A} {f : A → Reader B} where
  pub then_closed : Law Near (λ a. 1) m → Ends Fine m → ((a : A) → Closed P 1 (f a)) → Closed P 1 (m >>= f)
  unfolding ◌>>=◌
  then_closed hm en hf ts b r e k = go (m ts) refl e
    where
      go : (o : Out A) → m ts ≡ o → bind f o ≡ ok b r → Reads P 1 (m >>= f) ts b r
      go (ok a s) q w =
          let M : Reads Near 1 m ts a s = hm ts a s q in
          let E : (used : List Token) × (ts ≡ used ++ s) × Fine used = en ts a s q in
          let c : Closing s r = λ z x d n.
          last_same d (last_of d E.0) z (not_bad d n ∙ sym (not_bad (last_of d E.0) (E.2 d n)))
          ∙ ap closes (sym (last_append d E.0 z))
          ∙ k (E.0 ++ z) (E.1 ∙ ap (λ l. E.0 ++ l) x ∙ sym (append_assoc E.0 z r)) d n in
          let F : Reads P 1 (f a) s b r = hf a s b r w c in
          record {
            used = M.used ++ F.used;
            split = M.split ∙ ap (λ l. M.used ++ l) F.split ∙ sym (append_assoc M.used F.used r);
            enough = simp length-append (omega arith);
            goes = bind_goes m f P Near near_follows M.used F.used s r a b F.split (λ z. absurd (omega (arith, ap length z, F.enough))) M.goes F.goes;
          }
      go (refused x p) q w = absurd (let z : ◌≡◌ {A = ℕ} 0 1 = cc in omega arith)

-- the law of what is one deeper
pub data EachInnerFirm : Option Inner → Type 0 where
  flat : EachInnerFirm none
  under : {i : Inner} → InnerLaw i → Ends Firm i.primary → EachInnerFirm (some i)

pub firm_deep : (o : Option Inner) → EachInnerFirm o → EachFirm (deep o)
firm_deep none flat = shallow
firm_deep (some i) (under h f) = inside h.primary f

-- ---- pays: its `;` is read

-- a token that is not bad
start : Token
start = record { kind = 1; from = 0; text = [] }

start_plain : bad start ≡ false
unfolding code start
start_plain = refl

module _ {P : Rel} (F : Follows P) (W : Language) where
  -- pays and its `;`
  strict : Option (Reader Tree) → Reader Tree
  strict o = G.pays W o >>= λ e. (the ";" >> give e)

  strict_law : (o : Option (Reader Tree)) → Each o → Law P (λ b. 1) (strict o)
  unfolding strict ◌>>◌
  strict_law o g = then₁ (moving_stays (pays_law W o g)) λ e. moved F (the_law F ";") λ t. given F e

  strict_paid : (o : Option (Reader Tree)) (ts : List Token) (e : Tree) (r : List Token) → strict o ts ≡ ok e r → G.paid W o ts ≡ ok e r
  unfolding strict G.paid optional ◌>>=◌ ◌>>◌ ask the peek fail
  strict_paid o ts e r h = go (G.pays W o ts) h
    where
      go₁ : (x : Tree) (s : List Token) (b : Bool) → is ";" (first s) ≡ b → bind (λ t. give x) ((if b then read else fail 8) s) ≡ ok e r
          → (if b then (the ";" >> give x) else give x) s ≡ ok e r
      go₁ x s true w q = ap (λ (c : Bool). bind (λ t. give x) ((if c then read else fail 8) s)) w ∙ q
      go₁ x s false w q = absurd (let z : ◌≡◌ {A = ℕ} 0 1 = cc in omega arith)

      go : (o' : Out Tree) → bind (λ x. (the ";" >> give x)) o' ≡ ok e r → bind (λ x. optional ";" x (give x)) o' ≡ ok e r
      go (ok x s) q = go₁ x s (is ";" (first s)) refl q
      go (refused n p) q = q

  -- the other way, where the `;` stands; where it does not, nothing closes
  paid_strict : (o : Option (Reader Tree)) → EachFirm o → (ts : List Token) (e : Tree) (r : List Token) → G.paid W o ts ≡ ok e r → Closing ts r → strict o ts ≡ ok e r
  unfolding strict G.paid optional ◌>>=◌ ◌>>◌ ask the peek give
  paid_strict o g ts e r h k = go (G.pays W o ts) refl h
    where
      go₁ : (x : Tree) (s : List Token) → G.pays W o ts ≡ ok x s → (b : Bool) → is ";" (first s) ≡ b
          → (if b then (the ";" >> give x) else give x) s ≡ ok e r → bind (λ t. give x) ((if is ";" (first s) then read else fail 8) s) ≡ ok e r
      go₁ x s w true t q = q
      go₁ x s w false t q =
          let z : s ≡ r = cc in
          let E : (used : List Token) × (ts ≡ used ++ s) × Firm used = pays_firm W o g ts x s w in
          absurd (true≢false (sym (k E.0 (E.1 ∙ ap (λ l. E.0 ++ l) z) start start_plain) ∙ not_bad (last_of start E.0) (E.2 start)))

      go : (o' : Out Tree) → G.pays W o ts ≡ o' → bind (λ x. optional ";" x (give x)) o' ≡ ok e r → bind (λ x. (the ";" >> give x)) o' ≡ ok e r
      go (ok x s) w q = go₁ x s w (is ";" (first s)) refl q
      go (refused n p) w q = q

  pub paid_closed : (o : Option (Reader Tree)) → EachFirm o → Closed P 1 (G.paid W o)
  paid_closed o g ts e r h k =
      let M : Reads P 1 (strict o) ts e r = strict_law o (each_moves o g) ts e r (paid_strict o g ts e r h k) in
      record {
        used = M.used;
        split = M.split;
        enough = M.enough;
        goes = λ nl r' q n p. strict_paid o (M.used ++ (nl ++ r')) e r' (M.goes nl r' q n p);
      }

  target_fine : Ends Fine (G.target W)
  unfolding G.target
  target_fine = firm_is_fine (firm_fine firm_name (named_fine W))

  assign_paid_closed : (o : Option (Reader Tree)) → EachFirm o → Closed P 1 (G.assign_paid W o)
  unfolding G.assign_paid
  assign_paid_closed o g = then_closed (target_law W) target_fine λ x. map_closed 1 _ (paid_closed o g)

  name_first_closed : (p : Reader Tree) (o : Option (Reader Tree)) → Moves p → EachFirm o → (k : ℕ) → Closed P 1 (G.name_first W p o k)
  unfolding G.name_first
  name_first_closed p o h g k =
      search (if_closed, law_closed 1 (assign_tail F W p h), law_closed 1 (compound_tail F W p h), assign_paid_closed o g, law_closed 1 (ended_tail F W p h))

  plain_closed : ((r r' : List Token) → P r r' → is "else" (first r') ≡ is "else" (first r))
      → (p : Reader Tree) (o : Option Inner) → Moves p → EachInnerFirm o → Closed P 1 (G.plain W p o)
  unfolding G.plain deeper
  plain_closed no_else p none h flat = peek_closed λ t. search (if_closed, fail_at_closed, paid_closed none shallow, law_closed 1 (ended_tail F W p h))
  plain_closed no_else p (some i) h (under g f) = peek_closed λ t.
      search (if_closed, law_closed 1 (if_over_tail F W no_else i g), law_closed 1 (for_over_tail F W i g), paid_closed (some i.primary) (inside g.primary f), law_closed 1 (ended_tail F W p h))

  statement_over_closed : ((r r' : List Token) → P r r' → is "else" (first r') ≡ is "else" (first r))
      → (p : Reader Tree) (o : Option Inner) → Moves p → EachInnerFirm o → Closed P 1 (G.statement_over W p o)
  statement_over_closed no_else p o h g ts a r e k =
      over_reads W p o ts a r (name_first_two W p (deep o) h (each_moves (deep o) (firm_deep o g)))
      (λ q. name_first_closed p (deep o) h (firm_deep o g) (next_kind W ts) ts a r q k) (λ q. plain_closed no_else p o h g ts a r q k) e

  -- a statement that ends in `;` or `}` is read the same, whatever stands behind it that agrees on `else`
  pub statement_closed : ((r r' : List Token) → P r r' → is "else" (first r') ≡ is "else" (first r)) → (d : ℕ) → Closed P 1 (G.statement W d)
  unfolding G.statement
  statement_closed no_else zero = statement_over_closed no_else (G.primary W zero) none (primary_law W zero) flat
  statement_closed no_else (suc d) =
      statement_over_closed no_else (G.primary W (suc d)) (some (record { statement = G.statement W d; primary = G.primary W d })) (primary_law W (suc d))
      (under (record { statement = statement_tail W d near_tail; primary = primary_law W d }) (primary_firm W d))

-- ---- no statement reads End

abbrev pub NoEnd : List Token → Type 0
NoEnd x = (d : Token) → is "End" (last_of d x) ≡ false

abbrev KeepsEnd : List Token → Type 0
KeepsEnd x = (d : Token) → is "End" d ≡ false → is "End" (last_of d x) ≡ false

module _ {A B : Type 0} {m : Reader A} {f : A → Reader B} where
  some_no_end : Ends Some m → ((a : A) → Ends NoEnd (f a)) → Ends NoEnd (m >>= f)
  some_no_end = bind_ends Some NoEnd NoEnd (λ x y p q d. ap (λ t. is "End" t) (last_append d x y) ∙ q (last_of d x))

  no_end_keeps : Ends NoEnd m → ((a : A) → Ends KeepsEnd (f a)) → Ends NoEnd (m >>= f)
  no_end_keeps = bind_ends NoEnd KeepsEnd NoEnd (λ x y p q d. ap (λ t. is "End" t) (last_append d x y) ∙ q (last_of d x) (p d))

module _ {A : Type 0} {m : Reader A} where
  pub law_some : (c : A → ℕ) → Law Near c m → Ends Some m
  law_some c h ts a r e = let M : Reads Near (c a) m ts a r = h ts a r e in (M.used, M.split, tt)

  firm_no_end : Ends Firm m → Ends NoEnd m
  firm_no_end h ts a r e =
      let M : (used : List Token) × (ts ≡ used ++ r) × Firm used = h ts a r e in
      (M.0, M.1, λ d. go (last_of d M.0) (closes (last_of d M.0)) (M.2 d))
    where
      go : (t : Token) (b : Bool) → b || is "End" t ≡ false → is "End" t ≡ false
      go t true q = absurd (true≢false q)
      go t false q = q

  no_end_is_keeps : Ends NoEnd m → Ends KeepsEnd m
  no_end_is_keeps h ts a r e = let M : (used : List Token) × (ts ≡ used ++ r) × NoEnd used = h ts a r e in (M.0, M.1, λ d n. M.2 d)

keeps_give : {A : Type 0} (a : A) → Ends KeepsEnd (give a)
unfolding give last_of
keeps_give a ts b r e = let q : ts ≡ r = cc in ([], q, λ d x. x)

the_no_end : (s : String) → (eqb (code "End") (code s) ≡ false) → (not (eqb (code "Newline") (code s)) ≡ true) → Ends NoEnd (the s)
the_no_end s h g =
    the_last (is "End") s (λ t e. kind_of_lem s t e (λ (k : ℕ). eqb (code "End") k ≡ false) h) (λ t e. kind_of_lem s t e (λ (k : ℕ). not (eqb (code "Newline") k) ≡ true) g)

semicolon_no_end : Ends NoEnd (the ";")
unfolding code
semicolon_no_end = the_no_end ";" refl refl

brace_no_end : Ends NoEnd (the "}")
unfolding code
brace_no_end = the_no_end "}" refl refl

block_no_end : (s : Reader Tree) → Moves s → Ends NoEnd (G.block s)
unfolding G.block ◌>>◌
block_no_end s h =
    some_no_end (the_some "{") λ t. some_no_end (law_some (λ a. 0) (loop_law (block_turn_law s h) _)) λ ss. no_end_keeps brace_no_end λ u. keeps_give ss

module _ (W : Language) where
  ended_no_end : (p : Reader Tree) → Moves p → Ends NoEnd (G.ended W p)
  unfolding G.ended ◌>>◌
  ended_no_end p h = some_no_end (law_some (λ a. 1) (expression_law W p h)) λ e. no_end_keeps semicolon_no_end λ t. keeps_give e

  if_over_no_end : (i : Inner) → InnerLaw i → Ends NoEnd (G.if_over W i)
  unfolding G.if_over ◌>>◌
  if_over_no_end i h =
      some_no_end read_some λ t. some_no_end (law_some (λ a. 1) (expression_law W i.primary h.primary)) λ e.
      no_end_keeps (block_no_end i.statement h.statement) λ ss.
      ask_ends (is "else") (no_end_is_keeps (some_no_end read_some λ u. no_end_keeps (block_no_end i.statement h.statement) λ us. keeps_give _)) (keeps_give _)

  for_over_no_end : (i : Inner) → InnerLaw i → Ends NoEnd (G.for_over W i)
  unfolding G.for_over ◌>>◌
  for_over_no_end i h =
      some_no_end read_some λ t. some_no_end (the_some "name") λ v. some_no_end (law_some (λ a. 0) (named_law W v)) λ x. some_no_end (the_some "in") λ u.
      some_no_end (law_some (λ a. 1) (expression_law W i.primary h.primary)) λ e. no_end_keeps (block_no_end i.statement h.statement) λ ss. keeps_give _

  paid_no_end : (o : Option (Reader Tree)) → EachFirm o → Ends NoEnd (G.paid W o)
  unfolding G.paid optional ◌>>◌
  paid_no_end o g =
      no_end_keeps (firm_no_end (pays_firm W o g)) λ e. ask_ends (is ";") (no_end_is_keeps (no_end_keeps semicolon_no_end λ t. keeps_give e)) (keeps_give e)

  assign_no_end : (p : Reader Tree) → Moves p → Ends NoEnd (G.assign W p)
  unfolding G.assign ◌>>◌
  assign_no_end p h = some_no_end (law_some (λ a. 1) (target_law W)) λ x. some_no_end read_some λ t. no_end_keeps (ended_no_end p h) λ e. keeps_give _

  compound_no_end : (p : Reader Tree) → Moves p → Ends NoEnd (G.compound W p)
  unfolding G.compound
  compound_no_end p h = some_no_end (law_some (λ a. 1) (target_law W)) λ x. some_no_end read_some λ t. no_end_keeps (ended_no_end p h) λ e. keeps_give _

  assign_paid_no_end : (o : Option (Reader Tree)) → EachFirm o → Ends NoEnd (G.assign_paid W o)
  unfolding G.assign_paid
  assign_paid_no_end o g = some_no_end (law_some (λ a. 1) (target_law W)) λ x. no_end_keeps (paid_no_end o g) λ e. keeps_give _

  name_first_no_end : (p : Reader Tree) (o : Option (Reader Tree)) → Moves p → EachFirm o → (k : ℕ) → Ends NoEnd (G.name_first W p o k)
  unfolding G.name_first
  name_first_no_end p o h g k = search (if_ends, assign_no_end p h, compound_no_end p h, assign_paid_no_end o g, ended_no_end p h)

  plain_no_end : (p : Reader Tree) (o : Option Inner) → Moves p → EachInnerFirm o → Ends NoEnd (G.plain W p o)
  unfolding G.plain deeper
  plain_no_end p none h flat = peek_ends λ t. search (if_ends, fail_at_ends, paid_no_end none shallow, ended_no_end p h)
  plain_no_end p (some i) h (under g f) = peek_ends λ t.
      search (if_ends, if_over_no_end i g, for_over_no_end i g, paid_no_end (some i.primary) (inside g.primary f), ended_no_end p h)

  statement_over_no_end : (p : Reader Tree) (o : Option Inner) → Moves p → EachInnerFirm o → Ends NoEnd (G.statement_over W p o)
  unfolding G.statement_over
  statement_over_no_end p o h g ts a r e = if_ends (is "name" (first ts)) (name_first_no_end p (deep o) h (firm_deep o g) (next_kind W ts)) (plain_no_end p o h g) ts a r e

  -- no statement reads End
  pub statement_no_end : (d : ℕ) → Ends NoEnd (G.statement W d)
  unfolding G.statement
  statement_no_end zero = statement_over_no_end (G.primary W zero) none (primary_law W zero) flat
  statement_no_end (suc d) =
      statement_over_no_end (G.primary W (suc d)) (some (record { statement = G.statement W d; primary = G.primary W d })) (primary_law W (suc d))
      (under (record { statement = statement_tail W d near_tail; primary = primary_law W d }) (primary_firm W d))
