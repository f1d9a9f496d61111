-- No expression, and no pays without its `;`, ends in `;` or `}`.
use Rattle.std.specs.Prelude.{if◌then◌else◌}
use mathlib.Core.Path.{◌≡◌, refl, sym, ap, ◌∙◌, subst}
use mathlib.Core.Bool.{Bool, true, false, ◌||◌, not}
use mathlib.Core.List.{List, [], ◌∷◌, ◌++◌, append_assoc}
use mathlib.Core.Option.{Option, none, some}
use Prim.Native.Nat.{ℕ, zero, suc, ◌+◌, ◌≤◌, ◌<◌}
use Prim.Native.String.{String}
use native.Mathlib.Omega.{arith}
use lib.Dec.{eqb}
use lib.ListN.{length}
use borrow.Author.Tests.{eqb-true}
use Rattle.tokens.specs.Names.{place}
use Rattle.tokens.specs.Tokens.{Token, code, counts}
use Rattle.grammar.specs.Trees.{Tree, Trees}
use Rattle.grammar.specs.Readers.{Out, ok, refused, Reader, bind, ◌>>=◌, ◌>>◌, Turn, again, done, follow, loop, first, is, skip, give, fail, fail_at, ask, look, peek, read, the, last_of, closes}
use Rattle.grammar.specs.Grammar as G
use Rattle.grammar.specs.Grammar.{deeper, optional, grouped, sum, comparison, expression, items, arguments, method, postfixes, date_of, a_date, content, df, rate_index, Edition, one, two, in_edition, Language}
use Rattle.grammar.proofs.Laws.{Near, near_follows, the_law, Law, Reads, cost, loop_eq, left_shorter, lead, lead_skip}
use Rattle.grammar.proofs.GrammarLaws.{Moves, Each, nothing, just, grouped_law, power_law, comparison_law, group_turn_law, raise_turn_law, item_turn_law, postfix_turn_law, pay_turn_law, primary_law}

-- no expression ends in this
abbrev pub bad : Token → Bool
bad t = closes t || is "End" t

-- does not end in `;` or `}`, if what stands before does not
abbrev pub Fine : List Token → Type 0
Fine x = (d : Token) → bad d ≡ false → bad (last_of d x) ≡ false

-- has a token and does not end so
abbrev pub Firm : List Token → Type 0
Firm x = (d : Token) → bad (last_of d x) ≡ false

abbrev pub Some : List Token → Type 0
Some x = Unit {0}

abbrev pub EndsBy : {A : Type 0} → (List Token → List Token → Type 0) → Reader A → Type 0
EndsBy {A} K m = (ts : List Token) (a : A) (r : List Token) → m ts ≡ ok a r → (used : List Token) × (ts ≡ used ++ r) × K used r

abbrev pub Ends : {A : Type 0} → (List Token → Type 0) → Reader A → Type 0
Ends {A} K m = EndsBy (λ x r. K x) m

pub last_append : (d : Token) (x y : List Token) → last_of d (x ++ y) ≡ last_of (last_of d x) y
unfolding last_of
last_append d [] y = refl
last_append d (t ∷ x) y = last_append (if counts t then t else d) x y

module _ {A B : Type 0} {m : Reader A} {f : A → Reader B} where
  pub bind_by : (K L N : List Token → List Token → Type 0) → ((x y r : List Token) → K x (y ++ r) → L y r → N (x ++ y) r) → EndsBy K m → ((a : A) → EndsBy L (f a)) → EndsBy N (m >>= f)
  unfolding ◌>>=◌
  bind_by K L N h hm hf ts b r e = go (m ts) refl e
    where
      go : (o : Out A) → m ts ≡ o → bind f o ≡ ok b r → (used : List Token) × (ts ≡ used ++ r) × N used r
      go (ok a s) q w =
          let M : (used : List Token) × (ts ≡ used ++ s) × K used s = hm ts a s q in
          let F : (used : List Token) × (s ≡ used ++ r) × L used r = hf a s b r w in
          (M.0 ++ F.0, M.1 ∙ ap (λ l. M.0 ++ l) F.1 ∙ sym (append_assoc M.0 F.0 r), h M.0 F.0 r (subst (K M.0) F.1 M.2) F.2)
      go (refused x p) q w = absurd (let z : ◌≡◌ {A = ℕ} 0 1 = cc in omega arith)

  pub bind_ends : (K L N : List Token → Type 0) → ((x y : List Token) → K x → L y → N (x ++ y)) → Ends K m → ((a : A) → Ends L (f a)) → Ends N (m >>= f)
  bind_ends K L N h = bind_by (λ x r. K x) (λ x r. L x) (λ x r. N x) (λ x y r. h x y)

  pub fine_fine : Ends Fine m → ((a : A) → Ends Fine (f a)) → Ends Fine (m >>= f)
  fine_fine = bind_ends Fine Fine Fine (λ x y p q d e. ap bad (last_append d x y) ∙ q (last_of d x) (p d e))

  pub firm_fine : Ends Firm m → ((a : A) → Ends Fine (f a)) → Ends Firm (m >>= f)
  firm_fine = bind_ends Firm Fine Firm (λ x y p q d. ap bad (last_append d x y) ∙ q (last_of d x) (p d))

  pub then_firm : Ends Some m → ((a : A) → Ends Firm (f a)) → Ends Firm (m >>= f)
  then_firm = bind_ends Some Firm Firm (λ x y p q d. ap bad (last_append d x y) ∙ q (last_of d x))

module _ {A B : Type 0} {m : Reader A} {n : Reader B} where
  pub fine_next : Ends Fine m → Ends Fine n → Ends Fine (m >> n)
  unfolding ◌>>◌
  fine_next hm hn = fine_fine hm (λ a. hn)

  pub firm_next : Ends Firm m → Ends Fine n → Ends Firm (m >> n)
  unfolding ◌>>◌
  firm_next hm hn = firm_fine hm (λ a. hn)

  pub next_firm : Ends Some m → Ends Firm n → Ends Firm (m >> n)
  unfolding ◌>>◌
  next_firm hm hn = then_firm hm (λ a. hn)

module _ {A : Type 0} where
  pub firm_is_fine : {m : Reader A} → Ends Firm m → Ends Fine m
  firm_is_fine h ts a r e = let M : (used : List Token) × (ts ≡ used ++ r) × Firm used = h ts a r e in (M.0, M.1, λ d x. M.2 d)

  pub firm_is_some : {m : Reader A} → Ends Firm m → Ends Some m
  firm_is_some h ts a r e = let M : (used : List Token) × (ts ≡ used ++ r) × Firm used = h ts a r e in (M.0, M.1, tt)

  pub fine_is_some : {m : Reader A} → Ends Fine m → Ends Some m
  fine_is_some h ts a r e = let M : (used : List Token) × (ts ≡ used ++ r) × Fine used = h ts a r e in (M.0, M.1, tt)

  pub fine_give : (a : A) → Ends Fine (give a)
  unfolding give last_of
  fine_give a ts b r e = let q : ts ≡ r = cc in ([], q, λ d x. x)

  pub fail_ends : {K : List Token → Type 0} (n : ℕ) → Ends {A = A} K (fail n)
  unfolding fail
  fail_ends n ts b r e = absurd (let z : ◌≡◌ {A = ℕ} 0 1 = cc in omega arith)

  pub fail_at_ends : {K : List Token → Type 0} (t : Token) (n : ℕ) → Ends {A = A} K (fail_at t n)
  unfolding fail_at
  fail_at_ends t n ts b r e = absurd (let z : ◌≡◌ {A = ℕ} 0 1 = cc in omega arith)

  pub if_ends : {K : List Token → Type 0} (b : Bool) {m n : Reader A} → Ends K m → Ends K n → Ends K (if b then m else n)
  if_ends true hm hn = hm
  if_ends false hm hn = hn

  pub ask_ends : {K : List Token → Type 0} (test : Token → Bool) {m n : Reader A} → Ends K m → Ends K n → Ends K (ask test m n)
  unfolding ask
  ask_ends test hm hn ts a r e = if_ends (test (first ts)) hm hn ts a r e

  pub look_ends : {K : List Token → Type 0} (test : List Token → Bool) {m n : Reader A} → Ends K m → Ends K n → Ends K (look test m n)
  unfolding look
  look_ends test hm hn ts a r e = if_ends (test ts) hm hn ts a r e

module _ {B : Type 0} {f : Token → Reader B} where
  pub peek_ends : {K : List Token → Type 0} → ((t : Token) → Ends K (f t)) → Ends K (peek >>= f)
  unfolding peek ◌>>=◌
  peek_ends h ts b r e = h (first ts) ts b r e

pub read_some : Ends Some read
unfolding read
read_some [] a r e = absurd (let z : ◌≡◌ {A = ℕ} 0 1 = cc in omega arith)
read_some (t ∷ ts) a r e = let q : skip ts ≡ r = cc in (t ∷ lead ts, ap {B = List Token} (λ l. t ∷ l) (lead_skip ts ∙ ap (λ l. lead ts ++ l) q), tt)

last_lead : (d : Token) (ts : List Token) → last_of d (lead ts) ≡ d
unfolding last_of lead
last_lead d [] = refl
last_lead d (t ∷ ts) = go (is "Newline" t) refl (last_lead d ts)
  where
    go : (b : Bool) → is "Newline" t ≡ b → last_of d (lead ts) ≡ d → last_of d (elim b as (λ _. List Token) [ true ↦ t ∷ lead ts | false ↦ [] ]) ≡ d
    go true e h = ap (λ (c : Bool). last_of (if not c then t else d) (lead ts)) e ∙ h
    go false e h = refl

-- a token that is read after a test
pub the_last : (test : Token → Bool) (s : String) → ((t : Token) → is s t ≡ true → test t ≡ false) → ((t : Token) → is s t ≡ true → counts t ≡ true)
    → Ends (λ x. (d : Token) → test (last_of d x) ≡ false) (the s)
unfolding the peek ◌>>=◌ read last_of
the_last test s h g ts a r e = go (is s (first ts)) refl e
  where
    inner : (l : List Token) → ts ≡ l → is s (first l) ≡ true → read l ≡ ok a r → (used : List Token) × (ts ≡ used ++ r) × ((d : Token) → test (last_of d used) ≡ false)
    inner [] w t q = absurd (let z : ◌≡◌ {A = ℕ} 0 1 = cc in omega arith)
    inner (u ∷ l) w t q =
        let z : skip l ≡ r = cc in (
          u ∷ lead l,
          w ∙ ap {B = List Token} (λ x. u ∷ x) (lead_skip l ∙ ap (λ x. lead l ++ x) z),
          λ d. ap (λ (c : Bool). test (last_of (if c then u else d) (lead l))) (g u t) ∙ ap test (last_lead u l) ∙ h u t,
        )

    go : (b : Bool) → is s (first ts) ≡ b → (if b then read else fail 8) ts ≡ ok a r → (used : List Token) × (ts ≡ used ++ r) × ((d : Token) → test (last_of d used) ≡ false)
    go true t q = inner ts refl t q
    go false t q = fail_ends 8 ts a r q

pub the_some : (s : String) → Ends Some (the s)
the_some s ts a r e = let M : Reads Near 1 (the s) ts a r = the_law near_follows s ts a r e in (M.used, M.split, tt)

-- the signs that are read last somewhere in an expression
pub kind_of_lem : (s : String) (t : Token) → is s t ≡ true → (P : ℕ → Type 0) → P (code s) → P t.kind
kind_of_lem s t e P p = subst P (eqb-true (code s) t.kind e) p

the_ends : (s : String) → (eqb (code ";") (code s) || eqb (code "}") (code s) || eqb (code "End") (code s) ≡ false) → (not (eqb (code "Newline") (code s)) ≡ true) → Ends Firm (the s)
the_ends s h g =
    the_last bad s (λ t e. kind_of_lem s t e (λ (k : ℕ). eqb (code ";") k || eqb (code "}") k || eqb (code "End") k ≡ false) h)
    (λ t e. kind_of_lem s t e (λ (k : ℕ). not (eqb (code "Newline") k) ≡ true) g)

pub firm_close : Ends Firm (the ")")
unfolding code
firm_close = the_ends ")" refl refl

pub firm_bracket : Ends Firm (the "]")
unfolding code
firm_bracket = the_ends "]" refl refl

pub firm_comma : Ends Firm (the ",")
unfolding code
firm_comma = the_ends "," refl refl

pub firm_open : Ends Firm (the "(")
unfolding code
firm_open = the_ends "(" refl refl

pub firm_number : Ends Firm (the "number")
unfolding code
firm_number = the_ends "number" refl refl

pub firm_string : Ends Firm (the "string")
unfolding code
firm_string = the_ends "string" refl refl

pub firm_true : Ends Firm (the "true")
unfolding code
firm_true = the_ends "true" refl refl

pub firm_false : Ends Firm (the "false")
unfolding code
firm_false = the_ends "false" refl refl

pub firm_name : Ends Firm (the "name")
unfolding code
firm_name = the_ends "name" refl refl

pub firm_pays : Ends Firm (the "pays")
unfolding code
firm_pays = the_ends "pays" refl refl

-- ---- loops

module _ {S A : Type 0} {step : S → Reader (Turn S A)} (steps : (s : S) → Law Near cost (step s)) (fines : (s : S) → Ends Fine (step s)) where
  fine_at : (n : ℕ) (s : S) (ts : List Token) (a : A) (r : List Token) → length ts < n → loop step s ts ≡ ok a r → (used : List Token) × (ts ≡ used ++ r) × Fine used
  fine_at zero s ts a r h e = absurd (omega arith)
  fine_at (suc n) s ts a r h e = go (λ s' u. fine_at n s' u a r) (step s ts) refl (sym (loop_eq steps s ts) ∙ e)
    where
      go : ((s' : S) (u : List Token) → length u < n → loop step s' u ≡ ok a r → (used : List Token) × (u ≡ used ++ r) × Fine used)
          → (o : Out (Turn S A)) → step s ts ≡ o → follow (loop step) o ≡ ok a r → (used : List Token) × (ts ≡ used ++ r) × Fine used
      go ih (ok (again s') u) w q =
          let l : length u + 1 ≤ length ts = left_shorter (steps s ts (again s') u w) in
          let M : (used : List Token) × (ts ≡ used ++ u) × Fine used = fines s ts (again s') u w in
          let F : (used : List Token) × (u ≡ used ++ r) × Fine used = ih s' u (omega arith) q in (
            M.0 ++ F.0,
            M.1 ∙ ap (λ x. M.0 ++ x) F.1 ∙ sym (append_assoc M.0 F.0 r),
            λ d x. ap bad (last_append d M.0 F.0) ∙ F.2 (last_of d M.0) (M.2 d x),
          )
      go ih (ok (done b) u) w q =
          let z : u ≡ r = cc in
          subst (λ (y : List Token). (used : List Token) × (ts ≡ used ++ y) × Fine used) z (fines s ts (done b) u w)
      go ih (refused x p) w q = absurd (let z : ◌≡◌ {A = ℕ} 0 1 = cc in omega arith)

  pub loop_fine : (s : S) → Ends Fine (loop step s)
  loop_fine s ts a r e = fine_at (suc (length ts)) s ts a r (omega arith) e

-- what is one deeper
pub data EachFirm : Option (Reader Tree) → Type 0 where
  shallow : EachFirm none
  inside : {p : Reader Tree} → Moves p → Ends Firm p → EachFirm (some p)

module _ {A : Type 0} {K : List Token → Type 0} {k : Reader Tree → Reader A} where
  pub deeper_ends : (t : Token) (o : Option (Reader Tree)) → EachFirm o → ((p : Reader Tree) → Moves p → Ends Firm p → Ends K (k p)) → Ends K (deeper t o k)
  unfolding deeper
  deeper_ends t none shallow h = fail_at_ends t 15
  deeper_ends t (some p) (inside m f) h = h p m f

-- ---- the grammar

ruleset ends = (fine_fine, fine_next, fine_give, fail_ends, fail_at_ends, if_ends, ask_ends, peek_ends)

group_turn_fine : (op : Token → Bool) (p : Reader Tree) → Ends Firm p → (b : ℕ) (l : Tree) → Ends Fine (G.group_turn op p b l)
unfolding G.group_turn
group_turn_fine op p f b l = ask_ends op (firm_is_fine (then_firm read_some λ t. firm_fine f λ r. fine_give _)) (fine_give _)

pub grouped_firm : (op : Token → Bool) (p : Reader Tree) → Moves p → Ends Firm p → Ends Firm (grouped op p)
unfolding grouped
grouped_firm op p h f =
    peek_ends λ t. firm_fine f λ l. loop_fine (group_turn_law op p h _) (group_turn_fine op p f _) l

raise_turn_fine : (p : Reader Tree) → Ends Firm p → (c : G.Chain) → Ends Fine (G.raise_turn p c)
unfolding G.raise_turn
raise_turn_fine p f c = ask_ends (is "**") (firm_is_fine (next_firm read_some (peek_ends λ t. firm_fine f λ r. fine_give _))) (fine_give _)

pub raised_firm : (p : Reader Tree) → Moves p → Ends Firm p → Ends Firm (G.raised p)
unfolding G.raised
raised_firm p h f = peek_ends λ t. firm_fine f λ l. loop_fine (raise_turn_law p h) (raise_turn_fine p f) _

module _ {A : Type 0} {K : List Token → Type 0} where
  pub edition_ends : (e : Edition) {m n : Reader A} → Ends K m → Ends K n → Ends K (in_edition e m n)
  edition_ends one hm hn = hm
  edition_ends two hm hn = hn

-- where the last is read by `the`
ruleset firm_last = (peek_ends, if_ends, deeper_ends, fail_ends, fail_at_ends, next_firm, then_firm, firm_next, read_some, fine_give)

pub method_fine : (b : ℕ) (x : Tree) (m : Token) (es : Trees) → Ends Fine (method b x m es)
unfolding method
method_fine b x m es = search ends depth 9

pub each_moves : (o : Option (Reader Tree)) → EachFirm o → Each o
each_moves none shallow = nothing
each_moves (some p) (inside m f) = just m

date_of_fine : (t : Token) → Ends Fine (date_of t)
unfolding date_of
date_of_fine t = search ends depth 6

a_date_firm : Ends Firm a_date
unfolding a_date
a_date_firm = firm_fine firm_string date_of_fine

module _ {A : Type 0} where
  optional_fine : (s : String) (a : A) (m : Reader A) → Ends Firm m → Ends Fine (optional s a m)
  unfolding optional
  optional_fine s a m h = ask_ends (is s) (firm_is_fine (next_firm (the_some s) h)) (fine_give a)

df_firm : (b : ℕ) → Ends Firm (df b)
unfolding df
df_firm b =
    next_firm (firm_is_some firm_open) (then_firm (firm_is_some a_date_firm) λ d.
    then_firm (fine_is_some (optional_fine "," _ _ (firm_fine firm_string λ s. fine_give _))) λ e. firm_next firm_close (fine_give e))

rate_index_firm : (b : ℕ) → Ends Firm (rate_index b)
unfolding rate_index
rate_index_firm b =
    next_firm (firm_is_some firm_open) (then_firm (firm_is_some firm_string) λ s. next_firm (firm_is_some firm_comma) (then_firm (firm_is_some firm_string) λ t.
    next_firm (firm_is_some firm_comma) (then_firm (firm_is_some firm_string) λ u. firm_next firm_close
    (fine_fine (date_of_fine t) λ a. fine_fine (date_of_fine u) λ b. fine_give _))))

module _ (W : Language) where
  pub power_firm : (p : Reader Tree) → Moves p → Ends Firm p → Ends Firm (G.power W p)
  unfolding G.power
  power_firm p h f = search (edition_ends, grouped_firm, raised_firm)

  pub signed_firm : (p : Reader Tree) → Moves p → Ends Firm p → Ends Firm (G.signed W p)
  unfolding G.signed
  signed_firm p h f = search (edition_ends, power_firm)

  pub sum_firm : (p : Reader Tree) → Moves p → Ends Firm p → Ends Firm (sum W p)
  unfolding sum
  sum_firm p h f = search (grouped_firm, grouped_law, power_firm, power_law)

  pub comparison_firm : (p : Reader Tree) → Moves p → Ends Firm p → Ends Firm (comparison W p)
  unfolding comparison
  comparison_firm p h f =
      peek_ends λ s. firm_fine (sum_firm p h f) λ l. ask_ends _ (firm_is_fine (then_firm read_some λ t. firm_fine (sum_firm p h f) λ r. fine_give _)) (fine_give _)

  pub expression_firm : (p : Reader Tree) → Moves p → Ends Firm p → Ends Firm (expression W p)
  unfolding expression
  expression_firm p h f = search (edition_ends, grouped_firm, grouped_law, comparison_firm, comparison_law)

  item_turn_fine : (s : String) (p : Reader Tree) → Moves p → Ends Firm p → (es : Trees) → Ends Fine (G.item_turn W s p es)
  unfolding G.item_turn
  item_turn_fine s p h f es = search (ends, firm_is_fine firm_comma, firm_is_fine (expression_firm p h f)) depth 9

  pub items_fine : (s : String) (p : Reader Tree) → Moves p → Ends Firm p → Ends Fine (items W s p)
  unfolding items
  items_fine s p h f = loop_fine (item_turn_law W s p h) (item_turn_fine s p h f) _

  items_some : (s : String) (p : Reader Tree) → Moves p → Ends Firm p → Ends Some (items W s p)
  items_some s p h f = fine_is_some (items_fine s p h f)

  expression_some : (p : Reader Tree) → Moves p → Ends Firm p → Ends Some (expression W p)
  expression_some p h f = firm_is_some (expression_firm p h f)

  expression_fine : (p : Reader Tree) → Moves p → Ends Firm p → Ends Fine (expression W p)
  expression_fine p h f = firm_is_fine (expression_firm p h f)

  pub arguments_firm : (o : Option (Reader Tree)) → EachFirm o → Ends Firm (arguments W o)
  unfolding arguments
  arguments_firm o g = search (firm_last, firm_close, items_some) depth 12

  postfix_turn_fine : (o : Option (Reader Tree)) → EachFirm o → (b : ℕ) (x : Tree) → Ends Fine (G.postfix_turn W o b x)
  unfolding G.postfix_turn
  postfix_turn_fine o g b x =
      peek_ends λ t. if_ends (is "." t)
      (firm_is_fine (next_firm read_some (then_firm (firm_is_some firm_name) λ m. firm_fine (arguments_firm o g) λ es. fine_fine (method_fine b x m es) λ y. fine_give _)))
      (if_ends (is "[" t)
      (deeper_ends t o g λ p h f. firm_is_fine (next_firm read_some (then_firm (expression_some p h f) λ i. firm_next firm_bracket (fine_give _))))
      (fine_give (done x)))

  pub postfixes_fine : (o : Option (Reader Tree)) → EachFirm o → (b : ℕ) (x : Tree) → Ends Fine (postfixes W o b x)
  unfolding postfixes
  postfixes_fine o g b x = loop_fine (postfix_turn_law W o (each_moves o g) b) (postfix_turn_fine o g b) x

  currency_of_fine : (t : Token) → Ends Fine (G.currency_of W t)
  unfolding G.currency_of
  currency_of_fine t = search ends depth 6

  a_currency_firm : Ends Firm (G.a_currency W)
  unfolding G.a_currency
  a_currency_firm = firm_fine firm_string currency_of_fine

  equity_fine : (b : ℕ) (t : Token) → Ends Fine (G.equity W b t)
  unfolding G.equity
  equity_fine b t = fine_fine (optional_fine "," 0 a_date a_date_firm) λ d. fine_give _

  pair_fine : (b c : ℕ) → Ends Fine (G.pair W b c)
  unfolding G.pair
  pair_fine b c = optional_fine "," _ _ (firm_fine a_currency_firm λ k. fine_fine (optional_fine "," 0 a_date a_date_firm) λ d. fine_give _)

  spot_firm : (b : ℕ) → Ends Firm (G.spot W b)
  unfolding G.spot
  spot_firm b =
      next_firm (firm_is_some firm_open) (then_firm (firm_is_some firm_string) λ s.
      then_firm (search (if_ends, fine_is_some (equity_fine b s), fine_is_some (pair_fine b (place W.currencies (content s))))) λ e. firm_next firm_close (fine_give e))

  cvg_fine : (t : Token) (es : Trees) → Ends Fine (G.cvg W t es)
  unfolding G.cvg
  cvg_fine t es = search ends depth 8

  call_firm : (o : Option (Reader Tree)) → EachFirm o → (t : Token) (c : ℕ × ℕ × ℕ) → Ends Firm (G.call W o t c)
  unfolding G.call
  call_firm o g t c = firm_fine (arguments_firm o g) λ es. search (ends, cvg_fine) depth 8

  pub named_fine : (t : Token) → Ends Fine (G.named W t)
  unfolding G.named
  named_fine t = search ends depth 6

  name_fine : (o : Option (Reader Tree)) → EachFirm o → (t : Token) → Ends Fine (G.name W o t)
  unfolding G.name
  name_fine o g t =
      search (
        if_ends,
        firm_is_fine (call_firm o g t (G.call_of t.text G.calls)),
        firm_is_fine (spot_firm t.from),
        firm_is_fine (df_firm t.from),
        firm_is_fine (rate_index_firm t.from),
        fine_fine (named_fine t) (postfixes_fine o g t.from),
      ) depth 8

  pay_turn_fine : (p : Reader Tree) → Moves p → Ends Firm p → (es : Trees) → Ends Fine (G.pay_turn W p es)
  unfolding G.pay_turn
  pay_turn_fine p h f es = search (ends, expression_fine) depth 8

  payments_fine : (p : Reader Tree) → Moves p → Ends Firm p → Ends Fine (G.payments W p)
  unfolding G.payments
  payments_fine p h f = loop_fine (pay_turn_law W p h) (pay_turn_fine p h f) _

  pub pays_firm : (o : Option (Reader Tree)) → EachFirm o → Ends Firm (G.pays W o)
  unfolding G.pays
  pays_firm o g = peek_ends λ t. deeper_ends t o g λ p h f.
      firm_next firm_pays (fine_fine (payments_fine p h f) λ es.
      fine_fine (optional_fine "on" 0 a_date a_date_firm) λ d. fine_fine (optional_fine "in" 0 (G.a_currency W) a_currency_firm) λ c. fine_give _)

  minus_firm : (o : Option (Reader Tree)) → EachFirm o → (t : Token) → Ends Firm (G.minus W o t)
  unfolding G.minus
  minus_firm o g s = look_ends (G.lone W) (search (firm_number, firm_fine, fine_give)) (search (firm_last, signed_firm, firm_fine) depth 9)

  primary_over_firm : (o : Option (Reader Tree)) → EachFirm o → Ends Firm (G.primary_over W o)
  unfolding G.primary_over
  primary_over_firm o g = peek_ends λ t.
      search (
        if_ends,
        deeper_ends,
        fail_ends,
        next_firm,
        then_firm,
        firm_next,
        firm_fine,
        read_some,
        fine_give,
        firm_close,
        firm_bracket,
        firm_number,
        firm_true,
        firm_false,
        firm_string,
        firm_name,
        expression_some,
        signed_firm,
        items_some,
        minus_firm,
        pays_firm,
        name_fine,
        postfixes_fine,
      ) depth 20

  pub primary_firm : (d : ℕ) → Ends Firm (G.primary W d)
  unfolding G.primary
  primary_firm zero = primary_over_firm none shallow
  primary_firm (suc d) = primary_over_firm (some (G.primary W d)) (inside (primary_law W d) (primary_firm d))
