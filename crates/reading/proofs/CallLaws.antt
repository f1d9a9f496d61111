-- Calls at a cursor: their names, the strings that they take, dates and currencies in these, and what is read behind a name.
use Rattle.std.specs.Prelude.{Result, Ok, Err, Option, Some, None, if◌then◌else◌}
use mathlib.Core.Path.{◌≡◌, refl, sym, ap, ◌∙◌, subst}
use mathlib.Core.Bool.{Bool}
use mathlib.Core.List.{List, []}
use Prim.Native.Nat.{ℕ, suc, ◌+◌, ◌-◌, ◌≤◌}
use native.Mathlib.Omega.{arith}
use lib.Dec.{eqb}
use borrow.Author.Tests.{eq-eqb, ne_eqb}
use lib.ListN.{length, take, drop}
use Rattle.tokens.specs.Names.{names, place, index_of}
use Rattle.tokens.specs.Dates.{date, unless_0}
use Rattle.tokens.specs.Tokens.{Token, code}
use Rattle.tokens.specs.declared.cursor.Cursor.{Cursor}
use Rattle.tokens.proofs.NameLaws.{place_le, index_some, index_none}
use Rattle.grammar.specs.Trees.{Tree, node, nil, fields}
use Rattle.grammar.specs.Readers.{Out, ok, refused, Reader, bind, ◌>>=◌, ◌>>◌, give, fail_at, the}
use Rattle.grammar.specs.Grammar.{Language, content, optional, date_of, a_date, currency_of, a_currency, curve, df, rate_of, rate_index, equity, pair, spot_of, spot}
use Rattle.reading.specs.Calls.{optional_by, ending}
use Rattle.reading.specs.Meets.{toks_at, token_at, Holds, Follows, the_by, Takes, MeetsNumber, MeetsLeaf, Leads}
use Rattle.reading.specs.Few.{Few}
use Rattle.reading.specs.declared.records.Node.{Node}
use Rattle.reading.specs.Faults.{refused_by}
use Rattle.reading.specs.declared.answers.Fault.{Fault}
use Rattle.reading.specs.declared.answers.Leaf.{Leaf}
use Rattle.reading.specs.declared.answers.Number.{Number}
use Rattle.reading.proofs.HoldLaws.{end_in, ask_yes, ask_no, by_yes, by_no}
use Rattle.reading.proofs.AtomLaws.{unless_none, unless_some, string_wide, content_is, content_length}
use Rattle.reading.proofs.StepLaws.{bind_refused}

-- ---- one reader, then another

module _ {A B : Type 0} (m : Reader A) (ts : List Token) where
  pub then_ok : {a : A} {us : List Token} (f : A → Reader B) → m ts ≡ ok a us → (m >>= f) ts ≡ f a us
  unfolding ◌>>=◌
  then_ok f e = ap (bind f) e

  pub next_ok : {a : A} {us : List Token} (n : Reader B) → m ts ≡ ok a us → (m >> n) ts ≡ n us
  unfolding ◌>>◌ ◌>>=◌
  next_ok n e = ap (bind (λ a. n)) e

  pub next_no : {k b : ℕ} (n : Reader B) → m ts ≡ refused k b → (m >> n) ts ≡ refused k b
  unfolding ◌>>◌ ◌>>=◌
  next_no n e = ap (bind (λ a. n)) e

-- ---- answers

pub number_as : (t : List ℕ) {R S : Out ℕ} (r : Result Number Fault) → R ≡ S → MeetsNumber t S r → MeetsNumber t R r
number_as t r e h = subst (λ (X : Out ℕ). MeetsNumber t X r) (sym e) h

pub leaf_as : (t : List ℕ) {R S : Out Tree} (r : Result Leaf Fault) → R ≡ S → MeetsLeaf t S r → MeetsLeaf t R r
leaf_as t r e h = subst (λ (X : Out Tree). MeetsLeaf t X r) (sym e) h

-- a node of these words
pub leaf_is : {t : List ℕ} {R : Out Tree} {d : Cursor} (k l : ℕ) (s : List ℕ) (a b e f : ℕ) (x : Node) → x ≡ record { kind = k; nodes = 1; parts = 0; f1 = a; f2 = b; f3 = e; f4 = f; place = l }
    → (k ≡ 5 → ⊥) → Holds t d → R ≡ ok (node k l s (fields a b e f) nil) (toks_at t d.start) → MeetsLeaf t R (Ok (record { at = d; node = x }))
leaf_is {t} {R} {d} k l s a b e f x p z h q = subst (λ (y : Node). MeetsLeaf t R (Ok (record { at = d; node = y }))) (sym p) (h, refl, refl, z, (s, q))

-- ---- where a sign may stand

module _ {t : List ℕ} {c : Cursor} (h : Holds t c) {A : Type 0} (k : ℕ) (a : A) (m : Reader A) where
  pub optional_no : (c.code ≡ k → ⊥) → optional_by k a m (toks_at t c.start) ≡ ok a (toks_at t c.start)
  unfolding give
  optional_no z = ask_no h (λ u. eqb k u.kind) (the_by k >> m) (give a) (ne_eqb k c.code (λ e. z (sym e)))

  pub optional_yes : {d : Cursor} → Follows t c d → (k ≡ 0 → ⊥) → c.code ≡ k → optional_by k a m (toks_at t c.start) ≡ m (toks_at t d.start)
  optional_yes w z e =
      ask_yes h (λ u. eqb k u.kind) (the_by k >> m) (give a) (eq-eqb k c.code (sym e))
      ∙ next_ok (the_by k) (toks_at t c.start) m (by_yes h w (λ p. z (sym e ∙ p)) k e)

-- ---- dates and currencies

pub date_not : (ts : List Token) {k b : ℕ} → the_by 5 ts ≡ refused k b → a_date ts ≡ refused k b
unfolding a_date the code
date_not ts e = bind_refused (the_by 5) date_of ts _ _ e

pub currency_not : (W : Language) (ts : List Token) {k b : ℕ} → the_by 5 ts ≡ refused k b → a_currency W ts ≡ refused k b
unfolding a_currency the code
currency_not W ts e = bind_refused (the_by 5) (currency_of W) ts _ _ e

-- the date in a token
module _ (u : Token) (ts : List Token) where
  pub day_bad : unless_0 (date (content u)) ≡ None → date_of u ts ≡ refused 11 u.from
  unfolding date_of fail_at
  day_bad e = ap (λ (b : Bool). (if b then fail_at u 11 else give (date (content u))) ts) (eq-eqb (date (content u)) 0 (unless_none (date (content u)) e))

  pub day_is : {x : ℕ} → unless_0 (date (content u)) ≡ Some x → date_of u ts ≡ ok x ts
  unfolding date_of give
  day_is {x} e =
      let d = unless_some (date (content u)) x e in
      ap (λ (b : Bool). (if b then fail_at u 11 else give (date (content u))) ts) (ne_eqb (date (content u)) 0 d.1)
      ∙ ap (λ (y : ℕ). ok y ts) d.0

module _ (W : Language) (u : Token) (ts : List Token) where
  pub money_bad : place W.currencies (content u) ≡ 0 → currency_of W u ts ≡ refused 12 u.from
  unfolding currency_of fail_at
  money_bad z = ap (λ (b : Bool). (if b then fail_at u 12 else give (place W.currencies (content u))) ts) (eq-eqb (place W.currencies (content u)) 0 z)

  pub money_is : (x : ℕ) → place W.currencies (content u) ≡ x + 1 → currency_of W u ts ≡ ok (x + 1) ts
  unfolding currency_of give
  money_is x e =
      ap (λ (b : Bool). (if b then fail_at u 12 else give (place W.currencies (content u))) ts) (ne_eqb (place W.currencies (content u)) 0 (λ p. omega (arith, p, e)))
      ∙ ap (λ (y : ℕ). ok y ts) e

-- the content of a string token that was taken
module _ {t : List ℕ} {c : Cursor} (h : Holds t c) {d : Cursor} (y : Takes t 5 c (Ok d)) where
  pub took_wide : (c.start + 2 ≤ c.end) × (c.end ≤ length t)
  took_wide = (string_wide h y.1, end_in h)

  pub date_bad : unless_0 (date (content (token_at t c))) ≡ None → a_date (toks_at t c.start) ≡ refused 11 c.start
  unfolding a_date the code
  date_bad z = then_ok (the_by 5) (toks_at t c.start) date_of y.2 ∙ day_bad (token_at t c) (toks_at t d.start) z

  pub date_is : {x : ℕ} → unless_0 (date (content (token_at t c))) ≡ Some x → a_date (toks_at t c.start) ≡ ok x (toks_at t d.start)
  unfolding a_date the code
  date_is z = then_ok (the_by 5) (toks_at t c.start) date_of y.2 ∙ day_is (token_at t c) (toks_at t d.start) z

  module _ (W : Language) {r : Option ℕ} (e : r ≡ index_of (place W.currencies (take (c.end - 1 - (c.start + 1)) (drop (c.start + 1) t)))) where
    place_of_content : r ≡ index_of (place W.currencies (content (token_at t c)))
    place_of_content = e ∙ ap (λ (l : List ℕ). index_of (place W.currencies l)) (sym (content_is h y.1))

    pub currency_bad : r ≡ None → a_currency W (toks_at t c.start) ≡ refused 12 c.start
    unfolding a_currency the code
    currency_bad z =
        then_ok (the_by 5) (toks_at t c.start) (currency_of W) y.2
        ∙ money_bad W (token_at t c) (toks_at t d.start) (index_none _ (sym place_of_content ∙ z))

    pub currency_is : {x : ℕ} → r ≡ Some x → a_currency W (toks_at t c.start) ≡ ok (x + 1) (toks_at t d.start)
    unfolding a_currency the code
    currency_is z =
        then_ok (the_by 5) (toks_at t c.start) (currency_of W) y.2
        ∙ money_is W (token_at t c) (toks_at t d.start) _ (omega (arith, index_some _ _ (sym place_of_content ∙ z)))

-- the place of a currency fits a word
pub place_fits : (l : List ℕ) → Few l → {r : Option ℕ} {x : ℕ} (n : List ℕ) → r ≡ index_of (place (names l) n) → r ≡ Some x → x + 1 ≤ 256
place_fits l f n e q = omega (arith, place_le (names l) n, index_some _ _ (sym e ∙ q))

-- ---- Spot

-- what is read of an equity and of a pair behind the first string, with numbers for the signs
abbrev late_date : Reader ℕ
late_date = optional_by 46 0 a_date

abbrev pair_behind : Language → ℕ → ℕ → Reader Tree
pair_behind W l a = a_currency W >>= λ x. late_date >>= λ y. give (node 32 l [] (fields a x y 0) nil)

pub equity_no : (W : Language) (l : ℕ) (u : Token) (ts : List Token) {k b : ℕ} → late_date ts ≡ refused k b → equity W l u ts ≡ refused k b
unfolding equity optional the code
equity_no W l u ts e = bind_refused late_date (λ d. give (node 33 l (content u) (fields (suc u.from) (length (content u)) d 0) nil)) ts _ _ e

pub equity_is : {t : List ℕ} {c : Cursor} (h : Holds t c) (s : c.code ≡ 5) (W : Language) (l : ℕ) (ts : List Token) {n : Number} → MeetsNumber t (late_date ts) (Ok n) → (x : Node)
    → x ≡ record { kind = 33; nodes = 1; parts = 0; f1 = c.start + 1; f2 = c.end - c.start - 2; f3 = n.value; f4 = 0; place = l }
    → MeetsLeaf t (equity W l (token_at t c) ts) (Ok (record { at = n.at; node = x }))
unfolding equity optional the code give
equity_is {t} {c} h s W l ts {n} y x g =
    let p : suc c.start ≡ c.start + 1 = omega arith in
    leaf_is 33 l (content (token_at t c)) (c.start + 1) (c.end - c.start - 2) n.value 0 x g (λ z. omega arith) y.0
    (then_ok late_date ts (λ d. give (node 33 l (content (token_at t c)) (fields (suc c.start) (length (content (token_at t c))) d 0) nil)) y.1
    ∙ (λ i. ok (node 33 l (content (token_at t c)) (fields (p i) (content_length h s i) n.value 0) nil) (toks_at t n.at.start)))

module _ {t : List ℕ} {c : Cursor} (h : Holds t c) (W : Language) (l a : ℕ) where
  pub pair_alone : (c.code ≡ 46 → ⊥) → (x : Node) → x ≡ record { kind = 32; nodes = 1; parts = 0; f1 = a; f2 = 1; f3 = 0; f4 = 0; place = l } → MeetsLeaf t (pair W l a (toks_at t c.start)) (Ok (record { at = c; node = x }))
  unfolding pair optional the code
  pair_alone z x e = leaf_is 32 l [] a 1 0 0 x e (λ p. omega arith) h (optional_no h 46 (node 32 l [] (fields a 1 0 0) nil) (pair_behind W l a) z)

  module _ {n : Cursor} (w : Follows t c n) (s : c.code ≡ 46) where
    pair_on : pair W l a (toks_at t c.start) ≡ pair_behind W l a (toks_at t n.start)
    unfolding pair optional the code
    pair_on = optional_yes h 46 (node 32 l [] (fields a 1 0 0) nil) (pair_behind W l a) w (λ p. omega arith) s

    pub pair_no : {k b : ℕ} → a_currency W (toks_at t n.start) ≡ refused k b → pair W l a (toks_at t c.start) ≡ refused k b
    pair_no e = pair_on ∙ bind_refused (a_currency W) (λ x. late_date >>= λ y. give (node 32 l [] (fields a x y 0) nil)) (toks_at t n.start) _ _ e

    module _ {r : Number} (q : MeetsNumber t (a_currency W (toks_at t n.start)) (Ok r)) where
      pair_first : pair W l a (toks_at t c.start) ≡ (late_date >>= λ y. give (node 32 l [] (fields a r.value y 0) nil)) (toks_at t r.at.start)
      pair_first = pair_on ∙ then_ok (a_currency W) (toks_at t n.start) (λ x. late_date >>= λ y. give (node 32 l [] (fields a x y 0) nil)) q.1

      pub pair_late : {k b : ℕ} → late_date (toks_at t r.at.start) ≡ refused k b → pair W l a (toks_at t c.start) ≡ refused k b
      pair_late e = pair_first ∙ bind_refused late_date (λ y. give (node 32 l [] (fields a r.value y 0) nil)) (toks_at t r.at.start) _ _ e

      pub pair_is : {r' : Number} → MeetsNumber t (late_date (toks_at t r.at.start)) (Ok r')
          → (v : Node) → v ≡ record { kind = 32; nodes = 1; parts = 0; f1 = a; f2 = r.value; f3 = r'.value; f4 = 0; place = l }
          → MeetsLeaf t (pair W l a (toks_at t c.start)) (Ok (record { at = r'.at; node = v }))
      unfolding give
      pair_is {r'} m v g =
          leaf_is 32 l [] a r.value r'.value 0 v g (λ p. omega arith) m.0
          (pair_first ∙ then_ok late_date (toks_at t r.at.start) (λ y. give (node 32 l [] (fields a r.value y 0) nil)) m.1)

-- the first string decides
module _ {t : List ℕ} {c : Cursor} (h : Holds t c) (s : c.code ≡ 5) (W : Language) (l : ℕ) {r : Option ℕ}
    (e : r ≡ index_of (place W.currencies (take (c.end - 1 - (c.start + 1)) (drop (c.start + 1) t)))) (ts : List Token) where
  place_of : r ≡ index_of (place W.currencies (content (token_at t c)))
  place_of = e ∙ ap (λ (l : List ℕ). index_of (place W.currencies l)) (sym (content_is h s))

  pub spot_equity : (X : Language) → r ≡ None → spot_of W l (token_at t c) ts ≡ equity X l (token_at t c) ts
  unfolding equity
  spot_equity X z =
      ap (λ (b : Bool). (if b then equity W l (token_at t c) else pair W l (place W.currencies (content (token_at t c)))) ts)
      (eq-eqb (place W.currencies (content (token_at t c))) 0 (index_none _ (sym place_of ∙ z)))

  pub spot_pair : {x : ℕ} → r ≡ Some x → spot_of W l (token_at t c) ts ≡ pair W l (x + 1) ts
  spot_pair {x} z =
      let p : place W.currencies (content (token_at t c)) ≡ x + 1 = omega (arith, index_some _ _ (sym place_of ∙ z)) in
      ap (λ (b : Bool). (if b then equity W l (token_at t c) else pair W l (place W.currencies (content (token_at t c)))) ts)
      (ne_eqb (place W.currencies (content (token_at t c))) 0 (λ q. omega (arith, p, q)))
      ∙ ap (λ (y : ℕ). pair W l y ts) p

-- a closing sign behind a leaf
module _ (t : List ℕ) (l : Leaf) (R : Out Tree) (m : MeetsLeaf t R (Ok l)) where
  abbrev sealed : Reader Tree
  sealed = give (node l.node.kind l.node.place m.4.0 (fields l.node.f1 l.node.f2 l.node.f3 l.node.f4) nil)

  pub closed_not : {k b : ℕ} → the_by 41 (toks_at t l.at.start) ≡ refused k b → bind ending R ≡ refused k b
  unfolding the code
  closed_not w = ap (bind ending) m.4.1 ∙ next_no (the_by 41) (toks_at t l.at.start) sealed w

  pub closed_is : {d : Cursor} → Takes t 41 l.at (Ok d) → MeetsLeaf t (bind ending R) (Ok (record { at = d; node = l.node }))
  unfolding the code give
  closed_is v = (v.0.holds, m.1, m.2, m.3, (m.4.0, ap (bind ending) m.4.1 ∙ next_ok (the_by 41) (toks_at t l.at.start) sealed v.2))

module _ (t : List ℕ) (W : Language) (l : ℕ) (c : Cursor) where
  abbrev spot_behind : Reader Tree
  spot_behind = the_by 5 >>= λ u. spot_of W l u >>= ending

  pub spot_no : {k b : ℕ} → the_by 40 (toks_at t c.start) ≡ refused k b → spot W l (toks_at t c.start) ≡ refused k b
  unfolding spot the code
  spot_no e = next_no (the_by 40) (toks_at t c.start) spot_behind e

  module _ {n : Cursor} (q : Takes t 40 c (Ok n)) where
    pub spot_not : {k b : ℕ} → the_by 5 (toks_at t n.start) ≡ refused k b → spot W l (toks_at t c.start) ≡ refused k b
    unfolding spot the code
    spot_not e = next_ok (the_by 40) (toks_at t c.start) spot_behind q.2 ∙ bind_refused (the_by 5) (λ u. spot_of W l u >>= ending) (toks_at t n.start) _ _ e

    pub spot_is : {d : Cursor} → Takes t 5 n (Ok d) → spot W l (toks_at t c.start) ≡ bind ending (spot_of W l (token_at t n) (toks_at t d.start))
    unfolding spot the code ◌>>=◌
    spot_is v = next_ok (the_by 40) (toks_at t c.start) spot_behind q.2 ∙ then_ok (the_by 5) (toks_at t n.start) (λ u. spot_of W l u >>= ending) v.2

-- ---- Df

module _ {t : List ℕ} {c : Cursor} (h : Holds t c) (l a : ℕ) where
  abbrev curve_behind : Reader Tree
  curve_behind = the_by 5 >>= λ u. give (node 34 l (content u) (fields a (suc u.from) (length (content u)) 0) nil)

  pub curve_none : (c.code ≡ 46 → ⊥) → (x : Node) → x ≡ record { kind = 34; nodes = 1; parts = 0; f1 = a; f2 = 0; f3 = 0; f4 = 0; place = l } → MeetsLeaf t (curve l a (toks_at t c.start)) (Ok (record { at = c; node = x }))
  unfolding optional the code
  curve_none z x e = leaf_is 34 l [] a 0 0 0 x e (λ p. omega arith) h (optional_no h 46 (node 34 l [] (fields a 0 0 0) nil) curve_behind z)

  module _ {n : Cursor} (w : Follows t c n) (s : c.code ≡ 46) where
    curve_on : curve l a (toks_at t c.start) ≡ curve_behind (toks_at t n.start)
    unfolding optional the code
    curve_on = optional_yes h 46 (node 34 l [] (fields a 0 0 0) nil) curve_behind w (λ p. omega arith) s

    pub curve_no : {k b : ℕ} → the_by 5 (toks_at t n.start) ≡ refused k b → curve l a (toks_at t c.start) ≡ refused k b
    curve_no e =
        curve_on
        ∙ bind_refused (the_by 5) (λ u. give (node 34 l (content u) (fields a (suc u.from) (length (content u)) 0) nil)) (toks_at t n.start) _ _ e

    pub curve_is : {d : Cursor} → Takes t 5 n (Ok d)
        → (x : Node) → x ≡ record { kind = 34; nodes = 1; parts = 0; f1 = a; f2 = n.start + 1; f3 = n.end - n.start - 2; f4 = 0; place = l }
        → MeetsLeaf t (curve l a (toks_at t c.start)) (Ok (record { at = d; node = x }))
    unfolding give
    curve_is {d} v x e =
        let p : suc n.start ≡ n.start + 1 = omega arith in
        leaf_is 34 l (content (token_at t n)) a (n.start + 1) (n.end - n.start - 2) 0 x e (λ z. omega arith) v.0.holds
        (curve_on
        ∙ (then_ok (the_by 5) (toks_at t n.start) (λ u. give (node 34 l (content u) (fields a (suc u.from) (length (content u)) 0) nil)) v.2
        ∙ (λ i. ok (node 34 l (content (token_at t n)) (fields a (p i) (content_length w.holds v.1 i) 0) nil) (toks_at t d.start))))

module _ (t : List ℕ) (l : ℕ) (c : Cursor) where
  abbrev df_behind : Reader Tree
  df_behind = a_date >>= λ x. curve l x >>= ending

  pub df_no : {k b : ℕ} → the_by 40 (toks_at t c.start) ≡ refused k b → df l (toks_at t c.start) ≡ refused k b
  unfolding df the code
  df_no e = next_no (the_by 40) (toks_at t c.start) df_behind e

  module _ {d : Cursor} (q : Takes t 40 c (Ok d)) where
    pub df_date : {k b : ℕ} → a_date (toks_at t d.start) ≡ refused k b → df l (toks_at t c.start) ≡ refused k b
    unfolding df the code
    df_date e = next_ok (the_by 40) (toks_at t c.start) df_behind q.2 ∙ bind_refused a_date (λ x. curve l x >>= ending) (toks_at t d.start) _ _ e

    pub df_is : {r : Number} → MeetsNumber t (a_date (toks_at t d.start)) (Ok r) → df l (toks_at t c.start) ≡ bind ending (curve l r.value (toks_at t r.at.start))
    unfolding df the code ◌>>=◌
    df_is v = next_ok (the_by 40) (toks_at t c.start) df_behind q.2 ∙ then_ok a_date (toks_at t d.start) (λ x. curve l x >>= ending) v.1

-- ---- RateIndex

module _ (t : List ℕ) (k : ℕ) (c : Cursor) where
  pub lead_none : (e : Fault) → Takes t k c (Err e) → Leads t k c (Err e)
  lead_none e y f = next_no (the_by k) (toks_at t c.start) (the_by 5 >>= f) y

  module _ {d : Cursor} (y : Takes t k c (Ok d)) where
    pub lead_other : (d.code ≡ 5 → ⊥) → (f : Token → Reader Tree) → (the_by k >> (the_by 5 >>= f)) (toks_at t c.start) ≡ refused 8 d.start
    lead_other z f =
        next_ok (the_by k) (toks_at t c.start) (the_by 5 >>= f) y.2
        ∙ bind_refused (the_by 5) f (toks_at t d.start) _ _ (by_no y.0.holds 5 z)

    pub lead_is : d.code ≡ 5 → Leads t k c (Ok d)
    lead_is s = (y.0.holds, s, λ f. next_ok (the_by k) (toks_at t c.start) (the_by 5 >>= f) y.2)

  -- the string is read
  lead_on : {d e : Cursor} → Leads t k c (Ok d) → Follows t d e → (f : Token → Reader Tree) → (the_by k >> (the_by 5 >>= f)) (toks_at t c.start) ≡ f (token_at t d) (toks_at t e.start)
  lead_on {d} {e} l w f =
      l.2 f ∙ then_ok (the_by 5) (toks_at t d.start) f (by_yes l.0 w (λ p. omega (arith, l.1)) 5 l.1)

-- the dates are judged when all of it is read
module _ (l : ℕ) (u v w : Token) (ts : List Token) where
  abbrev rate_behind : ℕ → Reader Tree
  rate_behind a = date_of w >>= λ b. give (node 35 l (content u) (fields (suc u.from) (length (content u)) a b) nil)

  pub rate_first : unless_0 (date (content v)) ≡ None → rate_of l u v w ts ≡ refused 11 v.from
  rate_first z = bind_refused (date_of v) rate_behind ts _ _ (day_bad v ts z)

  module _ {x : ℕ} (e : unless_0 (date (content v)) ≡ Some x) where
    pub rate_second : unless_0 (date (content w)) ≡ None → rate_of l u v w ts ≡ refused 11 w.from
    rate_second z =
        then_ok (date_of v) ts rate_behind (day_is v ts e)
        ∙ bind_refused (date_of w) (λ b. give (node 35 l (content u) (fields (suc u.from) (length (content u)) x b) nil)) ts _ _ (day_bad w ts z)

    rate_both : {y : ℕ} → unless_0 (date (content w)) ≡ Some y → rate_of l u v w ts ≡ ok (node 35 l (content u) (fields (suc u.from) (length (content u)) x y) nil) ts
    unfolding give
    rate_both z =
        then_ok (date_of v) ts rate_behind (day_is v ts e)
        ∙ then_ok (date_of w) ts (λ b. give (node 35 l (content u) (fields (suc u.from) (length (content u)) x b) nil)) (day_is w ts z)

pub rate_is : {t : List ℕ} {a d : Cursor} → Holds t a → a.code ≡ 5 → Holds t d → (l : ℕ) (v w : Token) {x y : ℕ} → unless_0 (date (content v)) ≡ Some x → unless_0 (date (content w)) ≡ Some y
    → (n : Node) → n ≡ record { kind = 35; nodes = 1; parts = 0; f1 = a.start + 1; f2 = a.end - a.start - 2; f3 = x; f4 = y; place = l }
    → MeetsLeaf t (rate_of l (token_at t a) v w (toks_at t d.start)) (Ok (record { at = d; node = n }))
rate_is {t} {a} {d} h s k l v w {x} {y} e g n q =
    let p : suc a.start ≡ a.start + 1 = omega arith in
    leaf_is 35 l (content (token_at t a)) (a.start + 1) (a.end - a.start - 2) x y n q (λ z. omega arith) k
    (rate_both l (token_at t a) v w (toks_at t d.start) e g
    ∙ (λ i. ok (node 35 l (content (token_at t a)) (fields (p i) (content_length h s i) x y) nil) (toks_at t d.start)))

pub date_in : {t : List ℕ} {c : Cursor} → Holds t c → c.code ≡ 5 → {r : Option ℕ} → r ≡ unless_0 (date (take (c.end - 1 - (c.start + 1)) (drop (c.start + 1) t)))
    → r ≡ unless_0 (date (content (token_at t c)))
date_in h s e = e ∙ ap (λ (l : List ℕ). unless_0 (date l)) (sym (content_is h s))

-- what stands behind each of its strings
abbrev behind_last : ℕ → Token → Token → Token → Reader Tree
behind_last l u v w = the_by 41 >> rate_of l u v w

abbrev behind_second : ℕ → Token → Token → Reader Tree
behind_second l u v = the_by 46 >> (the_by 5 >>= behind_last l u v)

abbrev behind_first : ℕ → Token → Reader Tree
behind_first l u = the_by 46 >> (the_by 5 >>= behind_second l u)

module _ (t : List ℕ) (y : ℕ) (c : Cursor) where
  pub index_name : (e : Fault) → Leads t 40 c (Err e) → rate_index y (toks_at t c.start) ≡ refused_by e
  unfolding rate_index the code
  index_name e l = l (behind_first y)

  module _ {n n' : Cursor} (l : Leads t 40 c (Ok n)) (w : Follows t n n') where
    index_one : rate_index y (toks_at t c.start) ≡ behind_first y (token_at t n) (toks_at t n'.start)
    unfolding rate_index the code
    index_one = lead_on t 40 c l w (behind_first y)

    pub index_from : (e : Fault) → Leads t 46 n' (Err e) → rate_index y (toks_at t c.start) ≡ refused_by e
    index_from e l' = index_one ∙ l' (behind_second y (token_at t n))

    module _ {m m' : Cursor} (l' : Leads t 46 n' (Ok m)) (w' : Follows t m m') where
      index_two : rate_index y (toks_at t c.start) ≡ behind_second y (token_at t n) (token_at t m) (toks_at t m'.start)
      index_two = index_one ∙ lead_on t 46 n' l' w' (behind_second y (token_at t n))

      pub index_to : (e : Fault) → Leads t 46 m' (Err e) → rate_index y (toks_at t c.start) ≡ refused_by e
      index_to e l'' = index_two ∙ l'' (behind_last y (token_at t n) (token_at t m))

      module _ {o o' : Cursor} (l'' : Leads t 46 m' (Ok o)) (w'' : Follows t o o') where
        index_three : rate_index y (toks_at t c.start) ≡ behind_last y (token_at t n) (token_at t m) (token_at t o) (toks_at t o'.start)
        index_three = index_two ∙ lead_on t 46 m' l'' w'' (behind_last y (token_at t n) (token_at t m))

        pub index_close : {k b : ℕ} → the_by 41 (toks_at t o'.start) ≡ refused k b → rate_index y (toks_at t c.start) ≡ refused k b
        index_close g = index_three ∙ next_no (the_by 41) (toks_at t o'.start) (rate_of y (token_at t n) (token_at t m) (token_at t o)) g

        pub index_is : {d : Cursor} → Takes t 41 o' (Ok d)
            → rate_index y (toks_at t c.start) ≡ rate_of y (token_at t n) (token_at t m) (token_at t o) (toks_at t d.start)
        index_is g = index_three ∙ next_ok (the_by 41) (toks_at t o'.start) (rate_of y (token_at t n) (token_at t m) (token_at t o)) g.2
