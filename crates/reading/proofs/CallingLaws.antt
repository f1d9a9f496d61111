-- What stands round the parts of a call, a list and a pays: the strings of a cvg, leaves, and what follows a part.
use Rattle.std.specs.Prelude.{Ok, Option, Some, None, is_some, if◌then◌else◌}
use mathlib.Core.Path.{◌≡◌, refl, sym, ap, ◌∙◌}
use mathlib.Core.Bool.{Bool, true, false, ◌||◌}
use mathlib.Core.List.{List, []}
use Prim.Native.Nat.{ℕ, ◌+◌, ◌-◌, ◌≤◌}
use native.Mathlib.Omega.{arith}
use lib.Dec.{eqb, leb}
use lib.ListN.{length, drop, length-drop}
use borrow.Author.Tests.{eqb-true, ne_eqb, eq-eqb, le-leb}
use Rattle.tokens.specs.Text.{leading, other}
use Rattle.tokens.specs.Names.{place, index_of}
use Rattle.tokens.specs.Dates.{date, unless_0}
use Rattle.tokens.specs.Tokens.{Token, code, entry}
use Rattle.tokens.specs.declared.cursor.Cursor.{Cursor}
use Rattle.tokens.proofs.Shapes.{leading_le}
use Rattle.grammar.specs.Trees.{Tree, Trees, node, nil, ◌▹◌, fields, parts, row}
use Rattle.grammar.specs.Readers.{Out, ok, refused, Reader, bind, ◌>>=◌, ◌>>◌, Turn, again, is, give, fail, the}
use Rattle.grammar.specs.Grammar.{Language, is_string, text_of, optional, a_date, a_currency, payday}
use Rattle.reading.specs.Rows.{node_row, put_row}
use Rattle.reading.specs.Calls.{right_count, optional_by}
use Rattle.reading.specs.Meets.{toks_at, token_at, Holds, Follows, string_at, Quoted, Reads, MeetsLeaf, Before}
use Rattle.reading.specs.Turns.{item_end, Shown, content_at, cvg_fault, call_fault}
use Rattle.reading.specs.declared.answers.Texts.{Texts}
use Rattle.reading.specs.declared.answers.Leaf.{Leaf}
use Rattle.reading.proofs.HoldLaws.{peek_is, fail_is, the_next}
use Rattle.reading.proofs.RowLaws.{before_node, size_node}
use Rattle.reading.proofs.AtomLaws.{leaf_reads, unless_none, unless_some, date_none, date_some, place_none, place_some}

-- ---- what follows a part

module _ {t : List ℕ} {c : Cursor} (h : Holds t c) (k : ℕ) (es : Trees) where
  abbrev end_by : Token → Reader (Turn Trees Trees)
  end_by u = if is "," u then (the "," >> give (again es)) else if eqb k u.kind then give (again es) else fail 8

  end_peek : item_end k es (toks_at t c.start) ≡ end_by (token_at t c) (toks_at t c.start)
  end_peek = peek_is h end_by

  -- a comma
  pub end_comma : {d : Cursor} → Follows t c d → c.code ≡ 46 → item_end k es (toks_at t c.start) ≡ ok (again es) (toks_at t d.start)
  unfolding code entry give
  end_comma w e = end_peek ∙ (rw (eq-eqb 46 c.code (sym e)) (the_next h w (λ z. omega arith) "," (sym e) (give (again es))))

  -- the closing sign
  pub end_close : (c.code ≡ 46 → ⊥) → c.code ≡ k → item_end k es (toks_at t c.start) ≡ ok (again es) (toks_at t c.start)
  unfolding code entry give
  end_close z e = end_peek ∙ (rw (ne_eqb 46 c.code (λ q. z (sym q)), eq-eqb k c.code (sym e)))

  -- neither
  pub end_not : (c.code ≡ 46 → ⊥) → (c.code ≡ k → ⊥) → item_end k es (toks_at t c.start) ≡ refused 8 c.start
  unfolding code entry
  end_not z y = end_peek ∙ (rw (ne_eqb 46 c.code (λ q. z (sym q)), ne_eqb k c.code (λ q. y (sym q))) (fail_is h 8))

-- ---- the strings of a cvg

-- a node whose string stands nowhere is no String node
string_not : (t : List ℕ) (e : Tree) → Quoted t e → unless_0 (string_at e) ≡ None → is_string e ≡ false
string_not t (node k l s (fields a b c d) ts) q z = go (eqb k 5) refl (unless_none _ z)
  where
    go : (x : Bool) → eqb k 5 ≡ x → ◌≡◌ {A = ℕ} (if x then a else 0) 0 → x ≡ false
    go true e w = absurd (omega (arith, w, (q (eqb-true k 5 e)).0))
    go false e w = refl

-- one whose string stands somewhere is a String node, and has its bytes
string_yes : (t : List ℕ) (e : Tree) {p : ℕ} → Quoted t e → unless_0 (string_at e) ≡ Some p → (is_string e ≡ true) × (text_of e ≡ content_at t p)
string_yes t (node k l s (fields a b c d) ts) {p} q z = go (eqb k 5) refl (unless_some _ p z)
  where
    go : (x : Bool) → eqb k 5 ≡ x → (◌≡◌ {A = ℕ} (if x then a else 0) p) × (◌≡◌ {A = ℕ} (if x then a else 0) 0 → ⊥) → (x ≡ true) × (s ≡ content_at t p)
    go true e w = (refl, (q (eqb-true k 5 e)).1 ∙ ap (content_at t) w.0)
    go false e w = absurd (w.1 refl)

abbrev fault_by : ℕ → ℕ → ℕ → ℕ
fault_by d e p = if eqb d 0 || eqb e 0 then 11 else if leb 1 p then 0 else 13

module _ (t : List ℕ) (x : Texts) (C : List (List ℕ)) where
  -- with three parts whose strings are shown
  pub data Three : Trees → Type 0 where
    three : (a b c : Tree) → x.first ≡ unless_0 (string_at a) → x.second ≡ unless_0 (string_at b) → x.third ≡ unless_0 (string_at c) → Quoted t a → Quoted t b → Quoted t c → Three (a ▹ b ▹ c ▹ nil)

  three_of : (es : Trees) → Shown t es x → parts es ≡ 3 → Three es
  three_of nil S p = absurd (omega arith)
  three_of (a ▹ nil) S p = absurd (omega arith)
  three_of (a ▹ b ▹ nil) S p = absurd (omega arith)
  three_of (a ▹ b ▹ c ▹ nil) S p = three a b c S.first S.second S.third S.quoted.0 S.quoted.1.0 S.quoted.1.1.0
  three_of (a ▹ b ▹ c ▹ d ▹ es) S p = absurd (omega arith)

  module _ (es : Trees) (S : Shown t es x) (p : parts es ≡ 3) where
    -- one is no string
    pub cvg_first : x.first ≡ None → 14 ≡ cvg_fault C es
    cvg_first z = go (three_of es S p)
      where
        go : {us : Trees} → Three us → 14 ≡ cvg_fault C us
        go (three a b c e₁ e₂ e₃ q₁ q₂ q₃) = rw (string_not t a q₁ (sym e₁ ∙ z))

    pub cvg_second : {f : ℕ} → x.first ≡ Some f → x.second ≡ None → 14 ≡ cvg_fault C es
    cvg_second n₁ z = go (three_of es S p)
      where
        go : {us : Trees} → Three us → 14 ≡ cvg_fault C us
        go (three a b c e₁ e₂ e₃ q₁ q₂ q₃) = rw ((string_yes t a q₁ (sym e₁ ∙ n₁)).0, string_not t b q₂ (sym e₂ ∙ z))

    pub cvg_third : {f g : ℕ} → x.first ≡ Some f → x.second ≡ Some g → x.third ≡ None → 14 ≡ cvg_fault C es
    cvg_third n₁ n₂ z = go (three_of es S p)
      where
        go : {us : Trees} → Three us → 14 ≡ cvg_fault C us
        go (three a b c e₁ e₂ e₃ q₁ q₂ q₃) =
            rw ((string_yes t a q₁ (sym e₁ ∙ n₁)).0, (string_yes t b q₂ (sym e₂ ∙ n₂)).0, string_not t c q₃ (sym e₃ ∙ z))

    -- all are strings
    module _ {f g h : ℕ} (n₁ : x.first ≡ Some f) (n₂ : x.second ≡ Some g) (n₃ : x.third ≡ Some h) where
      cvg_all : fault_by (date (content_at t f)) (date (content_at t g)) (place C (content_at t h)) ≡ cvg_fault C es
      cvg_all = go (three_of es S p)
        where
          go : {us : Trees} → Three us → fault_by (date (content_at t f)) (date (content_at t g)) (place C (content_at t h)) ≡ cvg_fault C us
          go (three a b c e₁ e₂ e₃ q₁ q₂ q₃) =
              let A = string_yes t a q₁ (sym e₁ ∙ n₁) in
              let B = string_yes t b q₂ (sym e₂ ∙ n₂) in
              let D = string_yes t c q₃ (sym e₃ ∙ n₃) in
              rw (A.0, B.0, D.0, A.1, B.1, D.1)

      abbrev day₁ : ℕ
      day₁ = date (content_at t f)

      abbrev day₂ : ℕ
      day₂ = date (content_at t g)

      abbrev counter : ℕ
      counter = place C (content_at t h)

      module _ {d : Option ℕ} (D : d ≡ unless_0 day₁) where
        -- the first date is none
        pub cvg_date : is_some d ≡ false → 11 ≡ cvg_fault C es
        cvg_date z = rw (date_none day₁ (rw D at z)) at cvg_all

        module _ (y : is_some d ≡ true) {e : Option ℕ} (E : e ≡ unless_0 day₂) where
          some₁ : eqb day₁ 0 ≡ false
          some₁ = ne_eqb day₁ 0 (date_some day₁ (rw D at y))

          -- the second
          pub cvg_date_2 : is_some e ≡ false → 11 ≡ cvg_fault C es
          cvg_date_2 z = rw (some₁, date_none day₂ (rw E at z)) at cvg_all

          module _ (z : is_some e ≡ true) {q : Option ℕ} (Q : q ≡ index_of counter) where
            cvg_dates : (if leb 1 counter then 0 else 13) ≡ cvg_fault C es
            cvg_dates = rw (some₁, ne_eqb day₂ 0 (date_some day₂ (rw E at z))) at cvg_all

            -- the day counter is none
            pub cvg_counter : is_some q ≡ false → 13 ≡ cvg_fault C es
            cvg_counter e = rw (place_none counter (rw Q at e)) at cvg_dates

            -- all is well
            pub cvg_good : is_some q ≡ true → 0 ≡ cvg_fault C es
            cvg_good e = rw (le-leb 1 counter (omega (arith, place_some counter (rw Q at e)))) at cvg_dates

-- ---- the bytes up to the next quote

module _ (t : List ℕ) (p r : ℕ) (l : p ≤ length t) (e : r ≡ p + leading (other 34) (drop p t)) where
  pub find_in : r ≤ length t
  find_in = omega (arith, leading_le (other 34) (drop p t), length-drop p t)

-- ---- what a call is refused for

module _ (C : List (List ℕ)) (k n : ℕ) (es : Trees) (e : n ≡ parts es) where
  pub call_cvg : true ≡ right_count k n → k ≡ 25 → {r : ℕ} → (parts es ≡ 3 → r ≡ cvg_fault C es) → r ≡ call_fault C k es
  unfolding right_count
  call_cvg q z f =
      let p : parts es ≡ 3 = sym e ∙ eqb-true n 3 (sym (rw z at q)) in
      rw (← e, ← q, eq-eqb k 25 z) (f p)

-- ---- leaves

-- a leaf that is written
pub leaf_written : {t : List ℕ} {R : Out Tree} {n : ℕ} {o o' : List ℕ} (l : Leaf) → MeetsLeaf t R (Ok l) → o' ≡ put_row o n (node_row l.node)
    → Reads t R n o l.at (n + 1) None o'
leaf_written l h w =
    let x = l.node in
    leaf_reads x.kind x.place h.4.0 (fields x.f1 x.f2 x.f3 x.f4) h.3 h.0 h.4.1 (w ∙ (rw (h.1, h.2)))

-- ---- the date and the currency of a pays

module _ (t : List ℕ) (W : Language) (l : ℕ) (es : Trees) (p : ℕ) where
  abbrev Pays : Out Tree
  Pays = payday W l es (toks_at t p)

  abbrev paid : ℕ → ℕ → Tree
  paid x y = node 36 l [] (fields x y 0 0) es

  -- the date is refused
  pub pays_no_date : {k b : ℕ} → optional_by 50 0 a_date (toks_at t p) ≡ refused k b → Pays ≡ refused k b
  unfolding ◌>>=◌ optional code entry the
  pays_no_date e = ap (bind (λ x. optional "in" 0 (a_currency W) >>= λ y. give (paid x y))) e

  module _ (q x : ℕ) (e : optional_by 50 0 a_date (toks_at t p) ≡ ok x (toks_at t q)) where
    pays_on : Pays ≡ bind (λ y. give (paid x y)) (optional_by 51 0 (a_currency W) (toks_at t q))
    unfolding ◌>>=◌ optional code entry the
    pays_on = ap (bind (λ x. optional "in" 0 (a_currency W) >>= λ y. give (paid x y))) e

    -- the currency is refused
    pub pays_no_money : {k b : ℕ} → optional_by 51 0 (a_currency W) (toks_at t q) ≡ refused k b → Pays ≡ refused k b
    pays_no_money r = pays_on ∙ ap (bind (λ y. give (paid x y))) r

    -- the record of a pays, behind its parts
    pub pays_reads : (f : Cursor) (y : ℕ) → Holds t f → optional_by 51 0 (a_currency W) (toks_at t q) ≡ ok y (toks_at t f.start)
        → {n m v : ℕ} {o o₁ o₂ : List ℕ} → Before n o es m o₁ → v ≡ parts es → o₂ ≡ put_row o₁ m (row 36 (m - n + 1) v (fields x y 0 0) l)
        → Reads t Pays n o f (m + 1) None o₂
    unfolding give
    pays_reads f y h r b v w = record {
      tree = paid x y;
      is = pays_on ∙ ap (bind (λ y. give (paid x y))) r;
      counts = omega (arith, b.counts, size_node 36 l [] (fields x y 0 0) es);
      writes = before_node 36 l [] (fields x y 0 0) b (omega (arith, b.counts)) v w;
      holds = h;
      string = refl;
      quoted = λ z. absurd (omega arith);
    }
