-- Statements of one expression, and the head of a loop: what each step of the code comes to in the definition.
use Rattle.std.specs.Prelude.{if◌then◌else◌}
use mathlib.Core.Path.{◌≡◌, refl, sym, ap, ◌∙◌}
use mathlib.Core.Bool.{Bool, true, false, ◌&&◌, not}
use mathlib.Core.List.{List, []}
use mathlib.Core.Option.{Option}
use Prim.Native.Nat.{ℕ, zero, suc, ◌+◌, ◌-◌, ◌≤◌}
use native.Mathlib.Omega.{arith}
use lib.Dec.{leb}
use borrow.Author.Tests.{ne_eqb, le-leb, leb-true}
use lib.ListN.{length, drop, length-take, length-drop}
use Rattle.tokens.specs.Names.{place, index_of, member}
use Rattle.tokens.specs.Tokens.{Token, code}
use Rattle.tokens.specs.declared.cursor.Cursor.{Cursor}
use Rattle.grammar.specs.Trees.{Tree, place_of, fields, none as unused, size, row}
use Rattle.grammar.specs.Readers.{Out, ok, refused, Reader, bind, ◌>>=◌, ◌>>◌, is, give, fail_at, the}
use Rattle.grammar.specs.Grammar.{Language, binary, variable, optional, expression, pays, ended, named, paid, target, assign, compound, assign_paid, name_first, next_kind, primary}
use Rattle.reading.specs.Rows.{rows, put_row, put_rows, node_row}
use Rattle.reading.specs.Meets.{words_in, language_in, language_of, toks_at, token_at, Holds, Ready, Follows, Takes, Reads, Meets}
use Rattle.std.specs.Prelude.{Option as Maybe, None, Result, Ok, Err}
use Rattle.std.specs.Option.{is_some}
use Rattle.std.specs.Result.{IsErrAnd}
use Rattle.reading.specs.Faults.{refused_by}
use Rattle.reading.specs.Turns.{inner}
use Rattle.reading.specs.Bodies.{begun_at, sign_behind, ReadsTwice, loop_head, MeetsHead}
use Rattle.reading.specs.declared.records.Node.{Node}
use Rattle.reading.specs.declared.answers.Fault.{Fault}
use Rattle.reading.specs.declared.answers.Read.{Read}
use Rattle.reading.specs.declared.language.Language.{Language as Lent}
use Rattle.grammar.proofs.SizeLaws.{Sized, EachSized, ended_size, paid_size}
use Rattle.reading.proofs.HoldLaws.{start_in, end_in, second_is, ask_yes, ask_no, the_then, the_next, read_then, read_next}
use Rattle.reading.proofs.RowLaws.{size_leaf, size_two, after_leaf, after_two, put_rows_same}
use Rattle.reading.proofs.ChainLaws.{reads_within, binary_plain}
use Rattle.reading.proofs.AtomLaws.{named_not}
use Rattle.reading.proofs.SignLaws.{is_it, is_other}
use Rattle.reading.proofs.StepLaws.{bind_refused}

-- ---- the error that a `?` passes on

pub meets_err : (t : List ℕ) (R : Out Tree) (n : ℕ) (o : List ℕ) (r : Result Read Fault) (o' : List ℕ) (e : Fault) → IsErrAnd r (λ y. y ≡ e) → R ≡ refused_by e → Meets t R n o r o'
meets_err t R n o (Ok x) o' e h g = absurd h
meets_err t R n o (Err y) o' e h g = rw h g

-- ---- the head of a loop

-- a name without index is not in the list
unplaced : (p : ℕ) → is_some (index_of p) ≡ false → p ≡ 0
unplaced zero e = refl
unplaced (suc k) e = absurd (cc)

module _ (W : Language) (t : List ℕ) (c : Cursor) (h : Holds t c) where
  pub head_not : (a : Fault) → Takes t 1 c (Err a) → loop_head W (toks_at t c.start) ≡ refused_by a
  unfolding code ◌>>=◌ the
  head_not a g = rw g

  module _ (d : Cursor) (g : Takes t 1 c (Ok d)) where
    name : c.code ≡ 1
    name = g.1

    w : Follows t c d
    w = g.0

    head_named : loop_head W (toks_at t c.start) ≡ (named W (token_at t c) >> (the "in" >> give (token_at t c))) (toks_at t d.start)
    unfolding code
    head_named = the_then h w (λ z. omega (arith, z, name)) "name" (sym name) _

    pub head_reserved : is_some (index_of (place W.reserved (token_at t c).text)) ≡ true → loop_head W (toks_at t c.start) ≡ refused 9 c.start
    unfolding ◌>>◌ ◌>>=◌
    head_reserved z = head_named ∙ ap (bind (λ x. the "in" >> give (token_at t c))) (named_not W h refl z (toks_at t d.start))

    module _ (free : is_some (index_of (place W.reserved (token_at t c).text)) ≡ false) where
      head_in : loop_head W (toks_at t c.start) ≡ (the "in" >> give (token_at t c)) (toks_at t d.start)
      unfolding named give ◌>>◌ ◌>>=◌
      head_in = head_named ∙ (rw (unplaced (place W.reserved (token_at t c).text) free))

      -- what is taken behind the variable is what is answered
      pub head_meets : (r : Result Cursor Fault) → Takes t 51 d r → MeetsHead t (loop_head W (toks_at t c.start)) c r
      unfolding code give ◌>>◌ ◌>>=◌ the
      head_meets (Ok f) g = (g.0.holds, name, head_in ∙ the_next w.holds g.0 (λ z. omega (arith, z, g.1)) "in" (sym g.1) (give (token_at t c)))
      head_meets (Err e) g = head_in ∙ (rw g)

-- ---- `e;`

module _ (W : Language) (p : Reader Tree) (t : List ℕ) (c : Cursor) (n : ℕ) (o : List ℕ) where
  pub ended_refused : (k b : ℕ) → expression W p (toks_at t c.start) ≡ refused k b → ended W p (toks_at t c.start) ≡ refused k b
  unfolding ended
  ended_refused k b e = bind_refused (expression W p) _ (toks_at t c.start) k b e

  module _ (d : Cursor) (m : ℕ) (q : Maybe ℕ) (o' : List ℕ) (r : Reads t (expression W p (toks_at t c.start)) n o d m q o') where
    ending : ended W p (toks_at t c.start) ≡ (the ";" >> give r.tree) (toks_at t d.start)
    unfolding ended ◌>>=◌
    ending = rw r.is

    pub ended_open : (a : Fault) → Takes t 48 d (Err a) → ended W p (toks_at t c.start) ≡ refused_by a
    unfolding code ◌>>◌ ◌>>=◌ the
    ended_open a g = ending ∙ (rw g)

    pub ended_closed : (e : Cursor) → Takes t 48 d (Ok e) → Reads t (ended W p (toks_at t c.start)) n o e m q o'
    unfolding give code
    ended_closed e g =
        record {
          tree = r.tree;
          is = ending ∙ the_next r.holds g.0 (λ z. omega (arith, z, g.1)) ";" (sym g.1) (give r.tree);
          counts = r.counts;
          writes = r.writes;
          holds = g.0.holds;
          string = r.string;
          quoted = r.quoted;
        }

-- ---- pays, and a `;` where there is one

module _ (W : Language) (i : Option (Reader Tree)) (t : List ℕ) (c : Cursor) (n : ℕ) (o : List ℕ) where
  pub paid_refused : (k b : ℕ) → pays W i (toks_at t c.start) ≡ refused k b → paid W i (toks_at t c.start) ≡ refused k b
  unfolding paid
  paid_refused k b e = bind_refused (pays W i) _ (toks_at t c.start) k b e

  module _ (d : Cursor) (m : ℕ) (q : Maybe ℕ) (o' : List ℕ) (r : Reads t (pays W i (toks_at t c.start)) n o d m q o') where
    paying : paid W i (toks_at t c.start) ≡ optional ";" r.tree (give r.tree) (toks_at t d.start)
    unfolding paid ◌>>=◌
    paying = rw r.is

    pub paid_bare : (d.code ≡ 48 → ⊥) → Reads t (paid W i (toks_at t c.start)) n o d m q o'
    unfolding optional give code
    paid_bare z =
        record {
          tree = r.tree;
          is = paying ∙ ask_no r.holds (is ";") _ _ (is_other 48 d.code z);
          counts = r.counts;
          writes = r.writes;
          holds = r.holds;
          string = r.string;
          quoted = r.quoted;
        }

    pub paid_closed : d.code ≡ 48 → (e : Cursor) → Follows t d e → Reads t (paid W i (toks_at t c.start)) n o e m q o'
    unfolding optional give code
    paid_closed z e w =
        record {
          tree = r.tree;
          is = paying
              ∙ (ask_yes r.holds (is ";") _ _ (is_it 48 d.code z)
              ∙ the_next r.holds w (λ y. omega (arith, y, z)) ";" (sym z) (give r.tree));
          counts = r.counts;
          writes = r.writes;
          holds = w.holds;
          string = r.string;
          quoted = r.quoted;
        }

-- ---- the variable that a name is

pub named_is : (W : Language) (u : Token) (ts : List Token) (x : Tree) (us : List Token) → named W u ts ≡ ok x us → (variable u ≡ x) × (ts ≡ us)
unfolding named fail_at give
named_is W u ts x us e = go (member W.reserved u.text) e
  where
    go : (b : Bool) → (if b then fail_at u 9 else give (variable u)) ts ≡ ok x us → (variable u ≡ x) × (ts ≡ us)
    go true q = absurd (let z : ◌≡◌ {A = ℕ} 0 1 = cc in omega arith)
    go false q = (cc, cc)

pub named_one : (W : Language) (u : Token) (ts : List Token) (x : Tree) (us : List Token) → named W u ts ≡ ok x us → size x ≡ 1
named_one W u ts x us e = ap size (sym (named_is W u ts x us e).0) ∙ size_leaf 1 u.from u.text (fields u.from (length u.text) 0 0)

-- ---- a variable that is written twice

token_length : {t : List ℕ} {c : Cursor} → Holds t c → length (token_at t c).text ≡ c.end - c.start
token_length {t} {c} h = omega (arith, length-take (c.end - c.start) (drop c.start t), length-drop c.start t, start_in h, end_in h)

pub twice_reads : (W : Language) (t : List ℕ) (c d : Cursor) (n : ℕ) (o : List ℕ) → Holds t c → (e : Cursor) (m : ℕ) (q : Maybe ℕ) (o₁ : List ℕ)
    → Reads t (named W (token_at t c) (toks_at t d.start)) n o e m q o₁
    → (x : Node) → x ≡ record { kind = 1; nodes = 1; parts = 0; f1 = c.start; f2 = c.end - c.start; f3 = 0; f4 = 0; place = c.start }
    → (o₂ : List ℕ) → o₂ ≡ put_row o₁ m (node_row x)
    → ReadsTwice t (named W (token_at t c) (toks_at t d.start)) n o e (m + 1) o₂
twice_reads W t c d n o h e m q o₁ r x z o₂ g =
    let one : size r.tree ≡ 1 = named_one W (token_at t c) (toks_at t d.start) r.tree (toks_at t e.start) r.is in
    let v : variable (token_at t c) ≡ r.tree = (named_is W (token_at t c) (toks_at t d.start) r.tree (toks_at t e.start) r.is).0 in
    let p : o₂ ≡ put_row o₁ m (row 1 1 0 (fields c.start (c.end - c.start) 0 0) c.start) = g ∙ ap (λ (y : Node). put_row o₁ m (node_row y)) z in
    let l : length (token_at t c).text ≡ c.end - c.start = token_length h in
    let p' : o₂ ≡ put_row o₁ m (row 1 1 0 (fields c.start (length (token_at t c).text) 0 0) c.start) = p ∙ ap (λ (y : ℕ). put_row o₁ m (row 1 1 0 (fields c.start y 0 0) c.start)) (sym l) in
    let m_is : m ≡ n + 1 = omega (arith, r.counts, one) in
    record {
      tree = r.tree;
      is = r.is;
      one = one;
      counts = omega (arith, m_is);
      writes = after_leaf o₁ m 1 c.start (token_at t c).text (fields c.start (length (token_at t c).text) 0 0) p' ∙ put_rows_same r.writes m_is (ap rows v);
      holds = r.holds;
    }

-- the records behind it: the sign's and that of the assignment, both at the place l
pub twice_assigned : (t : List ℕ) (R : Out Tree) (n : ℕ) (o : List ℕ) (k l : ℕ) (x e : Tree) (g : Cursor) (m m₂ : ℕ) (o₁ o₂ o₃ o₄ : List ℕ)
    → size x ≡ 1 → m ≡ n + 2 → o₁ ≡ put_rows (put_rows o n (rows x)) (n + 1) (rows x) → m₂ ≡ m + size e → o₂ ≡ put_rows o₁ m (rows e)
    → o₃ ≡ put_row o₂ m₂ (row k (m₂ - n) 2 unused l) → o₄ ≡ put_row o₃ (m₂ + 1) (row 37 (m₂ - n + 2) 2 unused l) → Holds t g
    → R ≡ ok (binary 37 l x (binary k l x e)) (toks_at t g.start) → Reads t R n o g (m₂ + 2) None o₄
twice_assigned t R n o k l x e g m m₂ o₁ o₂ o₃ o₄ one p q p₂ q₂ q₃ q₄ holds is =
    let s = size_two k l [] unused x e in
    let s₂ = size_two 37 l [] unused x (binary k l x e) in
    let b = binary_plain t 37 l x (binary k l x e) (λ z. omega arith) in
    let w : o₃ ≡ put_rows (put_rows o n (rows x)) (n + 1) (rows (binary k l x e))
    = after_two (put_rows o n (rows x)) (n + 1) k l [] unused x e (omega (arith, p, one)) q p₂ q₂ (omega (arith, p, p₂, one)) q₃ in
    record {
      tree = binary 37 l x (binary k l x e);
      is = is;
      counts = omega (arith, s, s₂, one, p, p₂);
      writes = after_two o n 37 l [] unused x (binary k l x e) (omega (arith, one)) refl (omega (arith, s, one, p, p₂)) w (omega (arith, s, one, p, p₂)) q₄;
      holds = holds;
      string = b.0;
      quoted = b.1;
    }

-- ---- assignments

-- of a name the reserved names alone decide
module _ (lent : Lent) (t : List ℕ) (c d : Cursor) (n : ℕ) (o : List ℕ) (ready : Ready t c n) (w : Follows t c d) (name : c.code ≡ 1) where
  abbrev W : Language
  W = language_of lent

  abbrev L : Language
  L = words_in lent.lists.reserved.now [] []

  abbrev N : Out Tree
  N = named L (token_at t c) (toks_at t d.start)

  same : (u : Token) → named L u ≡ named W u
  unfolding named
  same u = refl

  some_name : c.code ≡ 0 → ⊥
  some_name z = omega (arith, z, name)

  target_is : target W (toks_at t c.start) ≡ N
  unfolding target code
  target_is = the_then ready.0 w some_name "name" (sym name) (named W) ∙ ap (λ (f : Reader Tree). f (toks_at t d.start)) (sym (same (token_at t c)))

  target_then : (f : Tree → Reader Tree) (x : Tree) (us : List Token) → N ≡ ok x us → (target W >>= f) (toks_at t c.start) ≡ f x (toks_at t d.start)
  unfolding ◌>>=◌
  target_then f x us e =
      ap (bind f) (target_is ∙ e) ∙ ap (f x) (sym (named_is L (token_at t c) (toks_at t d.start) x us e).1)

  -- its place is where the name stands
  placed_at : (x : Tree) (us : List Token) → N ≡ ok x us → place_of x ≡ c.start
  placed_at x us e = ap place_of (sym (named_is L (token_at t c) (toks_at t d.start) x us e).0)

  pub assign_unnamed : (p : Reader Tree) (k b : ℕ) → N ≡ refused k b → assign W p (toks_at t c.start) ≡ refused k b
  unfolding assign
  assign_unnamed p k b e = bind_refused (target W) _ (toks_at t c.start) k b (target_is ∙ e)

  pub compound_unnamed : (p : Reader Tree) (k b : ℕ) → N ≡ refused k b → compound W p (toks_at t c.start) ≡ refused k b
  unfolding compound
  compound_unnamed p k b e = bind_refused (target W) _ (toks_at t c.start) k b (target_is ∙ e)

  pub assign_paid_unnamed : (i : Option (Reader Tree)) (k b : ℕ) → N ≡ refused k b → assign_paid W i (toks_at t c.start) ≡ refused k b
  unfolding assign_paid
  assign_paid_unnamed i k b e = bind_refused (target W) _ (toks_at t c.start) k b (target_is ∙ e)

  -- `x = e;`
  module _ (e₀ : Cursor) (m : ℕ) (q : Maybe ℕ) (o₁ : List ℕ) (r : Reads t N n o e₀ m q o₁) (p : Reader Tree) (short : Sized p) (some_sign : d.code ≡ 0 → ⊥) (f : Cursor)
      (v : Follows t d f) where
    one : size r.tree ≡ 1
    one = named_one L (token_at t c) (toks_at t d.start) r.tree (toks_at t e₀.start) r.is

    pub assign_ready : Ready t f m
    assign_ready = (v.holds, omega (arith, ready.1, r.counts, one, w.fewer some_name, v.fewer some_sign))

    assigning : assign W p (toks_at t c.start) ≡ (ended W p >>= λ e. give (binary 37 c.start r.tree e)) (toks_at t f.start)
    unfolding assign
    assigning =
        target_then _ r.tree (toks_at t e₀.start) r.is ∙ read_next v some_sign (ended W p >>= λ e. give (binary 37 (place_of r.tree) r.tree e))
        ∙ ap (λ (l : ℕ). (ended W p >>= λ e. give (binary 37 l r.tree e)) (toks_at t f.start)) (placed_at r.tree (toks_at t e₀.start) r.is)

    pub assign_wrong : (k b : ℕ) → ended W p (toks_at t f.start) ≡ refused k b → assign W p (toks_at t c.start) ≡ refused k b
    assign_wrong k b e = assigning ∙ bind_refused (ended W p) _ (toks_at t f.start) k b e

    module _ (g : Cursor) (m₂ : ℕ) (q₂ : Maybe ℕ) (o₂ : List ℕ) (r₂ : Reads t (ended W p (toks_at t f.start)) m o₁ g m₂ q₂ o₂) where
      pub assign_numbers : (n ≤ m₂) × (m₂ ≤ 50000)
      assign_numbers = omega (arith, reads_within t (ended W p) (ended_size W p short) f m o₁ g m₂ q₂ o₂ r₂ assign_ready.1, assign_ready.1, r.counts, r₂.counts)

      pub assign_reads : (o₃ : List ℕ) → o₃ ≡ put_row o₂ m₂ (row 37 (m₂ - n + 1) 2 unused c.start) → Reads t (assign W p (toks_at t c.start)) n o g (m₂ + 1) None o₃
      unfolding ◌>>=◌ give
      assign_reads o₃ z =
          let b = binary_plain t 37 c.start r.tree r₂.tree (λ y. omega arith) in
          record {
            tree = binary 37 c.start r.tree r₂.tree;
            is = assigning ∙ (rw r₂.is);
            counts = omega (arith, size_two 37 c.start [] unused r.tree r₂.tree, r.counts, r₂.counts);
            writes = after_two o n 37 c.start [] unused r.tree r₂.tree r.counts r.writes r₂.counts r₂.writes (omega (arith, r.counts, r₂.counts)) z;
            holds = r₂.holds;
            string = b.0;
            quoted = b.1;
          }

  module _ (e₀ : Cursor) (m : ℕ) (o₁ : List ℕ) (r : ReadsTwice t N n o e₀ m o₁) where
    at_name : place_of r.tree ≡ c.start
    at_name = placed_at r.tree (toks_at t e₀.start) r.is

    -- `x += e;`
    module _ (some_sign : d.code ≡ 0 → ⊥) (f : Cursor) (v : Follows t d f) (p : Reader Tree) (short : Sized p) where
      pub compound_ready : Ready t f m
      compound_ready = (v.holds, omega (arith, ready.1, r.counts, w.fewer some_name, v.fewer some_sign))

      compounding : compound W p (toks_at t c.start) ≡ (ended W p >>= λ e. give (binary 37 c.start r.tree (binary (d.code - 20) c.start r.tree e))) (toks_at t f.start)
      unfolding compound
      compounding = target_then _ r.tree (toks_at t e₀.start) r.is
          ∙ read_then v some_sign (λ u. ended W p >>= λ e. give (binary 37 (place_of r.tree) r.tree (binary (u.kind - 20) (place_of r.tree) r.tree e)))
          ∙ ap (λ (l : ℕ). (ended W p >>= λ e. give (binary 37 l r.tree (binary (d.code - 20) l r.tree e))) (toks_at t f.start)) at_name

      pub compound_wrong : (k b : ℕ) → ended W p (toks_at t f.start) ≡ refused k b → compound W p (toks_at t c.start) ≡ refused k b
      compound_wrong k b e = compounding ∙ bind_refused (ended W p) _ (toks_at t f.start) k b e

      module _ (g : Cursor) (m₂ : ℕ) (q₂ : Maybe ℕ) (o₂ : List ℕ) (r₂ : Reads t (ended W p (toks_at t f.start)) m o₁ g m₂ q₂ o₂) where
        pub compound_numbers : (n ≤ m₂) × (m₂ ≤ 50000)
        compound_numbers = omega (arith, reads_within t (ended W p) (ended_size W p short) f m o₁ g m₂ q₂ o₂ r₂ compound_ready.1, compound_ready.1, r.counts, r₂.counts)

        pub compound_reads : (o₃ o₄ : List ℕ) → o₃ ≡ put_row o₂ m₂ (row (d.code - 20) (m₂ - n) 2 unused c.start) → o₄ ≡ put_row o₃ (m₂ + 1) (row 37 (m₂ - n + 2) 2 unused c.start)
            → Reads t (compound W p (toks_at t c.start)) n o g (m₂ + 2) None o₄
        unfolding ◌>>=◌ give
        compound_reads o₃ o₄ y z =
            twice_assigned t (compound W p (toks_at t c.start)) n o (d.code - 20) c.start r.tree r₂.tree g m m₂ o₁ o₂ o₃ o₄ r.one r.counts r.writes r₂.counts
            r₂.writes y z r₂.holds (compounding ∙ (rw r₂.is))

    -- `x pays ..`
    module _ (i : Option (Reader Tree)) (short : EachSized i) where
      pub assign_paid_ready : Ready t d m
      assign_paid_ready = (w.holds, omega (arith, ready.1, r.counts, w.fewer some_name))

      paying_for : assign_paid W i (toks_at t c.start) ≡ (paid W i >>= λ e. give (binary 37 c.start r.tree (binary 8 c.start r.tree e))) (toks_at t d.start)
      unfolding assign_paid
      paying_for = target_then _ r.tree (toks_at t e₀.start) r.is
          ∙ ap (λ (l : ℕ). (paid W i >>= λ e. give (binary 37 l r.tree (binary 8 l r.tree e))) (toks_at t d.start)) at_name

      pub assign_paid_wrong : (k b : ℕ) → paid W i (toks_at t d.start) ≡ refused k b → assign_paid W i (toks_at t c.start) ≡ refused k b
      assign_paid_wrong k b e = paying_for ∙ bind_refused (paid W i) _ (toks_at t d.start) k b e

      module _ (g : Cursor) (m₂ : ℕ) (q₂ : Maybe ℕ) (o₂ : List ℕ) (r₂ : Reads t (paid W i (toks_at t d.start)) m o₁ g m₂ q₂ o₂) where
        pub assign_paid_numbers : (n ≤ m₂) × (m₂ ≤ 50000)
        assign_paid_numbers =
            omega (arith, reads_within t (paid W i) (paid_size W i short) d m o₁ g m₂ q₂ o₂ r₂ assign_paid_ready.1, assign_paid_ready.1, r.counts, r₂.counts)

        pub assign_paid_reads : (o₃ o₄ : List ℕ) → o₃ ≡ put_row o₂ m₂ (row 8 (m₂ - n) 2 unused c.start) → o₄ ≡ put_row o₃ (m₂ + 1) (row 37 (m₂ - n + 2) 2 unused c.start)
            → Reads t (assign_paid W i (toks_at t c.start)) n o g (m₂ + 2) None o₄
        unfolding ◌>>=◌ give
        assign_paid_reads o₃ o₄ y z =
            twice_assigned t (assign_paid W i (toks_at t c.start)) n o 8 c.start r.tree r₂.tree g m m₂ o₁ o₂ o₃ o₄ r.one r.counts r.writes r₂.counts r₂.writes y z
            r₂.holds (paying_for ∙ (rw r₂.is))

-- ---- what a name begins, by what stands behind it

-- what stands behind a token, by the cursor behind it: a line break matters in the first edition alone
sign_is : (second : Bool) (r x y t : List ℕ) (c d : Cursor) → Follows t c d → (c.code ≡ 0 → ⊥) → next_kind (language_in second r x y) (toks_at t c.start) ≡ sign_behind second d
sign_is false r x y t c d w z = w.next_is z
sign_is true r x y t c d w z = second_is w z

module _ (lent : Lent) (depth : ℕ) (t : List ℕ) (c d : Cursor) (w : Follows t c d) (name : c.code ≡ 1) where
  abbrev G : Language
  G = language_of lent

  abbrev p : Reader Tree
  p = primary G depth

  abbrev F : ℕ → Out Tree
  F k = name_first G p (inner G depth) k (toks_at t c.start)

  module _ (k : ℕ) (b : k ≡ sign_behind lent.two d) where
    by_sign : F (next_kind G (toks_at t c.start)) ≡ F k
    by_sign =
        ap F (sign_is lent.two lent.lists.reserved.now lent.lists.currencies.now lent.lists.counters.now t c d w (λ z. omega (arith, z, name)) ∙ sym b)

    -- a sign that decides stands at d
    pub sign_at : (k ≡ 55 → ⊥) → d.code ≡ k
    sign_at z = go (not lent.two && d.broken) b
      where
        go : (e : Bool) → k ≡ (if e then 55 else d.code) → d.code ≡ k
        go true e = absurd (z e)
        go false e = sym e

    pub first_assign : k ≡ 37 → begun_at G depth (toks_at t c.start) ≡ assign G p (toks_at t c.start)
    unfolding name_first code
    first_assign e = by_sign ∙ ap F e

    pub first_compound : 28 ≤ k → k ≤ 31 → begun_at G depth (toks_at t c.start) ≡ compound G p (toks_at t c.start)
    unfolding name_first code
    first_compound l h = by_sign ∙ (rw (ne_eqb k 37 (λ z. omega (arith, z, h)), le-leb 28 k l, le-leb k 31 h))

    pub first_paid : k ≡ 36 → begun_at G depth (toks_at t c.start) ≡ assign_paid G (inner G depth) (toks_at t c.start)
    unfolding name_first code
    first_paid e = by_sign ∙ ap F e

    pub first_ended : (k ≡ 37 → ⊥) → (28 ≤ k → k ≤ 31 → ⊥) → (k ≡ 36 → ⊥) → begun_at G depth (toks_at t c.start) ≡ ended G p (toks_at t c.start)
    unfolding name_first code
    first_ended u v z = by_sign ∙ (rw (ne_eqb k 37 u, out (leb 28 k) (leb k 31) refl refl, ne_eqb k 36 z))
      where
        out : (a b : Bool) → leb 28 k ≡ a → leb k 31 ≡ b → (leb 28 k && leb k 31) ≡ false
        out true true f g = absurd (v (leb-true 28 k f) (leb-true k 31 g))
        out true false f g = rw (f, g)
        out false b f g = rw f
