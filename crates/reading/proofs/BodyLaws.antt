-- Statements and the blocks that hold them: what each step of the code comes to in the definition. Each law is over plain values.
use Rattle.std.specs.Prelude.{if◌then◌else◌}
use mathlib.Core.Path.{◌≡◌, refl, sym, ap, ◌∙◌}
use mathlib.Core.Bool.{Bool}
use mathlib.Core.List.{List, []}
use mathlib.Core.Option.{Option, none, some}
use Prim.Native.Nat.{ℕ, zero, suc, ◌+◌, ◌-◌, ◌*◌, ◌≤◌, ◌<◌}
use native.Mathlib.Omega.{arith}
use lib.Dec.{eqb}
use borrow.Author.Tests.{eq-eqb, ne_eqb}
use lib.ListN.{length, take, drop, length-take, length-drop}
use Rattle.tokens.specs.Tokens.{Token, code}
use Rattle.tokens.specs.declared.cursor.Cursor.{Cursor}
use Rattle.grammar.specs.Trees.{Tree, Trees, node, nil, ◌▹◌, fields, none as unused, snoc, join, parts, size, sizes, row}
use Rattle.grammar.specs.Readers.{Out, ok, refused, Reader, bind, ◌>>=◌, ◌>>◌, again, follow, loop, is, give, fail_at, ask, read, the}
use Rattle.grammar.specs.Grammar.{Language, Inner, deep, deeper, expression, primary, next_kind, named, name_first, plain, paid, ended, statement_over, statement, block, block_turn, if_over, for_over}
use Rattle.reading.specs.Rows.{rows, rows_of, put_row, put_rows}
use Rattle.std.specs.Prelude.{Option as Maybe, None, Result, Ok, Err}
use Rattle.std.specs.Result.{IsErrAnd}
use Rattle.reading.specs.Meets.{words_in, language_of, toks_at, token_at, Holds, Room, Ready, Follows, Takes, Reads, Before}
use Rattle.reading.specs.Turns.{inner}
use Rattle.reading.specs.Faults.{refused_by}
use Rattle.reading.specs.Bodies.{bodies, conditional_in, repetition_in, loop_head, ReadsBlock, MeetsBlock}
use Rattle.reading.specs.declared.language.Language.{Language as Lent}
use Rattle.reading.specs.declared.answers.Fault.{Fault}
use Rattle.reading.specs.declared.answers.Block.{Block}
use Rattle.grammar.proofs.Laws.{loop_eq}
use Rattle.grammar.proofs.GrammarLaws.{Moves, move_then, stay_next, the_moves, the_stays, give_stays, named_law, block_turn_law}
use Rattle.grammar.proofs.StatementLaws.{near_tail, statement_tail}
use Rattle.grammar.proofs.SizeLaws.{Sized, expression_size, primary_size, block_size, statement_size, moves_less}
use Rattle.reading.proofs.HoldLaws.{first_kind, start_in, end_in, ask_yes, ask_no, peek_is, read_then, read_next, the_next}
use Rattle.grammar.proofs.TreeLaws.{sizes_join, parts_snoc, parts_join}
use Rattle.reading.proofs.RowLaws.{size_node, size_some, sizes_front, parts_few, put_rows_same, put_front, put_join, before_none, before_more, before_node}
use Rattle.reading.proofs.ChainLaws.{reads_within}
use Rattle.reading.proofs.StepLaws.{bind_refused}

-- ---- the error that a `?` passes on

pub block_err : (t : List ℕ) (R : Out Trees) (n : ℕ) (o : List ℕ) (r : Result Block Fault) (o' : List ℕ) (e : Fault) → IsErrAnd r (λ y. y ≡ e) → R ≡ refused_by e
    → MeetsBlock t R n o r o'
block_err t R n o (Ok x) o' e h g = absurd h
block_err t R n o (Err y) o' e h g = rw h g

-- ---- depth

-- what can be read with d left
abbrev pub body_at : Language → ℕ → Inner
body_at W d = record { statement = statement W d; primary = primary W d }

pub statement_is : (W : Language) (d : ℕ) → statement W d ≡ statement_over W (primary W d) (bodies W d)
unfolding statement bodies
statement_is W zero = refl
statement_is W (suc d) = refl

pub deep_bodies : (W : Language) (d : ℕ) → deep (bodies W d) ≡ inner W d
unfolding bodies inner
deep_bodies W zero = refl
deep_bodies W (suc d) = refl

pub bodies_none : (W : Language) (d : ℕ) → d ≡ 0 → bodies W d ≡ none
unfolding bodies
bodies_none W d e = rw e

pub bodies_some : (W : Language) (d : ℕ) → (d ≡ 0 → ⊥) → bodies W d ≡ some (body_at W (d - 1))
unfolding bodies
bodies_some W zero h = absurd (h refl)
bodies_some W (suc d) h = let q : suc d - 1 ≡ d = omega arith in rw q

pub body_none : (u : Token) (W : Language) (d : ℕ) (k : Inner → Reader Tree) (ts : List Token) → d ≡ 0 → deeper u (bodies W d) k ts ≡ refused 15 u.from
unfolding deeper fail_at
body_none u W d k ts e = rw (bodies_none W d e)

pub body_some : (u : Token) (W : Language) (d : ℕ) (k : Inner → Reader Tree) (ts : List Token) → (d ≡ 0 → ⊥) → deeper u (bodies W d) k ts ≡ k (body_at W (d - 1)) ts
unfolding deeper
body_some u W d k ts h = rw (bodies_some W d h)

pub statement_law : (W : Language) (d : ℕ) → Moves (statement W d)
statement_law W d = statement_tail W d near_tail

-- ---- a statement, by the code of its first token

module _ (W : Language) (t : List ℕ) (c : Cursor) (h : Holds t c) (depth : ℕ) where
  abbrev S : Out Tree
  S = statement W depth (toks_at t c.start)

  abbrev either : Bool → Option (Reader Tree) → Reader Tree
  either b i = if b then name_first W (primary W depth) i (next_kind W (toks_at t c.start)) else plain W (primary W depth) (bodies W depth)

  over : S ≡ either (eqb 1 c.code) (inner W depth) (toks_at t c.start)
  unfolding statement_over code
  over =
      ap (λ (r : Reader Tree). r (toks_at t c.start)) (statement_is W depth)
      ∙ (ap (λ (k : ℕ). either (eqb 1 k) (deep (bodies W depth)) (toks_at t c.start)) (first_kind h)
      ∙ ap (λ (i : Option (Reader Tree)). either (eqb 1 c.code) i (toks_at t c.start)) (deep_bodies W depth))

  pub stat_name : c.code ≡ 1 → S ≡ name_first W (primary W depth) (inner W depth) (next_kind W (toks_at t c.start)) (toks_at t c.start)
  stat_name e = over ∙ ap (λ (b : Bool). either b (inner W depth) (toks_at t c.start)) (ap (eqb 1) e)

  no_name : (c.code ≡ 1 → ⊥) → S ≡ plain W (primary W depth) (bodies W depth) (toks_at t c.start)
  no_name z = over ∙ ap (λ (b : Bool). either b (inner W depth) (toks_at t c.start)) (ne_eqb 1 c.code (λ e. z (sym e)))

  pub stat_if : c.code ≡ 38 → S ≡ conditional_in W depth (token_at t c) (toks_at t c.start)
  unfolding plain code
  stat_if e = no_name (λ z. omega (arith, z, e)) ∙ (peek_is h _ ∙ (rw (ap (eqb 38) e)))

  pub stat_for : c.code ≡ 39 → S ≡ repetition_in W depth (token_at t c) (toks_at t c.start)
  unfolding plain code
  stat_for e = no_name (λ z. omega (arith, z, e)) ∙ (peek_is h _ ∙ (rw (ap (eqb 38) e, ap (eqb 39) e)))

  pub stat_pays : c.code ≡ 36 → S ≡ paid W (inner W depth) (toks_at t c.start)
  unfolding plain code
  stat_pays e = no_name (λ z. omega (arith, z, e)) ∙ (peek_is h _ ∙ (rw (ap (eqb 38) e, ap (eqb 39) e, ap (eqb 36) e, deep_bodies W depth)))

  pub stat_ended : (c.code ≡ 1 → ⊥) → (c.code ≡ 38 → ⊥) → (c.code ≡ 39 → ⊥) → (c.code ≡ 36 → ⊥) → S ≡ ended W (primary W depth) (toks_at t c.start)
  unfolding plain code
  stat_ended a b d e =
      no_name a
      ∙ (peek_is h _ ∙ (rw (ne_eqb 38 c.code (λ z. b (sym z)), ne_eqb 39 c.code (λ z. d (sym z)), ne_eqb 36 c.code (λ z. e (sym z)))))

-- ---- the memory after a tree and those behind it

pub before_front : {n l m : ℕ} {o o₁ o₂ : List ℕ} (a : Tree) (ts : Trees) → l ≡ n + size a → o₁ ≡ put_rows o n (rows a) → m ≡ l + sizes ts → o₂ ≡ put_rows o₁ l (rows_of ts)
    → Before n o (a ▹ ts) m o₂
before_front {n} {l} {m} {o} a ts p q r s =
    record { counts = omega (arith, p, r, sizes_front a ts); writes = s ∙ (put_rows_same q p refl ∙ sym (put_front o n a ts)) }

pub before_join : {n m m' : ℕ} {o o₁ o₂ : List ℕ} {ts : Trees} (us : Trees) → Before n o ts m o₁ → m' ≡ m + sizes us → o₂ ≡ put_rows o₁ m (rows_of us)
    → Before n o (join ts us) m' o₂
before_join {n} {m} {m'} {o} {o₁} {o₂} {ts} us h e w =
    record {
      counts = omega (arith, e, h.counts, sizes_join ts us);
      writes = w ∙ (put_rows_same h.writes h.counts refl ∙ sym (put_join o n ts us));
    }

-- ---- the loop of `block`

-- the trees so far, and that the loop from here gives the whole reading R
pub record BlockChain (p : Reader Tree) (t : List ℕ) (R : Out Trees) (n : ℕ) (o : List ℕ) (c : Cursor) (m count : ℕ) (o' : List ℕ) : Type 0 where
  pub trees : Trees
  pub is : R ≡ loop (block_turn p) trees (toks_at t c.start)
  pub before : Before n o trees m o'
  pub many : count ≡ parts trees
  pub room : Room t c m
  pub holds : Holds t c

-- what stands behind the statements
abbrev ends : Trees → Reader Trees
ends ss = the "}" >> give ss

module _ (p : Reader Tree) (moves : Moves p) (short : Sized p) (t : List ℕ) where
  -- no `{`
  pub block_unopened : (c : Cursor) (a : Fault) → Takes t 42 c (Err a) → block p (toks_at t c.start) ≡ refused_by a
  unfolding block code ◌>>◌ ◌>>=◌ the
  block_unopened c a g = rw g

  module _ (c : Cursor) (h : Holds t c) (d : Cursor) (g : Takes t 42 c (Ok d)) where
    some_open : c.code ≡ 0 → ⊥
    some_open z = omega (arith, z, g.1)

    -- the block is what the loop gives, and its closing sign
    pub block_opened : block p (toks_at t c.start) ≡ bind ends (loop (block_turn p) nil (toks_at t d.start))
    unfolding block code ◌>>=◌
    block_opened = the_next h g.0 some_open "{" (sym g.1) _

    pub block_start : (n : ℕ) (o : List ℕ) → Room t c n → BlockChain p t (loop (block_turn p) nil (toks_at t d.start)) n o d n 0 o
    block_start n o room =
        record { trees = nil; is = refl; before = before_none n o; many = refl; room = omega (arith, room, g.0.fewer some_open); holds = g.0.holds }

  module _ (R : Out Trees) (n : ℕ) (o : List ℕ) (c : Cursor) (m count : ℕ) (o' : List ℕ) (ch : BlockChain p t R n o c m count o') where
    turn : R ≡ follow (loop (block_turn p)) (block_turn p ch.trees (toks_at t c.start))
    turn = ch.is ∙ loop_eq (block_turn_law p moves) ch.trees (toks_at t c.start)

    pub block_ready : Ready t c m
    block_ready = (ch.holds, ch.room)

    -- the closing sign: the loop ends
    block_stop : c.code ≡ 43 → R ≡ ok ch.trees (toks_at t c.start)
    unfolding block_turn give code
    block_stop e = turn ∙ (rw (ask_yes ch.holds (is "}") _ _ (eq-eqb 43 c.code (sym e))))

    pub block_exit : c.code ≡ 43 → (d : Cursor) → Follows t c d → (B : Out Trees) → B ≡ bind ends R → ReadsBlock t B n o d m count o'
    unfolding give code
    block_exit e d w B q =
        record {
          items = ch.trees;
          is = q ∙ (ap (bind ends) (block_stop e) ∙ the_next ch.holds w (λ z. omega (arith, z, e)) "}" (sym e) (give ch.trees));
          counts = ch.before.counts;
          parts_are = ch.many;
          writes = ch.before.writes;
          holds = w.holds;
        }

    module _ (z : c.code ≡ 43 → ⊥) where
      turn_is : block_turn p ch.trees (toks_at t c.start) ≡ (p >>= λ s. give (again (snoc ch.trees s))) (toks_at t c.start)
      unfolding block_turn code
      turn_is = ask_no ch.holds (is "}") _ _ (ne_eqb 43 c.code (λ e. z (sym e)))

      pub block_wrong : (j b : ℕ) → (B : Out Trees) → B ≡ bind ends R → p (toks_at t c.start) ≡ refused j b → B ≡ refused j b
      unfolding ◌>>=◌
      block_wrong j b B q e = let g : R ≡ refused j b = turn ∙ (rw (turn_is, e)) in q ∙ ap (bind ends) g

      module _ (d : Cursor) (m₁ : ℕ) (q : Maybe ℕ) (o₁ : List ℕ) (r : Reads t (p (toks_at t c.start)) m o' d m₁ q o₁) where
        within : m₁ + 3 * length (toks_at t d.start) ≤ m + 3 * length (toks_at t c.start)
        within = reads_within t p short c m o' d m₁ q o₁ r ch.room

        -- the numbers that the code computes
        pub block_numbers : (n ≤ m) × (m ≤ m₁) × (m₁ ≤ 50000) × (count < 50000)
        block_numbers = omega (arith, within, ch.room, ch.before.counts, r.counts, size_some r.tree, ch.many, parts_few ch.trees)

        pub block_less : length (toks_at t d.start) < length (toks_at t c.start)
        block_less = moves_less moves (toks_at t c.start) r.tree (toks_at t d.start) r.is

        pub block_next : BlockChain p t R n o d m₁ (count + 1) o₁
        unfolding ◌>>=◌ give
        block_next =
            record {
              trees = snoc ch.trees r.tree;
              is = turn ∙ (rw (turn_is, r.is));
              before = before_more r.tree ch.before r.counts r.writes;
              many = omega (arith, ch.many, parts_snoc ch.trees r.tree);
              room = omega (arith, within, ch.room);
              holds = r.holds;
            }

-- what was read as a block, with what is left, is no more than there was
pub block_within : (t : List ℕ) (p : Reader Tree) → Sized p → (c : Cursor) (n : ℕ) (o : List ℕ) (d : Cursor) (m k : ℕ) (o' : List ℕ)
    → ReadsBlock t (block p (toks_at t c.start)) n o d m k o' → Room t c n
    → (n ≤ m) × (n + k ≤ m) × (m ≤ 50000) × (m + 3 * length (toks_at t d.start) ≤ n + 3 * length (toks_at t c.start))
block_within t p h c n o d m k o' r room =
    omega (arith, block_size p h (toks_at t c.start) r.items (toks_at t d.start) r.is, r.counts, r.parts_are, parts_few r.items, room)

-- ---- an if

module _ (W : Language) (depth : ℕ) (t : List ℕ) (c d : Cursor) (w : Follows t c d) (e : c.code ≡ 38) where
  abbrev C : Out Tree
  C = conditional_in W depth (token_at t c) (toks_at t c.start)

  pub if_0 : depth ≡ 0 → C ≡ refused 15 c.start
  if_0 z = body_none (token_at t c) W depth (if_over W) (toks_at t c.start) z

  some_if : c.code ≡ 0 → ⊥
  some_if z = omega (arith, z, e)

  pub if_ready : (n : ℕ) → Room t c n → Ready t d n
  if_ready n room = (w.holds, omega (arith, room, w.fewer some_if))

  module _ (left : depth ≡ 0 → ⊥) where
    abbrev P : Reader Tree
    P = primary W (depth - 1)

    abbrev B : Reader Trees
    B = block (statement W (depth - 1))

    abbrev branches : Tree → Trees → Reader Tree
    branches x ss =
        ask (is "else") (read >> (B >>= λ us. give (node 38 c.start [] (fields (suc (parts ss)) 0 0 0) (x ▹ join ss us)))) (give (node 38 c.start [] unused (x ▹ ss)))

    inside : C ≡ (expression W P >>= λ x. B >>= branches x) (toks_at t d.start)
    unfolding if_over
    inside = body_some (token_at t c) W depth (if_over W) (toks_at t c.start) left ∙ read_then w some_if _

    pub if_refused : (k b : ℕ) → expression W P (toks_at t d.start) ≡ refused k b → C ≡ refused k b
    if_refused k b q = inside ∙ bind_refused (expression W P) _ (toks_at t d.start) k b q

    module _ (n : ℕ) (room : Room t c n) (o : List ℕ) (f : Cursor) (m : ℕ) (q : Maybe ℕ) (o₁ : List ℕ) (r : Reads t (expression W P (toks_at t d.start)) n o f m q o₁) where
      expression_within : m + 3 * length (toks_at t f.start) ≤ n + 3 * length (toks_at t d.start)
      expression_within = reads_within t (expression W P) (expression_size W P (primary_size W (depth - 1))) d n o f m q o₁ r (if_ready n room).1

      pub if_body_ready : Ready t f m
      if_body_ready = (r.holds, omega (arith, expression_within, room, w.fewer some_if))

      second : C ≡ (B >>= branches r.tree) (toks_at t f.start)
      unfolding ◌>>=◌
      second = inside ∙ (rw r.is)

      pub if_body_refused : (k b : ℕ) → B (toks_at t f.start) ≡ refused k b → C ≡ refused k b
      if_body_refused k b z = second ∙ bind_refused B _ (toks_at t f.start) k b z

      module _ (g : Cursor) (k count : ℕ) (o₂ : List ℕ) (s : ReadsBlock t (B (toks_at t f.start)) m o₁ g k count o₂) where
        body_within : (m ≤ k) × (m + count ≤ k) × (k ≤ 50000) × (k + 3 * length (toks_at t g.start) ≤ m + 3 * length (toks_at t f.start))
        body_within = block_within t (statement W (depth - 1)) (statement_size W (depth - 1)) f m o₁ g k count o₂ s if_body_ready.1

        -- the numbers that the code computes
        pub if_numbers : (n ≤ k) × (k ≤ 50000) × (count ≤ 50000)
        if_numbers = omega (arith, body_within, r.counts)

        third : C ≡ branches r.tree s.items (toks_at t g.start)
        unfolding ◌>>=◌
        third = second ∙ (rw s.is)

        both : Before n o (r.tree ▹ s.items) k o₂
        both = before_front r.tree s.items r.counts r.writes s.counts s.writes

        -- no `else`
        pub if_done : (g.code ≡ 49 → ⊥) → (o₃ : List ℕ) → o₃ ≡ put_row o₂ k (row 38 (k - n + 1) (count + 1) unused c.start) → Reads t C n o g (k + 1) None o₃
        unfolding give code
        if_done z o₃ v =
            record {
              tree = node 38 c.start [] unused (r.tree ▹ s.items);
              is = third ∙ ask_no s.holds (is "else") _ _ (ne_eqb 49 g.code (λ y. z (sym y)));
              counts = omega (arith, size_node 38 c.start [] unused (r.tree ▹ s.items), both.counts);
              writes = before_node 38 c.start [] unused both (omega (arith, both.counts)) (omega (arith, s.parts_are)) v;
              holds = s.holds;
              string = refl;
              quoted = λ y. absurd (omega arith);
            }

        module _ (z : g.code ≡ 49) (h : Cursor) (u : Follows t g h) where
          some_else : g.code ≡ 0 → ⊥
          some_else y = omega (arith, y, z)

          pub else_ready : Ready t h k
          else_ready = (u.holds, omega (arith, body_within, if_body_ready.1, u.fewer some_else))

          fourth : C ≡ (B >>= λ us. give (node 38 c.start [] (fields (suc (parts s.items)) 0 0 0) (r.tree ▹ join s.items us))) (toks_at t h.start)
          unfolding code
          fourth = third ∙ (ask_yes s.holds (is "else") _ _ (eq-eqb 49 g.code (sym z)) ∙ read_next u some_else _)

          pub else_refused : (j b : ℕ) → B (toks_at t h.start) ≡ refused j b → C ≡ refused j b
          else_refused j b y = fourth ∙ bind_refused B _ (toks_at t h.start) j b y

          module _ (l : Cursor) (j more : ℕ) (o₃ : List ℕ) (s₂ : ReadsBlock t (B (toks_at t h.start)) k o₂ l j more o₃) where
            else_within : (k ≤ j) × (k + more ≤ j) × (j ≤ 50000) × (j + 3 * length (toks_at t l.start) ≤ k + 3 * length (toks_at t h.start))
            else_within = block_within t (statement W (depth - 1)) (statement_size W (depth - 1)) h k o₂ l j more o₃ s₂ else_ready.1

            pub else_numbers : (n ≤ j) × (j ≤ 50000) × (count + more ≤ 50000)
            else_numbers = omega (arith, body_within, else_within, r.counts)

            all : Before n o (r.tree ▹ join s.items s₂.items) j o₃
            all = before_join s₂.items both s₂.counts s₂.writes

            pub else_done : (o₄ : List ℕ) → o₄ ≡ put_row o₃ j (row 38 (j - n + 1) (count + more + 1) (fields (count + 1) 0 0 0) c.start) → Reads t C n o l (j + 1) None o₄
            unfolding give ◌>>=◌
            else_done o₄ v =
                let x : count + 1 ≡ suc (parts s.items) = omega (arith, s.parts_are) in
                record {
                  tree = node 38 c.start [] (fields (suc (parts s.items)) 0 0 0) (r.tree ▹ join s.items s₂.items);
                  is = fourth ∙ (rw s₂.is);
                  counts = omega (arith, size_node 38 c.start [] (fields (suc (parts s.items)) 0 0 0) (r.tree ▹ join s.items s₂.items), all.counts);
                  writes = before_node 38 c.start [] (fields (suc (parts s.items)) 0 0 0) all (omega (arith, all.counts))
                      (omega (arith, s.parts_are, s₂.parts_are, parts_join s.items s₂.items))
                      (v ∙ ap (λ (y : ℕ). put_row o₃ j (row 38 (j - n + 1) (count + more + 1) (fields y 0 0 0) c.start)) x);
                  holds = s₂.holds;
                  string = refl;
                  quoted = λ y. absurd (omega arith);
                }

-- ---- a for

-- what stands behind a head may be read after the head
module _ (W : Language) (F : Token → Reader Tree) where
  behind_in : (v : Token) (o : Out Token) → bind (λ a. F v) o ≡ bind F (bind (λ a. give v) o)
  unfolding give
  behind_in v (ok a ts) = refl
  behind_in v (refused k b) = refl

  behind_named : (v : Token) (o : Out Tree) → bind (λ a. the "in" >> F v) o ≡ bind F (bind (λ a. the "in" >> give v) o)
  unfolding ◌>>=◌ ◌>>◌
  behind_named v (ok a ts) = behind_in v (the "in" ts)
  behind_named v (refused k b) = refl

  behind_name : (o : Out Token) → bind (λ v. named W v >> (the "in" >> F v)) o ≡ bind F (bind (λ v. named W v >> (the "in" >> give v)) o)
  unfolding ◌>>=◌ ◌>>◌
  behind_name (ok v ts) = behind_named v (named W v ts)
  behind_name (refused k b) = refl

  head_first : (ts : List Token) → (the "name" >>= λ v. named W v >> (the "in" >> F v)) ts ≡ (loop_head W >>= F) ts
  unfolding ◌>>=◌
  head_first ts = behind_name (the "name" ts)

-- of the language, the reserved names alone matter in a head
head_words : (lent : Lent) → loop_head (language_of lent) ≡ loop_head (words_in lent.lists.reserved.now [] [])
unfolding named
head_words lent = refl

head_law : (W : Language) → Moves (loop_head W)
head_law W = move_then (the_moves "name") λ v. stay_next (named_law W v) (stay_next (the_stays "in") (give_stays v))

module _ (lent : Lent) (depth : ℕ) (t : List ℕ) (c d : Cursor) (w : Follows t c d) (e : c.code ≡ 39) where
  abbrev W : Language
  W = language_of lent

  abbrev L₁ : Language
  L₁ = words_in lent.lists.reserved.now [] []

  abbrev L : Out Tree
  L = repetition_in W depth (token_at t c) (toks_at t c.start)

  abbrev H : Out Token
  H = loop_head L₁ (toks_at t d.start)

  pub for_0 : depth ≡ 0 → L ≡ refused 15 c.start
  for_0 z = body_none (token_at t c) W depth (for_over W) (toks_at t c.start) z

  some_for : c.code ≡ 0 → ⊥
  some_for z = omega (arith, z, e)

  module _ (left : depth ≡ 0 → ⊥) where
    abbrev Pr : Reader Tree
    Pr = primary W (depth - 1)

    abbrev Bl : Reader Trees
    Bl = block (statement W (depth - 1))

    abbrev loop_node : Token → Tree → Trees → Tree
    loop_node v x ss = node 39 c.start v.text (fields v.from (length v.text) 0 0) (x ▹ ss)

    abbrev rest : Token → Reader Tree
    rest v = expression W Pr >>= λ x. Bl >>= λ ss. give (loop_node v x ss)

    headed : L ≡ (loop_head L₁ >>= rest) (toks_at t d.start)
    unfolding for_over
    headed =
        body_some (token_at t c) W depth (for_over W) (toks_at t c.start) left
        ∙ (read_then w some_for _
        ∙ (head_first W rest (toks_at t d.start) ∙ ap (λ (x : Reader Token). (x >>= rest) (toks_at t d.start)) (head_words lent)))

    pub for_head_refused : (k j : ℕ) → H ≡ refused k j → L ≡ refused k j
    for_head_refused k j q = headed ∙ bind_refused (loop_head L₁) _ (toks_at t d.start) k j q

    module _ (f : Cursor) (h : Holds t f × (d.code ≡ 1) × (H ≡ ok (token_at t d) (toks_at t f.start))) where
      shorter : length (toks_at t f.start) < length (toks_at t d.start)
      shorter = moves_less (head_law L₁) (toks_at t d.start) (token_at t d) (toks_at t f.start) h.2

      behind : L ≡ rest (token_at t d) (toks_at t f.start)
      unfolding ◌>>=◌
      behind = headed ∙ ap (bind rest) h.2

      pub for_ready : (n : ℕ) → Room t c n → Ready t f n
      for_ready n room = (h.0, omega (arith, room, w.fewer some_for, shorter))

      pub for_refused : (k j : ℕ) → expression W Pr (toks_at t f.start) ≡ refused k j → L ≡ refused k j
      for_refused k j q = behind ∙ bind_refused (expression W Pr) _ (toks_at t f.start) k j q

      module _ (n : ℕ) (room : Room t c n) (o : List ℕ) (g : Cursor) (m : ℕ) (q : Maybe ℕ) (o₁ : List ℕ) (r : Reads t (expression W Pr (toks_at t f.start)) n o g m q o₁) where
        source_within : m + 3 * length (toks_at t g.start) ≤ n + 3 * length (toks_at t f.start)
        source_within = reads_within t (expression W Pr) (expression_size W Pr (primary_size W (depth - 1))) f n o g m q o₁ r (for_ready n room).1

        pub for_body_ready : Ready t g m
        for_body_ready = (r.holds, omega (arith, source_within, (for_ready n room).1))

        bodied : L ≡ (Bl >>= λ ss. give (loop_node (token_at t d) r.tree ss)) (toks_at t g.start)
        unfolding ◌>>=◌
        bodied = behind ∙ (rw r.is)

        pub for_body_refused : (k j : ℕ) → Bl (toks_at t g.start) ≡ refused k j → L ≡ refused k j
        for_body_refused k j z = bodied ∙ bind_refused Bl _ (toks_at t g.start) k j z

        module _ (u : Cursor) (k count : ℕ) (o₂ : List ℕ) (s : ReadsBlock t (Bl (toks_at t g.start)) m o₁ u k count o₂) where
          looped_within : (m ≤ k) × (m + count ≤ k) × (k ≤ 50000) × (k + 3 * length (toks_at t u.start) ≤ m + 3 * length (toks_at t g.start))
          looped_within = block_within t (statement W (depth - 1)) (statement_size W (depth - 1)) g m o₁ u k count o₂ s for_body_ready.1

          -- the numbers that the code computes
          pub for_numbers : (n ≤ k) × (k ≤ 50000) × (count ≤ 50000)
          for_numbers = omega (arith, looped_within, r.counts)

          looped : Before n o (r.tree ▹ s.items) k o₂
          looped = before_front r.tree s.items r.counts r.writes s.counts s.writes

          pub for_done : (o₃ : List ℕ) → o₃ ≡ put_row o₂ k (row 39 (k - n + 1) (count + 1) (fields d.start (d.end - d.start) 0 0) c.start) → Reads t L n o u (k + 1) None o₃
          unfolding give ◌>>=◌
          for_done o₃ v =
              let x : d.end - d.start ≡ length (take (d.end - d.start) (drop d.start t))
              = omega (arith, length-take (d.end - d.start) (drop d.start t), length-drop d.start t, start_in w.holds, end_in w.holds) in
              let fs = fields d.start (length (take (d.end - d.start) (drop d.start t))) 0 0 in
              record {
                tree = loop_node (token_at t d) r.tree s.items;
                is = bodied ∙ (rw s.is);
                counts = omega (arith, size_node 39 c.start (token_at t d).text fs (r.tree ▹ s.items), looped.counts);
                writes = before_node 39 c.start (token_at t d).text fs looped (omega (arith, looped.counts)) (omega (arith, s.parts_are))
                    (v ∙ ap (λ (z : ℕ). put_row o₂ k (row 39 (k - n + 1) (count + 1) (fields d.start z 0 0) c.start)) x);
                holds = s.holds;
                string = refl;
                quoted = λ z. absurd (omega arith);
              }
