-- Operands joined by operators: what each turn of the code's loop comes to. One set of laws for every level.
use mathlib.Core.Path.{◌≡◌, refl, sym, ap, ◌∙◌, subst}
use mathlib.Core.Bool.{Bool, true, false, ◌&&◌, ◌||◌, not, true≢false}
use mathlib.Core.List.{List, []}
use Prim.Native.Nat.{ℕ, zero, suc, ◌+◌, ◌-◌, ◌*◌, ◌≤◌, ◌<◌}
use native.Mathlib.Omega.{arith}
use borrow.Author.Tests.{ne_eqb}
use lib.ListN.{length}
use Rattle.std.specs.Prelude.{Option, Some, None}
use Rattle.tokens.specs.Dates.{unless_0}
use Rattle.tokens.specs.Tokens.{Token, code}
use Rattle.tokens.specs.declared.cursor.Cursor.{Cursor}
use Rattle.grammar.specs.Trees.{Tree, none as unused, size, row}
use Rattle.grammar.specs.Readers.{Out, ok, refused, Reader, bind, ◌>>=◌, again, follow, turns, loop, first, is, give, ask, peek}
use Rattle.grammar.specs.Grammar.{Language, binary, group_turn, grouped, sum, comparison, expression, primary}
use Rattle.reading.specs.Rows.{rows, put_row, put_rows}
use Rattle.reading.specs.Meets.{language_in, toks_at, token_at, Holds, Room, Ready, Follows, string_at, Quoted, Reads}
use Rattle.reading.specs.Joins.{Joins, sign_or_0}
use Rattle.reading.specs.Turns.{power_at, product_or, sum_or, comparison_or, expression_or}
use Rattle.reading.specs.declared.records.Joined.{Joined}
use Rattle.reading.specs.Signs.{tighter_sign, looser_sign, sum_sign, product_sign, power_sign}
use Rattle.grammar.proofs.Laws.{loop_eq}
use Rattle.grammar.proofs.GrammarLaws.{Moves, group_turn_law, grouped_law, power_law, comparison_law, primary_law}
use Rattle.grammar.proofs.SizeLaws.{Sized, moves_less, grouped_size, primary_size, power_size, comparison_size}
use Rattle.reading.proofs.HoldLaws.{peek_is, ask_yes, ask_no, read_then}
use Rattle.reading.proofs.RowLaws.{size_some, size_two, after_two}

-- what was read, with what is left, is no more than there was
pub reads_within : (t : List ℕ) (p : Reader Tree) → Sized p → (c : Cursor) (n : ℕ) (o : List ℕ) (d : Cursor) (m : ℕ) (q : Option ℕ) (o' : List ℕ)
    → Reads t (p (toks_at t c.start)) n o d m q o' → Room t c n → m + 3 * length (toks_at t d.start) ≤ n + 3 * length (toks_at t c.start)
reads_within t p h c n o d m q o' r room =
    omega (arith, h (toks_at t c.start) r.tree (toks_at t d.start) r.is, r.counts)

-- a tree of two parts is no String node
pub binary_plain : (t : List ℕ) (k y : ℕ) (a b : Tree) → (k ≡ 5 → ⊥) → (None ≡ unless_0 (string_at (binary k y a b))) × Quoted t (binary k y a b)
binary_plain t k y a b h = (rw (ne_eqb k 5 h), λ e. absurd (h e))

-- a level of operators: its test by the kind's number, which neither End nor a string passes, and its operands
pub record Level (test : Token → Bool) (op : ℕ → Bool) (p : Reader Tree) : Type 0 where
  pub by : (u : Token) → test u ≡ op u.kind
  pub not_end : op 0 ≡ false
  pub not_string : op 5 ≡ false
  pub moves : Moves p
  pub short : Sized p

-- a sign of a level is no 0
pub sign_not_0 : {test : Token → Bool} {op : ℕ → Bool} {p : Reader Tree} → Level test op p → {k : ℕ} → op k ≡ true → Some k ≡ Some 0 → ⊥
sign_not_0 {op = op} L h e = true≢false (sym h ∙ (ap op (ap sign_or_0 e) ∙ L.not_end))

-- the tree so far, in a chain that begins at y, and that the loop from here gives the whole reading R
pub record Chain (test : Token → Bool) (p : Reader Tree) (t : List ℕ) (y : ℕ) (R : Out Tree) (n : ℕ) (o : List ℕ) (c : Cursor) (m : ℕ) (q : Option ℕ) (o' : List ℕ) : Type 0 where
  pub tree : Tree
  pub is : R ≡ loop (group_turn test p y) tree (toks_at t c.start)
  pub counts : m ≡ n + size tree
  pub writes : o' ≡ put_rows o n (rows tree)
  pub room : Room t c m
  pub holds : Holds t c
  pub string : q ≡ unless_0 (string_at tree)
  pub quoted : Quoted t tree

module _ {test : Token → Bool} {op : ℕ → Bool} {p : Reader Tree} (L : Level test op p) (t : List ℕ) where
  -- where the loop begins
  chain_enter : (c : Cursor) (n : ℕ) (o : List ℕ) (d : Cursor) (m : ℕ) (q : Option ℕ) (o' : List ℕ) → Holds t c → Room t c n → Reads t (p (toks_at t c.start)) n o d m q o'
      → Chain test p t c.start (grouped test p (toks_at t c.start)) n o d m q o'
  unfolding grouped ◌>>=◌
  chain_enter c n o d m q o' h room r =
      record {
        tree = r.tree;
        is = peek_is h _ ∙ (rw r.is);
        counts = r.counts;
        writes = r.writes;
        room = omega (arith, reads_within t p L.short c n o d m q o' r room);
        holds = r.holds;
        string = r.string;
        quoted = r.quoted;
      }

  pub chain_refused : (c : Cursor) → Holds t c → (k b : ℕ) → p (toks_at t c.start) ≡ refused k b → grouped test p (toks_at t c.start) ≡ refused k b
  unfolding grouped ◌>>=◌
  chain_refused c h k b e = peek_is h _ ∙ (rw e)

  module _ {y : ℕ} {R : Out Tree} {n : ℕ} {o : List ℕ} {c : Cursor} {m : ℕ} {q : Option ℕ} {o' : List ℕ} (ch : Chain test p t y R n o c m q o') where
    turn : R ≡ follow (loop (group_turn test p y)) (group_turn test p y ch.tree (toks_at t c.start))
    turn = ch.is ∙ loop_eq (group_turn_law test p L.moves y) ch.tree (toks_at t c.start)

    -- no sign: the loop ends
    pub chain_exit : op c.code ≡ false → Reads t R n o c m q o'
    unfolding group_turn give
    chain_exit z =
        record {
          tree = ch.tree;
          is = turn ∙ (rw (ask_no ch.holds test _ _ (L.by (token_at t c) ∙ z)));
          counts = ch.counts;
          writes = ch.writes;
          holds = ch.holds;
          string = ch.string;
          quoted = ch.quoted;
        }

    -- a sign
    module _ (z : op c.code ≡ true) (d : Cursor) (w : Follows t c d) where
      some : c.code ≡ 0 → ⊥
      some e = true≢false (sym z ∙ (ap op e ∙ L.not_end))

      sign_ready : Ready t d m
      sign_ready = (w.holds, omega (arith, ch.room, w.fewer some))

      turn_is : group_turn test p y ch.tree (toks_at t c.start) ≡ (p >>= λ r. give (again (binary c.code y ch.tree r))) (toks_at t d.start)
      unfolding group_turn
      turn_is = rw (ask_yes ch.holds test _ _ (L.by (token_at t c) ∙ z)) (read_then w some _)

      sign_refused : (k b : ℕ) → p (toks_at t d.start) ≡ refused k b → R ≡ refused k b
      unfolding ◌>>=◌
      sign_refused k b e = turn ∙ (rw (turn_is, e))

      module _ {c₂ : Cursor} {m₂ : ℕ} {q₂ : Option ℕ} {o₂ : List ℕ} (r : Reads t (p (toks_at t d.start)) m o' c₂ m₂ q₂ o₂) where
        within : m₂ + 3 * length (toks_at t c₂.start) ≤ m + 3 * length (toks_at t d.start)
        within = reads_within t p L.short d m o' c₂ m₂ q₂ o₂ r sign_ready.1

        -- the numbers that the code computes
        sign_numbers : (n ≤ m) × (m ≤ m₂) × (m₂ < 50000) × (1 ≤ m₂ - n)
        sign_numbers = omega (arith, within, w.fewer some, ch.room, ch.counts, r.counts, size_some ch.tree)

        sign_more : (o₃ : List ℕ) → o₃ ≡ put_row o₂ m₂ (row c.code (m₂ - n + 1) 2 unused y) → Chain test p t y R n o c₂ (m₂ + 1) None o₃
        unfolding ◌>>=◌ give
        sign_more o₃ e =
            let five : c.code ≡ 5 → ⊥ = λ f. true≢false (sym z ∙ (ap op f ∙ L.not_string)) in
            let b = binary_plain t c.code y ch.tree r.tree five in
            let s = size_two c.code y [] unused ch.tree r.tree in
            record {
              tree = binary c.code y ch.tree r.tree;
              is = turn ∙ (rw (turn_is, r.is));
              counts = omega (arith, s, ch.counts, r.counts);
              writes = after_two o n c.code y [] unused ch.tree r.tree ch.counts ch.writes r.counts r.writes (omega (arith, ch.counts, r.counts)) e;
              room = omega (arith, within, w.fewer some, ch.room);
              holds = r.holds;
              string = b.0;
              quoted = b.1;
            }

-- ---- an operand that is to be read

pub by_sign : {A : Type 0} (k : ℕ) → (k ≡ 0 → A) → ((k ≡ 0 → ⊥) → A) → A
by_sign zero f g = f refl
by_sign (suc k) f g = g (λ e. absurd (omega arith))

-- the first one
pub record Fresh (test : Token → Bool) (p : Reader Tree) (t : List ℕ) (y : ℕ) (R : Out Tree) (n : ℕ) (o : List ℕ) (c : Cursor) (m : ℕ) (o' : List ℕ) : Type 0 where
  pub y_is : y ≡ c.start
  pub is : R ≡ grouped test p (toks_at t c.start)
  pub m_is : m ≡ n
  pub o_is : o' ≡ o
  pub ready : Ready t c m

-- one behind a sign
pub record Behind (test : Token → Bool) (op : ℕ → Bool) (p : Reader Tree) (t : List ℕ) (y : ℕ) (R : Out Tree) (n : ℕ) (o : List ℕ) (k : ℕ) (c : Cursor) (m : ℕ) (o' : List ℕ) : Type 0 where
  pub sign : Cursor
  pub q : Option ℕ
  pub chain : Chain test p t y R n o sign m q o'
  pub sign_is : sign.code ≡ k
  pub yes : op sign.code ≡ true
  pub follows : Follows t sign c

abbrev pub Pending : (Token → Bool) → (ℕ → Bool) → Reader Tree → List ℕ → ℕ → Out Tree → ℕ → List ℕ → ℕ → Cursor → ℕ → List ℕ → Type 0
Pending test op p t y R n o k c m o' = (k ≡ 0 → Fresh test p t y R n o c m o') × ((k ≡ 0 → ⊥) → Behind test op p t y R n o k c m o')

module _ {test : Token → Bool} {op : ℕ → Bool} {p : Reader Tree} (L : Level test op p) (t : List ℕ) where
  pub pend_first : (c : Cursor) (n : ℕ) (o : List ℕ) → Ready t c n → Pending test op p t c.start (grouped test p (toks_at t c.start)) n o 0 c n o
  pend_first c n o h = (λ z. record { y_is = refl; is = refl; m_is = refl; o_is = refl; ready = h }, λ z. absurd (z refl))

  pub pend_next : {y : ℕ} {R : Out Tree} {n : ℕ} {o : List ℕ} {c : Cursor} {m : ℕ} {q : Option ℕ} {o' : List ℕ} → Chain test p t y R n o c m q o' → op c.code ≡ true → (d : Cursor) → Follows t c d
      → Pending test op p t y R n o c.code d m o'
  pend_next {c = c} {q = q} ch h d f =
      (λ z. absurd (true≢false (sym h ∙ (ap op z ∙ L.not_end))), λ z. record { sign = c; q = q; chain = ch; sign_is = refl; yes = h; follows = f })

  module _ {y : ℕ} {R : Out Tree} {n : ℕ} {o : List ℕ} {k : ℕ} {c : Cursor} {m : ℕ} {o' : List ℕ} (w : Pending test op p t y R n o k c m o') where
    pub pend_ready : Ready t c m
    pend_ready =
        by_sign k (λ z. (w.0 z).ready) (λ z. sign_ready L t (w.1 z).chain (w.1 z).yes c (w.1 z).follows)

    pub pend_refused : (f b : ℕ) → p (toks_at t c.start) ≡ refused f b → R ≡ refused f b
    pend_refused f b e =
        by_sign k (λ z. (w.0 z).is ∙ chain_refused L t c (w.0 z).ready.0 f b e)
        (λ z. sign_refused L t (w.1 z).chain (w.1 z).yes c (w.1 z).follows f b e)

    module _ {c₂ : Cursor} {m₂ : ℕ} {q₂ : Option ℕ} {o₂ : List ℕ} (r : Reads t (p (toks_at t c.start)) m o' c₂ m₂ q₂ o₂) where
      pend_within : m₂ + 3 * length (toks_at t c₂.start) ≤ m + 3 * length (toks_at t c.start)
      pend_within = reads_within t p L.short c m o' c₂ m₂ q₂ o₂ r pend_ready.1

      pub pend_numbers : (n ≤ m₂) × (m₂ ≤ 50000)
      pend_numbers =
          by_sign k (λ z. omega (arith, (w.0 z).m_is, r.counts, pend_within, pend_ready.1, fewest))
          (λ z. omega (arith, sign_numbers L t (w.1 z).chain (w.1 z).yes c (w.1 z).follows r))
        where
          fewest : length (toks_at t c₂.start) < length (toks_at t c.start)
          fewest = moves_less L.moves (toks_at t c.start) r.tree (toks_at t c₂.start) r.is

      pub pend_chain : (j : Joined) (o₃ : List ℕ) → Joins o₂ k n m₂ q₂ y j o₃ → Chain test p t y R n o c₂ j.records j.string o₃
      pend_chain j o₃ J = by_sign k first more
        where
          first : k ≡ 0 → Chain test p t y R n o c₂ j.records j.string o₃
          first z =
              let F = w.0 z in
              let e = J.0 z in
              let read : Reads t (p (toks_at t c.start)) n o c₂ m₂ q₂ o₂ = rw (← F.m_is, ← F.o_is) r in
              let room : Room t c n = rw (← F.m_is) F.ready.1 in
              rw (e.0, e.1, e.2, F.is, F.y_is) (chain_enter L t c n o c₂ m₂ q₂ o₂ F.ready.0 room read)

          more : (k ≡ 0 → ⊥) → Chain test p t y R n o c₂ j.records j.string o₃
          more z =
              let B = w.1 z in
              let e = J.1 z in
              let put : o₃ ≡ put_row o₂ m₂ (row B.sign.code (m₂ - n + 1) 2 unused y) = e.2 ∙ ap (λ (x : ℕ). put_row o₂ m₂ (row x (m₂ - n + 1) 2 unused y)) (sym B.sign_is) in
              rw (e.0, e.1) (sign_more L t B.chain B.yes c B.follows r o₃ put)

      pub pend_less : op c₂.code ≡ true → (d : Cursor) → Follows t c₂ d → length (toks_at t d.start) < length (toks_at t c.start)
      pend_less h d f = omega (arith, moved, f.fewer some)
        where
          some : c₂.code ≡ 0 → ⊥
          some e = true≢false (sym h ∙ (ap op e ∙ L.not_end))

          moved : length (toks_at t c₂.start) < length (toks_at t c.start)
          moved = moves_less L.moves (toks_at t c.start) r.tree (toks_at t c₂.start) r.is

-- ---- two levels in one loop: the operands of the outer are chains of the inner

-- An operand of the inner chain is to be read, at c. The inner chain begins at another cursor, with the records from f on, and is itself an operand that the outer waits for
pub record Nests (loose tight : Token → Bool) (lop top : ℕ → Bool) (p : Reader Tree) (t : List ℕ) (y : ℕ) (R : Out Tree) (n : ℕ) (o : List ℕ) (k j f b : ℕ) (c : Cursor) (m : ℕ) (o' : List ℕ)
    : Type 0 where
  pub begins : Cursor
  pub q : List ℕ
  pub b_is : b ≡ begins.start
  pub outer : Pending loose lop (grouped tight p) t y R n o k begins f q
  pub inner : Pending tight top p t b (grouped tight p (toks_at t begins.start)) f q j c m o'

module _ {loose tight : Token → Bool} {lop top : ℕ → Bool} {p : Reader Tree} (O : Level loose lop (grouped tight p)) (I : Level tight top p) (t : List ℕ) where
  pub nest_first : (c : Cursor) (n : ℕ) (o : List ℕ) → Ready t c n
      → Nests loose tight lop top p t c.start (grouped loose (grouped tight p) (toks_at t c.start)) n o 0 0 n c.start c n o
  nest_first c n o h = record { begins = c; q = o; b_is = refl; outer = pend_first O t c n o h; inner = pend_first I t c n o h }

  module _ {y : ℕ} {R : Out Tree} {n : ℕ} {o : List ℕ} {k j f b : ℕ} {c : Cursor} {m : ℕ} {o' : List ℕ} (N : Nests loose tight lop top p t y R n o k j f b c m o') where
    abbrev Q : Out Tree
    Q = grouped tight p (toks_at t N.begins.start)

    pub nest_refused : (x z : ℕ) → p (toks_at t c.start) ≡ refused x z → R ≡ refused x z
    nest_refused x z e = pend_refused O t N.outer x z (pend_refused I t N.inner x z e)

    module _ {c₂ : Cursor} {m₂ : ℕ} {q₂ : Option ℕ} {o₂ : List ℕ} (r : Reads t (p (toks_at t c.start)) m o' c₂ m₂ q₂ o₂) where
      pub nest_numbers : (f ≤ m₂) × (m₂ ≤ 50000)
      nest_numbers = pend_numbers I t N.inner r

      -- a token was read, and a sign behind it
      pub nest_less : (c₂.code ≡ 0 → ⊥) → (d : Cursor) → Follows t c₂ d → length (toks_at t d.start) < length (toks_at t c.start)
      nest_less some d w = omega (arith, moves_less I.moves (toks_at t c.start) r.tree (toks_at t c₂.start) r.is, w.fewer some)

      module _ (i : Joined) (o₃ : List ℕ) (J : Joins o₂ j f m₂ q₂ b i o₃) where
        tight_chain : Chain tight p t b Q f N.q c₂ i.records i.string o₃
        tight_chain = pend_chain I t N.inner r i o₃ J

        -- a sign of the inner chain
        pub nest_tighter : top c₂.code ≡ true → (d : Cursor) → Follows t c₂ d → Nests loose tight lop top p t y R n o k c₂.code f b d i.records o₃
        nest_tighter h d w =
            record {
              begins = N.begins;
              q = N.q;
              b_is = N.b_is;
              outer = N.outer;
              inner = pend_next I t tight_chain h d w;
            }

        -- none: the inner chain is an operand of the outer
        module _ (h : top c₂.code ≡ false) where
          whole : Reads t Q f N.q c₂ i.records i.string o₃
          whole = chain_exit I t tight_chain h

          pub nest_whole_numbers : (n ≤ i.records) × (i.records ≤ 50000)
          nest_whole_numbers = pend_numbers O t N.outer whole

          module _ (v : Joined) (o₄ : List ℕ) (J₂ : Joins o₃ k n i.records i.string y v o₄) where
            loose_chain : Chain loose (grouped tight p) t y R n o c₂ v.records v.string o₄
            loose_chain = pend_chain O t N.outer whole v o₄ J₂

            pub nest_exit : lop c₂.code ≡ false → Reads t R n o c₂ v.records v.string o₄
            nest_exit = chain_exit O t loose_chain

            pub nest_looser : lop c₂.code ≡ true → (d : Cursor) → Follows t c₂ d
                → Nests loose tight lop top p t y R n o c₂.code 0 v.records d.start d v.records o₄
            nest_looser g d w =
                let next = pend_next O t loose_chain g d w in
                record {
                  begins = d;
                  q = o₄;
                  b_is = refl;
                  outer = next;
                  inner = pend_first I t d v.records o₄ (pend_ready O t next);
                }

-- ---- the levels of the grammar

-- where no sign goes on, there is one operand
never_on : (p : Reader Tree) → grouped (λ t. false) p ≡ p
unfolding grouped group_turn loop turns ask give peek ◌>>=◌
never_on p i ts = go (p ts) i
  where
    go : (o : Out Tree) → bind (λ l. loop (group_turn (λ t. false) p (first ts).from) l) o ≡ o
    go (ok l r) = refl
    go (refused k b) = refl

-- the signs of each level above a power: none goes on where a power is read alone
abbrev pub tighter : Bool → Bool → Token → Bool
tighter second alone t = not alone && (second && is "and" t)

abbrev pub looser : Bool → Bool → Token → Bool
looser second alone t = not alone && ((not second && is "and" t) || is "or" t)

abbrev pub plus_or_minus : Bool → Token → Bool
plus_or_minus alone t = not alone && (is "+" t || is "-" t)

abbrev pub times_or_by : Bool → Token → Bool
times_or_by alone t = not alone && (is "*" t || is "/" t)

gated_no : (alone b : Bool) → b ≡ false → (not alone && b) ≡ false
gated_no true b e = refl
gated_no false b e = e

module _ (W : Language) (d : ℕ) where
  pub power_level : Level (is "**") power_sign (primary W d)
  unfolding code
  power_level = record { by = λ u. refl; not_end = refl; not_string = refl; moves = primary_law W d; short = primary_size W d }

  pub product_gates : (alone : Bool) → product_or alone W d ≡ grouped (times_or_by alone) (power_at W d)
  product_gates true = sym (never_on (power_at W d))
  product_gates false = refl

  pub sum_gates : (alone : Bool) → sum_or alone W d ≡ grouped (plus_or_minus alone) (product_or alone W d)
  unfolding sum
  sum_gates true = sym (never_on (power_at W d))
  sum_gates false = refl

  power_moves : Moves (power_at W d)
  power_moves = power_law W (primary W d) (primary_law W d)

  power_short : Sized (power_at W d)
  power_short = power_size W (primary W d) (primary_size W d)

  pub product_level : (alone : Bool) → Level (times_or_by alone) (product_sign alone) (power_at W d)
  unfolding code
  product_level alone = record { by = λ u. refl; not_end = gated_no alone _ refl; not_string = gated_no alone _ refl; moves = power_moves; short = power_short }

  pub sum_level : (alone : Bool) → Level (plus_or_minus alone) (sum_sign alone) (product_or alone W d)
  unfolding code
  sum_level alone =
      record {
        by = λ u. refl;
        not_end = gated_no alone _ refl;
        not_string = gated_no alone _ refl;
        moves = subst Moves (sym (product_gates alone)) (grouped_law (times_or_by alone) (power_at W d) power_moves);
        short = subst Sized (sym (product_gates alone)) (grouped_size (times_or_by alone) (power_at W d) power_short);
      }

  pub sum_short : (alone : Bool) → Sized (sum_or alone W d)
  sum_short alone = subst Sized (sym (sum_gates alone)) (grouped_size (plus_or_minus alone) (product_or alone W d) (sum_level alone).short)

  comparison_moves : (alone : Bool) → Moves (comparison_or alone W d)
  comparison_moves true = power_moves
  comparison_moves false = comparison_law W (primary W d) (primary_law W d)

  comparison_short : (alone : Bool) → Sized (comparison_or alone W d)
  comparison_short true = power_short
  comparison_short false = comparison_size W (primary W d) (primary_size W d)

  module _ (second alone : Bool) where
    pub tighter_level : Level (tighter second alone) (tighter_sign second alone) (comparison_or alone W d)
    unfolding code
    tighter_level =
        record {
          by = λ u. refl;
          not_end = gated_no alone _ (no second);
          not_string = gated_no alone _ (no second);
          moves = comparison_moves alone;
          short = comparison_short alone;
        }
      where
        no : (s : Bool) → (s && false) ≡ false
        no true = refl
        no false = refl

    pub looser_level : Level (looser second alone) (looser_sign second alone) (grouped (tighter second alone) (comparison_or alone W d))
    unfolding code
    looser_level =
        record {
          by = λ u. refl;
          not_end = gated_no alone _ (no second);
          not_string = gated_no alone _ (no second);
          moves = grouped_law (tighter second alone) (comparison_or alone W d) tighter_level.moves;
          short = grouped_size (tighter second alone) (comparison_or alone W d) tighter_level.short;
        }
      where
        no : (s : Bool) → ((not s && false) || false) ≡ false
        no true = refl
        no false = refl

    -- a sign that goes on is a token
    pub tighter_some : (k : ℕ) → tighter_sign second alone k ≡ true → k ≡ 0 → ⊥
    tighter_some k h e = true≢false (sym h ∙ (ap (tighter_sign second alone) e ∙ tighter_level.not_end))

    pub looser_some : (k : ℕ) → looser_sign second alone k ≡ true → k ≡ 0 → ⊥
    looser_some k h e = true≢false (sym h ∙ (ap (looser_sign second alone) e ∙ looser_level.not_end))

-- a chain that is another reader begins
pub pend_as : {test : Token → Bool} {op : ℕ → Bool} {p : Reader Tree} (L : Level test op p) (t : List ℕ) (q : Reader Tree) → q ≡ grouped test p → (c : Cursor) (n : ℕ) (o : List ℕ) → Ready t c n
    → Pending test op p t c.start (q (toks_at t c.start)) n o 0 c n o
pend_as {test} {op} {p} L t q e c n o h =
    subst (λ (x : Reader Tree). Pending test op p t c.start (x (toks_at t c.start)) n o 0 c n o) (sym e) (pend_first L t c n o h)

module _ (second alone : Bool) (r x y : List ℕ) (d : ℕ) where
  abbrev W : Language
  W = language_in second r x y

  -- two levels in either edition: in the first one the inner has no sign
  expression_gates : expression_or alone W d ≡ grouped (looser second alone) (grouped (tighter second alone) (comparison_or alone W d))
  unfolding expression
  expression_gates = go second alone
    where
      go : (s a : Bool) → expression_or a (language_in s r x y) d ≡ grouped (looser s a) (grouped (tighter s a) (comparison_or a (language_in s r x y) d))
      go s true = sym (never_on (power_at (language_in s r x y) d)) ∙ ap (grouped (λ t. false)) (sym (never_on (power_at (language_in s r x y) d)))
      go true false = refl
      go false false = ap (grouped (looser false false)) (sym (never_on (comparison (language_in false r x y) (primary (language_in false r x y) d))))

  -- where the loop over both begins
  pub nests_as : (t : List ℕ) (c : Cursor) (n : ℕ) (o : List ℕ) → Ready t c n
      → Nests (looser second alone) (tighter second alone) (looser_sign second alone) (tighter_sign second alone) (comparison_or alone W d) t c.start (expression_or alone W d (toks_at t c.start)) n o 0 0 n c.start c n o
  nests_as t c n o h =
      subst (λ (q : Reader Tree). Nests (looser second alone) (tighter second alone) (looser_sign second alone) (tighter_sign second alone) (comparison_or alone W d) t c.start (q (toks_at t c.start)) n o 0 0 n c.start c n o)
      (sym expression_gates) (nest_first (looser_level W d second alone) (tighter_level W d second alone) t c n o h)
