-- Parts of a list, of a call and of a pays: what each step of the code comes to in the definition. Each law is over plain values.
use Rattle.std.specs.Prelude.{if◌then◌else◌}
use mathlib.Core.Path.{◌≡◌, refl, sym, ap, ◌∙◌}
use mathlib.Core.Bool.{Bool, true, false, ◌||◌, not}
use mathlib.Core.List.{List, []}
use mathlib.Core.Logic.{inl, inr}
use Prim.Native.Nat.{ℕ, zero, suc, ◌+◌, ◌-◌, ◌*◌, ◌≤◌, ◌<◌}
use native.Mathlib.Omega.{arith}
use lib.Dec.{eqb, leb}
use borrow.Author.Tests.{eq-eqb, ne_eqb, eqb-true, eqb-false, le-leb, leb-true}
use lib.ListN.{length}
use Rattle.tokens.specs.Text.{bytes, same, within}
use Rattle.tokens.specs.Names.{member}
use Rattle.tokens.specs.Dates.{unless_0, date}
use Rattle.tokens.specs.Tokens.{Token, code, entry, final}
use Rattle.tokens.specs.declared.cursor.Cursor.{Cursor}
use Rattle.grammar.specs.Trees.{Tree, Trees, node, nil, ◌▹◌, fields, none as unused, snoc, parts, row}
use Rattle.grammar.specs.Readers.{Out, ok, refused, Reader, bind, ◌>>=◌, ◌>>◌, again, follow, loop, is, give, fail, fail_at, read}
use Rattle.grammar.specs.Grammar as G
use Rattle.grammar.specs.Grammar.{Language, expression, items, closed, arguments, deeper, primary, calls, call_of, cvg, call, payday, payments, payment, pays, listed, postfixes, currency_of, a_currency}
use Rattle.reading.specs.Calls.{call_kind, right_count}
use Rattle.reading.specs.Rows.{put_row, kind_number}
use Rattle.reading.specs.declared.records.Kind.{Kind}
use Rattle.reading.proofs.KindLaws.{kind_some}
use Rattle.tokens.specs.Refusals.{number_of}
use Rattle.tokens.specs.declared.refusals.Ground.{Ground}
use Rattle.tokens.specs.declared.refusals.Ground.TheVariants as ground
use Rattle.tokens.proofs.RefusalLaws.{number_in}
use Rattle.reading.specs.Meets.{words_in, language_in, toks_at, token_at, Holds, Room, Ready, Follows, Takes, string_at, Quoted, Reads, Meets, Before}
use Rattle.reading.specs.Turns.{StandsIn, Inside, inner, list_postfixed, pays_stop, Closing, item_end, item_turn_by, items_by, FollowsItem, string_of, AllQuoted, Shown, shown_by, ReadsItems, call_fault, Tops}
use Rattle.std.specs.Prelude.{Option, None, Result, Ok, Err}
use Rattle.reading.specs.Faults.{fault_at, refused_by}
use Rattle.reading.specs.declared.answers.Fault.{Fault}
use Rattle.reading.specs.declared.answers.Read.{Read}
use Rattle.reading.specs.declared.answers.Texts.{Texts}
use Rattle.grammar.proofs.Laws.{loop_eq, left_shorter}
use Rattle.grammar.proofs.GrammarLaws.{Moves, Stays, Steps, laws, expression_law, pay_turn_law}
use Rattle.grammar.proofs.SizeLaws.{Sized, SizedAll, expression_size, items_size, arguments_size, moves_less, primary_size}
use Rattle.reading.proofs.HoldLaws.{takes_not, toks_are, ask_yes, ask_no, peek_is, read_next, the_next, reads_some}
use Rattle.grammar.proofs.TreeLaws.{parts_snoc}
use Rattle.reading.proofs.RowLaws.{size_node, size_some, parts_few, before_none, before_more, before_node}
use Rattle.reading.proofs.ChainLaws.{reads_within}
use Rattle.reading.proofs.StepLaws.{meets_as, deeper_none, deeper_some, inner_sized, AllRows, row_says}

-- ---- signs

pub open_code : code "(" ≡ 40
unfolding code entry
open_code = refl

pub close_code : code ")" ≡ 41
unfolding code entry
close_code = refl

pub bracket_code : code "]" ≡ 45
unfolding code entry
bracket_code = refl

pub pays_code : code "pays" ≡ 36
unfolding code entry
pays_code = refl

-- the number of the closing sign in place of the sign
pub items_by_paren : (W : Language) (p : Reader Tree) → items_by W 41 p ≡ items W ")" p
unfolding items_by items G.item_turn code entry
items_by_paren W p = refl

pub items_by_bracket : (W : Language) (p : Reader Tree) → items_by W 45 p ≡ items W "]" p
unfolding items_by items G.item_turn code entry
items_by_bracket W p = refl

-- ---- turns

pub item_end_stays : (k : ℕ) (es : Trees) → Stays (item_end k es)
item_end_stays k es = search laws depth 9

pub item_turn_by_law : (W : Language) (k : ℕ) (p : Reader Tree) → Moves p → (es : Trees) → Steps (item_turn_by W k p es)
item_turn_by_law W k p h es = search (laws, expression_law, item_end_stays) depth 9

pub items_by_size : (W : Language) (k : ℕ) → Closing k → (p : Reader Tree) → Sized p → SizedAll (items_by W k p)
items_by_size W k (inl e) p h = rw (e, items_by_paren W p) (items_size W ")" p h)
items_by_size W k (inr e) p h = rw (e, items_by_bracket W p) (items_size W "]" p h)

-- ---- strings of parts

string_new : (es : Trees) (e : Tree) (i : ℕ) → parts es ≡ i → string_of (snoc es e) i ≡ string_at e
string_new nil e zero q = refl
string_new nil e (suc i) q = absurd (omega arith)
string_new (u ▹ us) e zero q = absurd (omega arith)
string_new (u ▹ us) e (suc i) q = string_new us e i (omega arith)

string_old : (es : Trees) (e : Tree) (i : ℕ) → (parts es ≡ i → ⊥) → string_of (snoc es e) i ≡ string_of es i
string_old nil e zero z = absurd (z refl)
string_old nil e (suc i) z = refl
string_old (u ▹ us) e zero z = refl
string_old (u ▹ us) e (suc i) z = string_old us e i (λ q. z (ap suc q))

string_snoc : (es : Trees) (e : Tree) (n i : ℕ) (p x : Option ℕ) → n ≡ parts es → p ≡ unless_0 (string_at e) → x ≡ unless_0 (string_of es i)
    → (if eqb n i then p else x) ≡ unless_0 (string_of (snoc es e) i)
string_snoc es e n i p x q s w = go (eqb n i) refl
  where
    go : (b : Bool) → eqb n i ≡ b → (if b then p else x) ≡ unless_0 (string_of (snoc es e) i)
    go true f = s ∙ ap unless_0 (sym (string_new es e i (sym q ∙ eqb-true n i f)))
    go false f = w ∙ ap unless_0 (sym (string_old es e i (λ z. eqb-false n i f (q ∙ z))))

quoted_snoc : (t : List ℕ) (es : Trees) (e : Tree) → AllQuoted t es → Quoted t e → AllQuoted t (snoc es e)
quoted_snoc t nil e a q = (q, tt)
quoted_snoc t (u ▹ us) e a q = (a.0, quoted_snoc t us e a.1 q)

pub shown_none : (t : List ℕ) → Shown t nil (record { first = None; second = None; third = None })
shown_none t = record { first = refl; second = refl; third = refl; quoted = tt }

-- one more part
pub shown_more : (t : List ℕ) (es : Trees) (x : Texts) (n : ℕ) (p : Option ℕ) (e : Tree) → Shown t es x → n ≡ parts es → p ≡ unless_0 (string_at e) → Quoted t e → Shown t (snoc es e) (shown_by x n p)
shown_more t es x n p e s q w h =
    record {
      first = string_snoc es e n 0 p x.first q w s.first;
      second = string_snoc es e n 1 p x.second q w s.second;
      third = string_snoc es e n 2 p x.third q w s.third;
      quoted = quoted_snoc t es e s.quoted h;
    }

string_inside : (t : List ℕ) (e : Tree) → Quoted t e → string_at e ≤ length t
string_inside t (node k l x (fields a b c d) ts) h = go (eqb k 5) refl
  where
    go : (z : Bool) → eqb k 5 ≡ z → (if z then a else 0) ≤ length t
    go true q = (h (eqb-true k 5 q)).2
    go false q = omega arith

strings_inside : (t : List ℕ) (es : Trees) (i : ℕ) → AllQuoted t es → string_of es i ≤ length t
strings_inside t nil i a = omega arith
strings_inside t (u ▹ us) zero a = string_inside t u a.0
strings_inside t (u ▹ us) (suc i) a = strings_inside t us i a.1

stands_in : (t : List ℕ) (n : ℕ) → n ≤ length t → StandsIn t (unless_0 n)
stands_in t zero l = tt
stands_in t (suc n) l = l

pub shown_inside : (t : List ℕ) (es : Trees) (x : Texts) → Shown t es x → Inside t x
shown_inside t es x s = (
  rw s.first (stands_in t _ (strings_inside t es 0 s.quoted)),
  rw s.second (stands_in t _ (strings_inside t es 1 s.quoted)),
  rw s.third (stands_in t _ (strings_inside t es 2 s.quoted)),
)

-- ---- the loop of `items`

-- the trees so far, and that the loop from here gives the whole reading R
pub record ItemChain (W : Language) (k : ℕ) (p : Reader Tree) (t : List ℕ) (R : Out Trees) (n : ℕ) (o : List ℕ) (c : Cursor) (m count : ℕ) (x : Texts) (o' : List ℕ) : Type 0 where
  pub trees : Trees
  pub is : R ≡ loop (item_turn_by W k p) trees (toks_at t c.start)
  pub before : Before n o trees m o'
  pub many : count ≡ parts trees
  pub room : Room t c m
  pub holds : Holds t c
  pub shown : Shown t trees x
  pub moves : Moves p
  pub short : Sized p

pub items_start : (W : Language) (k : ℕ) (p : Reader Tree) → Moves p → Sized p → (t : List ℕ) (n : ℕ) (o : List ℕ) (c : Cursor) → Ready t c n
    → ItemChain W k p t (items_by W k p (toks_at t c.start)) n o c n 0 (record { first = None; second = None; third = None }) o
unfolding items_by
items_start W k p moves short t n o c ready =
    record {
      trees = nil;
      is = refl;
      before = before_none n o;
      many = refl;
      room = ready.1;
      holds = ready.0;
      shown = shown_none t;
      moves = moves;
      short = short;
    }

module _ {W : Language} {k : ℕ} {p : Reader Tree} {t : List ℕ} {R : Out Trees} {n : ℕ} {o : List ℕ} {c : Cursor} {m count : ℕ} {x : Texts} {o' : List ℕ} (ch : ItemChain W k p t R n o c m count x o') where
  turn : R ≡ follow (loop (item_turn_by W k p)) (item_turn_by W k p ch.trees (toks_at t c.start))
  turn = ch.is ∙ loop_eq (item_turn_by_law W k p ch.moves) ch.trees (toks_at t c.start)

  -- the closing sign: the loop ends
  pub items_exit : c.code ≡ k → ReadsItems t R n o c m count x o'
  unfolding give
  items_exit e =
      record {
        items = ch.trees;
        is = turn ∙ (rw (ask_yes ch.holds (λ u. eqb k u.kind) _ _ (eq-eqb k c.code (sym e))));
        counts = ch.before.counts;
        parts_are = ch.many;
        writes = ch.before.writes;
        holds = ch.holds;
        shown = ch.shown;
      }

  module _ (z : c.code ≡ k → ⊥) where
    turn_is : item_turn_by W k p ch.trees (toks_at t c.start) ≡ (expression W p >>= λ e. item_end k (snoc ch.trees e)) (toks_at t c.start)
    turn_is = ask_no ch.holds (λ u. eqb k u.kind) _ _ (ne_eqb k c.code (λ e. z (sym e)))

    pub items_refused : {j b : ℕ} → expression W p (toks_at t c.start) ≡ refused j b → R ≡ refused j b
    unfolding ◌>>=◌
    items_refused e = turn ∙ (rw (turn_is, e))

    module _ {c₁ : Cursor} {m₁ : ℕ} {q : Option ℕ} {o₁ : List ℕ} (r : Reads t (expression W p (toks_at t c.start)) m o' c₁ m₁ q o₁) where
      read_within : m₁ + 3 * length (toks_at t c₁.start) ≤ m + 3 * length (toks_at t c.start)
      read_within = reads_within t (expression W p) (expression_size W p ch.short) c m o' c₁ m₁ q o₁ r ch.room

      -- the numbers that the code computes
      pub items_numbers : (n ≤ m) × (m ≤ m₁) × (m₁ ≤ 50000) × (count < 50000)
      items_numbers = omega (arith, read_within, ch.room, ch.before.counts, r.counts, size_some r.tree, ch.many, parts_few ch.trees)

      on_is : item_turn_by W k p ch.trees (toks_at t c.start) ≡ item_end k (snoc ch.trees r.tree) (toks_at t c₁.start)
      unfolding ◌>>=◌
      on_is = turn_is ∙ (rw r.is)

      -- neither a comma nor the closing sign follows
      pub items_wrong : (e : Fault) → FollowsItem t k c₁ (Err e) → R ≡ refused_by e
      items_wrong e w = turn ∙ (rw (on_is, w (snoc ch.trees r.tree)))

      module _ (d : Cursor) (w : FollowsItem t k c₁ (Ok d)) where
        no_more : length (toks_at t d.start) ≤ length (toks_at t c₁.start)
        no_more = omega (arith, left_shorter (item_end_stays k nil (toks_at t c₁.start) (again nil) (toks_at t d.start) (w.1 nil)))

        pub items_less : length (toks_at t d.start) < length (toks_at t c.start)
        items_less = omega (arith, no_more, moves_less (expression_law W p ch.moves) (toks_at t c.start) r.tree (toks_at t c₁.start) r.is)

        pub items_next : {x' : Texts} → x' ≡ shown_by x count q → ItemChain W k p t R n o d m₁ (count + 1) x' o₁
        items_next e =
            record {
              trees = snoc ch.trees r.tree;
              is = turn ∙ (rw (on_is, w.1 (snoc ch.trees r.tree)));
              before = before_more r.tree ch.before r.counts r.writes;
              many = omega (arith, ch.many, parts_snoc ch.trees r.tree);
              room = omega (arith, read_within, no_more, ch.room);
              holds = w.0;
              shown = rw e (shown_more t ch.trees x count q r.tree ch.shown ch.many r.string r.quoted);
              moves = ch.moves;
              short = ch.short;
            }

-- ---- the numbers behind parts that were read

pub items_within : (t : List ℕ) (p : Reader Trees) → SizedAll p → (c : Cursor) {n : ℕ} {o : List ℕ} {d : Cursor} {m k : ℕ} {x : Texts} {o' : List ℕ}
    → ReadsItems t (p (toks_at t c.start)) n o d m k x o' → Room t c n
    → (n ≤ m) × (k ≤ m) × (m ≤ 50000) × (m + 3 * length (toks_at t d.start) ≤ n + 3 * length (toks_at t c.start))
items_within t p h c {d = d} r room =
    omega (arith, h (toks_at t c.start) r.items (toks_at t d.start) r.is, r.counts, r.parts_are, parts_few r.items)

-- ---- an argument list

module _ (W : Language) (depth : ℕ) (t : List ℕ) (c : Cursor) (h : Holds t c) where
  -- no `(`
  pub arguments_no : (e : Fault) → Takes t 40 c (Err e) → arguments W (inner W depth) (toks_at t c.start) ≡ refused_by e
  unfolding arguments fail give
  arguments_no e w = peek_is h _ ∙ (rw open_code (go (eqb 40 c.code) (sym (peek_is h _) ∙ w)))
    where
      go : (b : Bool) → (if b then read else fail 8) (toks_at t c.start) ≡ refused_by e
          → (if b then deeper (token_at t c) (inner W depth) (λ p. read >> closed W ")" p) else fail 8) (toks_at t c.start) ≡ refused_by e
      go true q = absurd (reads_some h.left (final (length t)) _ (ap read (sym (toks_are h)) ∙ q))
      go false q = ap (bind (λ (u : Token). give nil)) q

  pub arguments_other : (c.code ≡ 40 → ⊥) → arguments W (inner W depth) (toks_at t c.start) ≡ refused 8 c.start
  arguments_other z = arguments_no (fault_at c ground.Token) (takes_not h 40 z)

  arguments_yes : c.code ≡ 40 → arguments W (inner W depth) (toks_at t c.start) ≡ deeper (token_at t c) (inner W depth) (λ p. read >> closed W ")" p) (toks_at t c.start)
  unfolding arguments
  arguments_yes e =
      let q : eqb (code "(") c.code ≡ true = rw open_code (eq-eqb 40 c.code (sym e)) in
      peek_is h _ ∙ (rw q)

  pub arguments_0 : c.code ≡ 40 → depth ≡ 0 → arguments W (inner W depth) (toks_at t c.start) ≡ refused 15 c.start
  arguments_0 e z = arguments_yes e ∙ deeper_none (token_at t c) W depth _ (toks_at t c.start) z

  module _ (e : c.code ≡ 40) (z : depth ≡ 0 → ⊥) (d : Cursor) (w : Follows t c d) where
    opens : c.code ≡ 0 → ⊥
    opens q = omega (arith, e)

    arguments_are : arguments W (inner W depth) (toks_at t c.start) ≡ closed W ")" (primary W (depth - 1)) (toks_at t d.start)
    arguments_are = arguments_yes e ∙ (deeper_some (token_at t c) W depth _ (toks_at t c.start) z ∙ read_next w opens _)

    pub arguments_refused : (j b : ℕ) → items_by W 41 (primary W (depth - 1)) (toks_at t d.start) ≡ refused j b → arguments W (inner W depth) (toks_at t c.start) ≡ refused j b
    unfolding ◌>>=◌
    arguments_refused j b q = arguments_are ∙ (rw (← items_by_paren W (primary W (depth - 1)), q))

    pub arguments_done : {n : ℕ} {o : List ℕ} {f : Cursor} {m k : ℕ} {x : Texts} {o' : List ℕ} → ReadsItems t (items_by W 41 (primary W (depth - 1)) (toks_at t d.start)) n o f m k x o'
        → f.code ≡ 41 → {g : Cursor} → Follows t f g → ReadsItems t (arguments W (inner W depth) (toks_at t c.start)) n o g m k x o'
    unfolding ◌>>=◌ give
    arguments_done r q u =
        record {
          items = r.items;
          is = arguments_are ∙ ((rw (← items_by_paren W (primary W (depth - 1)), r.is)) ∙ the_next r.holds u (λ z. omega (arith, q)) ")" (close_code ∙ sym q) (give r.items));
          counts = r.counts;
          parts_are = r.parts_are;
          writes = r.writes;
          holds = u.holds;
          shown = r.shown;
        }

-- ---- a list

module _ (W : Language) (depth : ℕ) (t : List ℕ) (c d : Cursor) (w : Follows t c d) (e : c.code ≡ 44) where
  pub list_0 : depth ≡ 0 → list_postfixed W depth (token_at t c) (toks_at t c.start) ≡ refused 15 c.start
  unfolding ◌>>=◌
  list_0 z = ap (bind (postfixes W (inner W depth) c.start)) (deeper_none (token_at t c) W depth _ (toks_at t c.start) z)

  module _ (z : depth ≡ 0 → ⊥) where
    some_list : c.code ≡ 0 → ⊥
    some_list q = omega (arith, e)

    pub list_ready : (n : ℕ) → Room t c n → Ready t d n
    list_ready n room = (w.holds, omega (arith, room, w.fewer some_list))

    list_is : list_postfixed W depth (token_at t c) (toks_at t c.start) ≡ (listed W c.start (primary W (depth - 1)) >>= postfixes W (inner W depth) c.start) (toks_at t d.start)
    unfolding ◌>>=◌
    list_is = ap (bind (postfixes W (inner W depth) c.start)) (deeper_some (token_at t c) W depth _ (toks_at t c.start) z ∙ read_next w some_list _)

    pub list_refused : (j b : ℕ) → items_by W 45 (primary W (depth - 1)) (toks_at t d.start) ≡ refused j b
        → list_postfixed W depth (token_at t c) (toks_at t c.start) ≡ refused j b
    unfolding ◌>>=◌
    list_refused j b q = list_is ∙ (rw (← items_by_bracket W (primary W (depth - 1)), q))

    module _ {n : ℕ} (room : Room t c n) {o : List ℕ} {f : Cursor} {m k : ℕ} {x : Texts} {o' : List ℕ}
        (r : ReadsItems t (items_by W 45 (primary W (depth - 1)) (toks_at t d.start)) n o f m k x o') where
      -- the numbers that the code computes
      pub list_numbers : (n ≤ m) × (k ≤ m) × (m < 50000) × (m + 3 + 3 * length (toks_at t f.start) ≤ 50000)
      list_numbers =
          omega (
            arith,
            items_within t (items_by W 45 (primary W (depth - 1))) (items_by_size W 45 (inr refl) (primary W (depth - 1)) (primary_size W (depth - 1))) d r (list_ready n room).1,
            room,
            w.fewer some_list,
          )

      module _ (q : f.code ≡ 45) {g : Cursor} (u : Follows t f g) where
        pub list_after : Ready t g (m + 1)
        list_after = (u.holds, omega (arith, list_numbers, u.fewer (λ y. omega (arith, q))))

        pub list_done : list_postfixed W depth (token_at t c) (toks_at t c.start) ≡ postfixes W (inner W depth) c.start (node 6 c.start [] unused r.items) (toks_at t g.start)
        unfolding ◌>>=◌ give
        list_done =
            list_is ∙ ((rw (← items_by_bracket W (primary W (depth - 1)), r.is))
            ∙ ap (bind (postfixes W (inner W depth) c.start)) (the_next r.holds u (λ y. omega (arith, q)) "]" (bracket_code ∙ sym q) (give (node 6 c.start [] unused r.items))))

      pub list_tops : {o₂ : List ℕ} → o₂ ≡ put_row o' m (row 6 (m - n + 1) k unused c.start) → Tops n o (node 6 c.start [] unused r.items) (m + 1) o₂
      list_tops v =
          record {
            counts = omega (arith, size_node 6 c.start [] unused r.items, r.counts);
            writes = before_node 6 c.start [] unused (record { counts = r.counts; writes = r.writes }) (omega (arith, r.counts)) r.parts_are v;
            unquoted = λ y. omega arith;
          }

-- ---- calls by their kinds

within_one : (k n : ℕ) → within k k n ≡ eqb n k
within_one k n = go (eqb n k) (leb k n) (leb n k) refl refl refl
  where
    go : (b x y : Bool) → eqb n k ≡ b → leb k n ≡ x → leb n k ≡ y → within k k n ≡ b
    go true x y e f g = let q : n ≡ k = eqb-true n k e in rw (le-leb k n (omega (arith, q)), le-leb n k (omega (arith, q)))
    go false false y e f g = rw f
    go false true false e f g = rw (f, g)
    go false true true e f g = absurd (eqb-false n k e (omega (arith, leb-true k n f, leb-true n k g)))

-- the count of arguments that a row of the table asks for is that of its kind, which is no String node's
abbrev Right : (ℕ × ℕ × ℕ) → Type 0
Right c = 1 ≤ c.0 → (c.0 ≡ 5 → ⊥) × ((n : ℕ) → within c.1 c.2 n ≡ right_count c.0 n)

calls_right : AllRows Right calls
unfolding right_count
calls_right = (
  λ h. (λ e. omega arith, within_one 1),
  (
    λ h. (λ e. omega arith, within_one 1),
    (
      λ h. (λ e. omega arith, within_one 2),
      (
        λ h. (λ e. omega arith, λ n. refl),
        (
          λ h. (λ e. omega arith, λ n. refl),
          (
            λ h. (λ e. omega arith, within_one 3),
            (λ h. (λ e. omega arith, within_one 4), (λ h. (λ e. omega arith, within_one 2), tt)),
          ),
        ),
      ),
    ),
  ),
)

-- a kind that is an ordinary call's
kind_low : (w : List ℕ) (k : ℕ) → k ≡ call_kind w → 1 ≤ k → k < 32 → k ≡ (call_of w calls).0
unfolding call_kind
kind_low w k e l u = go (leb 1 (call_of w calls).0) e
  where
    other : (x y z : Bool) → k ≡ (if x then 32 else if y then 34 else if z then 35 else 0) → ⊥
    other true y z q = omega (arith, q, u)
    other false true z q = omega (arith, q, u)
    other false false true q = omega (arith, q, u)
    other false false false q = omega (arith, q, l)

    go : (b : Bool)
        → k ≡ (if b then (call_of w calls).0 else if same (bytes "Spot") w then 32 else if same (bytes "Df") w then 34 else if same (bytes "RateIndex") w then 35 else 0)
        → k ≡ (call_of w calls).0
    go true q = q
    go false q = absurd (other (same (bytes "Spot") w) (same (bytes "Df") w) (same (bytes "RateIndex") w) q)

-- what was read behind a name, with what is left, is no more than there was
pub arguments_within : (W : Language) (depth : ℕ) (t : List ℕ) (c : Cursor) {n : ℕ} {o : List ℕ} {d : Cursor} {m k : ℕ} {x : Texts} {o' : List ℕ}
    → ReadsItems t (arguments W (inner W depth) (toks_at t c.start)) n o d m k x o' → Room t c n
    → (n ≤ m) × (k ≤ m) × (m ≤ 50000) × (m + 3 * length (toks_at t d.start) ≤ n + 3 * length (toks_at t c.start))
arguments_within W depth t c r room =
    items_within t (arguments W (inner W depth)) (arguments_size W (inner W depth) (inner_sized W depth)) c r room

module _ (W : Language) (depth : ℕ) (tok : Token) (κ : Kind) (e : kind_number κ ≡ call_kind tok.text) (u : kind_number κ < 32) where
  abbrev k : ℕ
  k = kind_number κ

  l : 1 ≤ k
  l = kind_some κ

  abbrev Row : ℕ × ℕ × ℕ
  Row = call_of tok.text calls

  row_kind : Row.0 ≡ k
  row_kind = sym (kind_low tok.text k e l u)

  row_right : (Row.0 ≡ 5 → ⊥) × ((n : ℕ) → within Row.1 Row.2 n ≡ right_count Row.0 n)
  row_right = row_says Right tok.text calls (λ h. absurd (omega (arith, h))) calls_right (omega (arith, row_kind, l))

  pub call_plain : k ≡ 5 → ⊥
  call_plain q = row_right.0 (row_kind ∙ q)

  module _ (es : Trees) (ts : List Token) where
    abbrev judged : ℕ → Out Tree
    judged f = if eqb f 0 then ok (node k tok.from [] unused es) ts else refused f tok.from

    shape : (r b s d m : Bool) → (b ≡ true → k ≡ 25)
        → (if not r then fail_at tok 10 else if b then (if not s then fail_at tok 14 else if d then fail_at tok 11 else if m then give (node 25 tok.from [] unused es) else fail_at tok 13)
        else give (node k tok.from [] unused es)) ts
        ≡ judged (if not r then 10 else if b then (if not s then 14 else if d then 11 else if m then 0 else 13) else 0)
    unfolding fail_at give
    shape false b s d m h = refl
    shape true false s d m h = refl
    shape true true false d m h = refl
    shape true true true true m h = refl
    shape true true true false false h = refl
    shape true true true false true h = ap (λ (x : ℕ). ok (node x tok.from [] unused es) ts) (sym (h refl))

    abbrev body : Reader Tree
    body = if not (within Row.1 Row.2 (parts es)) then fail_at tok 10 else if eqb Row.0 25 then cvg W tok es else give (node Row.0 tok.from [] unused es)

    body_is : body ts ≡ judged (call_fault W.counters k es)
    unfolding cvg
    body_is =
        ap (λ (b : Bool). (if not b then fail_at tok 10 else if eqb Row.0 25 then cvg W tok es else give (node Row.0 tok.from [] unused es)) ts) (row_right.1 (parts es))
        ∙ (ap (λ (x : ℕ). (if not (right_count x (parts es)) then fail_at tok 10 else if eqb x 25 then cvg W tok es else give (node x tok.from [] unused es)) ts) row_kind
        ∙ shape (right_count k (parts es)) (eqb k 25) (G.strings es) (eqb (date (G.text es 0)) 0 || eqb (date (G.text es 1)) 0) (member W.counters (G.text es 2)) (λ q. eqb-true k 25 q))

  module _ (t : List ℕ) (c : Cursor) where
    pub call_refused : (j b : ℕ) → arguments W (inner W depth) (toks_at t c.start) ≡ refused j b → call W (inner W depth) tok (call_of tok.text calls) (toks_at t c.start) ≡ refused j b
    unfolding call ◌>>=◌
    call_refused j b q = rw q

    module _ {n : ℕ} {o : List ℕ} {d : Cursor} {m cnt : ℕ} {x : Texts} {o' : List ℕ}
        (r : ReadsItems t (arguments W (inner W depth) (toks_at t c.start)) n o d m cnt x o') where
      call_is : (f : ℕ) → ((es : Trees) → Shown t es x → cnt ≡ parts es → f ≡ call_fault W.counters k es)
          → call W (inner W depth) tok (call_of tok.text calls) (toks_at t c.start) ≡ judged r.items (toks_at t d.start) f
      unfolding call ◌>>=◌
      call_is f fault = (rw r.is) ∙ (body_is r.items (toks_at t d.start) ∙ ap (judged r.items (toks_at t d.start)) (sym (fault r.items r.shown r.parts_are)))

      pub call_faulty : (g : Ground) → ((es : Trees) → Shown t es x → cnt ≡ parts es → number_of g ≡ call_fault W.counters k es)
          → call W (inner W depth) tok (call_of tok.text calls) (toks_at t c.start) ≡ refused (number_of g) tok.from
      call_faulty g fault = call_is (number_of g) fault ∙ (rw (ne_eqb (number_of g) 0 (λ z. omega (arith, z, number_in g))))

      pub call_done : ((es : Trees) → Shown t es x → cnt ≡ parts es → 0 ≡ call_fault W.counters k es) → {o₂ : List ℕ} → o₂ ≡ put_row o' m (row k (m - n + 1) cnt unused tok.from)
          → Reads t (call W (inner W depth) tok (call_of tok.text calls) (toks_at t c.start)) n o d (m + 1) None o₂
      call_done fault v =
          record {
            tree = node k tok.from [] unused r.items;
            is = call_is 0 fault;
            counts = omega (arith, size_node k tok.from [] unused r.items, r.counts);
            writes = before_node k tok.from [] unused (record { counts = r.counts; writes = r.writes }) (omega (arith, r.counts)) r.parts_are v;
            holds = r.holds;
            string = rw (ne_eqb k 5 call_plain);
            quoted = λ q. absurd (call_plain q);
          }

-- ---- pays

-- the trees so far, and that the loop from here gives the whole reading R
pub record PayChain (W : Language) (p : Reader Tree) (t : List ℕ) (R : Out Trees) (n : ℕ) (o : List ℕ) (c : Cursor) (m count : ℕ) (o' : List ℕ) : Type 0 where
  pub trees : Trees
  pub is : R ≡ loop (G.pay_turn W p) trees (toks_at t c.start)
  pub before : Before n o trees m o'
  pub many : count ≡ parts trees
  pub room : Room t c m
  pub holds : Holds t c
  pub moves : Moves p
  pub short : Sized p

abbrev stopping : Token → Bool
stopping u = is ";" u || is ")" u || is "on" u || is "in" u || is "End" u

stops_are : (u : Token) → stopping u ≡ pays_stop u.kind
unfolding code entry
stops_are u = refl

pub pay_start : (W : Language) (p : Reader Tree) → Moves p → Sized p → (t : List ℕ) (n : ℕ) (o : List ℕ) (c : Cursor) → Ready t c n
    → PayChain W p t (payments W p (toks_at t c.start)) n o c n 0 o
unfolding payments
pay_start W p moves short t n o c ready =
    record { trees = nil; is = refl; before = before_none n o; many = refl; room = ready.1; holds = ready.0; moves = moves; short = short }

module _ {W : Language} {p : Reader Tree} {t : List ℕ} {R : Out Trees} {n : ℕ} {o : List ℕ} {c : Cursor} {m count : ℕ} {o' : List ℕ} (ch : PayChain W p t R n o c m count o') where
  pay_turn_lem : R ≡ follow (loop (G.pay_turn W p)) (G.pay_turn W p ch.trees (toks_at t c.start))
  pay_turn_lem = ch.is ∙ loop_eq (pay_turn_law W p ch.moves) ch.trees (toks_at t c.start)

  pub pay_exit : pays_stop c.code ≡ true → R ≡ ok ch.trees (toks_at t c.start)
  unfolding G.pay_turn give
  pay_exit z = pay_turn_lem ∙ (rw (ask_yes ch.holds stopping _ _ (stops_are (token_at t c) ∙ z)))

  module _ (z : pays_stop c.code ≡ false) where
    pay_turn_is : G.pay_turn W p ch.trees (toks_at t c.start) ≡ (expression W p >>= λ e. give (again (snoc ch.trees e))) (toks_at t c.start)
    unfolding G.pay_turn
    pay_turn_is = ask_no ch.holds stopping _ _ (stops_are (token_at t c) ∙ z)

    pub pay_refused : {j b : ℕ} → expression W p (toks_at t c.start) ≡ refused j b → R ≡ refused j b
    unfolding ◌>>=◌
    pay_refused e = pay_turn_lem ∙ (rw (pay_turn_is, e))

    module _ {d : Cursor} {m₁ : ℕ} {q : Option ℕ} {o₁ : List ℕ} (r : Reads t (expression W p (toks_at t c.start)) m o' d m₁ q o₁) where
      pay_within : m₁ + 3 * length (toks_at t d.start) ≤ m + 3 * length (toks_at t c.start)
      pay_within = reads_within t (expression W p) (expression_size W p ch.short) c m o' d m₁ q o₁ r ch.room

      pub pay_numbers : (n ≤ m) × (m ≤ m₁) × (m₁ ≤ 50000) × (count < 50000)
      pay_numbers = omega (arith, pay_within, ch.room, ch.before.counts, r.counts, size_some r.tree, ch.many, parts_few ch.trees)

      pub pay_less : length (toks_at t d.start) < length (toks_at t c.start)
      pay_less = moves_less (expression_law W p ch.moves) (toks_at t c.start) r.tree (toks_at t d.start) r.is

      pub pay_next : PayChain W p t R n o d m₁ (count + 1) o₁
      unfolding ◌>>=◌ give
      pay_next =
          record {
            trees = snoc ch.trees r.tree;
            is = pay_turn_lem ∙ (rw (pay_turn_is, r.is));
            before = before_more r.tree ch.before r.counts r.writes;
            many = omega (arith, ch.many, parts_snoc ch.trees r.tree);
            room = omega (arith, pay_within, ch.room);
            holds = r.holds;
            moves = ch.moves;
            short = ch.short;
          }

-- of the language, the currencies alone matter behind the parts
pub payday_same : (s : Bool) (a b cu : List ℕ) (l : ℕ) (es : Trees) → payday (language_in s a cu b) l es ≡ payday (words_in [] cu []) l es
unfolding a_currency currency_of
payday_same s a b cu l es = refl

module _ (W : Language) (depth : ℕ) (t : List ℕ) (c d : Cursor) (h : Holds t c) (w : Follows t c d) (e : c.code ≡ 36) where
  pub pays_0 : depth ≡ 0 → pays W (inner W depth) (toks_at t c.start) ≡ refused 15 c.start
  unfolding pays
  pays_0 z = peek_is h _ ∙ deeper_none (token_at t c) W depth _ (toks_at t c.start) z

  some_pays : c.code ≡ 0 → ⊥
  some_pays q = omega (arith, e)

  pub pays_ready : (n : ℕ) → Room t c n → Ready t d n
  pays_ready n room = (w.holds, omega (arith, room, w.fewer some_pays))

  module _ (z : depth ≡ 0 → ⊥) where
    pays_are : pays W (inner W depth) (toks_at t c.start) ≡ payment W c.start (primary W (depth - 1)) (toks_at t d.start)
    unfolding pays
    pays_are = peek_is h _ ∙ (deeper_some (token_at t c) W depth _ (toks_at t c.start) z ∙ the_next h w some_pays "pays" (pays_code ∙ sym e) _)

    pub pays_refused : (j b : ℕ) → payments W (primary W (depth - 1)) (toks_at t d.start) ≡ refused j b → pays W (inner W depth) (toks_at t c.start) ≡ refused j b
    unfolding ◌>>=◌
    pays_refused j b q = pays_are ∙ (rw q)

    pub pays_payday : (es : Trees) (f : Cursor) → payments W (primary W (depth - 1)) (toks_at t d.start) ≡ ok es (toks_at t f.start)
        → pays W (inner W depth) (toks_at t c.start) ≡ payday W c.start es (toks_at t f.start)
    unfolding ◌>>=◌
    pays_payday es f q = pays_are ∙ (rw q)

-- the answer behind the parts of a pays
pub pays_done : (s₂ : Bool) (a b cu : List ℕ) (depth : ℕ) (t : List ℕ) (c d : Cursor) → Holds t c → Follows t c d → c.code ≡ 36 → (depth ≡ 0 → ⊥)
    → (n : ℕ) (o : List ℕ) (f : Cursor) (m count : ℕ) (o' : List ℕ)
    → PayChain (language_in s₂ a cu b) (primary (language_in s₂ a cu b) (depth - 1)) t (payments (language_in s₂ a cu b) (primary (language_in s₂ a cu b) (depth - 1)) (toks_at t d.start)) n o f m count o'
    → pays_stop f.code ≡ true → (r : Result Read Fault) (o₂ : List ℕ)
    → ((es : Trees) (x : List ℕ) → Before n x es m o' → count ≡ parts es → Meets t (payday (words_in [] cu []) c.start es (toks_at t f.start)) n x r o₂)
    → Meets t (pays (language_in s₂ a cu b) (inner (language_in s₂ a cu b) depth) (toks_at t c.start)) n o r o₂
pays_done s₂ a b cu depth t c d h w e z n o f m count o' ch s r o₂ g =
    let W = language_in s₂ a cu b in
    let q = pay_exit ch s in
    meets_as t _ _ n o r o₂ (pays_payday W depth t c d h w e z ch.trees f q ∙ ap (λ (y : Reader Tree). y (toks_at t f.start)) (payday_same s₂ a b cu c.start ch.trees))
    (g ch.trees o ch.before ch.many)
