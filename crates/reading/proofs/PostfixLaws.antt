-- Postfixes and names: what each step of the code comes to in the definition, over plain values.
use Rattle.std.specs.Prelude.{if◌then◌else◌}
use mathlib.Core.Path.{◌≡◌, refl, sym, ap, ◌∙◌, subst}
use mathlib.Core.Bool.{Bool, true, false, ◌&&◌, ◌||◌, true≢false}
use mathlib.Core.List.{List, []}
use mathlib.Core.Option.{Option}
use mathlib.Core.Logic.{◌⊎◌, inl, inr}
use Prim.Native.Nat.{ℕ, zero, suc, ◌+◌, ◌-◌, ◌*◌, ◌≤◌, ◌<◌}
use native.Mathlib.Omega.{arith}
use lib.Dec.{eqb, leb}
use borrow.Author.Tests.{eq-eqb, ne_eqb, eqb-true, leb-true}
use lib.ListN.{length}
use Rattle.tokens.specs.Text.{bytes, same}
use Rattle.tokens.specs.Names.{member}
use Rattle.tokens.specs.Dates.{unless_0}
use Rattle.tokens.specs.Tokens.{Token, code}
use Rattle.tokens.specs.declared.cursor.Cursor.{Cursor}
use Rattle.grammar.specs.Trees.{Tree, Trees, node, nil, ◌▹◌, fields, none as unused, parts, row}
use Rattle.grammar.specs.Readers.{Out, ok, refused, Reader, bind, ◌>>=◌, ◌>>◌, Turn, again, done, follow, loop, give, fail_at, read, the}
use Rattle.grammar.specs.Grammar.{Language, binary, deeper, expression, arguments, method, method_of, index_of, postfix_turn, postfixes, calls, call_of, call, named, variable, name, spot, df, rate_index, currency_of, a_currency, equity, pair, primary}
use Rattle.reading.specs.Rows.{put_row, kind_number, kind_at}
use Rattle.reading.specs.declared.records.Kind.{Kind}
use Rattle.reading.specs.declared.records.Kind.TheVariants as kind
use Rattle.reading.proofs.KindLaws.{kind_back}
use Rattle.reading.specs.Calls.{call_kind, method_kind}
use Rattle.reading.specs.Meets.{words_in, language_in, toks_at, token_at, Holds, Room, Ready, Follows, Takes, string_at, Quoted, Reads, Meets, Before}
use Rattle.reading.specs.Signs.{postfix_sign}
use Rattle.std.specs.Prelude.{Option as Maybe, None, Result, Ok, Err, Some}
use Rattle.reading.specs.Faults.{refused_by}
use Rattle.reading.specs.Turns.{inner, ReadsItems, special_of, Unquoted, Tops, ReadsTurn, MeetsTurns}
use Rattle.reading.specs.declared.answers.Fault.{Fault}
use Rattle.reading.specs.declared.answers.Read.{Read}
use Rattle.reading.specs.declared.answers.Texts.{Texts}
use Rattle.grammar.proofs.Laws.{loop_eq}
use Rattle.grammar.proofs.GrammarLaws.{Each, nothing, just, expression_law, postfix_turn_law, primary_law}
use Rattle.grammar.proofs.SizeLaws.{primary_size, moves_less, expression_size, arguments_spare, named_size}
use Rattle.reading.proofs.HoldLaws.{peek_is, read_next, the_then, the_next}
use Rattle.reading.proofs.RowLaws.{size_some, size_node, size_two, sizes_front, parts_few, put_front, put_rows_same, after_two, before_node}
use Rattle.reading.proofs.ChainLaws.{reads_within}
use Rattle.reading.proofs.StepLaws.{meets_as, deeper_none, deeper_some, inner_sized, row_says}

-- ---- answers of calls, as the code takes them apart

-- the answer to one turn is the answer to an equal one, that begins earlier
pub turns_as : (t : List ℕ) (R R' : Tree → Out (Turn Tree Tree)) (n m : ℕ) (o₁ o₂ : List ℕ) (c d : Cursor) (r : Result Read Fault) → ((x : Tree) → R x ≡ R' x)
    → length (toks_at t d.start) ≤ length (toks_at t c.start) → MeetsTurns t R' n m o₁ d r o₂ → MeetsTurns t R n m o₁ c r o₂
turns_as t R R' n m o₁ o₂ c d (Ok r) e l h = (
  λ x o g. let z = h.0 x o g in record { tree = z.tree; is = e x ∙ z.is; tops = z.tops; holds = z.holds },
  (h.1.0, h.1.1, omega (arith, l, h.1.2)),
)
turns_as t R R' n m o₁ o₂ c d (Err f) e l h = (λ x o g. e x ∙ h.0 x o g, tt)

-- behind a token there is room for what there was room for
pub ready_behind : (t : List ℕ) (c d : Cursor) (n k : ℕ) → Room t c n → Follows t c d → c.code ≡ suc k → Ready t d n
ready_behind t c d n k room w e = (w.holds, omega (arith, room, w.fewer (λ z. omega (arith, z, e))))

-- ---- depth

pub each_inner : (W : Language) (d : ℕ) → Each (inner W d)
unfolding inner
each_inner W zero = nothing
each_inner W (suc d) = just (primary_law W d)

-- ---- an index, behind its `[`

module _ (W : Language) (depth l : ℕ) (t : List ℕ) (c : Cursor) where
  -- the expression is refused
  pub index_refuses : (e : Fault) → expression W (primary W depth) (toks_at t c.start) ≡ refused_by e → (x : Tree) → index_of W (primary W depth) l x (toks_at t c.start) ≡ refused_by e
  unfolding ◌>>=◌
  index_refuses e h x = rw h

  module _ {m : ℕ} {o : List ℕ} {d : Cursor} {k : ℕ} {q : Maybe ℕ} {o₁ : List ℕ} (r : Reads t (expression W (primary W depth) (toks_at t c.start)) m o d k q o₁) where
    index_at : (x : Tree) → index_of W (primary W depth) l x (toks_at t c.start) ≡ (the "]" >> give (again (binary 28 l x r.tree))) (toks_at t d.start)
    unfolding ◌>>=◌
    index_at x = rw r.is

    -- no `]`
    pub index_open : (e : Fault) → Takes t 45 d (Err e) → (x : Tree) → index_of W (primary W depth) l x (toks_at t c.start) ≡ refused_by e
    unfolding code ◌>>◌ ◌>>=◌ the
    index_open e w x = index_at x ∙ (rw w)

    module _ (room : Room t c m) (n : ℕ) (low : n < m) (e : Cursor) (follows : Takes t 45 d (Ok e)) where
      some_left : d.code ≡ 0 → ⊥
      some_left z = omega (arith, z, follows.1)

      pub index_numbers : (n < k) × (k < 50000) × (k + 1 + 3 * length (toks_at t e.start) ≤ 50000) × (length (toks_at t e.start) < length (toks_at t c.start))
      index_numbers =
          let within = reads_within t (expression W (primary W depth)) (expression_size W (primary W depth) (primary_size W depth)) c m o d k q o₁ r room in
          let f = follows.0.fewer some_left in
          let v : length (toks_at t d.start) < length (toks_at t c.start) = moves_less (expression_law W (primary W depth) (primary_law W depth)) (toks_at t c.start) r.tree (toks_at t d.start) r.is in
          omega (arith, within, f, v, room, low, r.counts)

      pub index_reads : {o₂ : List ℕ} → o₂ ≡ put_row o₁ k (row 28 (k - n + 1) 2 unused l)
          → MeetsTurns t (λ x. index_of W (primary W depth) l x (toks_at t c.start)) n m o c (Ok (record { at = e; records = k + 1; string = None })) o₂
      unfolding code give
      index_reads u = (
        λ x z h.
            record {
              tree = binary 28 l x r.tree;
              is = index_at x ∙ the_next r.holds follows.0 some_left "]" (sym follows.1) _;
              tops =
                  record {
                    counts = omega (arith, size_two 28 l [] unused x r.tree, h.counts, r.counts);
                    writes = after_two z n 28 l [] unused x r.tree h.counts h.writes r.counts r.writes (omega (arith, h.counts, r.counts)) u;
                    unquoted = λ y. omega (arith, y);
                  };
              holds = follows.0.holds;
            },
        ((follows.0.holds, index_numbers.2), omega (arith, index_numbers), index_numbers.3),
      )

-- ---- a method, behind its `.`

nil_of : (b : Bool) (es : Trees) → (b && eqb (parts es) 0) ≡ true → es ≡ nil
nil_of b nil e = refl
nil_of true (y ▹ ys) e = absurd (true≢false (sym e ∙ ne_eqb (suc (parts ys)) 0 (λ z. omega (arith, z))))
nil_of false (y ▹ ys) e = absurd (true≢false (sym e))

module _ (l : ℕ) (x : Tree) (u : Token) (es : Trees) (ts : List Token) where
  abbrev Yields : ℕ → Out Tree → Type 0
  Yields κ R = ((κ ≡ 0 → ⊥) → (R ≡ ok (node κ l [] unused (x ▹ es)) ts) × (κ ≡ 5 → ⊥)) × (κ ≡ 0 → R ≡ refused 10 u.from)

  yields : (a b c : Bool) → (b ≡ true → es ≡ nil) → (c ≡ true → es ≡ nil)
      → Yields (if a then 29 else if b then 30 else if c then 31 else 0)
      ((if a then give (node 29 l [] unused (x ▹ es)) else if b then give (node 30 l [] unused (x ▹ nil)) else if c then give (node 31 l [] unused (x ▹ nil)) else fail_at u 10) ts)
  unfolding give fail_at
  yields true b c f g = (λ z. (refl, λ e. omega (arith, e)), λ e. absurd (omega (arith, e)))
  yields false true c f g = (λ z. (rw (f refl), λ e. omega (arith, e)), λ e. absurd (omega (arith, e)))
  yields false false true f g = (λ z. (rw (g refl), λ e. omega (arith, e)), λ e. absurd (omega (arith, e)))
  yields false false false f g = (λ z. absurd (z refl), λ e. refl)

  -- the kind of a method's node, 0 where it is refused
  pub method_yields : Yields (method_kind u.text (parts es)) (method l x u es ts)
  unfolding method method_kind
  method_yields =
      yields (same (bytes "append") u.text && eqb (parts es) 1) (same (bytes "mean") u.text && eqb (parts es) 0) (same (bytes "std") u.text && eqb (parts es) 0)
      (nil_of (same (bytes "mean") u.text) es) (nil_of (same (bytes "std") u.text) es)

module _ (W : Language) (depth l : ℕ) (t : List ℕ) (c : Cursor) (h : Holds t c) where
  -- no name
  pub method_unnamed : (e : Fault) → Takes t 1 c (Err e) → (x : Tree) → method_of W (inner W depth) l x (toks_at t c.start) ≡ refused_by e
  unfolding code ◌>>◌ ◌>>=◌ the
  method_unnamed e w x = rw w

  module _ (d : Cursor) (named_then : Takes t 1 c (Ok d)) where
    some_name : c.code ≡ 0 → ⊥
    some_name z = omega (arith, z, named_then.1)

    method_at : (x : Tree)
        → method_of W (inner W depth) l x (toks_at t c.start) ≡ (arguments W (inner W depth) >>= λ es. method l x (token_at t c) es >>= λ y. give (again y)) (toks_at t d.start)
    unfolding code
    method_at x = the_then h named_then.0 some_name "name" (sym named_then.1) _

    -- the arguments are refused
    pub method_refuses : (e : Fault) → arguments W (inner W depth) (toks_at t d.start) ≡ refused_by e → (x : Tree) → method_of W (inner W depth) l x (toks_at t c.start) ≡ refused_by e
    unfolding ◌>>=◌
    method_refuses e h x = method_at x ∙ (rw h)

    module _ {m : ℕ} {o : List ℕ} {e : Cursor} {k count : ℕ} {τ : Texts} {o₁ : List ℕ} (j : ReadsItems t (arguments W (inner W depth) (toks_at t d.start)) m o e k count τ o₁) where
      method_in : (x : Tree) → method_of W (inner W depth) l x (toks_at t c.start) ≡ (method l x (token_at t c) j.items >>= λ y. give (again y)) (toks_at t e.start)
      unfolding ◌>>=◌
      method_in x = method_at x ∙ (rw j.is)

      -- no such method
      pub method_none : 0 ≡ method_kind (token_at t c).text count → (x : Tree) → method_of W (inner W depth) l x (toks_at t c.start) ≡ refused 10 c.start
      unfolding ◌>>=◌
      method_none q x =
          let v : method_kind (token_at t c).text (parts j.items) ≡ 0 = ap (method_kind (token_at t c).text) (sym j.parts_are) ∙ sym q in
          let y = (method_yields l x (token_at t c) j.items (toks_at t e.start)).1 v in
          method_in x ∙ (rw y)

      module _ (room : Room t c m) (n : ℕ) (low : n < m) where
        pub method_numbers : (n < k) × (k < 50000) × (k + 1 + 3 * length (toks_at t e.start) ≤ 50000) × (length (toks_at t e.start) < length (toks_at t c.start)) × (count < 50000)
        method_numbers =
            let spare = (arguments_spare W (inner W depth) (inner_sized W depth)).bound (toks_at t d.start) j.items (toks_at t e.start) j.is in
            omega (arith, spare, named_then.0.fewer some_name, room, low, j.counts, j.parts_are, parts_few j.items)

        pub method_reads : {κ : ℕ} → κ ≡ method_kind (token_at t c).text count → (κ ≡ 0 → ⊥) → {o₂ : List ℕ} → o₂ ≡ put_row o₁ k (row κ (k - n + 1) (count + 1) unused l)
            → MeetsTurns t (λ x. method_of W (inner W depth) l x (toks_at t c.start)) n m o c (Ok (record { at = e; records = k + 1; string = None })) o₂
        unfolding ◌>>=◌ give
        method_reads {κ} q z {o₂} u =
            (λ x s g. turn x s g, ((j.holds, method_numbers.2), omega (arith, method_numbers), method_numbers.3))
          where
            kind_is : κ ≡ method_kind (token_at t c).text (parts j.items)
            kind_is = q ∙ ap (method_kind (token_at t c).text) j.parts_are

            made : (x : Tree) → (method l x (token_at t c) j.items (toks_at t e.start) ≡ ok (node κ l [] unused (x ▹ j.items)) (toks_at t e.start)) × (κ ≡ 5 → ⊥)
            made x = subst (λ (i : ℕ). (i ≡ 0 → ⊥) → (method l x (token_at t c) j.items (toks_at t e.start) ≡ ok (node i l [] unused (x ▹ j.items)) (toks_at t e.start)) × (i ≡ 5 → ⊥))
                (sym kind_is) (method_yields l x (token_at t c) j.items (toks_at t e.start)).0 z

            turn : (x : Tree) (s : List ℕ) → Tops n s x m o → ReadsTurn t (method_of W (inner W depth) l x (toks_at t c.start)) n s e (k + 1) o₂
            turn x s g =
                let b : Before n s (x ▹ j.items) k o₁ = record {
                  counts = omega (arith, g.counts, j.counts, sizes_front x j.items);
                  writes = j.writes ∙ (put_rows_same g.writes g.counts refl ∙ sym (put_front s n x j.items));
                } in
                record {
                  tree = node κ l [] unused (x ▹ j.items);
                  is = method_in x ∙ (rw (made x).0);
                  tops =
                      record {
                        counts = omega (arith, b.counts, size_node κ l [] unused (x ▹ j.items));
                        writes = before_node κ l [] unused b (omega (arith, b.counts)) (omega (arith, j.parts_are)) u;
                        unquoted = (made x).1;
                      };
                  holds = j.holds;
                }

-- ---- one postfix

-- a postfix's sign that is no `.` is a `[`
pub bracket_is : (k : ℕ) → postfix_sign k ≡ true → (k ≡ 47 → ⊥) → k ≡ 44
bracket_is k e z =
    let f : eqb 44 k ≡ true = ap (λ (b : Bool). b || eqb 44 k) (sym (ne_eqb 47 k (λ y. z (sym y)))) ∙ e in
    sym (eqb-true 44 k f)

module _ (W : Language) (dep l : ℕ) (t : List ℕ) (c d : Cursor) (h : Holds t c) (w : Follows t c d) where
  pub postfix_dot : c.code ≡ 47 → (x : Tree) → postfix_turn W (inner W dep) l x (toks_at t c.start) ≡ method_of W (inner W dep) l x (toks_at t d.start)
  unfolding postfix_turn code
  postfix_dot e x = peek_is h _ ∙ (rw (eq-eqb 47 c.code (sym e)) (read_next w (λ z. omega (arith, z, e)) _))

  module _ (sign : postfix_sign c.code ≡ true) (other : c.code ≡ 47 → ⊥) where
    here : c.code ≡ 44
    here = bracket_is c.code sign other

    postfix_in : (x : Tree) → postfix_turn W (inner W dep) l x (toks_at t c.start) ≡ deeper (token_at t c) (inner W dep) (λ p. read >> index_of W p l x) (toks_at t c.start)
    unfolding postfix_turn code
    postfix_in x = peek_is h _ ∙ (rw (ne_eqb 47 c.code (λ z. other (sym z)), eq-eqb 44 c.code (sym here)))

    pub postfix_low : dep ≡ 0 → (x : Tree) → postfix_turn W (inner W dep) l x (toks_at t c.start) ≡ refused 15 c.start
    postfix_low e x = postfix_in x ∙ deeper_none (token_at t c) W dep _ _ e

    pub postfix_index : (dep ≡ 0 → ⊥) → (x : Tree) → postfix_turn W (inner W dep) l x (toks_at t c.start) ≡ index_of W (primary W (dep - 1)) l x (toks_at t d.start)
    postfix_index z x = postfix_in x ∙ (deeper_some (token_at t c) W dep _ _ z ∙ read_next w (λ y. omega (arith, y, here)) _)

  -- the sign is read
  pub postfix_fewer : postfix_sign c.code ≡ true → length (toks_at t d.start) < length (toks_at t c.start)
  postfix_fewer e = omega (arith, w.fewer (λ z. true≢false (sym e ∙ ap postfix_sign z)))

-- ---- all postfixes

-- the tree so far, of a text that begins at l, and that the loop from here gives the whole reading R
pub record PostChain (W : Language) (I : Option (Reader Tree)) (l : ℕ) (t : List ℕ) (R : Out Tree) (n : ℕ) (o : List ℕ) (c : Cursor) (m : ℕ) (o' : List ℕ) : Type 0 where
  pub tree : Tree
  pub is : R ≡ loop (postfix_turn W I l) tree (toks_at t c.start)
  pub tops : Tops n o tree m o'
  pub each : Each I

-- what is no String node
plain_string : (t : List ℕ) (y : Tree) → Unquoted y → (None ≡ unless_0 (string_at y)) × Quoted t y
plain_string t (node k l x (fields a b c d) ts) h = (rw (ne_eqb k 5 h), λ e. absurd (h e))

-- where the loop begins
pub post_enter : (W : Language) (I : Option (Reader Tree)) → Each I → (l : ℕ) (t : List ℕ) (x : Tree) {n : ℕ} {o : List ℕ} (c : Cursor) {m : ℕ} {o' : List ℕ} → Tops n o x m o'
    → PostChain W I l t (postfixes W I l x (toks_at t c.start)) n o c m o'
unfolding postfixes
post_enter W I each l t x c h = record { tree = x; is = refl; tops = h; each = each }

module _ {W : Language} {I : Option (Reader Tree)} {l : ℕ} {t : List ℕ} {R : Out Tree} {n : ℕ} {o : List ℕ} {c : Cursor} {m : ℕ} {o' : List ℕ} (ch : PostChain W I l t R n o c m o') where
  turn_of : R ≡ follow (loop (postfix_turn W I l)) (postfix_turn W I l ch.tree (toks_at t c.start))
  turn_of = ch.is ∙ loop_eq (postfix_turn_law W I ch.each l) ch.tree (toks_at t c.start)

  -- no sign: the loop ends
  pub post_exit : Holds t c → postfix_sign c.code ≡ false → Reads t R n o c m None o'
  unfolding postfix_turn code give
  post_exit h z =
      let s = plain_string t ch.tree ch.tops.unquoted in
      let dot : eqb 47 c.code ≡ false = or_left (eqb 47 c.code) (eqb 44 c.code) z in
      let bracket : eqb 44 c.code ≡ false = or_right (eqb 47 c.code) (eqb 44 c.code) z in
      let q : postfix_turn W I l ch.tree (toks_at t c.start) ≡ ok (done ch.tree) (toks_at t c.start) = peek_is h _ ∙ (rw (dot, bracket)) in
      record {
        tree = ch.tree;
        is = turn_of ∙ (rw q);
        counts = ch.tops.counts;
        writes = ch.tops.writes;
        holds = h;
        string = s.0;
        quoted = s.1;
      }
    where
      or_left : (a b : Bool) → (a || b) ≡ false → a ≡ false
      or_left true b e = absurd (true≢false e)
      or_left false b e = refl

      or_right : (a b : Bool) → (a || b) ≡ false → b ≡ false
      or_right true b e = absurd (true≢false e)
      or_right false b e = e

  -- a turn is refused
  pub post_refused : (e : Fault) → ((x : Tree) (s : List ℕ) → Tops n s x m o' → postfix_turn W I l x (toks_at t c.start) ≡ refused_by e) → R ≡ refused_by e
  post_refused e turn = turn_of ∙ ap (follow (loop (postfix_turn W I l))) (turn ch.tree o ch.tops)

  pub post_more : (r : Read) (o₂ : List ℕ) → MeetsTurns t (λ x. postfix_turn W I l x (toks_at t c.start)) n m o' c (Ok r) o₂ → PostChain W I l t R n o r.at r.records o₂
  post_more r o₂ turn = let f = turn.0 ch.tree o ch.tops in record { tree = f.tree; is = turn_of ∙ (rw f.is); tops = f.tops; each = ch.each }

-- ---- names

call_low : (w : List ℕ) → (call_of w calls).0 < 32
call_low w = row_says (λ c. c.0 < 32) w calls (omega arith) (omega arith, (omega arith, (omega arith, (omega arith, (omega arith, (omega arith, (omega arith, (omega arith, tt))))))))

-- the kinds of the calls that are read on their own
pub call_kind_high : (k : Kind) → (k ≡ kind.Spot) ⊎ ((k ≡ kind.Df) ⊎ (k ≡ kind.RateIndex)) → 32 ≤ kind_number k
call_kind_high k (inl e) = rw e (omega arith)
call_kind_high k (inr (inl e)) = rw e (omega arith)
call_kind_high k (inr (inr e)) = rw e (omega arith)

-- the kind of any other call
pub call_kind_low : (k : Kind) (w : List ℕ) → kind_number k ≡ call_kind w → (k ≡ kind.Spot → ⊥) → (k ≡ kind.Df → ⊥) → (k ≡ kind.RateIndex → ⊥) → kind_number k < 32
unfolding call_kind
call_kind_low k w e s d r = go (leb 1 (call_of w calls).0) (same (bytes "Spot") w) (same (bytes "Df") w) (same (bytes "RateIndex") w) e
  where
    is : (j : Kind) → kind_number k ≡ kind_number j → k ≡ j
    is j q = let p : Some k ≡ Some j = sym (kind_back k) ∙ (ap kind_at q ∙ kind_back j) in cc

    go : (a b x y : Bool) → kind_number k ≡ (if a then (call_of w calls).0 else if b then 32 else if x then 34 else if y then 35 else 0) → kind_number k < 32
    go true b x y q = omega (arith, q, call_low w)
    go false true x y q = absurd (s (is kind.Spot q))
    go false false true y q = absurd (d (is kind.Df q))
    go false false false true q = absurd (r (is kind.RateIndex q))
    go false false false false q = omega (arith, q)

module _ (W : Language) (I : Option (Reader Tree)) (u : Token) (ts : List Token) where
  abbrev Named : ℕ → Reader Tree → Type 0
  Named κ R =
      (κ ≡ 0 → R ts ≡ (named W u >>= postfixes W I u.from) ts)
      × (32 ≤ κ → R ts ≡ special_of W κ u.from ts)
      × (1 ≤ κ → κ < 32 → R ts ≡ call W I u (call_of u.text calls) ts)

  named_by : (k : ℕ) → k < 32 → (a b c d : Bool) → leb 1 k ≡ a
      → Named (if a then k else if b then 32 else if c then 34 else if d then 35 else 0)
      (if a then call W I u (call_of u.text calls) else if b then spot W u.from else if c then df u.from else if d then rate_index u.from else (named W u >>= postfixes W I u.from))
  named_by k l true b c d e = (λ z. absurd (omega (arith, z, leb-true 1 k e)), λ z. absurd (omega (arith, z, l)), λ y z. refl)
  named_by k l false true c d e = (λ z. absurd (omega (arith, z)), λ z. refl, λ y z. absurd (omega (arith, z)))
  named_by k l false false true d e = (λ z. absurd (omega (arith, z)), λ z. refl, λ y z. absurd (omega (arith, z)))
  named_by k l false false false true e = (λ z. absurd (omega (arith, z)), λ z. refl, λ y z. absurd (omega (arith, z)))
  named_by k l false false false false e = (λ z. refl, λ z. absurd (omega (arith, z)), λ y z. absurd (omega (arith, y)))

  pub name_by : Named (call_kind u.text) (name W I u)
  unfolding name call_kind
  name_by =
      let c = call_of u.text calls in
      named_by c.0 (call_low u.text) (leb 1 c.0) (same (bytes "Spot") u.text) (same (bytes "Df") u.text) (same (bytes "RateIndex") u.text) refl

named_plain : (W : Language) (u : Token) (ts : List Token) (y : Tree) (r : List Token) → named W u ts ≡ ok y r → Unquoted y
unfolding named give fail_at
named_plain W u ts y r e = go (member W.reserved u.text) e
  where
    go : (b : Bool) → (if b then fail_at u 9 else give (variable u)) ts ≡ ok y r → Unquoted y
    go true q = absurd (let z : ◌≡◌ {A = ℕ} 0 1 = cc in omega arith)
    go false q =
        let v : variable u ≡ y = cc in
        subst Unquoted v (λ z. omega (arith, z))

module _ (s₂ : Bool) (res cur cou : List ℕ) (I : Option (Reader Tree)) (t : List ℕ) (c d : Cursor) (n : ℕ) (o : List ℕ) (κ : ℕ) (ki : κ ≡ call_kind (token_at t c).text) where
  named_same : named (words_in res [] []) (token_at t c) ≡ named (language_in s₂ res cur cou) (token_at t c)
  unfolding named
  named_same = refl

  spot_same : spot (words_in [] cur []) ≡ spot (language_in s₂ res cur cou)
  unfolding spot equity pair currency_of a_currency
  spot_same = refl

  abbrev Facts : Named (language_in s₂ res cur cou) I (token_at t c) (toks_at t d.start) (call_kind (token_at t c).text) (name (language_in s₂ res cur cou) I (token_at t c))
  Facts = name_by (language_in s₂ res cur cou) I (token_at t c) (toks_at t d.start)

  -- a variable's name is refused
  pub name_refuses : κ ≡ 0 → (e : Fault) → named (words_in res [] []) (token_at t c) (toks_at t d.start) ≡ refused_by e
      → name (language_in s₂ res cur cou) I (token_at t c) (toks_at t d.start) ≡ refused_by e
  unfolding ◌>>=◌
  name_refuses z e h =
      let g : named (language_in s₂ res cur cou) (token_at t c) (toks_at t d.start) ≡ refused_by e = ap (λ (R : Reader Tree). R (toks_at t d.start)) (sym named_same) ∙ h in
      Facts.0 (sym ki ∙ z) ∙ (rw g)

  module _ {f : Cursor} {m : ℕ} {q : Maybe ℕ} {o₁ : List ℕ} (r : Reads t (named (words_in res [] []) (token_at t c) (toks_at t d.start)) n o f m q o₁) where
    pub name_numbers : Room t c n → Follows t c d → c.code ≡ 1 → Ready t f m × (n < m)
    name_numbers room w e =
        let l = named_size (words_in res [] []) (token_at t c) (toks_at t d.start) r.tree (toks_at t f.start) r.is in
        let v = w.fewer (λ z. omega (arith, z, e)) in
        ((r.holds, omega (arith, l, v, room, r.counts)), omega (arith, r.counts, size_some r.tree))

    -- a variable with postfixes
    pub name_reads : κ ≡ 0 → (x : Result Read Fault) (o₂ : List ℕ) → ((y : Tree) (s : List ℕ) → Tops n s y m o₁ → Meets t (postfixes (language_in s₂ res cur cou) I c.start y (toks_at t f.start)) n s x o₂)
        → Meets t (name (language_in s₂ res cur cou) I (token_at t c) (toks_at t d.start)) n o x o₂
    unfolding ◌>>=◌
    name_reads z x o₂ h =
        let g : named (language_in s₂ res cur cou) (token_at t c) (toks_at t d.start) ≡ ok r.tree (toks_at t f.start) = ap (λ (R : Reader Tree). R (toks_at t d.start)) (sym named_same) ∙ r.is in
        let tops : Tops n o r.tree m o₁ = record {
          counts = r.counts;
          writes = r.writes;
          unquoted = named_plain (words_in res [] []) (token_at t c) (toks_at t d.start) r.tree (toks_at t f.start) r.is;
        } in
        meets_as t (name (language_in s₂ res cur cou) I (token_at t c) (toks_at t d.start)) (postfixes (language_in s₂ res cur cou) I c.start r.tree (toks_at t f.start)) n o x o₂
        (Facts.0 (sym ki ∙ z) ∙ ap (bind (postfixes (language_in s₂ res cur cou) I c.start)) g) (h r.tree o tops)

  -- Spot, Df, RateIndex
  pub name_special : 32 ≤ κ → (x : Result Read Fault) (o₂ : List ℕ) → Meets t (special_of (words_in [] cur []) κ c.start (toks_at t d.start)) n o x o₂
      → Meets t (name (language_in s₂ res cur cou) I (token_at t c) (toks_at t d.start)) n o x o₂
  name_special l x o₂ h =
      let s : special_of (language_in s₂ res cur cou) κ c.start ≡ special_of (words_in [] cur []) κ c.start
      = ap (λ (p : ℕ → Reader Tree). if eqb κ 32 then p c.start else if eqb κ 34 then df c.start else rate_index c.start) (sym spot_same) in
      let g : name (language_in s₂ res cur cou) I (token_at t c) (toks_at t d.start) ≡ special_of (language_in s₂ res cur cou) κ c.start (toks_at t d.start)
      = Facts.1 (omega (arith, l, ki)) ∙ ap (λ (i : ℕ). special_of (language_in s₂ res cur cou) i c.start (toks_at t d.start)) (sym ki) in
      meets_as t (name (language_in s₂ res cur cou) I (token_at t c) (toks_at t d.start)) (special_of (words_in [] cur []) κ c.start (toks_at t d.start)) n o x o₂
      (g ∙ ap (λ (p : Reader Tree). p (toks_at t d.start)) s) h

  -- an ordinary call
  pub name_call : 1 ≤ κ → κ < 32 → (x : Result Read Fault) (o₂ : List ℕ)
      → Meets t (call (language_in s₂ res cur cou) I (token_at t c) (call_of (token_at t c).text calls) (toks_at t d.start)) n o x o₂
      → Meets t (name (language_in s₂ res cur cou) I (token_at t c) (toks_at t d.start)) n o x o₂
  name_call z l x o₂ h =
      meets_as t (name (language_in s₂ res cur cou) I (token_at t c) (toks_at t d.start)) (call (language_in s₂ res cur cou) I (token_at t c) (call_of (token_at t c).text calls) (toks_at t d.start)) n o x o₂
      (Facts.2 (omega (arith, ki, z)) (omega (arith, l, ki))) h
