-- What each step of the expression readers' code comes to in the definition. Each law is over plain values, and an answer of a
-- proof cites one.
use mathlib.Core.Path.{◌≡◌, refl, sym, ap, ◌∙◌}
use mathlib.Core.Bool.{Bool, true, false, ◌&&◌, not, true≢false}
use mathlib.Core.Logic.{◌⊎◌, inl, inr, ⊎_elim}
use mathlib.Core.List.{List, [], ◌∷◌}
use mathlib.Core.Option.{none, some}
use Prim.Native.Nat.{ℕ, zero, suc, ◌+◌, ◌-◌, ◌≤◌, ◌<◌}
use Prim.Native.String.{String}
use native.Mathlib.Omega.{arith}
use lib.Dec.{eqb}
use borrow.Author.Tests.{ne_eqb, eqb-true}
use lib.ListN.{take}
use Rattle.tokens.specs.Limits.{most_bytes}
use Rattle.tokens.specs.Text.{bytes, same, within}
use Rattle.tokens.specs.Names.{names}
use Rattle.tokens.specs.Lexing.{advanced}
use Rattle.tokens.specs.Tokens.{Token, code}
use Rattle.tokens.specs.declared.cursor.Cursor.{Cursor}
use Rattle.grammar.specs.Trees.{Tree, Trees, node, nil, ◌▹◌, fields, none as unused, row}
use Rattle.grammar.specs.Readers.{Out, ok, refused, Reader, bind, ◌>>=◌, ◌>>◌, second as second_of, Turn, give, fail_at, ask, look, peek, read, the}
use Rattle.grammar.specs.Grammar.{call_of, Language, binary, chain, deeper, comparison, expression, in_edition, lone, power, signed, minus, negative, parenthesis, pays, name, primary_over, primary}
use Rattle.reading.specs.Rows.{put_row, node_row}
use Rattle.reading.specs.Joins.{Joins, sign_or_0}
use Rattle.reading.specs.declared.records.Node.{Node}
use Rattle.reading.specs.declared.records.Joined.{Joined}
use Rattle.reading.specs.Atoms.{literal, atom}
use Rattle.reading.specs.Meets.{edition_by, language_in, toks_at, token_at, Holds, Room, Ready, Follows, Takes, Reads, Meets}
use Rattle.reading.specs.Signs.{comparator, taken_in, raisable}
use Rattle.reading.specs.Turns.{inner, power_at, sum_or, comparison_or, parenthesised, list_postfixed, negated_by, MeetsItems, Closed, MeetsTurns}
use Rattle.std.specs.Prelude.{Option, Some, None, is_some, Result, Ok, Err}
use Rattle.reading.specs.Faults.{refused_by}
use Rattle.reading.specs.declared.answers.Fault.{Fault}
use Rattle.reading.specs.declared.answers.Read.{Read}
use Rattle.reading.specs.declared.answers.Items.{Items}
use Rattle.std.specs.Result.{IsErrAnd}
use Rattle.std.proofs.lemmas.Result.{err_from_is_err_and}
use Rattle.grammar.proofs.SignedLaws.{Bare, raised_alone, signed_stops, minus_stops}
use Rattle.grammar.proofs.SizeLaws.{Sized, EachSized, nothing, just, primary_size}
use Rattle.reading.proofs.HoldLaws.{first_kind, second_is, next_follows, ask_yes, ask_no, peek_is, read_then, read_next, the_then, the_next}
use Rattle.reading.proofs.RowLaws.{size_one, size_two, after_one, after_two}
use Rattle.reading.proofs.ChainLaws.{reads_within, binary_plain, by_sign}

-- ---- answers of calls

-- the answer to one reading is the answer to an equal one
pub meets_as : (t : List ℕ) (R R' : Out Tree) (n : ℕ) (o : List ℕ) (r : Result Read Fault) (o' : List ℕ) → R ≡ R' → Meets t R' n o r o' → Meets t R n o r o'
meets_as t R R' n o r o' e h = rw e h

pub reads_as : (t : List ℕ) (R R' : Out Tree) (n : ℕ) (o : List ℕ) (c : Cursor) (m : ℕ) (q : Option ℕ) (o' : List ℕ) → R ≡ R' → Reads t R' n o c m q o' → Reads t R n o c m q o'
reads_as t R R' n o c m q o' e h = rw e h

-- what `?` hands on
module _ (t : List ℕ) (n : ℕ) (e : Fault) where
  pub meets_err : (R : Out Tree) (o : List ℕ) (r : Result Read Fault) (o' : List ℕ) → IsErrAnd r (λ x. x ≡ e) → R ≡ refused_by e → Meets t R n o r o'
  meets_err R o r o' h q = let p = err_from_is_err_and r h in rw (p.1, p.2) q

  pub items_err : (R : Out Trees) (o : List ℕ) (r : Result Items Fault) (o' : List ℕ) → IsErrAnd r (λ x. x ≡ e) → R ≡ refused_by e → MeetsItems t R n o r o'
  items_err R o r o' h q = let p = err_from_is_err_and r h in rw (p.1, p.2) q

  pub closed_err : (k : ℕ) (R : Out Trees) (o : List ℕ) (r : Result Items Fault) (o' : List ℕ) → IsErrAnd r (λ x. x ≡ e) → R ≡ refused_by e → MeetsItems t R n o r o' × Closed k r
  closed_err k R o r o' h q = let p = err_from_is_err_and r h in rw (p.1, p.2) (q, tt)

  pub turns_err : (R : Tree → Out (Turn Tree Tree)) (m : ℕ) (o : List ℕ) (c : Cursor) (r : Result Read Fault) (o' : List ℕ) → IsErrAnd r (λ x. x ≡ e) → ((x : Tree) → R x ≡ refused_by e)
      → MeetsTurns t R n m o c r o'
  turns_err R m o c r o' h q = let p = err_from_is_err_and r h in rw (p.1, p.2) (λ x o₁ g. q x, tt)

module _ {A B : Type 0} where
  -- a refusal goes through what would read on
  pub bind_refused : (m : Reader A) (f : A → Reader B) (ts : _) (k b : ℕ) → m ts ≡ refused k b → (m >>= f) ts ≡ refused k b
  unfolding ◌>>=◌
  bind_refused m f ts k b e = rw e

-- ---- depth

pub primary_is : (W : Language) (d : ℕ) → primary W d ≡ primary_over W (inner W d)
unfolding primary inner
primary_is W zero = refl
primary_is W (suc d) = refl

pub inner_none : (W : Language) (d : ℕ) → d ≡ 0 → inner W d ≡ none
unfolding inner
inner_none W d e = rw e

pub inner_some : (W : Language) (d : ℕ) → (d ≡ 0 → ⊥) → inner W d ≡ some (primary W (d - 1))
unfolding inner
inner_some W zero h = absurd (h refl)
inner_some W (suc d) h = let q : suc d - 1 ≡ d = omega arith in rw q

pub inner_sized : (W : Language) (d : ℕ) → EachSized (inner W d)
unfolding inner
inner_sized W zero = nothing
inner_sized W (suc d) = just (primary_size W d)

module _ {A : Type 0} where
  pub deeper_none : (u : Token) (W : Language) (d : ℕ) (k : Reader Tree → Reader A) (ts : List Token) → d ≡ 0 → deeper u (inner W d) k ts ≡ refused 15 u.from
  unfolding deeper fail_at
  deeper_none u W d k ts e = rw (inner_none W d e)

  pub deeper_some : (u : Token) (W : Language) (d : ℕ) (k : Reader Tree → Reader A) (ts : List Token) → (d ≡ 0 → ⊥) → deeper u (inner W d) k ts ≡ k (primary W (d - 1)) ts
  unfolding deeper
  deeper_some u W d k ts h = rw (inner_some W d h)

-- ---- a comparison has at most one comparator

-- two of what p reads, with a comparator between them; or one, where a power is read alone
abbrev pub comparison_by : Bool → Reader Tree → Reader Tree
comparison_by alone p = chain p λ b l. ask (λ u. not alone && within 13 18 u.kind) (do u ← read; x ← p; give (binary u.kind b l x)) (give l)

comparator_no : (alone : Bool) (k : ℕ) → within 13 18 k ≡ false → comparator alone k ≡ false
comparator_no true k e = refl
comparator_no false k e = e

-- where no sign goes on, there is one operand
never_asked : (p : Reader Tree) (m : ℕ → Tree → Reader Tree) → chain p (λ b l. ask (λ u. false) (m b l) (give l)) ≡ p
unfolding ask give peek ◌>>=◌
never_asked p m i ts = go (p ts) i
  where
    go : (o : Out Tree) → bind (λ l. give l) o ≡ o
    go (ok l r) = refl
    go (refused k b) = refl

pub comparison_gates : (alone : Bool) (W : Language) (d : ℕ) → comparison_or alone W d ≡ comparison_by alone (sum_or alone W d)
unfolding comparison
comparison_gates true W d = sym (never_asked (power_at W d) _)
comparison_gates false W d = refl

-- whether there is a sign, by its code
pub sign_there : (s : Option ℕ) → is_some s ≡ true → (s ≡ Some 0 → ⊥) → sign_or_0 s ≡ 0 → ⊥
sign_there None h z e = absurd (true≢false (sym h))
sign_there (Some k) h z e = z (ap Some e)

pub sign_none : (s : Option ℕ) → is_some s ≡ false → sign_or_0 s ≡ 0
sign_none None h = refl
sign_none (Some k) h = absurd (true≢false h)

-- what is to be read of it: the first operand,
pub record First (c : Cursor) (n : ℕ) (o : List ℕ) (e : Cursor) (m : ℕ) (o' : List ℕ) : Type 0 where
  pub e_is : e ≡ c
  pub m_is : m ≡ n
  pub o_is : o' ≡ o

-- or the one behind its comparator
pub record Second (alone : Bool) (p : Reader Tree) (t : List ℕ) (c : Cursor) (n : ℕ) (o : List ℕ) (k : ℕ) (e : Cursor) (m : ℕ) (o' : List ℕ) : Type 0 where
  pub sign : Cursor
  pub q : Option ℕ
  pub left : Reads t (p (toks_at t c.start)) n o sign m q o'
  pub sign_is : sign.code ≡ k
  pub yes : comparator alone sign.code ≡ true
  pub follows : Follows t sign e

abbrev pub Compares : Bool → Reader Tree → List ℕ → Cursor → ℕ → List ℕ → ℕ → Cursor → ℕ → List ℕ → Type 0
Compares alone p t c n o k e m o' = (k ≡ 0 → First c n o e m o') × ((k ≡ 0 → ⊥) → Second alone p t c n o k e m o')

module _ (alone : Bool) (p : Reader Tree) (short : Sized p) (t : List ℕ) (c : Cursor) (n : ℕ) (o : List ℕ) (ready : Ready t c n) where
  comparison_refused : (k b : ℕ) → p (toks_at t c.start) ≡ refused k b → comparison_by alone p (toks_at t c.start) ≡ refused k b
  comparison_refused k b e = peek_is ready.0 _ ∙ bind_refused p _ (toks_at t c.start) k b e

  module _ (d : Cursor) (m : ℕ) (q : Option ℕ) (o' : List ℕ) (r : Reads t (p (toks_at t c.start)) n o d m q o') where
    behind : comparison_by alone p (toks_at t c.start)
        ≡ ask (λ u. not alone && within 13 18 u.kind) (do u ← read; x ← p; give (binary u.kind c.start r.tree x)) (give r.tree) (toks_at t d.start)
    unfolding ◌>>=◌
    behind = peek_is ready.0 _ ∙ (rw r.is)

    -- none
    comparison_none : comparator alone d.code ≡ false → Reads t (comparison_by alone p (toks_at t c.start)) n o d m q o'
    unfolding give
    comparison_none z =
        record {
          tree = r.tree;
          is = behind ∙ ask_no r.holds (λ u. not alone && within 13 18 u.kind) _ _ z;
          counts = r.counts;
          writes = r.writes;
          holds = r.holds;
          string = r.string;
          quoted = r.quoted;
        }

    -- one
    module _ (z : comparator alone d.code ≡ true) (e : Cursor) (w : Follows t d e) where
      some_sign : d.code ≡ 0 → ⊥
      some_sign f = true≢false (sym z ∙ (ap (comparator alone) f ∙ comparator_no alone 0 refl))

      comparison_ready : Ready t e m
      comparison_ready = (w.holds, omega (arith, reads_within t p short c n o d m q o' r ready.1, ready.1, w.fewer some_sign))

      second : comparison_by alone p (toks_at t c.start) ≡ (p >>= λ x. give (binary d.code c.start r.tree x)) (toks_at t e.start)
      second = behind ∙ ask_yes r.holds (λ u. not alone && within 13 18 u.kind) _ _ z ∙ read_then w some_sign _

      comparison_second : (k b : ℕ) → p (toks_at t e.start) ≡ refused k b → comparison_by alone p (toks_at t c.start) ≡ refused k b
      comparison_second k b f = second ∙ bind_refused p _ (toks_at t e.start) k b f

      module _ (f : Cursor) (m₂ : ℕ) (q₂ : Option ℕ) (o₂ : List ℕ) (r₂ : Reads t (p (toks_at t e.start)) m o' f m₂ q₂ o₂) where
        comparison_numbers : (n ≤ m₂) × (m₂ < 50000)
        comparison_numbers =
            omega (arith, reads_within t p short c n o d m q o' r ready.1, reads_within t p short e m o' f m₂ q₂ o₂ r₂ comparison_ready.1, ready.1, w.fewer some_sign, r.counts, r₂.counts)

        comparison_one : (o₃ : List ℕ) → o₃ ≡ put_row o₂ m₂ (row d.code (m₂ - n + 1) 2 unused c.start) → Reads t (comparison_by alone p (toks_at t c.start)) n o f (m₂ + 1) None o₃
        unfolding ◌>>=◌ give
        comparison_one o₃ g =
            let five : d.code ≡ 5 → ⊥ = λ h. true≢false (sym z ∙ (ap (comparator alone) h ∙ comparator_no alone 5 refl)) in
            let b = binary_plain t d.code c.start r.tree r₂.tree five in
            record {
              tree = binary d.code c.start r.tree r₂.tree;
              is = second ∙ (rw r₂.is);
              counts = omega (arith, size_two d.code c.start [] unused r.tree r₂.tree, r.counts, r₂.counts);
              writes = after_two o n d.code c.start [] unused r.tree r₂.tree r.counts r.writes r₂.counts r₂.writes (omega (arith, r.counts, r₂.counts)) g;
              holds = r₂.holds;
              string = b.0;
              quoted = b.1;
            }

  -- an operand that is to be read
  module _ (k : ℕ) (e : Cursor) (m : ℕ) (o' : List ℕ) (w : Compares alone p t c n o k e m o') where
    pub compare_ready : Ready t e m
    compare_ready =
        by_sign k (λ z. rw ((w.0 z).e_is, (w.0 z).m_is) ready)
        (λ z. comparison_ready (w.1 z).sign m (w.1 z).q o' (w.1 z).left (w.1 z).yes e (w.1 z).follows)

    pub compare_refused : (f b : ℕ) → p (toks_at t e.start) ≡ refused f b → comparison_by alone p (toks_at t c.start) ≡ refused f b
    compare_refused f b g =
        by_sign k (λ z. comparison_refused f b (rw (w.0 z).e_is at g))
        (λ z. comparison_second (w.1 z).sign m (w.1 z).q o' (w.1 z).left (w.1 z).yes e (w.1 z).follows f b g)

    module _ {d : Cursor} {m₂ : ℕ} {q₂ : Option ℕ} {o₂ : List ℕ} (r : Reads t (p (toks_at t e.start)) m o' d m₂ q₂ o₂) where
      first_read : k ≡ 0 → Reads t (p (toks_at t c.start)) n o d m₂ q₂ o₂
      first_read z = let F = w.0 z in rw (F.e_is, F.m_is, F.o_is) at r

      pub compare_numbers : (n ≤ m₂) × (m₂ ≤ 50000)
      compare_numbers =
          by_sign k (λ z. omega (arith, (first_read z).counts, reads_within t p short c n o d m₂ q₂ o₂ (first_read z) ready.1))
          (λ z. omega (arith, comparison_numbers (w.1 z).sign m (w.1 z).q o' (w.1 z).left (w.1 z).yes e (w.1 z).follows d m₂ q₂ o₂ r))

      module _ (j : Joined) (o₃ : List ℕ) (J : Joins o₂ k n m₂ q₂ c.start j o₃) where
        -- behind the second operand
        pub compare_last : (k ≡ 0 → ⊥) → Reads t (comparison_by alone p (toks_at t c.start)) n o d j.records j.string o₃
        compare_last z =
            let B = w.1 z in
            let f = J.1 z in
            let put : o₃ ≡ put_row o₂ m₂ (row B.sign.code (m₂ - n + 1) 2 unused c.start) = f.2 ∙ ap (λ (x : ℕ). put_row o₂ m₂ (row x (m₂ - n + 1) 2 unused c.start)) (sym B.sign_is) in
            rw (f.0, f.1) (comparison_one B.sign m B.q o' B.left B.yes e B.follows d m₂ q₂ o₂ r o₃ put)

        module _ (z : k ≡ 0) where
          pub compare_alone : Reads t (p (toks_at t c.start)) n o d j.records j.string o₃
          compare_alone = let f = J.0 z in rw (f.0, f.1, f.2) (first_read z)

          pub compare_none : comparator alone d.code ≡ false → Reads t (comparison_by alone p (toks_at t c.start)) n o d j.records j.string o₃
          compare_none = comparison_none d j.records j.string o₃ compare_alone

-- ---- parentheses

module _ (W : Language) (t : List ℕ) (c d : Cursor) (n : ℕ) (o : List ℕ) (depth : ℕ) (w : Follows t c d) (is_open : c.code ≡ 40) where
  some_open : c.code ≡ 0 → ⊥
  some_open z = omega (arith, z, is_open)

  pub parenthesis_deep : depth ≡ 0 → parenthesised W depth (token_at t c) (toks_at t c.start) ≡ refused 15 c.start
  parenthesis_deep e = deeper_none (token_at t c) W depth (λ p. read >> parenthesis W p) (toks_at t c.start) e

  module _ (left : depth ≡ 0 → ⊥) where
    inside : parenthesised W depth (token_at t c) (toks_at t c.start) ≡ parenthesis W (primary W (depth - 1)) (toks_at t d.start)
    inside = deeper_some (token_at t c) W depth (λ p. read >> parenthesis W p) (toks_at t c.start) left ∙ read_next w some_open (parenthesis W (primary W (depth - 1)))

    pub parenthesis_refused : (k b : ℕ) → expression W (primary W (depth - 1)) (toks_at t d.start) ≡ refused k b
        → parenthesised W depth (token_at t c) (toks_at t c.start) ≡ refused k b
    parenthesis_refused k b e = inside ∙ bind_refused (expression W (primary W (depth - 1))) _ (toks_at t d.start) k b e

    module _ {e : Cursor} {m : ℕ} {q : Option ℕ} {o' : List ℕ} (r : Reads t (expression W (primary W (depth - 1)) (toks_at t d.start)) n o e m q o') where
      closing : parenthesised W depth (token_at t c) (toks_at t c.start) ≡ (the ")" >> give r.tree) (toks_at t e.start)
      unfolding ◌>>=◌
      closing = inside ∙ (rw r.is)

      pub parenthesis_open : (a : Fault) → Takes t 41 e (Err a) → parenthesised W depth (token_at t c) (toks_at t c.start) ≡ refused_by a
      unfolding code ◌>>◌ ◌>>=◌ the
      parenthesis_open a g = closing ∙ (rw g)

      pub parenthesis_closed : (f : Cursor) → Takes t 41 e (Ok f) → Reads t (parenthesised W depth (token_at t c) (toks_at t c.start)) n o f m q o'
      unfolding give code
      parenthesis_closed f g =
          record {
            tree = r.tree;
            is = closing ∙ the_next r.holds g.0 (λ z. omega (arith, z, g.1)) ")" (sym g.1) (give r.tree);
            counts = r.counts;
            writes = r.writes;
            holds = g.0.holds;
            string = r.string;
            quoted = r.quoted;
          }

-- ---- what stands behind a token that was taken

pub follow_ready : (t : List ℕ) (c d : Cursor) (n : ℕ) → (c.code ≡ 0 → ⊥) → Follows t c d → Ready t c n → Ready t d n × Room t d (n + 3)
follow_ready t c d n some-token w r = ((w.holds, omega (arith, r.1, w.fewer some-token)), omega (arith, r.1, w.fewer some-token))

-- the record of a node with no more than two fields
pub put_fields : (o o₃ : List ℕ) (m k w v a b y : ℕ) (x : Node) → x ≡ record { kind = k; nodes = w; parts = v; f1 = a; f2 = b; f3 = 0; f4 = 0; place = y } → o₃ ≡ put_row o m (node_row x)
    → o₃ ≡ put_row o m (row k w v (fields a b 0 0) y)
put_fields o o₃ m k w v a b y x e h = h ∙ ap (λ (y : Node). put_row o m (node_row y)) e

-- ---- the table of calls

abbrev pub AllRows : ((ℕ × ℕ × ℕ) → Type 0) → List (String × (ℕ × ℕ × ℕ)) → Type 0
AllRows P [] = Unit {0}
AllRows P (c ∷ cs) = P c.1 × AllRows P cs

-- what each row says, and no row at all, is so of a name's row
pub row_says : (P : (ℕ × ℕ × ℕ) → Type 0) (w : List ℕ) (cs : List (String × (ℕ × ℕ × ℕ))) → P (0, 0, 0) → AllRows P cs → P (call_of w cs)
unfolding call_of
row_says P w [] z a = z
row_says P w (c ∷ cs) z a = go (same (bytes c.0) w) (row_says P w cs z a.1)
  where
    go : (b : Bool) → P (call_of w cs) → P (elim b as (λ _. ℕ × ℕ × ℕ) [ true ↦ c.1 | false ↦ call_of w cs ])
    go true ih = a.0
    go false ih = ih

-- ---- a primary, by the code of its first token

module _ (W : Language) (t : List ℕ) (c : Cursor) (h : Holds t c) (depth : ℕ) where
  abbrev P : Out Tree
  P = primary W depth (toks_at t c.start)

  pub prim_paren : c.code ≡ 40 → P ≡ parenthesised W depth (token_at t c) (toks_at t c.start)
  unfolding primary_over code
  prim_paren e = rw (primary_is W depth) (peek_is h _ ∙ (rw (ap (eqb 40) e)))

  pub prim_plus_0 : c.code ≡ 8 → depth ≡ 0 → P ≡ refused 15 c.start
  unfolding primary_over code
  prim_plus_0 e z = rw (primary_is W depth) (peek_is h _ ∙ (rw (ap (eqb 40) e, ap (eqb 8) e) (deeper_none (token_at t c) W depth (λ p. read >> signed W p) (toks_at t c.start) z)))

  pub prim_list : c.code ≡ 44 → P ≡ list_postfixed W depth (token_at t c) (toks_at t c.start)
  unfolding primary_over code
  prim_list e = rw (primary_is W depth) (peek_is h _ ∙ (rw (ap (eqb 40) e, ap (eqb 8) e, ap (eqb 9) e, ap (eqb 44) e)))

  pub prim_pays : c.code ≡ 36 → P ≡ pays W (inner W depth) (toks_at t c.start)
  unfolding primary_over code
  prim_pays e =
      rw (primary_is W depth)
      (peek_is h _ ∙ (rw (ap (eqb 40) e, ap (eqb 8) e, ap (eqb 9) e, ap (eqb 44) e, ap (eqb 2) e, ap (eqb 3) e, ap (eqb 4) e, ap (eqb 5) e, ap (eqb 36) e)))

  pub prim_atom : (c.code ≡ 40 → ⊥) → (c.code ≡ 8 → ⊥) → (c.code ≡ 9 → ⊥) → (c.code ≡ 44 → ⊥) → (c.code ≡ 36 → ⊥) → (c.code ≡ 1 → ⊥)
      → P ≡ atom (toks_at t c.start)
  unfolding primary_over code atom
  prim_atom a b d e f g =
      rw (primary_is W depth)
      (peek_is h _
      ∙ (rw (
        ne_eqb 40 c.code (λ z. a (sym z)),
        ne_eqb 8 c.code (λ z. b (sym z)),
        ne_eqb 9 c.code (λ z. d (sym z)),
        ne_eqb 44 c.code (λ z. e (sym z)),
        ne_eqb 36 c.code (λ z. f (sym z)),
        ne_eqb 1 c.code (λ z. g (sym z)),
      ) (sym (peek_is h _))))

  -- the cursor d behind it
  module _ (d : Cursor) (w : Follows t c d) where
    pub prim_plus : c.code ≡ 8 → (depth ≡ 0 → ⊥) → P ≡ signed W (primary W (depth - 1)) (toks_at t d.start)
    unfolding primary_over code
    prim_plus e z =
        rw (primary_is W depth)
        (peek_is h _
        ∙ (rw (ap (eqb 40) e, ap (eqb 8) e) (deeper_some (token_at t c) W depth (λ p. read >> signed W p) (toks_at t c.start) z
        ∙ read_next w (λ y. omega (arith, y, e)) (signed W (primary W (depth - 1))))))

    pub prim_name : c.code ≡ 1 → P ≡ name W (inner W depth) (token_at t c) (toks_at t d.start)
    unfolding primary_over code
    prim_name e =
        rw (primary_is W depth)
        (peek_is h _
        ∙ (rw (ap (eqb 40) e, ap (eqb 8) e, ap (eqb 9) e, ap (eqb 44) e, ap (eqb 2) e, ap (eqb 3) e, ap (eqb 4) e, ap (eqb 5) e, ap (eqb 36) e, ap (eqb 1) e)
        (the_next h w (λ y. omega (arith, y, e)) "name" (sym e) (name W (inner W depth) (token_at t c)))))

    pub prim_minus : c.code ≡ 9 → P ≡ minus W (inner W depth) (token_at t c) (toks_at t d.start)
    unfolding primary_over code
    prim_minus e =
        rw (primary_is W depth)
        (peek_is h _ ∙ (rw (ap (eqb 40) e, ap (eqb 8) e, ap (eqb 9) e) (read_next w (λ y. omega (arith, y, e)) (minus W (inner W depth) (token_at t c)))))

-- ---- what a sign takes in

pub raisable_two : (second : Bool) (k : ℕ) → raisable second k ≡ true → second ≡ true
raisable_two true k e = refl
raisable_two false k e = e

-- another sign takes in the `**` itself
module _ (r x y : List ℕ) (t : List ℕ) (c : Cursor) (h : Holds t c) (depth : ℕ) where
  abbrev W₂ : Language
  W₂ = language_in true r x y

  behind_c : Cursor
  behind_c = advanced (take most_bytes t) c

  follows_c : Follows t c behind_c
  unfolding behind_c
  follows_c = next_follows h refl

  plus_stops : c.code ≡ 8 → (u : Tree) (us : List Token) → primary W₂ depth (toks_at t c.start) ≡ ok u us → Bare us
  plus_stops e u us f =
      by_sign depth (λ z. absurd (let q = sym (prim_plus_0 W₂ t c h depth e z) ∙ f in let v : ◌≡◌ {A = ℕ} 0 1 = cc in omega arith))
      (λ z. signed_stops (names r) (names x) (names y) (primary W₂ (depth - 1)) (toks_at t behind_c.start) u us (sym (prim_plus W₂ t c h depth behind_c follows_c e z) ∙ f))

  minus_behind : c.code ≡ 9 → (u : Tree) (us : List Token) → primary W₂ depth (toks_at t c.start) ≡ ok u us → Bare us
  minus_behind e u us f =
      minus_stops (names r) (names x) (names y) (inner W₂ depth) (token_at t c) (toks_at t behind_c.start) u us (sym (prim_minus W₂ t c h depth behind_c follows_c e) ∙ f)

  signed_sign : (c.code ≡ 8) ⊎ (c.code ≡ 9) → signed W₂ (primary W₂ depth) (toks_at t c.start) ≡ primary W₂ depth (toks_at t c.start)
  unfolding signed power
  signed_sign k = raised_alone (primary W₂ depth) (toks_at t c.start) λ u us f. ⊎_elim (λ e. plus_stops e u us f) (λ e. minus_behind e u us f) k

-- where no `**` behind it can be another's, a primary is all that a sign takes in
pub signed_here : (second : Bool) (r x y t : List ℕ) (c : Cursor) → Holds t c → (depth : ℕ) → raisable second c.code ≡ false
    → signed (language_in second r x y) (primary (language_in second r x y) depth) (toks_at t c.start) ≡ primary (language_in second r x y) depth (toks_at t c.start)
unfolding signed
signed_here false r x y t c h depth e = refl
signed_here true r x y t c h depth e = signed_sign r x y t c h depth (go (eqb 8 c.code) (eqb 9 c.code) refl refl e)
  where
    go : (a b : Bool) → eqb 8 c.code ≡ a → eqb 9 c.code ≡ b → (not a && not b) ≡ false → (c.code ≡ 8) ⊎ (c.code ≡ 9)
    go true b p q f = inl (sym (eqb-true 8 c.code p))
    go false true p q f = inr (sym (eqb-true 9 c.code q))
    go false false p q f = absurd (true≢false f)

-- ---- what a minus takes in

-- the test of two tokens, by the cursors at them
pub lone_is : (second : Bool) (t : List ℕ) (c d : Cursor) → Holds t c → c.code ≡ 2 → Follows t c d → lone (language_in second [] [] []) (toks_at t c.start) ≡ not (taken_in second d.code)
unfolding code
lone_is second t c d h e w = ap (λ (k : ℕ). eqb 2 k && in_edition (edition_by second) true (not (eqb 12 after.kind))) (first_kind h ∙ e) ∙ go second
  where
    after : Token
    after = second_of (toks_at t c.start)

    go : (s : Bool) → in_edition (edition_by s) true (not (eqb 12 after.kind)) ≡ not (s && eqb 12 d.code)
    go false = refl
    go true = ap (λ (k : ℕ). not (eqb 12 k)) (second_is w (λ z. omega (arith, z, e)))

pub lone_not : (W : Language) (t : List ℕ) (c : Cursor) → Holds t c → (c.code ≡ 2 → ⊥) → lone W (toks_at t c.start) ≡ false
unfolding code
lone_not W t c h z = rw (first_kind h, ne_eqb 2 c.code (λ e. z (sym e)))

-- behind what a sign takes in there is room for its record
pub behind_read : (t : List ℕ) (p : Reader Tree) → Sized p → (c : Cursor) (n : ℕ) (o : List ℕ) (d : Cursor) (m : ℕ) (q : Option ℕ) (o' : List ℕ) → Room t c (n + 3) → Reads t (p (toks_at t c.start)) n o d m q o'
    → (n ≤ m) × (m < 50000)
behind_read t p h c n o d m q o' room r = omega (arith, reads_within t p h c n o d m q o' r (omega (arith, room)), room, r.counts)

module _ (W : Language) (t : List ℕ) (c d : Cursor) (depth : ℕ) where
  abbrev M : Out Tree
  M = minus W (inner W depth) (token_at t c) (toks_at t d.start)

  pub minus_lone : (e : Cursor) → Holds t d → Follows t d e → d.code ≡ 2 → lone W (toks_at t d.start) ≡ true → M ≡ literal c.start true (toks_at t d.start)
  unfolding minus look code
  minus_lone e h w f l =
      rw l (the_then h w (λ z. omega (arith, z, f)) "number" (sym f) _
      ∙ sym (peek_is h _ ∙ the_next h w (λ z. omega (arith, z, f)) "number" (sym f) _))

  module _ (l : lone W (toks_at t d.start) ≡ false) where
    pub minus_0 : depth ≡ 0 → M ≡ refused 15 c.start
    unfolding minus look
    minus_0 z = rw l (deeper_none (token_at t c) W depth (negative W c.start) (toks_at t d.start) z)

    pub minus_deep : (depth ≡ 0 → ⊥) → M ≡ negated_by c.start (signed W (primary W (depth - 1)) (toks_at t d.start))
    unfolding minus look ◌>>=◌ give
    minus_deep z = rw l (deeper_some (token_at t c) W depth (negative W c.start) (toks_at t d.start) z ∙ go (signed W (primary W (depth - 1)) (toks_at t d.start)))
      where
        go : (R : Out Tree) → bind (λ x. give (node 7 c.start [] unused (x ▹ nil))) R ≡ negated_by c.start R
        go (ok x r) = refl
        go (refused k b) = refl

    pub minus_refused : (depth ≡ 0 → ⊥) → (e : Fault) → signed W (primary W (depth - 1)) (toks_at t d.start) ≡ refused_by e → M ≡ refused_by e
    minus_refused z e h = minus_deep z ∙ ap (negated_by c.start) h

-- a negation: what was read, and the record behind it
pub negate_reads : (y : ℕ) (t : List ℕ) (R : Out Tree) (n : ℕ) (o : List ℕ) (e : Cursor) (m : ℕ) (q : Option ℕ) (o₁ o₂ : List ℕ) → Reads t R n o e m q o₁
    → o₂ ≡ put_row o₁ m (row 7 (m - n + 1) 1 unused y) → Reads t (negated_by y R) n o e (m + 1) None o₂
negate_reads y t R n o e m q o₁ o₂ r w =
    record {
      tree = node 7 y [] unused (r.tree ▹ nil);
      is = rw r.is;
      counts = omega (arith, size_one 7 y [] unused r.tree, r.counts);
      writes = after_one o n 7 y [] unused r.tree r.counts r.writes (omega (arith, r.counts)) w;
      holds = r.holds;
      string = refl;
      quoted = λ z. absurd (omega arith);
    }
