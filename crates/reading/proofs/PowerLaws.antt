-- Operands joined by `**`: what each turn of the code's loop comes to, in either edition.
use mathlib.Core.Path.{◌≡◌, refl, sym, ap, ◌∙◌, subst}
use mathlib.Core.Bool.{Bool, true, false, true≢false}
use mathlib.Core.Logic.{inl}
use mathlib.Core.List.{List, [], ◌∷◌, ◌++◌}
use Prim.Native.Nat.{ℕ, ◌+◌, ◌-◌, ◌*◌, ◌/◌, ◌≤◌, ◌<◌}
use native.Mathlib.Omega.{arith}
use lib.Dec.{ltb}
use lib.ListN.{length}
use borrow.Author.Tests.{ne_eqb, eqb-true, ltb-true, ltb-false}
use Rattle.std.specs.Prelude.{Option, None}
use Rattle.tokens.specs.Dates.{unless_0}
use Rattle.tokens.specs.Tokens.{code}
use Rattle.tokens.specs.declared.cursor.Cursor.{Cursor}
use Rattle.grammar.specs.Sizes.{record_width}
use Rattle.grammar.specs.Trees.{Tree, kind_of, size, sizes}
use Rattle.grammar.specs.Readers.{Out, ok, refused, Reader, bind, ◌>>=◌, again, follow, loop, is, give}
use Rattle.grammar.specs.Grammar.{binary, chain, grouped, onto, raise_turn, raised, power, signed}
use Rattle.grammar.proofs.Laws.{loop_eq}
use Rattle.grammar.proofs.GivesLaws.{Gives, gives_ok}
use Rattle.grammar.proofs.KindLaws.{Low}
use Rattle.grammar.proofs.GrammarLaws.{Moves, raise_turn_law}
use Rattle.grammar.proofs.SizeLaws.{Sized, moves_less, onto_size, held as held_size}
use Rattle.reading.specs.Rows.{rows, rows_of, put_all, put_rows, room}
use Rattle.reading.specs.Meets.{language_in, toks_at, Holds, Room, Ready, Follows, string_at, Quoted, Reads}
use Rattle.reading.specs.Joins.{Joins}
use Rattle.reading.specs.Powers.{held, Small, none, one, Fits, nothing, fit, past, Marks, Closes, sign_of, joined_by, Steps}
use Rattle.reading.specs.Signs.{power_sign}
use Rattle.reading.specs.declared.records.Joined.{Joined}
use Rattle.reading.specs.declared.powers.Stepped.{Stepped}
use Rattle.reading.proofs.HoldLaws.{peek_is, ask_yes, ask_no, read_next}
use Rattle.reading.proofs.RowLaws.{size_some, rows_of_size, put_all_length, put_all_append}
use Rattle.reading.proofs.ChainLaws.{reads_within, binary_plain, Level, Chain, chain_exit, by_sign, Pending, pend_as, pend_next, pend_ready, pend_refused, pend_numbers, pend_chain}
use Rattle.reading.proofs.RaiseLaws.{held_size_lem, begin, mark_law, fits_more, within}

-- ---- right to left: the operands that wait

-- a chain goes on, with the operands ls before the one that is to be read
abbrev resumed : Reader Tree → List (ℕ × Tree) → Reader Tree
resumed p ls = chain p λ b l. loop (raise_turn p) (b, l, ls)

-- k operands wait in the records from n on, of which those that fit end at e; the next one is to be read at c
pub record Waits (p : Reader Tree) (t : List ℕ) (R : Out Tree) (n : ℕ) (o : List ℕ) (k e : ℕ) (c : Cursor) (m : ℕ) (o' : List ℕ) : Type 0 where
  pub ls : List (ℕ × Tree)
  pub is : R ≡ resumed p ls (toks_at t c.start)
  pub small : Small ls
  pub many : k ≡ length ls
  pub counts : m ≡ n + sizes (held ls)
  pub writes : o' ≡ put_rows o n (rows_of (held ls))
  pub fits : Fits o n ls e
  pub room : Room t c (m + k)
  pub holds : Holds t c

-- the records of a chain: those of the operands, and one more for each but the last
held_all : (ls : List (ℕ × Tree)) → held_size ls ≡ sizes (held ls) + length ls
unfolding size
held_all [] = refl
held_all (l ∷ ls) = omega (arith, held_all ls, held_size_lem l ls)

fits_below : {o : List ℕ} {n e : ℕ} {ls : List (ℕ × Tree)} → Fits o n ls e → e ≤ n + sizes (held ls)
unfolding size
fits_below nothing = omega arith
fits_below (fit d h) = omega (arith, d)
fits_below (past {l} {ls} h F) = omega (arith, fits_below F, held_size_lem l ls)

-- a chain of two operands and more is no String node
onto_plain : (t : List ℕ) (r : Tree) (l : ℕ × Tree) (ls : List (ℕ × Tree)) → (None ≡ unless_0 (string_at (onto r (l ∷ ls)))) × Quoted t (onto r (l ∷ ls))
onto_plain t r l [] = binary_plain t 12 l.0 l.1 r (λ e. omega (arith, e))
onto_plain t r l (l' ∷ ls) = onto_plain t (binary 12 l.0 l.1 r) l' ls

module _ {p : Reader Tree} (moves : Moves p) (short : Sized p) (low : Gives Low p) (t : List ℕ) where
  pub wait_first : (c : Cursor) (n : ℕ) (o : List ℕ) → Ready t c n → Waits p t (raised p (toks_at t c.start)) n o 0 n c n o
  unfolding raised size rows put_all
  wait_first c n o h =
      record {
        ls = [];
        is = refl;
        small = none;
        many = refl;
        counts = omega arith;
        writes = refl;
        fits = nothing;
        room = omega (arith, h.1);
        holds = h.0;
      }

  module _ (R : Out Tree) (n : ℕ) (o : List ℕ) (k e : ℕ) (c : Cursor) (m : ℕ) (o' : List ℕ) (w : Waits p t R n o k e c m o') where
    pub wait_ready : Ready t c m
    wait_ready = (w.holds, omega (arith, w.room))

    pub wait_refused : (f b : ℕ) → p (toks_at t c.start) ≡ refused f b → R ≡ refused f b
    unfolding ◌>>=◌
    wait_refused f b x = w.is ∙ (peek_is w.holds _ ∙ (rw x))

    module _ (c₂ : Cursor) (m₂ : ℕ) (q₂ : Option ℕ) (o₂ : List ℕ) (r : Reads t (p (toks_at t c.start)) m o' c₂ m₂ q₂ o₂) where
      less : m₂ + 3 * length (toks_at t c₂.start) ≤ m + 3 * length (toks_at t c.start)
      less = reads_within t p short c m o' c₂ m₂ q₂ o₂ r wait_ready.1

      pub wait_numbers : (1 ≤ m₂) × (e ≤ m₂) × (m₂ + k ≤ 50000)
      wait_numbers = omega (arith, less, w.room, r.counts, size_some r.tree, w.counts, fits_below w.fits)

      -- the operand stands behind those that wait
      behind : o₂ ≡ put_rows o n (rows_of (held w.ls) ++ rows r.tree)
      behind =
          let at : m ≡ n + length (rows_of (held w.ls)) = omega (arith, w.counts, rows_of_size (held w.ls)) in
          r.writes ∙ (λ i. put_rows (w.writes i) (at i) (rows r.tree)) ∙ sym (put_all_append record_width o n (rows_of (held w.ls)) (rows r.tree))

      ends : m₂ ≡ n + sizes (held w.ls) + size r.tree
      ends = omega (arith, r.counts, w.counts)

      on : R ≡ loop (raise_turn p) (c.start, r.tree, w.ls) (toks_at t c₂.start)
      unfolding ◌>>=◌
      on = w.is ∙ (peek_is w.holds _ ∙ (rw r.is))

      turn : R ≡ follow (loop (raise_turn p)) (raise_turn p (c.start, r.tree, w.ls) (toks_at t c₂.start))
      turn = on ∙ loop_eq (raise_turn_law p moves) (c.start, r.tree, w.ls) (toks_at t c₂.start)

      -- no sign: all are joined, from the right
      module _ (z : power_sign c₂.code ≡ false) where
        last_is : R ≡ ok (onto r.tree w.ls) (toks_at t c₂.start)
        unfolding raise_turn give code
        last_is = turn ∙ (rw (ask_no r.holds (is "**") _ _ z))

        whole_size : m₂ + k ≡ n + size (onto r.tree w.ls)
        whole_size = omega (arith, onto_size r.tree w.ls, held_all w.ls, ends, w.many)

        pub wait_exit : (j : Joined) (o₃ : List ℕ) → Closes o₂ k n e m₂ q₂ j o₃ → Reads t R n o c₂ j.records j.string o₃
        unfolding rows
        wait_exit j o₃ C = go w.ls w.many w.fits w.small last_is behind ends whole_size
          where
            go : (ls : List (ℕ × Tree)) → k ≡ length ls → Fits o n ls e → Small ls → R ≡ ok (onto r.tree ls) (toks_at t c₂.start)
                → o₂ ≡ put_rows o n (rows_of (held ls) ++ rows r.tree) → m₂ ≡ n + sizes (held ls) + size r.tree → m₂ + k ≡ n + size (onto r.tree ls)
                → Reads t R n o c₂ j.records j.string o₃
            go [] y F S x i d s =
                let f = C.0 y in
                record {
                  tree = r.tree;
                  is = x;
                  counts = omega (arith, f.0, s, y);
                  writes = f.2 ∙ i;
                  holds = r.holds;
                  string = f.1 ∙ r.string;
                  quoted = r.quoted;
                }
            go (l ∷ ls) y F S x i d s =
                let f = C.1 (λ v. omega (arith, v, y)) in
                let plain = onto_plain t r.tree l ls in
                record {
                  tree = onto r.tree (l ∷ ls);
                  is = x;
                  counts = omega (arith, f.0, s);
                  writes = f.2 (onto r.tree (l ∷ ls)) o (within F) (begin (l ∷ ls) r.tree F S m₂ o₂ i (inl d));
                  holds = r.holds;
                  string = f.1 ∙ plain.0;
                  quoted = plain.1;
                }

      -- a sign: the operand waits
      module _ (z : power_sign c₂.code ≡ true) (d : Cursor) (v : Follows t c₂ d) where
        some : c₂.code ≡ 0 → ⊥
        some x = true≢false (sym z ∙ ap power_sign x)

        abbrev next_ls : List (ℕ × Tree)
        next_ls = (c.start, r.tree) ∷ w.ls

        next_is : R ≡ resumed p next_ls (toks_at t d.start)
        unfolding raise_turn code give ◌>>=◌
        next_is =
            turn ∙ (rw (ask_yes r.holds (is "**") _ _ z) (ap (follow (loop (raise_turn p))) (read_next v some _ ∙ peek_is v.holds _))
            ∙ (go (p (toks_at t d.start)) ∙ sym (peek_is v.holds _)))
          where
            go : (x : Out Tree) → follow (loop (raise_turn p)) (bind (λ l. give (again (d.start, l, next_ls))) x) ≡ bind (λ l. loop (raise_turn p) (d.start, l, next_ls)) x
            go (ok l s) = refl
            go (refused f b) = refl

        small_root : kind_of r.tree < 64
        small_root = gives_ok low r.is

        pub wait_next : (e₂ : ℕ) (o₃ : List ℕ) → Marks o₂ e m₂ c.start e₂ o₃ → Waits p t R n o (k + 1) e₂ d m₂ o₃
        wait_next e₂ o₃ M = go (ltb (m₂ - 1) (room o₂)) refl
          where
            room_same : room o₂ ≡ room o
            room_same = ap room behind ∙ ap (λ (x : ℕ). x / record_width) (put_all_length record_width o n (rows_of (held w.ls) ++ rows r.tree))

            made : Fits o n next_ls e₂ → o₃ ≡ put_rows o n (rows_of (held next_ls)) → Waits p t R n o (k + 1) e₂ d m₂ o₃
            made F x =
                record {
                  ls = next_ls;
                  is = next_is;
                  small = one small_root w.small;
                  many = omega (arith, w.many);
                  counts = omega (arith, ends, held_size_lem (c.start, r.tree) w.ls);
                  writes = x;
                  fits = F;
                  room = omega (arith, less, w.room, v.fewer some);
                  holds = v.holds;
                }

            go : (b : Bool) → ltb (m₂ - 1) (room o₂) ≡ b → Waits p t R n o (k + 1) e₂ d m₂ o₃
            go true x =
                let h : m₂ ≤ room o = omega (arith, ltb-true (m₂ - 1) (room o₂) x, room_same, wait_numbers.0) in
                made (subst (λ (y : ℕ). Fits o n next_ls y) (sym (M.0 x).0) ((fits_more c.start r.tree w.fits m₂ ends).0 h)) ((M.0 x).1 ∙ (mark_law o n c.start r.tree w.ls small_root m₂ o₂ behind ends).0 h)
            go false x =
                let h : room o < m₂ = omega (arith, ltb-false (m₂ - 1) (room o₂) x, room_same, wait_numbers.0) in
                made (subst (λ (y : ℕ). Fits o n next_ls y) (sym (M.1 x).0) ((fits_more c.start r.tree w.fits m₂ ends).1 h)) ((M.1 x).1 ∙ (mark_law o n c.start r.tree w.ls small_root m₂ o₂ behind ends).1 h)

-- ---- in either edition

pub by_edition : {A : Type 0} (second : Bool) → (second ≡ false → A) → (second ≡ true → A) → A
by_edition false f g = f refl
by_edition true f g = g refl

pub power_left : (second : Bool) (r x y : List ℕ) (p : Reader Tree) → second ≡ false → power (language_in second r x y) p ≡ grouped (is "**") p
unfolding power
power_left false r x y p e = refl
power_left true r x y p e = absurd (true≢false e)

pub power_right : (second : Bool) (r x y : List ℕ) (p : Reader Tree) → second ≡ true → power (language_in second r x y) p ≡ raised p
unfolding power
power_right true r x y p e = refl
power_right false r x y p e = absurd (true≢false (sym e))

-- what a sign takes in
pub signed_right : (second : Bool) (r x y : List ℕ) (p : Reader Tree) → second ≡ true → signed (language_in second r x y) p ≡ power (language_in second r x y) p
unfolding signed
signed_right true r x y p e = refl
signed_right false r x y p e = absurd (true≢false (sym e))

-- the sign before an operand that has others before it
sign_more : (k : ℕ) → 12 ≡ sign_of (k + 1)
sign_more k = rw (ne_eqb (k + 1) 0 (λ e. omega (arith, e)))

-- an operand is joined by one record at most
join_most : (o : List ℕ) (s n m : ℕ) (p : Option ℕ) (b : ℕ) (j : Joined) (o' : List ℕ) → Joins o s n m p b j o' → j.records ≤ m + 1
join_most o s n m p b j o' J = by_sign s (λ z. omega (arith, (J.0 z).0)) (λ z. omega (arith, (J.1 z).0))

-- an operand is to be read at c, behind k others: behind a sign of a chain that groups left, or behind those that wait
pub record Powers (second : Bool) (p : Reader Tree) (t : List ℕ) (y : ℕ) (R : Out Tree) (n : ℕ) (o : List ℕ) (k e : ℕ) (c : Cursor) (m : ℕ) (o' : List ℕ) : Type 0 where
  pub left : second ≡ false → Pending (is "**") power_sign p t y R n o (sign_of k) c m o'
  pub right : second ≡ true → Waits p t R n o k e c m o'
  pub room : Room t c (m + k)

module _ {p : Reader Tree} (L : Level (is "**") power_sign p) (low : Gives Low p) (t : List ℕ) where
  pub powers_first : (second : Bool) (r x y : List ℕ) (c : Cursor) (n : ℕ) (o : List ℕ) → Ready t c n
      → Powers second p t c.start (power (language_in second r x y) p (toks_at t c.start)) n o 0 n c n o
  powers_first second r x y c n o h =
      record {
        left = λ e. pend_as L t _ (power_left second r x y p e) c n o h;
        right = λ e. subst (λ (q : Reader Tree). Waits p t (q (toks_at t c.start)) n o 0 n c n o) (sym (power_right second r x y p e)) (wait_first L.moves L.short low t c n o h);
        room = omega (arith, h.1);
      }

  module _ (second : Bool) (y : ℕ) (R : Out Tree) (n : ℕ) (o : List ℕ) (k e : ℕ) (c : Cursor) (m : ℕ) (o' : List ℕ) (w : Powers second p t y R n o k e c m o') where
    pub powers_ready : Ready t c m
    powers_ready =
        by_edition second (λ x. pend_ready L t (w.left x)) (λ x. wait_ready L.moves L.short low t R n o k e c m o' (w.right x))

    pub powers_refused : (f b : ℕ) → p (toks_at t c.start) ≡ refused f b → R ≡ refused f b
    powers_refused f b z =
        by_edition second (λ x. pend_refused L t (w.left x) f b z) (λ x. wait_refused L.moves L.short low t R n o k e c m o' (w.right x) f b z)

    module _ (c₂ : Cursor) (m₂ : ℕ) (q₂ : Option ℕ) (o₂ : List ℕ) (r : Reads t (p (toks_at t c.start)) m o' c₂ m₂ q₂ o₂) where
      read_less : m₂ + 3 * length (toks_at t c₂.start) ≤ m + 3 * length (toks_at t c.start)
      read_less = reads_within t p L.short c m o' c₂ m₂ q₂ o₂ r powers_ready.1

      abbrev waiting : second ≡ true → Waits p t R n o k e c m o'
      waiting x = w.right x

      pub powers_numbers : (n ≤ m₂) × (1 ≤ m₂) × (m₂ + k ≤ 50000) × (second ≡ true → e ≤ m₂)
      powers_numbers = (
        by_edition second (λ x. (pend_numbers L t (w.left x) r).0) (λ x. omega (arith, r.counts, (waiting x).counts)),
        omega (arith, r.counts, size_some r.tree),
        omega (arith, read_less, w.room),
        λ x. (wait_numbers L.moves L.short low t R n o k e c m o' (waiting x) c₂ m₂ q₂ o₂ r).1,
      )

      module _ (more : Bool) (is-more : more ≡ power_sign c₂.code) (j : Stepped) (o₃ : List ℕ) (S : Steps second more o₂ k n e m₂ q₂ y c.start j o₃) where
        joined : second ≡ false → Chain (is "**") p t y R n o c₂ j.records j.string o₃
        joined x = pend_chain L t (w.left x) r (joined_by j) o₃ (S.0 x)

        -- no sign: the chain ends
        pub powers_exit : more ≡ false → Reads t R n o c₂ j.records j.string o₃
        powers_exit z =
            let none_on : power_sign c₂.code ≡ false = sym is-more ∙ z in
            by_edition second (λ x. chain_exit L t (joined x) none_on)
            (λ x. wait_exit L.moves L.short low t R n o k e c m o' (waiting x) c₂ m₂ q₂ o₂ r none_on (joined_by j) o₃ (S.2 x z))

        -- a sign: one operand more
        module _ (z : more ≡ true) (d : Cursor) (v : Follows t c₂ d) where
          goes_on : power_sign c₂.code ≡ true
          goes_on = sym is-more ∙ z

          a_sign : c₂.code ≡ 0 → ⊥
          a_sign x = true≢false (sym goes_on ∙ ap power_sign x)

          pub powers_less : length (toks_at t d.start) < length (toks_at t c.start)
          powers_less = omega (arith, moves_less L.moves (toks_at t c.start) r.tree (toks_at t c₂.start) r.is, v.fewer a_sign)

          next_left : second ≡ false → Pending (is "**") power_sign p t y R n o (sign_of (k + 1)) d j.records o₃
          next_left x =
              subst (λ (s : ℕ). Pending (is "**") power_sign p t y R n o s d j.records o₃) (sym (eqb-true 12 c₂.code goes_on) ∙ sign_more k)
              (pend_next L t (joined x) goes_on d v)

          next_right : second ≡ true → Waits p t R n o (k + 1) j.fits d j.records o₃
          next_right x =
              let s = S.1 x z in
              subst (λ (i : ℕ). Waits p t R n o (k + 1) j.fits d i o₃) (sym s.0)
              (wait_next L.moves L.short low t R n o k e c m o' (waiting x) c₂ m₂ q₂ o₂ r goes_on d v j.fits o₃ s.1)

          fewer : j.records ≤ m₂ + 1
          fewer = by_edition second (λ x. join_most o₂ (sign_of k) n m₂ q₂ y (joined_by j) o₃ (S.0 x)) (λ x. omega (arith, (S.1 x z).0))

          pub powers_next : Powers second p t y R n o (k + 1) j.fits d j.records o₃
          powers_next = record { left = next_left; right = next_right; room = omega (arith, fewer, read_less, w.room, v.fewer a_sign) }
