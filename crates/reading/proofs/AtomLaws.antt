-- The tokens that are primaries of their own: what the bytes of a number and of a string are, and what the readers make of them.
use Rattle.std.specs.Prelude.{Option, Some, None, is_some, if◌then◌else◌}
use mathlib.Core.Path.{◌≡◌, refl, sym, ap, ◌∙◌, subst}
use mathlib.Core.Bool.{Bool, true, false, ◌||◌, not, true≢false}
use mathlib.Core.List.{List, [], ◌∷◌}
use Prim.Native.Nat.{ℕ, zero, suc, ◌+◌, ◌-◌, ◌≤◌, ◌<◌}
use Prim.Native.String.{String}
use native.Mathlib.Numerals.{add-one}
use native.Mathlib.Omega.{arith}
use lib.Dec.{eqb, ltb}
use lib.ListN.{length, take, drop, get_or, length-append, length-take, length-drop}
use lib.Seq.{take-take}
use borrow.Author.Tests.{ltb-true, eqb-true, ne_eqb, eq-eqb, le-leb}
use Rattle.tokens.specs.Text.{bytes, same, begins, every, leading, letter, digit, name_byte, number_byte, blank, other}
use Rattle.tokens.specs.Numbers.{number_fault, value, value_of, signed, bits_of}
use Rattle.tokens.specs.Names.{place, index_of}
use Rattle.tokens.specs.Dates.{unless_0}
use Rattle.tokens.specs.Tokens.{Token, Lexeme, gap, piece, fault, word, numeral, quoted, sign, signs, keywords, entry, code, lexeme, final}
use Rattle.tokens.specs.declared.cursor.Cursor.{Cursor}
use Rattle.tokens.specs.declared.numbers.Bits.{Bits}
use Rattle.tokens.proofs.Joins.{body}
use Rattle.tokens.proofs.Shapes.{entry_every}
use Rattle.tokens.proofs.LexLaws.{front}
use Rattle.tokens.proofs.ScanLaws.{Stands, over, token, faulty, stands}
use Rattle.grammar.specs.Trees.{Tree, node, nil, Fields, fields, none, row}
use Rattle.grammar.specs.Readers.{Out, ok, refused, Reader, ◌>>◌, is, give, fail, fail_at, the}
use Rattle.grammar.specs.Grammar.{Language, leaf, content, string, constant, named}
use Rattle.reading.specs.Atoms.{atom, literal}
use Rattle.reading.specs.Rows.{put_row}
use Rattle.reading.specs.Meets.{toks_at, token_at, Holds, Follows, Quoted, Reads}
use Rattle.reading.proofs.HoldLaws.{mark_in, mark_is, toks_are, start_in, end_in, peek_is, fail_is, the_next}
use Rattle.reading.proofs.RowLaws.{after_leaf, size_leaf}

-- ---- a date and a place, as the code has them

-- a place of 0 is none
pub unless_none : (n : ℕ) → unless_0 n ≡ None → n ≡ 0
unless_none zero e = refl
unless_none (suc n) e = absurd (cc)

pub unless_some : (n x : ℕ) → unless_0 n ≡ Some x → (n ≡ x) × (n ≡ 0 → ⊥)
unless_some zero x e = absurd (cc)
unless_some (suc n) x e = (cc, λ z. omega (arith, z))

pub date_none : (n : ℕ) → is_some (unless_0 n) ≡ false → n ≡ 0
date_none zero e = refl
date_none (suc n) e = absurd (true≢false e)

pub date_some : (n : ℕ) → is_some (unless_0 n) ≡ true → n ≡ 0 → ⊥
date_some zero e z = true≢false (sym e)
date_some (suc n) e z = omega (arith, z)

pub place_none : (n : ℕ) → is_some (index_of n) ≡ false → n ≡ 0
place_none zero e = refl
place_none (suc n) e = absurd (true≢false e)

pub place_some : (n : ℕ) → is_some (index_of n) ≡ true → n ≡ 0 → ⊥
place_some zero e z = true≢false (sym e)
place_some (suc n) e z = omega (arith, z)

-- ---- what the bytes of a number and of a string are

-- a number has no fault; a string ends at the first quote behind its own
abbrev Meant : ℕ → List ℕ → Lexeme → Type 0
Meant b bs (gap n) = Unit {0}
Meant b bs (piece κ n) = (κ ≡ 2 → number_fault (take n (b ∷ bs)) ≡ 0) × (κ ≡ 5 → (n ≡ suc (suc (leading (other 34) bs))) × (leading (other 34) bs < length bs))
Meant b bs (fault f) = Unit {0}

abbrev neither : String × ℕ → Bool
neither e = not (eqb e.1 2 || eqb e.1 5)

-- a kind that is neither says nothing
meant_other : (b : ℕ) (bs : List ℕ) (κ n : ℕ) → not (eqb κ 2 || eqb κ 5) ≡ true → Meant b bs (piece κ n)
meant_other b bs κ n h =
    (λ e. absurd (true≢false (sym h ∙ rw e)), λ e. absurd (true≢false (sym h ∙ rw e)))

word_meant : (b : ℕ) (bs w : List ℕ) (n : ℕ) → Meant b bs (word w n)
unfolding word every
word_meant b bs w n = go (eqb E.1 99) refl
  where
    E : String × ℕ
    E = entry (λ s. same (bytes s) w) keywords

    go : (t : Bool) → eqb E.1 99 ≡ t → Meant b bs (piece (if t then 1 else E.1) n)
    go true e = meant_other b bs 1 n refl
    go false e = meant_other b bs E.1 n (entry_every neither (λ s. same (bytes s) w) keywords tt e)

sign_meant : (b : ℕ) (bs : List ℕ) → Meant b bs (sign (b ∷ bs))
unfolding sign every
sign_meant b bs = go (eqb E.1 99) refl
  where
    E : String × ℕ
    E = entry (λ s. begins (bytes s) (b ∷ bs)) signs

    go : (t : Bool) → eqb E.1 99 ≡ t → Meant b bs (if t then fault 3 else piece E.1 (length (bytes E.0)))
    go true e = tt
    go false e = meant_other b bs E.1 (length (bytes E.0)) (entry_every neither (λ s. begins (bytes s) (b ∷ bs)) signs tt e)

numeral_meant : (b : ℕ) (bs : List ℕ) (n : ℕ) → Meant b bs (numeral (take n (b ∷ bs)) n)
unfolding numeral
numeral_meant b bs n = go (eqb (number_fault (take n (b ∷ bs))) 0) refl
  where
    go : (t : Bool) → eqb (number_fault (take n (b ∷ bs))) 0 ≡ t → Meant b bs (if t then piece 2 n else fault (number_fault (take n (b ∷ bs))))
    go true e = (λ z. eqb-true (number_fault (take n (b ∷ bs))) 0 e, λ z. absurd (omega arith))
    go false e = tt

quoted_meant : (b : ℕ) (bs : List ℕ) → Meant b bs (quoted bs (leading (other 34) bs))
unfolding quoted
quoted_meant b bs = go (ltb (leading (other 34) bs) (length bs)) refl
  where
    go : (t : Bool) → ltb (leading (other 34) bs) (length bs) ≡ t → Meant b bs (if t then piece 5 (suc (suc (leading (other 34) bs))) else fault 4)
    go true e = (λ z. absurd (omega arith), λ z. (refl, ltb-true (leading (other 34) bs) (length bs) e))
    go false e = tt

meant : (b : ℕ) (bs : List ℕ) → Meant b bs (lexeme b bs)
unfolding lexeme body code entry
meant b bs = go (blank b) (eqb b 10) (eqb b 35 || begins (bytes "//") (b ∷ bs)) (letter b) (digit b) (eqb b 34)
  where
    go : (t₁ t₂ t₃ t₄ t₅ t₆ : Bool) → Meant b bs (body t₁ t₂ t₃ t₄ t₅ t₆ b bs)
    go true t₂ t₃ t₄ t₅ t₆ = tt
    go false true t₃ t₄ t₅ t₆ = meant_other b bs 55 1 refl
    go false false true t₄ t₅ t₆ = tt
    go false false false true t₅ t₆ = word_meant b bs (take (suc (leading name_byte bs)) (b ∷ bs)) (suc (leading name_byte bs))
    go false false false false true t₆ = numeral_meant b bs (suc (leading number_byte bs))
    go false false false false false true = quoted_meant b bs
    go false false false false false false = sign_meant b bs

module _ {t : List ℕ} {c : Cursor} (h : Holds t c) where
  stood : Stands t (mark_in c)
  stood = rw (mark_is h) at (stands t c.start)

  -- a number's bytes are a literal that is taken
  pub number_good : c.code ≡ 2 → number_fault (token_at t c).text ≡ 0
  number_good k = go stood
    where
      go : Stands t (mark_in c) → number_fault (token_at t c).text ≡ 0
      go (over l q) = absurd (omega (arith, k, ap (λ m. m.code) q))
      go (token κ n l p q) =
          let e : c.end ≡ c.start + n = ap (λ m. m.end) q in
          let z : c.end - c.start ≡ n = omega arith in
          let m : number_fault (take n (get_or t c.start 0 ∷ drop (c.start + 1) t)) ≡ 0
          = (subst (Meant _ _) p (meant (get_or t c.start 0) (drop (c.start + 1) t))).0 (sym (ap (λ m. m.code) q) ∙ k) in
          rw (z, front t c.start l) m
      go (faulty f l p q) = absurd (omega (arith, k, ap (λ m. m.code) q))

  pub number_value : c.code ≡ 2 → value_of (token_at t c).text ≡ value (token_at t c).text
  unfolding value_of
  number_value k = rw (number_good k)

  -- a string ends at the first quote behind its own
  pub string_end : c.code ≡ 5 → c.end ≡ c.start + 2 + leading (other 34) (drop (c.start + 1) t)
  string_end k = go stood
    where
      go : Stands t (mark_in c) → c.end ≡ c.start + 2 + leading (other 34) (drop (c.start + 1) t)
      go (over l q) = absurd (omega (arith, k, ap (λ m. m.code) q))
      go (token κ n l p q) =
          let e : c.end ≡ c.start + n = ap (λ m. m.end) q in
          let m = (subst (Meant _ _) p (meant (get_or t c.start 0) (drop (c.start + 1) t))).1 (sym (ap (λ m. m.code) q) ∙ k) in
          omega (arith, m.0)
      go (faulty f l p q) = absurd (omega (arith, k, ap (λ m. m.code) q))

  pub string_wide : c.code ≡ 5 → c.start + 2 ≤ c.end
  string_wide k = omega (arith, string_end k)

  text_length : length (token_at t c).text ≡ c.end - c.start
  text_length = omega (arith, length-take (c.end - c.start) (drop c.start t), length-drop c.start t, start_in h, end_in h)

  -- its content stands between the quotes
  pub content_is : c.code ≡ 5 → content (token_at t c) ≡ take (c.end - 1 - (c.start + 1)) (drop (c.start + 1) t)
  content_is k =
      let w = string_wide k in
      let p : c.end - c.start ≡ suc (c.end - c.start - 1) = omega arith in
      let q : length (token_at t c).text - 2 ≡ c.end - 1 - (c.start + 1) = omega (arith, text_length) in
      let d : drop 1 (take (c.end - c.start) (drop c.start t)) ≡ take (c.end - c.start - 1) (drop (c.start + 1) t)
      = ap (λ n. drop 1 (take n (drop c.start t))) p
      ∙ ap (λ l. drop 1 (take (suc (c.end - c.start - 1)) l)) (front t c.start (omega (arith, end_in h))) in
      ap (λ n. take n (drop 1 (take (c.end - c.start) (drop c.start t)))) q
      ∙ (ap (take (c.end - 1 - (c.start + 1))) d ∙ take-take (c.end - 1 - (c.start + 1)) (c.end - c.start - 1) (drop (c.start + 1) t) (omega arith))

  pub content_length : c.code ≡ 5 → length (content (token_at t c)) ≡ c.end - c.start - 2
  content_length k =
      ap length (content_is k)
      ∙ omega (arith, length-take (c.end - 1 - (c.start + 1)) (drop (c.start + 1) t), length-drop (c.start + 1) t, string_wide k, end_in h)

  string_quoted : c.code ≡ 5 → Quoted t (string (token_at t c))
  string_quoted k z =
      let q : c.end - 1 - (c.start + 1) ≡ leading (other 34) (drop (c.start + 1) t) = omega (arith, string_end k) in
      let e : content (token_at t c) ≡ take (leading (other 34) (drop (c.start + 1) t)) (drop (c.start + 1) t)
      = content_is k ∙ ap (λ n. take n (drop (c.start + 1) t)) q in
      (omega arith, rw add-one at e, omega (arith, string_wide k, end_in h))

  -- the tokens left are some, End among them
  pub toks_some : 1 ≤ length (toks_at t c.start)
  toks_some = omega (arith, ap length (toks_are h), length-append h.left (final (length t) ∷ []))

-- ---- a leaf that is written

-- no String node
pub leaf_reads : {t : List ℕ} {R : Out Tree} {n : ℕ} {o o' : List ℕ} {e : Cursor} (k y : ℕ) (x : List ℕ) (f : Fields) → (k ≡ 5 → ⊥) → Holds t e
    → R ≡ ok (node k y x f nil) (toks_at t e.start) → o' ≡ put_row o n (row k 1 0 f y) → Reads t R n o e (n + 1) None o'
leaf_reads {n = n} {o = o} k y x (fields a b c d) z h r w = record {
  tree = node k y x (fields a b c d) nil;
  is = r;
  counts = omega (arith, size_leaf k y x (fields a b c d));
  writes = after_leaf o n k y x (fields a b c d) w;
  holds = h;
  string = rw (ne_eqb k 5 z);
  quoted = λ e. absurd (z e);
}

-- ---- the readers

module _ {t : List ℕ} {c d : Cursor} (h : Holds t c) (w : Follows t c d) where
  literal_is : (y : ℕ) (minus : Bool) → c.code ≡ 2
      → literal y minus (toks_at t c.start) ≡ ok (constant y (signed minus (value (token_at t c).text)) (token_at t c)) (toks_at t d.start)
  unfolding code entry give
  literal_is y minus k =
      peek_is h (λ u. the "number" >> give (constant y (signed minus (value u.text)) u))
      ∙ the_next h w (λ z. omega arith) "number" (sym k) (give (constant y (signed minus (value (token_at t c).text)) (token_at t c)))

  -- a number and its record
  pub constant_reads : (y : ℕ) (minus : Bool) → c.code ≡ 2 → (x : Bits) → x ≡ bits_of (signed minus (value_of (token_at t c).text)) → {n : ℕ} {o o' : List ℕ}
      → o' ≡ put_row o n (row 2 1 0 (fields x.high x.low c.start (c.end - c.start)) y)
      → Reads t (literal y minus (toks_at t c.start)) n o d (n + 1) None o'
  unfolding constant
  constant_reads y minus k x e q =
      let b : x ≡ bits_of (signed minus (value (token_at t c).text)) = e ∙ ap (λ v. bits_of (signed minus v)) (number_value h k) in
      leaf_reads 2 y [] (fields x.high x.low c.start (c.end - c.start)) (λ z. omega arith) w.holds
      (literal_is y minus k ∙ (rw (b, text_length h))) q

abbrev atom_by : Token → Reader Tree
atom_by t =
    if is "number" t then (the "number" >> give (constant t.from (value t.text) t))
    else if is "true" t then (the "true" >> give (leaf 3 t.from none))
    else if is "false" t then (the "false" >> give (leaf 4 t.from none))
    else if is "string" t then (the "string" >> give (string t))
    else fail 8

module _ {t : List ℕ} {c : Cursor} (h : Holds t c) where
  atom_peek : atom (toks_at t c.start) ≡ atom_by (token_at t c) (toks_at t c.start)
  unfolding atom
  atom_peek = peek_is h atom_by

  -- a number
  pub atom_number : c.code ≡ 2 → atom (toks_at t c.start) ≡ literal c.start false (toks_at t c.start)
  unfolding code entry
  atom_number k =
      atom_peek ∙ (rw (eq-eqb 2 c.code (sym k)) (sym (peek_is h (λ u. the "number" >> give (constant c.start (signed false (value u.text)) u)))))

  -- no atom
  pub atom_not : (c.code ≡ 2 → ⊥) → (c.code ≡ 5 → ⊥) → (c.code ≡ 3 → ⊥) → (c.code ≡ 4 → ⊥) → atom (toks_at t c.start) ≡ refused 8 c.start
  unfolding code entry
  atom_not n₂ n₅ n₃ n₄ =
      atom_peek
      ∙ (rw (
        ne_eqb 2 c.code (λ e. n₂ (sym e)),
        ne_eqb 3 c.code (λ e. n₃ (sym e)),
        ne_eqb 4 c.code (λ e. n₄ (sym e)),
        ne_eqb 5 c.code (λ e. n₅ (sym e)),
      ) (fail_is h 8))

module _ {t : List ℕ} {c d : Cursor} (h : Holds t c) (w : Follows t c d) where
  atom_string : c.code ≡ 5 → atom (toks_at t c.start) ≡ ok (string (token_at t c)) (toks_at t d.start)
  unfolding code entry give
  atom_string k =
      atom_peek h
      ∙ (rw (ne_eqb 2 c.code (λ e. omega arith), ne_eqb 3 c.code (λ e. omega arith), ne_eqb 4 c.code (λ e. omega arith), eq-eqb 5 c.code (sym k))
      (the_next h w (λ z. omega arith) "string" (sym k) (give (string (token_at t c)))))

  -- a string and its record
  pub string_reads : c.code ≡ 5 → {n : ℕ} {o o' : List ℕ} → o' ≡ put_row o n (row 5 1 0 (fields (c.start + 1) (c.end - c.start - 2) 0 0) c.start)
      → Reads t (atom (toks_at t c.start)) n o d (n + 1) (Some (c.start + 1)) o'
  string_reads k {n} {o} {o'} q = record {
    tree = string (token_at t c);
    is = atom_string k;
    counts = omega (arith, size_leaf 5 c.start (content (token_at t c)) (fields (suc c.start) (length (content (token_at t c))) 0 0));
    writes = after_leaf o n 5 c.start (content (token_at t c)) (fields (suc c.start) (length (content (token_at t c))) 0 0) (rw (content_length h k, ← add-one c.start) q);
    holds = w.holds;
    string = ap Some (add-one c.start);
    quoted = string_quoted h k;
  }

  -- a truth value and its record
  pub true_reads : c.code ≡ 3 → {n : ℕ} {o o' : List ℕ} → o' ≡ put_row o n (row 3 1 0 none c.start) → Reads t (atom (toks_at t c.start)) n o d (n + 1) None o'
  unfolding code entry give
  true_reads k q =
      leaf_reads 3 c.start [] none (λ z. omega arith) w.holds
      (atom_peek h
      ∙ (rw (ne_eqb 2 c.code (λ e. omega arith), eq-eqb 3 c.code (sym k)) (the_next h w (λ z. omega arith) "true" (sym k) (give (leaf 3 c.start none))))) q

  pub false_reads : c.code ≡ 4 → {n : ℕ} {o o' : List ℕ} → o' ≡ put_row o n (row 4 1 0 none c.start) → Reads t (atom (toks_at t c.start)) n o d (n + 1) None o'
  unfolding code entry give
  false_reads k q =
      leaf_reads 4 c.start [] none (λ z. omega arith) w.holds
      (atom_peek h
      ∙ (rw (ne_eqb 2 c.code (λ e. omega arith), ne_eqb 3 c.code (λ e. omega arith), eq-eqb 4 c.code (sym k))
      (the_next h w (λ z. omega arith) "false" (sym k) (give (leaf 4 c.start none))))) q

-- ---- names

module _ (W : Language) {t : List ℕ} {c : Cursor} (h : Holds t c) where
  pub named_not : {r : Option ℕ} → r ≡ index_of (place W.reserved (token_at t c).text) → is_some r ≡ true → (ts : List Token) → named W (token_at t c) ts ≡ refused 9 c.start
  unfolding named fail_at
  named_not e z ts = rw (le-leb 1 (place W.reserved (token_at t c).text) (omega (arith, place_some (place W.reserved (token_at t c).text) (rw e at z))))

  -- a variable and its record
  pub variable_reads : {d : Cursor} → Follows t c d → {r : Option ℕ} → r ≡ index_of (place W.reserved (token_at t c).text) → is_some r ≡ false → {n : ℕ} {o o' : List ℕ}
      → o' ≡ put_row o n (row 1 1 0 (fields c.start (c.end - c.start) 0 0) c.start) → Reads t (named W (token_at t c) (toks_at t d.start)) n o d (n + 1) None o'
  unfolding named give
  variable_reads w e z q =
      leaf_reads 1 c.start (token_at t c).text (fields c.start (c.end - c.start) 0 0) (λ e. omega arith) w.holds
      (rw (place_none (place W.reserved (token_at t c).text) (rw e at z), text_length h)) q
