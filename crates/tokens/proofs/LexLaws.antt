-- What stands at a place of a text: the first token there, by the tests of the code.
use Rattle.std.specs.Prelude.{if◌then◌else◌}
use mathlib.Core.Path.{◌≡◌, refl, sym, ap, ◌∙◌}
use mathlib.Core.Bool.{Bool, true, false, ◌&&◌, ◌||◌, true≢false}
use mathlib.Core.List.{List, [], ◌∷◌}
use Prim.Native.Nat.{ℕ, suc, ◌+◌, ◌-◌, ◌≤◌, ◌<◌}
use Prim.Native.String.{String}
use native.Mathlib.Nat.{add-zero}
use native.Mathlib.Numerals.{add-one}
use native.Mathlib.Omega.{arith}
use lib.Dec.{eqb, ltb}
use borrow.Author.Tests.{eq-eqb, ne_eqb, eqb-true, eqb-false, lt-ltb, le-ltb}
use lib.ListN.{length, get_or, take, drop, length-drop}
use lib.Seq.{drop-cons, get_or-drop}
use Rattle.tokens.specs.Text.{bytes, begins, leading, letter, digit, name_byte, number_byte, blank, other}
use Rattle.tokens.specs.Numbers.{number_fault}
use Rattle.tokens.specs.Tokens.{piece, fault, word, numeral, quoted, sign, signs, entry, cut, code, lexeme}
use Rattle.tokens.specs.Lexing.{lexeme_at, comment, word_at, number_at, string_at, gap_width, mark_of}
use Rattle.tokens.specs.Keys.{key_of, keyword_by}
use Rattle.tokens.proofs.Joins.{body}
use Rattle.tokens.proofs.KeyLaws.{Bytes, bytes_drop, bytes_take, smalls, keyword_is}

-- ---- `lexeme` by its tests

eqb_swap : (a b : ℕ) → eqb a b ≡ eqb b a
eqb_swap a b = go (eqb a b) refl
  where
    go : (t : Bool) → eqb a b ≡ t → t ≡ eqb b a
    go true e = sym (eq-eqb b a (sym (eqb-true a b e)))
    go false e = sym (ne_eqb b a (λ p. eqb-false a b e (sym p)))

-- a comment is told by a byte and the next
slashes : (t u : Bool) → ◌≡◌ {A = Bool} (elim t [ true ↦ elim u [ true ↦ true | false ↦ false ] | false ↦ false ]) (t && u)
slashes true true = refl
slashes true false = refl
slashes false u = refl

slash : (t : Bool) → ◌≡◌ {A = Bool} (elim t [ true ↦ false | false ↦ false ]) (t && false)
slash true = refl
slash false = refl

comment_is : (b : ℕ) (bs : List ℕ) → (eqb b 35 || begins (bytes "//") (b ∷ bs)) ≡ comment b (get_or bs 0 0)
unfolding begins bytes
comment_is b [] = ap (λ (t : Bool). eqb b 35 || t) (slash (eqb 47 b) ∙ ap (λ (t : Bool). t && false) (eqb_swap 47 b))
comment_is b (c ∷ cs) =
    ap (λ (t : Bool). eqb b 35 || t) (slashes (eqb 47 b) (eqb 47 c) ∙ (λ i. eqb_swap 47 b i && eqb_swap 47 c i))

lexeme_body : (b : ℕ) (bs : List ℕ) → lexeme b bs ≡ body (blank b) (eqb b 10) (comment b (get_or bs 0 0)) (letter b) (digit b) (eqb b 34) b bs
unfolding lexeme body
lexeme_body b bs = rw (← comment_is b bs)

-- no token is a gap
numeral_solid : (w : List ℕ) (n : ℕ) → gap_width (numeral w n) ≡ 0
unfolding numeral
numeral_solid w n = go (eqb (number_fault w) 0)
  where
    go : (t : Bool) → gap_width (if t then piece 2 n else fault (number_fault w)) ≡ 0
    go true = refl
    go false = refl

quoted_solid : (bs : List ℕ) (n : ℕ) → gap_width (quoted bs n) ≡ 0
unfolding quoted
quoted_solid bs n = go (ltb n (length bs))
  where
    go : (t : Bool) → gap_width (if t then piece 5 (suc (suc n)) else fault 4) ≡ 0
    go true = refl
    go false = refl

sign_solid : (bs : List ℕ) → gap_width (sign bs) ≡ 0
unfolding sign
sign_solid bs = go (eqb E.1 99)
  where
    E : String × ℕ
    E = entry (λ s. begins (bytes s) bs) signs

    go : (t : Bool) → gap_width (if t then fault 3 else piece E.1 (length (bytes E.0))) ≡ 0
    go true = refl
    go false = refl

solid : (t₂ t₄ t₅ t₆ : Bool) (b : ℕ) (bs : List ℕ) → gap_width (body false t₂ false t₄ t₅ t₆ b bs) ≡ 0
unfolding body word
solid true t₄ t₅ t₆ b bs = refl
solid false true t₅ t₆ b bs = refl
solid false false true t₆ b bs = numeral_solid (take (suc (leading number_byte bs)) (b ∷ bs)) (suc (leading number_byte bs))
solid false false false true b bs = quoted_solid bs (leading (other 34) bs)
solid false false false false b bs = sign_solid (b ∷ bs)

-- a byte that passes a test is none that does not
apart : (f : ℕ → Bool) (b n : ℕ) → f n ≡ false → f b ≡ true → eqb b n ≡ false
apart f b n h e = ne_eqb b n (λ p. true≢false (sym e ∙ (ap f p ∙ h)))

not_line : (b c : ℕ) → comment b c ≡ true → eqb b 10 ≡ false
not_line b c e = apart (λ (x : ℕ). comment x c) b 10 refl e

-- ---- gaps

module _ (b : ℕ) (bs : List ℕ) where
  gap_blank : blank b ≡ true → gap_width (lexeme b bs) ≡ 1
  unfolding body
  gap_blank e = rw (lexeme_body b bs, e)

  gap_comment : blank b ≡ false → comment b (get_or bs 0 0) ≡ true → gap_width (lexeme b bs) ≡ suc (leading (other 10) bs)
  unfolding body
  gap_comment e f = rw (lexeme_body b bs, e, f, not_line b (get_or bs 0 0) f)

  gap_none : blank b ≡ false → comment b (get_or bs 0 0) ≡ false → gap_width (lexeme b bs) ≡ 0
  gap_none e f = rw (lexeme_body b bs, e, f) (solid (eqb b 10) (letter b) (digit b) (eqb b 34) b bs)

  -- where there is no gap
  token_body : gap_width (lexeme b bs) ≡ 0 → lexeme b bs ≡ body false (eqb b 10) false (letter b) (digit b) (eqb b 34) b bs
  unfolding body
  token_body h = lexeme_body b bs ∙ go (blank b) (eqb b 10) (comment b (get_or bs 0 0)) (sym (ap gap_width (lexeme_body b bs)) ∙ h)
    where
      go : (t₁ t₂ t₃ : Bool) → gap_width (body t₁ t₂ t₃ (letter b) (digit b) (eqb b 34) b bs) ≡ 0
          → body t₁ t₂ t₃ (letter b) (digit b) (eqb b 34) b bs ≡ body false t₂ false (letter b) (digit b) (eqb b 34) b bs
      go true t₂ t₃ e = absurd (omega arith)
      go false true t₃ e = refl
      go false false true e = absurd (omega arith)
      go false false false e = refl

  token_word : gap_width (lexeme b bs) ≡ 0 → letter b ≡ true → lexeme b bs ≡ cut word (b ∷ bs) (suc (leading name_byte bs))
  unfolding body
  token_word h e = token_body h ∙ (rw (e, apart letter b 10 refl e))

  token_number : gap_width (lexeme b bs) ≡ 0 → letter b ≡ false → digit b ≡ true → lexeme b bs ≡ cut numeral (b ∷ bs) (suc (leading number_byte bs))
  unfolding body
  token_number h e f = token_body h ∙ (rw (e, f, apart digit b 10 refl f))

  token_string : gap_width (lexeme b bs) ≡ 0 → letter b ≡ false → digit b ≡ false → b ≡ 34 → lexeme b bs ≡ quoted bs (leading (other 34) bs)
  unfolding body
  token_string h e f g = token_body h ∙ (rw (e, f, eq-eqb b 34 g, apart (λ (x : ℕ). eqb x 34) b 10 refl (eq-eqb b 34 g)))

  token_line : gap_width (lexeme b bs) ≡ 0 → b ≡ 10 → lexeme b bs ≡ piece 55 1
  unfolding body code entry
  token_line h g = token_body h ∙ (rw (eq-eqb b 10 g))

  token_sign : gap_width (lexeme b bs) ≡ 0 → letter b ≡ false → digit b ≡ false → (b ≡ 34 → ⊥) → (b ≡ 10 → ⊥) → lexeme b bs ≡ sign (b ∷ bs)
  unfolding body
  token_sign h e f g k = token_body h ∙ (rw (e, f, ne_eqb b 34 g, ne_eqb b 10 k))

-- ---- the same at a place of a text

module _ (s : List ℕ) (at : ℕ) where
  next_byte : get_or (drop (at + 1) s) 0 0 ≡ get_or s (at + 1) 0
  next_byte = rw (get_or-drop (at + 1) s 0 0, add-zero)

  pub gap_at_blank : blank (get_or s at 0) ≡ true → at + 1 ≡ at + gap_width (lexeme_at s at)
  gap_at_blank e = omega (arith, gap_blank (get_or s at 0) (drop (at + 1) s) e)

  pub gap_at_comment : blank (get_or s at 0) ≡ false → comment (get_or s at 0) (get_or s (at + 1) 0) ≡ true
      → at + 1 + leading (other 10) (drop (at + 1) s) ≡ at + gap_width (lexeme_at s at)
  gap_at_comment e f = omega (arith, gap_comment (get_or s at 0) (drop (at + 1) s) e (rw next_byte f))

  pub gap_at_none : blank (get_or s at 0) ≡ false → comment (get_or s at 0) (get_or s (at + 1) 0) ≡ false → at ≡ at + gap_width (lexeme_at s at)
  gap_at_none e f = omega (arith, gap_none (get_or s at 0) (drop (at + 1) s) e (rw next_byte f))

  pub front : at < length s → drop at s ≡ get_or s at 0 ∷ drop (at + 1) s
  front h = rw add-one (drop-cons s at 0 h)

  module _ (inside : at < length s) (whole : gap_width (lexeme_at s at) ≡ 0) where
    pub word_here : letter (get_or s at 0) ≡ true → mark_of at (word_at s at) ≡ mark_of at (lexeme_at s at)
    word_here e = rw (front inside) (ap (mark_of at) (sym (token_word (get_or s at 0) (drop (at + 1) s) whole e)))

    pub number_here : letter (get_or s at 0) ≡ false → digit (get_or s at 0) ≡ true → mark_of at (number_at s at) ≡ mark_of at (lexeme_at s at)
    number_here e f = rw (front inside) (ap (mark_of at) (sym (token_number (get_or s at 0) (drop (at + 1) s) whole e f)))

    pub string_here : letter (get_or s at 0) ≡ false → digit (get_or s at 0) ≡ false → get_or s at 0 ≡ 34 → mark_of at (string_at s at) ≡ mark_of at (lexeme_at s at)
    string_here e f g = ap (mark_of at) (sym (token_string (get_or s at 0) (drop (at + 1) s) whole e f g))

    pub line_here : get_or s at 0 ≡ 10 → mark_of at (piece 55 1) ≡ mark_of at (lexeme_at s at)
    line_here g = ap (mark_of at) (sym (token_line (get_or s at 0) (drop (at + 1) s) whole g))

    pub sign_here : letter (get_or s at 0) ≡ false → digit (get_or s at 0) ≡ false → (get_or s at 0 ≡ 34 → ⊥) → (get_or s at 0 ≡ 10 → ⊥)
        → mark_of at (sign (drop at s)) ≡ mark_of at (lexeme_at s at)
    sign_here e f g k = rw (front inside) (ap (mark_of at) (sym (token_sign (get_or s at 0) (drop (at + 1) s) whole e f g k)))

-- ---- the bytes of a token

module _ (s : List ℕ) (at : ℕ) where
  -- the first quote behind `at` stands at q
  module _ (q : ℕ) (is : q ≡ at + 1 + leading (other 34) (drop (at + 1) s)) where
    pub string_closed : q < length s → record { start = at; end = q + 1; code = 5 } ≡ mark_of at (string_at s at)
    unfolding quoted
    string_closed h =
        let n = leading (other 34) (drop (at + 1) s) in
        let e : q + 1 ≡ at + suc (suc n) = omega arith in
        let l : n < length (drop (at + 1) s) = simp length-drop (omega arith) in
        rw (lt-ltb n (length (drop (at + 1) s)) l, e)

    pub string_open : length s ≤ q → record { start = at; end = at; code = 104 } ≡ mark_of at (string_at s at)
    unfolding quoted
    string_open h =
        let n = leading (other 34) (drop (at + 1) s) in
        let l : length (drop (at + 1) s) ≤ n = simp length-drop (omega arith) in
        rw (le-ltb n (length (drop (at + 1) s)) l)

  module _ (inside : at < length s) where
    -- the part of the text up to e is the first n bytes
    part_is : (n e : ℕ) → e ≡ at + 1 + n → take (e - at) (drop at s) ≡ take (suc n) (drop at s)
    part_is n e h = let q : e - at ≡ suc n = omega arith in rw q

    pub word_is : Bytes s → (e : ℕ) → e ≡ at + 1 + leading name_byte (drop (at + 1) s) → (k : ℕ) → k ≡ keyword_by (key_of (take (e - at) (drop at s)))
        → record { start = at; end = e; code = k } ≡ mark_of at (word_at s at)
    word_is h e p k q =
        let n = leading name_byte (drop (at + 1) s) in
        let w : k ≡ keyword_by (key_of (take (suc n) (drop at s))) = q ∙ ap (λ (x : List ℕ). keyword_by (key_of x)) (part_is n e p) in
        let r : e ≡ at + suc n = omega arith in
        rw (keyword_is (take (suc n) (drop at s)) (suc n) (smalls (take (suc n) (drop at s)) (bytes_take (suc n) (drop at s) (bytes_drop at s h))), w, r)

    module _ (e : ℕ) (p : e ≡ at + 1 + leading number_byte (drop (at + 1) s)) where
      pub number_faulty : (f : ℕ) → f ≡ number_fault (take (e - at) (drop at s)) → 1 ≤ f → record { start = at; end = at; code = 100 + f } ≡ mark_of at (number_at s at)
      unfolding numeral
      number_faulty f q h =
          let n = leading number_byte (drop (at + 1) s) in
          let w : number_fault (take (suc n) (drop at s)) ≡ f = sym (q ∙ ap number_fault (part_is n e p)) in
          rw (w, ne_eqb f 0 (λ z. omega (arith, z)))

      pub number_is : number_fault (take (e - at) (drop at s)) ≡ 0 → record { start = at; end = e; code = 2 } ≡ mark_of at (number_at s at)
      unfolding numeral
      number_is q =
          let n = leading number_byte (drop (at + 1) s) in
          let w : number_fault (take (suc n) (drop at s)) ≡ 0 = sym (ap number_fault (part_is n e p)) ∙ q in
          let r : e ≡ at + suc n = omega arith in
          rw (w, r)
