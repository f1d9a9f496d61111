-- A text further on, and a text cut off at the end of a lexeme.
use Rattle.std.specs.Prelude.{if◌then◌else◌}
use mathlib.Core.Path.{◌≡◌, refl, sym, ap, ◌∙◌, subst}
use mathlib.Core.Bool.{Bool, true, false, ◌||◌, not, true≢false}
use mathlib.Core.List.{List, [], ◌∷◌, ◌++◌, map}
use Prim.Native.Nat.{ℕ, zero, suc, ◌+◌, ◌-◌, ◌≤◌}
use Prim.Native.String.{String}
use native.Mathlib.Omega.{arith}
use native.Mathlib.Nat.{suc-add}
use lib.Dec.{T, leb, ltb, eqb}
use lib.Seq.{take-append-le}
use borrow.Author.Tests.{lt-ltb, eqb-true, leb-true}
use lib.ListN.{length, take}
use Rattle.tokens.specs.Text.{bytes, begins, leading, letter, digit, name_byte, number_byte, blank, every}
use Rattle.tokens.specs.Numbers.{number_fault}
use Rattle.tokens.specs.Tokens.{Token, Lexeme, gap, piece, fault, word, numeral, quoted, sign, signs, entry, cut, lexeme, Lexed, lexed, refused, before, taken, scan}
use Rattle.tokens.proofs.Joins.{width, Joint, over, rest, here, joint_le, body, word_width, numeral_width, sign_stays}

-- ---- further on

abbrev pub forth : ℕ → Token → Token
forth d t = record { kind = t.kind; from = t.from + d; text = t.text }

abbrev pub further : ℕ → Lexed → Lexed
further d (lexed ts) = lexed (map (forth d) ts)
further d (refused n p) = refused n (p + d)

further_before : (d : ℕ) (t : Token) (l : Lexed) → further d (before t l) ≡ before (forth d t) (further d l)
further_before d t (lexed ts) = refl
further_before d t (refused n p) = refl

taken_further : (d i : ℕ) (bs : List ℕ) (go go' : ℕ → Lexed) → ((n : ℕ) → go n ≡ further d (go' n)) → (o : Lexeme) → taken (i + d) bs go o ≡ further d (taken i bs go' o)
taken_further d i bs go go' h (gap n) = h n
taken_further d i bs go go' h (piece k n) =
    ap (before (record { kind = k; from = i + d; text = take n bs })) (h n) ∙ sym (further_before d (record { kind = k; from = i; text = take n bs }) (go' n))
taken_further d i bs go go' h (fault f) = refl

-- a text d bytes further on has the same tokens d bytes further on
pub scan_further : (d k i : ℕ) (bs : List ℕ) → scan k (i + d) bs ≡ further d (scan k i bs)
unfolding scan
scan_further d k i [] = refl
scan_further d (suc k) i (b ∷ bs) = ap (λ (x : ℕ). scan k x bs) (sym (suc-add i d)) ∙ scan_further d k (suc i) bs
scan_further d zero i (b ∷ bs) =
    taken_further d i (b ∷ bs) (λ n. scan (n - 1) (suc (i + d)) bs) (λ n. scan (n - 1) (suc i) bs)
    (λ n. ap (λ (x : ℕ). scan (n - 1) x bs) (sym (suc-add i d)) ∙ scan_further d (n - 1) (suc i) bs) (lexeme b bs)

-- ---- no token is End

entry_some : (f : String → Bool) (es : List (String × ℕ)) → T (every (λ (e : String × ℕ). leb 1 e.1) es) → leb 1 (entry f es).1 ≡ true
unfolding entry every
entry_some f [] h = refl
entry_some f (e ∷ es) h = go (f e.0) (leb 1 e.1) refl h (entry_some f es)
  where
    go : (a b : Bool) → leb 1 e.1 ≡ b → T (elim b as (λ _. Bool) [ true ↦ every (λ (x : String × ℕ). leb 1 x.1) es | false ↦ false ])
        → (T (every (λ (x : String × ℕ). leb 1 x.1) es) → leb 1 (entry f es).1 ≡ true)
        → leb 1 (elim a as (λ _. String × ℕ) [ true ↦ e | false ↦ entry f es ]).1 ≡ true
    go true true q t ih = q
    go false true q t ih = ih t
    go true false q t ih = absurd t
    go false false q t ih = absurd t

-- ---- cut off at the end of a lexeme

leading_cut : (f : ℕ → Bool) (bs q : List ℕ) → leading f (bs ++ q) ≤ length bs → leading f bs ≡ leading f (bs ++ q)
unfolding leading
leading_cut f [] q h = omega arith
leading_cut f (b ∷ bs) q h = go (f b) h (leading_cut f bs q)
  where
    go : (t : Bool) → (elim t as (λ _. ℕ) [ true ↦ suc (leading f (bs ++ q)) | false ↦ 0 ]) ≤ suc (length bs)
        → (leading f (bs ++ q) ≤ length bs → leading f bs ≡ leading f (bs ++ q))
        → ◌≡◌ {A = ℕ} (elim t [ true ↦ suc (leading f bs) | false ↦ 0 ]) (elim t [ true ↦ suc (leading f (bs ++ q)) | false ↦ 0 ])
    go true l ih = ap suc (ih (omega arith))
    go false l ih = refl

cut_cut : (f : List ℕ → ℕ → Lexeme) (g : ℕ → Bool) (b : ℕ) (bs q : List ℕ) → leading g (bs ++ q) ≤ length bs
    → cut f (b ∷ bs) (suc (leading g bs)) ≡ cut f (b ∷ bs ++ q) (suc (leading g (bs ++ q)))
cut_cut f g b bs q h =
    ap (λ n. cut f (b ∷ bs) (suc n)) (leading_cut g bs q h)
    ∙ ap (λ w. f w (suc (leading g (bs ++ q)))) (sym (take-append-le (suc (leading g (bs ++ q))) (b ∷ bs) q (omega arith)))

quoted_cut : (bs q : List ℕ) → 1 ≤ width (quoted (bs ++ q) (leading (λ c. not (eqb c 34)) (bs ++ q)))
    → width (quoted (bs ++ q) (leading (λ c. not (eqb c 34)) (bs ++ q))) ≤ suc (length bs)
    → quoted bs (leading (λ c. not (eqb c 34)) bs) ≡ quoted (bs ++ q) (leading (λ c. not (eqb c 34)) (bs ++ q))
unfolding quoted
quoted_cut bs q h l = go (ltb n (length (bs ++ q))) h l
  where
    n : ℕ
    n = leading (λ c. not (eqb c 34)) (bs ++ q)

    go : (t : Bool) → 1 ≤ width (if t then piece 5 (suc (suc n)) else fault 4) → width (if t then piece 5 (suc (suc n)) else fault 4) ≤ suc (length bs)
        → quoted bs (leading (λ c. not (eqb c 34)) bs) ≡ (if t then piece 5 (suc (suc n)) else fault 4)
    go false a e = absurd (omega arith)
    go true a e =
        ap (quoted bs) (leading_cut (λ c. not (eqb c 34)) bs q (omega arith))
        ∙ ap (λ (t : Bool). if t then piece 5 (suc (suc n)) else fault 4) (lt-ltb n (length bs) (omega arith))

-- a sign of one byte
begins_more : (xs : List ℕ) (b : ℕ) (q : List ℕ) → begins xs (b ∷ []) ≡ true → begins xs (b ∷ q) ≡ true
unfolding begins
begins_more [] b q e = refl
begins_more (x ∷ []) b q e = e
begins_more (x ∷ y ∷ xs) b q e = absurd (go (eqb x b) e)
  where
    go : (t : Bool) → ◌≡◌ {A = Bool} (elim t [ true ↦ false | false ↦ false ]) true → ⊥
    go true h = true≢false (sym h)
    go false h = true≢false (sym h)

begins_one : (xs : List ℕ) (b : ℕ) (q : List ℕ) → length xs ≤ 1 → begins xs (b ∷ q) ≡ begins xs (b ∷ [])
unfolding begins
begins_one [] b q h = refl
begins_one (x ∷ []) b q h = refl
begins_one (x ∷ y ∷ xs) b q h = absurd (omega arith)

entry_one : (b : ℕ) (q : List ℕ) (es : List (String × ℕ)) → length (bytes (entry (λ s. begins (bytes s) (b ∷ q)) es).0) ≤ 1
    → entry (λ s. begins (bytes s) (b ∷ [])) es ≡ entry (λ s. begins (bytes s) (b ∷ q)) es
unfolding entry
entry_one b q [] h = refl
entry_one b q (e ∷ es) h = go (begins (bytes e.0) (b ∷ q)) refl (begins (bytes e.0) (b ∷ [])) refl h (entry_one b q es)
  where
    E : List ℕ → List (String × ℕ) → String × ℕ
    E l = entry (λ s. begins (bytes s) l)

    go : (t : Bool) → begins (bytes e.0) (b ∷ q) ≡ t → (u : Bool) → begins (bytes e.0) (b ∷ []) ≡ u
        → length (bytes (elim t as (λ _. String × ℕ) [ true ↦ e | false ↦ E (b ∷ q) es ]).0) ≤ 1
        → (length (bytes (E (b ∷ q) es).0) ≤ 1 → E (b ∷ []) es ≡ E (b ∷ q) es)
        → ◌≡◌ {A = String × ℕ} (elim u [ true ↦ e | false ↦ E (b ∷ []) es ]) (elim t [ true ↦ e | false ↦ E (b ∷ q) es ])
    go true a true c l ih = refl
    go true a false c l ih = absurd (true≢false (sym a ∙ begins_one (bytes e.0) b q l ∙ c))
    go false a true c l ih = absurd (true≢false (sym (begins_more (bytes e.0) b q c) ∙ a))
    go false a false c l ih = ih l

sign_cut : (b : ℕ) (q : List ℕ) → 1 ≤ width (sign (b ∷ q)) → width (sign (b ∷ q)) ≤ 1 → sign (b ∷ []) ≡ sign (b ∷ q)
unfolding sign
sign_cut b q h l = ap shown (entry_one b q signs (go (eqb (entry (λ s. begins (bytes s) (b ∷ q)) signs).1 99) h l))
  where
    shown : String × ℕ → Lexeme
    shown e = if eqb e.1 99 then fault 3 else piece e.1 (length (bytes e.0))

    go : (t : Bool) → 1 ≤ width (if t then fault 3 else piece (entry (λ s. begins (bytes s) (b ∷ q)) signs).1 (length (bytes (entry (λ s. begins (bytes s) (b ∷ q)) signs).0)))
        → width (if t then fault 3 else piece (entry (λ s. begins (bytes s) (b ∷ q)) signs).1 (length (bytes (entry (λ s. begins (bytes s) (b ∷ q)) signs).0))) ≤ 1
        → length (bytes (entry (λ s. begins (bytes s) (b ∷ q)) signs).0) ≤ 1
    go true a c = absurd (omega arith)
    go false a c = c

body_cut : (t₁ t₂ t₃ t₄ t₅ t₆ : Bool) (b : ℕ) (bs q : List ℕ) → 1 ≤ width (body t₁ t₂ t₃ t₄ t₅ t₆ b (bs ++ q)) → width (body t₁ t₂ t₃ t₄ t₅ t₆ b (bs ++ q)) ≤ suc (length bs)
    → body t₁ t₂ t₃ t₄ t₅ t₆ b bs ≡ body t₁ t₂ t₃ t₄ t₅ t₆ b (bs ++ q)
unfolding body
body_cut true t₂ t₃ t₄ t₅ t₆ b bs q l h = refl
body_cut false true t₃ t₄ t₅ t₆ b bs q l h = refl
body_cut false false true t₄ t₅ t₆ b bs q l h = ap (λ n. gap (suc n)) (leading_cut (λ c. not (eqb c 10)) bs q (omega arith))
body_cut false false false true t₅ t₆ b bs q l h = cut_cut word name_byte b bs q (omega (arith, rw word_width at h))
body_cut false false false false true t₆ b bs q l h =
    cut_cut numeral number_byte b bs q
    (omega (arith, numeral_width (take (suc (leading number_byte (bs ++ q))) (b ∷ bs ++ q)) (suc (leading number_byte (bs ++ q))) l))
body_cut false false false false false true b bs q l h = quoted_cut bs q l h
body_cut false false false false false false b [] q l h = sign_cut b q l h
body_cut false false false false false false b (c ∷ cs) q l h = sym (sign_stays b c cs q)

-- at the last byte before the cut: `/` may have had another `/` behind it
lexeme_last : (b : ℕ) (q : List ℕ) → begins (bytes "//") (b ∷ q) ≡ false → 1 ≤ width (lexeme b q) → width (lexeme b q) ≤ 1 → lexeme b [] ≡ lexeme b q
unfolding lexeme body begins bytes
lexeme_last b q g l h = ap (at []) (alone (eqb 47 b)) ∙ body_cut (blank b) (eqb b 10) (eqb b 35 || false) (letter b) (digit b) (eqb b 34) b [] q (subst (λ (x : Bool). 1 ≤ width (at q x)) g l) (subst (λ (x : Bool). width (at q x) ≤ 1) g h) ∙ ap (at q) (sym g)
  where
    at : List ℕ → Bool → Lexeme
    at r x = body (blank b) (eqb b 10) (eqb b 35 || x) (letter b) (digit b) (eqb b 34) b r

    alone : (t : Bool) → ◌≡◌ {A = Bool} (elim t [ true ↦ false | false ↦ false ]) false
    alone true = refl
    alone false = refl

slashes : (cs : List ℕ) → 2 ≤ width (lexeme 47 (47 ∷ cs))
unfolding lexeme begins bytes leading
slashes cs = omega arith

-- a text that is cut off behind a lexeme, or later, has it too
pub lexeme_cut : (b : ℕ) (bs q : List ℕ) → 1 ≤ width (lexeme b (bs ++ q)) → width (lexeme b (bs ++ q)) ≤ suc (length bs) → lexeme b bs ≡ lexeme b (bs ++ q)
unfolding lexeme body begins bytes
lexeme_cut b (c ∷ cs) q l h =
    body_cut (blank b) (eqb b 10) (eqb b 35 || begins (bytes "//") (b ∷ c ∷ cs)) (letter b) (digit b) (eqb b 34) b (c ∷ cs) q l h
lexeme_cut b [] [] l h = refl
lexeme_cut b [] (c ∷ cs) l h = go (eqb 47 b) refl (eqb 47 c) refl
  where
    go : (t : Bool) → eqb 47 b ≡ t → (u : Bool) → eqb 47 c ≡ u → lexeme b [] ≡ lexeme b (c ∷ cs)
    go true e true f =
        let p : 47 ≡ b = eqb-true 47 b e in
        let r : 47 ≡ c = eqb-true 47 c f in
        absurd (omega (arith, slashes cs, subst (λ (x : ℕ). width (lexeme x (47 ∷ cs)) ≤ 1) (sym p) (subst (λ (x : ℕ). width (lexeme b (x ∷ cs)) ≤ 1) (sym r) h)))
    go true e false f = lexeme_last b (c ∷ cs) (ap (λ (x : Bool). elim x as (λ _. Bool) [ true ↦ (elim (eqb 47 c) as (λ _. Bool) [ true ↦ true | false ↦ false ]) | false ↦ false ]) e ∙ ap (λ (x : Bool). elim x as (λ _. Bool) [ true ↦ true | false ↦ false ]) f) l h
    go false e u f = lexeme_last b (c ∷ cs) (ap (λ (x : Bool). elim x as (λ _. Bool) [ true ↦ (elim (eqb 47 c) as (λ _. Bool) [ true ↦ true | false ↦ false ]) | false ↦ false ]) e) l h

-- ---- a lexeme has a byte at least

abbrev pub Wide : Lexeme → Type 0
Wide (gap n) = 1 ≤ n
Wide (piece k n) = 1 ≤ n
Wide (fault f) = Unit {0}

numeral_wide : (w : List ℕ) (n : ℕ) → 1 ≤ n → Wide (numeral w n)
unfolding numeral
numeral_wide w n h = go (eqb (number_fault w) 0)
  where
    go : (t : Bool) → Wide (if t then piece 2 n else fault (number_fault w))
    go true = h
    go false = tt

word_wide : (w : List ℕ) (n : ℕ) → 1 ≤ n → Wide (word w n)
unfolding word
word_wide w n h = h

quoted_wide : (bs : List ℕ) (n : ℕ) → Wide (quoted bs n)
unfolding quoted
quoted_wide bs n = go (ltb n (length bs))
  where
    go : (t : Bool) → Wide (if t then piece 5 (suc (suc n)) else fault 4)
    go true = omega arith
    go false = tt

-- an entry that is found has a text
entry_text : (f : String → Bool) (es : List (String × ℕ)) → T (every (λ (e : String × ℕ). leb 1 (length (bytes e.0))) es)
    → eqb (entry f es).1 99 ≡ false → leb 1 (length (bytes (entry f es).0)) ≡ true
unfolding entry every
entry_text f [] h q = absurd (true≢false q)
entry_text f (e ∷ es) h q = go (f e.0) (leb 1 (length (bytes e.0))) refl h q (entry_text f es)
  where
    R : List (String × ℕ) → Bool
    R l = every (λ (x : String × ℕ). leb 1 (length (bytes x.0))) l

    go : (a b : Bool) → leb 1 (length (bytes e.0)) ≡ b → T (elim b as (λ _. Bool) [ true ↦ R es | false ↦ false ])
        → eqb (elim a as (λ _. String × ℕ) [ true ↦ e | false ↦ entry f es ]).1 99 ≡ false
        → (T (R es) → eqb (entry f es).1 99 ≡ false → leb 1 (length (bytes (entry f es).0)) ≡ true)
        → leb 1 (length (bytes (elim a as (λ _. String × ℕ) [ true ↦ e | false ↦ entry f es ]).0)) ≡ true
    go true true u t v ih = u
    go false true u t v ih = ih t v
    go true false u t v ih = absurd t
    go false false u t v ih = absurd t

sign_wide : (bs : List ℕ) → Wide (sign bs)
unfolding sign bytes every
sign_wide bs = go (eqb (entry (λ s. begins (bytes s) bs) signs).1 99) refl
  where
    E : String × ℕ
    E = entry (λ s. begins (bytes s) bs) signs

    go : (t : Bool) → eqb E.1 99 ≡ t → Wide (if t then fault 3 else piece E.1 (length (bytes E.0)))
    go true e = tt
    go false e = leb-true 1 (length (bytes E.0)) (entry_text (λ s. begins (bytes s) bs) signs tt e)

pub lexeme_wide : (b : ℕ) (bs : List ℕ) → Wide (lexeme b bs)
unfolding lexeme body
lexeme_wide b bs = go (blank b) (eqb b 10) (eqb b 35 || begins (bytes "//") (b ∷ bs)) (letter b) (digit b) (eqb b 34)
  where
    go : (t₁ t₂ t₃ t₄ t₅ t₆ : Bool) → Wide (body t₁ t₂ t₃ t₄ t₅ t₆ b bs)
    go true t₂ t₃ t₄ t₅ t₆ = omega arith
    go false true t₃ t₄ t₅ t₆ = omega arith
    go false false true t₄ t₅ t₆ = omega arith
    go false false false true t₅ t₆ = word_wide (take (suc (leading name_byte bs)) (b ∷ bs)) (suc (leading name_byte bs)) (omega arith)
    go false false false false true t₆ = numeral_wide (take (suc (leading number_byte bs)) (b ∷ bs)) (suc (leading number_byte bs)) (omega arith)
    go false false false false false true = quoted_wide bs (leading (λ c. not (eqb c 34)) bs)
    go false false false false false false = sign_wide (b ∷ bs)

-- ---- a text is cut in front of a token

pub record Start (k i : ℕ) (bs : List ℕ) (xs : List Token) (t : Token) (ys : List Token) : Type 0 where
  pub one : List ℕ
  pub two : List ℕ
  pub whole : bs ≡ one ++ two
  pub place : i + length one ≡ t.from
  pub joint : Joint two k one
  pub left : scan k i one ≡ lexed xs
  pub right : scan 0 (i + length one) two ≡ lexed (t ∷ ys)

not_nil : (xs : List Token) (t : Token) (ys : List Token) {X : Type 0} → [] ≡ xs ++ (t ∷ ys) → X
not_nil [] t ys e = absurd (let z : ◌≡◌ {A = ℕ} 0 1 = cc in omega arith)
not_nil (x ∷ xs) t ys e = absurd (let z : ◌≡◌ {A = ℕ} 0 1 = cc in omega arith)

-- one byte more in front
module _ (b i n : ℕ) (bs : List ℕ) (t : Token) (ys : List Token) where
  kept_lexeme : (xs : List Token) (o : Lexeme) → lexeme b bs ≡ o → 1 ≤ width o → (S : Start (width o - 1) (suc i) bs xs t ys) → lexeme b S.one ≡ o
  kept_lexeme xs o e l S =
      let w : lexeme b (S.one ++ S.two) ≡ o = ap (lexeme b) (sym S.whole) ∙ e in
      lexeme_cut b S.one S.two (subst (λ (x : Lexeme). 1 ≤ width x) (sym w) l)
      (subst (λ (x : Lexeme). width x ≤ suc (length S.one)) (sym w) (omega (arith, joint_le S.joint))) ∙ w

  joint_more : (xs : List Token) (o : Lexeme) → lexeme b bs ≡ o → 1 ≤ width o → (S : Start (width o - 1) (suc i) bs xs t ys) → Joint S.two 0 (b ∷ S.one)
  joint_more xs o e l S =
      let k : lexeme b S.one ≡ o = kept_lexeme xs o e l S in
      here (ap (lexeme b) (sym S.whole) ∙ e ∙ sym k) (subst (λ (x : Lexeme). Joint S.two (width x - 1) S.one) (sym k) S.joint)

  start_more : (xs xs' : List Token) (o : Lexeme) → lexeme b bs ≡ o → 1 ≤ width o → (S : Start (width o - 1) (suc i) bs xs t ys)
      → scan 0 i (b ∷ S.one) ≡ lexed xs' → Start 0 i (b ∷ bs) xs' t ys
  start_more xs xs' o e l S h =
      let p : i + suc (length S.one) ≡ suc i + length S.one = omega arith in
      record {
        one = b ∷ S.one;
        two = S.two;
        whole = ap {B = List ℕ} (λ x. b ∷ x) S.whole;
        place = p ∙ S.place;
        joint = joint_more xs o e l S;
        left = h;
        right = ap (λ (x : ℕ). scan 0 x S.two) p ∙ S.right;
      }

pub token_start : (bs : List ℕ) (k i : ℕ) (xs : List Token) (t : Token) (ys : List Token) → scan k i bs ≡ lexed (xs ++ (t ∷ ys)) → Start k i bs xs t ys
unfolding scan
token_start [] k i xs t ys h = let z : [] ≡ xs ++ (t ∷ ys) = cc in not_nil xs t ys z
token_start (b ∷ bs) (suc k) i xs t ys h =
    let S : Start k (suc i) bs xs t ys = token_start bs k (suc i) xs t ys h in
    let p : i + suc (length S.one) ≡ suc i + length S.one = omega arith in
    record {
      one = b ∷ S.one;
      two = S.two;
      whole = ap {B = List ℕ} (λ x. b ∷ x) S.whole;
      place = p ∙ S.place;
      joint = rest S.joint;
      left = S.left;
      right = ap (λ (x : ℕ). scan 0 x S.two) p ∙ S.right;
    }
token_start (b ∷ bs) zero i xs t ys h = go (λ k xs'. token_start bs k (suc i) xs' t ys) (lexeme b bs) refl (lexeme_wide b bs) h
  where
    IH : Type 0
    IH = (k : ℕ) (xs' : List Token) → scan k (suc i) bs ≡ lexed (xs' ++ (t ∷ ys)) → Start k (suc i) bs xs' t ys

    tok : ℕ → ℕ → List ℕ → Token
    tok κ n r = record { kind = κ; from = i; text = take n (b ∷ r) }

    found : IH → (κ n : ℕ) → lexeme b bs ≡ piece κ n → 1 ≤ n → (us : List Token) → scan (n - 1) (suc i) bs ≡ lexed us → (zs : List Token) → tok κ n bs ∷ us ≡ zs ++ (t ∷ ys)
        → Start 0 i (b ∷ bs) zs t ys
    found ih κ n e l us q [] w =
        let z : tok κ n bs ≡ t = cc in
        let o : i + 0 ≡ i = omega arith in
        record {
          one = [];
          two = b ∷ bs;
          whole = refl;
          place = o ∙ ap (λ (x : Token). x.from) z;
          joint = over;
          left = refl;
          right = ap (λ (x : ℕ). scan 0 x (b ∷ bs)) o ∙ ap (taken i (b ∷ bs) (λ m. scan (m - 1) (suc i) bs)) e ∙ ap (before (tok κ n bs)) q ∙ ap lexed w;
        }
    found ih κ n e l us q (z ∷ zs) w =
        let S : Start (n - 1) (suc i) bs zs t ys = ih (n - 1) zs (q ∙ ap lexed (cc)) in
        let a : tok κ n bs ≡ z = cc in
        let c : take n (b ∷ S.one) ≡ take n (b ∷ bs)
        = sym (take-append-le n (b ∷ S.one) S.two (omega (arith, joint_le S.joint))) ∙ ap (λ (x : List ℕ). take n (b ∷ x)) (sym S.whole) in
        start_more b i n bs t ys zs (z ∷ zs) (piece κ n) e l S
        (ap (taken i (b ∷ S.one) (λ m. scan (m - 1) (suc i) S.one)) (kept_lexeme b i n bs t ys zs (piece κ n) e l S)
        ∙ ap (before (tok κ n S.one)) S.left
        ∙ ap (λ (x : List ℕ). lexed (record { kind = κ; from = i; text = x } ∷ zs)) c
        ∙ ap (λ (x : Token). lexed (x ∷ zs)) a)

    pieced : IH → (κ n : ℕ) → lexeme b bs ≡ piece κ n → 1 ≤ n → (o : Lexed) → scan (n - 1) (suc i) bs ≡ o → before (tok κ n bs) o ≡ lexed (xs ++ (t ∷ ys)) → Start 0 i (b ∷ bs) xs t ys
    pieced ih κ n e l (lexed us) q w = found ih κ n e l us q xs (cc)
    pieced ih κ n e l (refused f p) q w = absurd (let z : ◌≡◌ {A = ℕ} 0 1 = cc in omega arith)

    go : IH → (o : Lexeme) → lexeme b bs ≡ o → Wide o → taken i (b ∷ bs) (λ m. scan (m - 1) (suc i) bs) o ≡ lexed (xs ++ (t ∷ ys)) → Start 0 i (b ∷ bs) xs t ys
    go ih (gap n) e l w =
        let S : Start (n - 1) (suc i) bs xs t ys = ih (n - 1) xs w in
        start_more b i n bs t ys xs xs (gap n) e l S
        (ap (taken i (b ∷ S.one) (λ m. scan (m - 1) (suc i) S.one)) (kept_lexeme b i n bs t ys xs (gap n) e l S) ∙ S.left)
    go ih (piece κ n) e l w = pieced ih κ n e l (scan (n - 1) (suc i) bs) refl w
    go ih (fault f) e l w = absurd (let z : ◌≡◌ {A = ℕ} 0 1 = cc in omega arith)
