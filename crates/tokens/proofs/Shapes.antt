-- What a lexeme can be, and what that says of a text's tokens.
use Rattle.std.specs.Prelude.{if◌then◌else◌}
use mathlib.Core.Path.{◌≡◌, refl, sym, ap, ◌∙◌, subst}
use mathlib.Core.Bool.{Bool, true, false, ◌&&◌, ◌||◌, not, true≢false}
use mathlib.Core.List.{List, [], ◌∷◌, ◌++◌}
use Prim.Native.Nat.{ℕ, zero, suc, ◌+◌, ◌-◌, ◌≤◌, ◌<◌}
use Prim.Native.String.{String}
use native.Mathlib.Omega.{arith}
use lib.Dec.{T, leb, ltb, eqb}
use lib.Seq.{length-take-le, drop-append-add}
use borrow.Author.Tests.{ltb-true, eqb-true, leb-true}
use lib.ListN.{length, take, drop, length-append}
use Rattle.tokens.specs.Text.{bytes, same, begins, leading, letter, digit, name_byte, number_byte, blank, every, count}
use Rattle.tokens.specs.Limits.{most_digits, most_decimals}
use Rattle.tokens.specs.Numbers.{digits, decimals, number_fault}
use Rattle.tokens.specs.Tokens.{Token, Lexeme, gap, piece, fault, word, numeral, quoted, sign, signs, keywords, entry, code, lexeme, Lexed, lexed, refused, before, taken, scan}
use Rattle.tokens.proofs.Joins.{width, firm, body}
use Rattle.tokens.proofs.Cuts.{Wide, lexeme_wide, Start, token_start}

-- ---- entries of a table

pub entry_found : (f : String → Bool) (es : List (String × ℕ)) → eqb (entry f es).1 99 ≡ false → f (entry f es).0 ≡ true
unfolding entry
entry_found f [] q = absurd (true≢false q)
entry_found f (e ∷ es) q = go (f e.0) refl q (entry_found f es)
  where
    go : (a : Bool) → f e.0 ≡ a → eqb (elim a as (λ _. String × ℕ) [ true ↦ e | false ↦ entry f es ]).1 99 ≡ false
        → (eqb (entry f es).1 99 ≡ false → f (entry f es).0 ≡ true)
        → f (elim a as (λ _. String × ℕ) [ true ↦ e | false ↦ entry f es ]).0 ≡ true
    go true w v ih = w
    go false w v ih = ih v

pub entry_every : (g : String × ℕ → Bool) (f : String → Bool) (es : List (String × ℕ)) → T (every g es) → eqb (entry f es).1 99 ≡ false → g (entry f es) ≡ true
unfolding entry every
entry_every g f [] h q = absurd (true≢false q)
entry_every g f (e ∷ es) h q = go (f e.0) (g e) refl h q (entry_every g f es)
  where
    go : (a b : Bool) → g e ≡ b → T (elim b as (λ _. Bool) [ true ↦ every g es | false ↦ false ])
        → eqb (elim a as (λ _. String × ℕ) [ true ↦ e | false ↦ entry f es ]).1 99 ≡ false
        → (T (every g es) → eqb (entry f es).1 99 ≡ false → g (entry f es) ≡ true)
        → g (elim a as (λ _. String × ℕ) [ true ↦ e | false ↦ entry f es ]) ≡ true
    go true true w t v ih = w
    go false true w t v ih = ih t v
    go true false w t v ih = absurd t
    go false false w t v ih = absurd t

pub begins_le : (xs bs : List ℕ) → begins xs bs ≡ true → length xs ≤ length bs
unfolding begins
begins_le [] bs h = omega arith
begins_le (x ∷ xs) [] h = absurd (true≢false (sym h))
begins_le (x ∷ xs) (b ∷ bs) h = go (eqb x b) h (begins_le xs bs)
  where
    go : (t : Bool) → ◌≡◌ {A = Bool} (elim t [ true ↦ begins xs bs | false ↦ false ]) true → (begins xs bs ≡ true → length xs ≤ length bs) → suc (length xs) ≤ suc (length bs)
    go true e ih = omega (arith, ih e)
    go false e ih = absurd (true≢false (sym e))

pub same_eq : (xs bs : List ℕ) → same xs bs ≡ true → xs ≡ bs
unfolding same
same_eq [] [] h = refl
same_eq [] (b ∷ bs) h = absurd (true≢false (sym h))
same_eq (x ∷ xs) [] h = absurd (true≢false (sym h))
same_eq (x ∷ xs) (b ∷ bs) h = go (eqb x b) refl h (same_eq xs bs)
  where
    go : (t : Bool) → eqb x b ≡ t → ◌≡◌ {A = Bool} (elim t [ true ↦ same xs bs | false ↦ false ]) true → (same xs bs ≡ true → xs ≡ bs) → x ∷ xs ≡ b ∷ bs
    go true w e ih = λ i. eqb-true x b w i ∷ ih e i
    go false w e ih = absurd (true≢false (sym e))

pub same_not : (xs bs : List ℕ) → (xs ≡ bs → ⊥) → same xs bs ≡ false
same_not xs bs h = go (same xs bs) refl
  where
    go : (t : Bool) → same xs bs ≡ t → t ≡ false
    go true e = absurd (h (same_eq xs bs e))
    go false e = refl

begins_byte : (a b : ℕ) (bs : List ℕ) → begins (a ∷ []) (b ∷ bs) ≡ true → a ≡ b
unfolding begins
begins_byte a b bs h = go (eqb a b) refl h
  where
    go : (t : Bool) → eqb a b ≡ t → ◌≡◌ {A = Bool} (elim t [ true ↦ true | false ↦ false ]) true → a ≡ b
    go true w e = eqb-true a b w
    go false w e = absurd (true≢false (sym e))

pub leading_le : (f : ℕ → Bool) (bs : List ℕ) → leading f bs ≤ length bs
unfolding leading
leading_le f [] = omega arith
leading_le f (b ∷ bs) = go (f b) (leading_le f bs)
  where
    go : (t : Bool) → leading f bs ≤ length bs → (elim t as (λ _. ℕ) [ true ↦ suc (leading f bs) | false ↦ 0 ]) ≤ suc (length bs)
    go true h = omega arith
    go false h = omega arith

-- ---- what a lexeme is

-- the kinds of tokens that stay as they are even at the end: `;`, `}`, string, Newline
abbrev pub firm_kind : ℕ → Bool
firm_kind k = eqb 48 k || (eqb 43 k || (eqb 5 k || eqb 55 k))

abbrev not_line : ℕ → Bool
not_line c = not (eqb c 10)

-- it is no longer than the text; what is no token is a blank or runs up to a line feed; no token is End; a token of a firm kind begins with a firm byte;
-- a fault is one of 3 to 6
abbrev pub Sound : ℕ → List ℕ → Lexeme → Type 0
Sound b bs (gap m) = (m ≤ suc (length bs)) × (blank b ≡ false → m ≡ suc (leading (λ c. not (eqb c 10)) bs))
Sound b bs (piece κ m) = (m ≤ suc (length bs)) × (1 ≤ κ) × (firm_kind κ ≡ true → T (firm b))
Sound b bs (fault f) = (3 ≤ f) × (f ≤ 6)

abbrev plain_word : String × ℕ → Bool
plain_word e = leb 1 e.1 && not (firm_kind e.1)

both : (a b : Bool) → a && b ≡ true → (a ≡ true) × (b ≡ true)
both true b h = (refl, h)
both false b h = absurd (true≢false (sym h))

word_sound : (b : ℕ) (bs w : List ℕ) (m : ℕ) → m ≤ suc (length bs) → Sound b bs (word w m)
unfolding word every
word_sound b bs w m h = go (eqb E.1 99) refl
  where
    E : String × ℕ
    E = entry (λ s. same (bytes s) w) keywords

    go : (t : Bool) → eqb E.1 99 ≡ t → Sound b bs (piece (if t then 1 else E.1) m)
    go true e = (h, omega arith, λ q. absurd (true≢false (sym q)))
    go false e =
        let p = both (leb 1 E.1) (not (firm_kind E.1)) (entry_every plain_word (λ s. same (bytes s) w) keywords tt e) in
        (h, leb-true 1 E.1 p.0, λ q. absurd (true≢false (sym p.1 ∙ ap not q)))

numeral_sound : (b : ℕ) (bs w : List ℕ) (m : ℕ) → m ≤ suc (length bs) → Sound b bs (numeral w m)
unfolding numeral number_fault
numeral_sound b bs w m h = go (ltb 1 (count (eqb 46) w)) (ltb most_digits (digits 0 w) || ltb most_decimals (decimals false w))
  where
    go : (t u : Bool) → Sound b bs (let f = if t then 5 else (if u then 6 else 0) in if eqb f 0 then piece 2 m else fault f)
    go true u = (omega arith, omega arith)
    go false true = (omega arith, omega arith)
    go false false = (h, omega arith, λ q. absurd (true≢false (sym q)))

quoted_sound : (b : ℕ) (bs : List ℕ) (m : ℕ) → T (firm b) → Sound b bs (quoted bs m)
unfolding quoted
quoted_sound b bs m f = go (ltb m (length bs)) refl
  where
    go : (t : Bool) → ltb m (length bs) ≡ t → Sound b bs (if t then piece 5 (suc (suc m)) else fault 4)
    go true e = (omega (arith, ltb-true m (length bs) e), omega arith, λ q. f)
    go false e = (omega arith, omega arith)

abbrev plain_sign : String × ℕ → Bool
plain_sign e = leb 1 e.1 && (not (firm_kind e.1) || (same (bytes e.0) (59 ∷ []) || same (bytes e.0) (125 ∷ [])))

sign_sound : (b : ℕ) (bs : List ℕ) → Sound b bs (sign (b ∷ bs))
unfolding sign every bytes same
sign_sound b bs = go (eqb E.1 99) refl
  where
    E : String × ℕ
    E = entry (λ s. begins (bytes s) (b ∷ bs)) signs

    byte : (a : ℕ) → T (firm a) → same (bytes E.0) (a ∷ []) ≡ true → eqb E.1 99 ≡ false → T (firm b)
    byte a f s e =
        subst (λ (x : ℕ). T (firm x))
        (begins_byte a b bs (ap (λ (x : List ℕ). begins x (b ∷ bs)) (sym (same_eq (bytes E.0) (a ∷ []) s)) ∙ entry_found (λ s. begins (bytes s) (b ∷ bs)) signs e)) f

    firmly : eqb E.1 99 ≡ false → (k : Bool) → firm_kind E.1 ≡ k → k ≡ true → (x : Bool) → same (bytes E.0) (59 ∷ []) ≡ x → (y : Bool) → same (bytes E.0) (125 ∷ []) ≡ y
        → not k || (x || y) ≡ true → T (firm b)
    firmly e false w q x u y v h = absurd (true≢false (sym q))
    firmly e true w q true u y v h = byte 59 tt u e
    firmly e true w q false u true v h = byte 125 tt v e
    firmly e true w q false u false v h = absurd (true≢false (sym h))

    go : (t : Bool) → eqb E.1 99 ≡ t → Sound b bs (if t then fault 3 else piece E.1 (length (bytes E.0)))
    go true e = (omega arith, omega arith)
    go false e =
        let p = both (leb 1 E.1) (not (firm_kind E.1) || (same (bytes E.0) (59 ∷ []) || same (bytes E.0) (125 ∷ []))) (entry_every plain_sign (λ s. begins (bytes s) (b ∷ bs)) signs tt e) in (
          begins_le (bytes E.0) (b ∷ bs) (entry_found (λ s. begins (bytes s) (b ∷ bs)) signs e),
          leb-true 1 E.1 p.0,
          λ q. firmly e (firm_kind E.1) refl q (same (bytes E.0) (59 ∷ [])) refl (same (bytes E.0) (125 ∷ [])) refl p.1,
        )

firm_of : (a b : ℕ) → eqb b a ≡ true → T (firm a) → T (firm b)
firm_of a b e f = subst (λ (x : ℕ). T (firm x)) (sym (eqb-true b a e)) f

pub sound : (b : ℕ) (bs : List ℕ) → Sound b bs (lexeme b bs)
unfolding lexeme body code
sound b bs = go (blank b) refl (eqb b 10) refl (eqb b 35 || begins (bytes "//") (b ∷ bs)) (letter b) (digit b) (eqb b 34) refl
  where
    go : (t₁ : Bool) → blank b ≡ t₁ → (t₂ : Bool) → eqb b 10 ≡ t₂ → (t₃ t₄ t₅ t₆ : Bool) → eqb b 34 ≡ t₆ → Sound b bs (body t₁ t₂ t₃ t₄ t₅ t₆ b bs)
    go true e₁ t₂ e₂ t₃ t₄ t₅ t₆ e₆ = (omega arith, λ q. absurd (true≢false (sym e₁ ∙ q)))
    go false e₁ true e₂ t₃ t₄ t₅ t₆ e₆ = (omega arith, omega arith, λ q. firm_of 10 b e₂ tt)
    go false e₁ false e₂ true t₄ t₅ t₆ e₆ = (omega (arith, leading_le not_line bs), λ q. refl)
    go false e₁ false e₂ false true t₅ t₆ e₆ = word_sound b bs (take (suc (leading name_byte bs)) (b ∷ bs)) (suc (leading name_byte bs)) (omega (arith, leading_le name_byte bs))
    go false e₁ false e₂ false false true t₆ e₆ =
        numeral_sound b bs (take (suc (leading number_byte bs)) (b ∷ bs)) (suc (leading number_byte bs)) (omega (arith, leading_le number_byte bs))
    go false e₁ false e₂ false false false true e₆ = quoted_sound b bs (leading (λ c. not (eqb c 34)) bs) (firm_of 34 b e₆ tt)
    go false e₁ false e₂ false false false false e₆ = sign_sound b bs

pub lexeme_fits : (b : ℕ) (bs : List ℕ) → width (lexeme b bs) ≤ suc (length bs)
lexeme_fits b bs = go (lexeme b bs) (sound b bs)
  where
    go : (o : Lexeme) → Sound b bs o → width o ≤ suc (length bs)
    go (gap m) s = s.0
    go (piece κ m) s = s.0
    go (fault f) s = omega arith

-- ---- places and kinds of a text's tokens

-- from the byte i on, none before another, none behind the byte j, and no End
abbrev pub Sorted : ℕ → ℕ → List Token → Type 0
Sorted i j [] = i ≤ j
Sorted i j (t ∷ ts) = (i ≤ t.from) × (1 ≤ t.kind) × Sorted t.from j ts

pub sorted_less : (i i' j : ℕ) (ts : List Token) → i' ≤ i → Sorted i j ts → Sorted i' j ts
sorted_less i i' j [] h s = omega arith
sorted_less i i' j (t ∷ ts) h s = (omega (arith, s.0), s.1, s.2)

pub scan_sorted : (k i : ℕ) (bs : List ℕ) (ts : List Token) → scan k i bs ≡ lexed ts → Sorted i (i + length bs) ts
unfolding scan
scan_sorted k i [] ts h = let z : [] ≡ ts = cc in subst (λ (l : List Token). Sorted i (i + 0) l) z (omega arith)
scan_sorted (suc k) i (b ∷ bs) ts h =
    let p : suc i + length bs ≡ i + suc (length bs) = omega arith in
    subst (λ (x : ℕ). Sorted i x ts) p (sorted_less (suc i) i (suc i + length bs) ts (omega arith) (scan_sorted k (suc i) bs ts h))
scan_sorted zero i (b ∷ bs) ts h = go (λ k us. scan_sorted k (suc i) bs us) (lexeme b bs) (sound b bs) h
  where
    IH : Type 0
    IH = (k : ℕ) (us : List Token) → scan k (suc i) bs ≡ lexed us → Sorted (suc i) (suc i + length bs) us

    lower : (us : List Token) → Sorted (suc i) (suc i + length bs) us → Sorted i (i + suc (length bs)) us
    lower us s =
        let p : suc i + length bs ≡ i + suc (length bs) = omega arith in
        subst (λ (x : ℕ). Sorted i x us) p (sorted_less (suc i) i (suc i + length bs) us (omega arith) s)

    pieced : IH → (κ m : ℕ) → 1 ≤ κ → (o : Lexed) → scan (m - 1) (suc i) bs ≡ o → before (record { kind = κ; from = i; text = take m (b ∷ bs) }) o ≡ lexed ts → Sorted i (i + suc (length bs)) ts
    pieced ih κ m l (lexed us) e w =
        let z : record { kind = κ; from = i; text = take m (b ∷ bs) } ∷ us ≡ ts = cc in
        subst (λ (x : List Token). Sorted i (i + suc (length bs)) x) z (omega arith, l, lower us (ih (m - 1) us e))
    pieced ih κ m l (refused f p) e w = absurd (let z : ◌≡◌ {A = ℕ} 0 1 = cc in omega arith)

    go : IH → (o : Lexeme) → Sound b bs o → taken i (b ∷ bs) (λ m. scan (m - 1) (suc i) bs) o ≡ lexed ts → Sorted i (i + suc (length bs)) ts
    go ih (gap m) s w = lower ts (ih (m - 1) ts w)
    go ih (piece κ m) s w = pieced ih κ m s.1 (scan (m - 1) (suc i) bs) refl w
    go ih (fault f) s w = absurd (let z : ◌≡◌ {A = ℕ} 0 1 = cc in omega arith)

-- a text is refused on one of the grounds 3 to 6, at one of its bytes
pub scan_refused : (k i : ℕ) (bs : List ℕ) {f p : ℕ} → scan k i bs ≡ refused f p → (3 ≤ f) × (f ≤ 6) × (p < i + length bs)
unfolding scan
scan_refused k i [] h = absurd (let z : ◌≡◌ {A = ℕ} 0 1 = cc in omega arith)
scan_refused (suc k) i (b ∷ bs) h = let r = scan_refused k (suc i) bs h in (r.0, r.1, omega (arith, r.2))
scan_refused zero i (b ∷ bs) {f} {p} h = go (λ k. scan_refused k (suc i) bs) (lexeme b bs) (sound b bs) h
  where
    Goal : Type 0
    Goal = (3 ≤ f) × (f ≤ 6) × (p < i + suc (length bs))

    IH : Type 0
    IH = (k : ℕ) → scan k (suc i) bs ≡ refused f p → (3 ≤ f) × (f ≤ 6) × (p < suc i + length bs)

    later : IH → (k : ℕ) → scan k (suc i) bs ≡ refused f p → Goal
    later ih k e = let r = ih k e in (r.0, r.1, omega (arith, r.2))

    pieced : IH → (t : Token) (k : ℕ) (o : Lexed) → scan k (suc i) bs ≡ o → before t o ≡ refused f p → Goal
    pieced ih t k (lexed us) e w = absurd (let z : ◌≡◌ {A = ℕ} 0 1 = cc in omega arith)
    pieced ih t k (refused g q) e w = later ih k (e ∙ w)

    go : IH → (o : Lexeme) → Sound b bs o → taken i (b ∷ bs) (λ m. scan (m - 1) (suc i) bs) o ≡ refused f p → Goal
    go ih (gap m) s w = later ih (m - 1) w
    go ih (piece κ m) s w = pieced ih (record { kind = κ; from = i; text = take m (b ∷ bs) }) (m - 1) (scan (m - 1) (suc i) bs) refl w
    go ih (fault g) s w =
        let z : g ≡ f = cc in
        let q : i ≡ p = cc in
        (omega (arith, s.0), omega (arith, s.1), omega arith)

-- ---- a text is cut behind a token

pub scan_drop : (k i : ℕ) (bs : List ℕ) → scan k i bs ≡ scan 0 (i + k) (drop k bs)
unfolding scan
scan_drop zero i bs = let p : i ≡ i + 0 = omega arith in ap (λ (x : ℕ). scan 0 x bs) p
scan_drop (suc k) i [] = refl
scan_drop (suc k) i (b ∷ bs) =
    let p : suc i + k ≡ i + suc k = omega arith in scan_drop k (suc i) bs ∙ ap (λ (x : ℕ). scan 0 x (drop k bs)) p

-- behind a token that stands first
first_behind : (i : ℕ) (bs : List ℕ) (w : Token) (ys : List Token) → w.from ≡ i → scan 0 i bs ≡ lexed (w ∷ ys)
    → (scan 0 (i + length w.text) (drop (length w.text) bs) ≡ lexed ys) × (1 ≤ length w.text) × (length w.text ≤ length bs)
unfolding scan
first_behind i [] w ys p h = absurd (let z : ◌≡◌ {A = ℕ} 0 1 = cc in omega arith)
first_behind i (b ∷ bs) w ys p h = go (lexeme b bs) (lexeme_wide b bs) (sound b bs) h
  where
    Goal : Type 0
    Goal = (scan 0 (i + length w.text) (drop (length w.text) (b ∷ bs)) ≡ lexed ys) × (1 ≤ length w.text) × (length w.text ≤ suc (length bs))

    pieced : (κ m : ℕ) → 1 ≤ m → m ≤ suc (length bs) → (o : Lexed) → scan (m - 1) (suc i) bs ≡ o → before (record { kind = κ; from = i; text = take m (b ∷ bs) }) o ≡ lexed (w ∷ ys) → Goal
    pieced κ m l l' (lexed us) e v =
        let z : record { kind = κ; from = i; text = take m (b ∷ bs) } ≡ w = cc in
        let y : us ≡ ys = cc in
        let n : length w.text ≡ m = ap (λ (x : Token). length x.text) (sym z) ∙ length-take-le m (b ∷ bs) l' in
        let q : suc i + (m - 1) ≡ i + m = omega arith in
        let r : suc (m - 1) ≡ m = omega arith in
        let g : scan 0 (i + m) (drop m (b ∷ bs)) ≡ lexed ys
        = ap (λ (x : ℕ). scan 0 (i + m) (drop x (b ∷ bs))) (sym r) ∙ ap (λ (x : ℕ). scan 0 x (drop (m - 1) bs)) (sym q) ∙ sym (scan_drop (m - 1) (suc i) bs) ∙ e ∙ ap lexed y in
        (subst (λ (x : ℕ). scan 0 (i + x) (drop x (b ∷ bs)) ≡ lexed ys) (sym n) g, omega arith, omega arith)
    pieced κ m l l' (refused f q) e v = absurd (let z : ◌≡◌ {A = ℕ} 0 1 = cc in omega arith)

    go : (o : Lexeme) → Wide o → Sound b bs o → taken i (b ∷ bs) (λ m. scan (m - 1) (suc i) bs) o ≡ lexed (w ∷ ys) → Goal
    go (gap m) l s v = absurd (omega (arith, (scan_sorted (m - 1) (suc i) bs (w ∷ ys) v).0))
    go (piece κ m) l s v = pieced κ m l s.0 (scan (m - 1) (suc i) bs) refl v
    go (fault f) l s v = absurd (let z : ◌≡◌ {A = ℕ} 0 1 = cc in omega arith)

pub record Behind (bs : List ℕ) (w : Token) (ys : List Token) : Type 0 where
  pub after : scan 0 (w.from + length w.text) (drop (w.from + length w.text) bs) ≡ lexed ys
  pub some : 1 ≤ length w.text
  pub inside : w.from + length w.text ≤ length bs

pub token_end : (bs : List ℕ) (xs : List Token) (w : Token) (ys : List Token) → scan 0 0 bs ≡ lexed (xs ++ (w ∷ ys)) → Behind bs w ys
token_end bs xs w ys h =
    let S : Start 0 0 bs xs w ys = token_start bs 0 0 xs w ys h in
    let p : length S.one ≡ w.from = omega (arith, S.place) in
    let F = first_behind (0 + length S.one) S.two w ys (sym S.place) S.right in
    let q : 0 + length S.one + length w.text ≡ w.from + length w.text = omega arith in
    let d : drop (w.from + length w.text) bs ≡ drop (length w.text) S.two
    = ap (drop (w.from + length w.text)) S.whole ∙ ap (λ (x : ℕ). drop (x + length w.text) (S.one ++ S.two)) (sym p) ∙ drop-append-add S.one S.two (length w.text) in
    record {
      after = ap (scan 0 (w.from + length w.text)) d ∙ ap (λ (x : ℕ). scan 0 x (drop (length w.text) S.two)) (sym q) ∙ F.0;
      some = F.1;
      inside = omega (arith, F.2, simp length-append at (ap length S.whole));
    }
