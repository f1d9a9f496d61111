-- A token is `;` or `}` exactly where its last byte is.
use Rattle.std.specs.Prelude.{if◌then◌else◌}
use mathlib.Core.Path.{◌≡◌, refl, sym, ap, ◌∙◌}
use mathlib.Core.Bool.{Bool, true, false, ◌||◌, not, true≢false}
use mathlib.Core.List.{List, [], ◌∷◌, ◌++◌}
use Prim.Native.Nat.{ℕ, zero, suc, ◌+◌, ◌-◌, ◌≤◌, ◌<◌}
use Prim.Native.String.{String}
use native.Mathlib.Omega.{arith}
use lib.Dec.{leb, ltb, eqb}
use lib.Seq.{length-take-le, get_or-append-add}
use borrow.Author.Tests.{ltb-true, eqb-true}
use lib.ListN.{length, take, get_or}
use Rattle.tokens.specs.Text.{bytes, same, begins, leading, letter, digit, name_byte, number_byte, blank, every}
use Rattle.tokens.specs.Numbers.{number_fault}
use Rattle.tokens.specs.Tokens.{Token, Lexeme, gap, piece, fault, word, numeral, quoted, sign, signs, keywords, entry, code, lexeme, Lexed, lexed, refused, before, taken, scan}
use Rattle.tokens.proofs.Joins.{body}
use Rattle.tokens.proofs.Cuts.{Wide, lexeme_wide, Start, token_start}
use Rattle.tokens.proofs.Shapes.{Sound, sound, entry_found, entry_every, scan_sorted}

-- `;` and `}`, as bytes and as kinds
abbrev pub closer : ℕ → Bool
closer b = eqb 59 b || eqb 125 b

abbrev pub closer_kind : ℕ → Bool
closer_kind k = eqb 48 k || eqb 43 k

-- a byte of a class that has neither
plain_byte : (f : ℕ → Bool) → f 59 ≡ false → f 125 ≡ false → (b : ℕ) → f b ≡ true → closer b ≡ false
plain_byte f h k b e = go (eqb 59 b) refl (eqb 125 b) refl
  where
    go : (x : Bool) → eqb 59 b ≡ x → (y : Bool) → eqb 125 b ≡ y → x || y ≡ false
    go true u y v = absurd (true≢false (sym e ∙ ap f (sym (eqb-true 59 b u)) ∙ h))
    go false u true v = absurd (true≢false (sym e ∙ ap f (sym (eqb-true 125 b v)) ∙ k))
    go false u false v = refl

-- the last byte of a run that passes the test
leading_last : (f : ℕ → Bool) (b : ℕ) (bs : List ℕ) → (g : ℕ → Bool) → g b ≡ true → ((c : ℕ) → f c ≡ true → g c ≡ true) → g (get_or (b ∷ bs) (leading f bs) 0) ≡ true
unfolding leading
leading_last f b [] g h k = h
leading_last f b (c ∷ bs) g h k = go (f c) refl (leading_last f c bs g)
  where
    go : (t : Bool) → f c ≡ t → (g c ≡ true → ((x : ℕ) → f x ≡ true → g x ≡ true) → g (get_or (c ∷ bs) (leading f bs) 0) ≡ true)
        → g (get_or (b ∷ c ∷ bs) (elim t as (λ _. ℕ) [ true ↦ suc (leading f bs) | false ↦ 0 ]) 0) ≡ true
    go true e ih = ih (k c e) k
    go false e ih = h

-- where it stops
leading_stops : (f : ℕ → Bool) (bs : List ℕ) → leading f bs < length bs → f (get_or bs (leading f bs) 0) ≡ false
unfolding leading
leading_stops f [] h = absurd (omega arith)
leading_stops f (b ∷ bs) h = go (f b) refl h (leading_stops f bs)
  where
    go : (t : Bool) → f b ≡ t → (elim t as (λ _. ℕ) [ true ↦ suc (leading f bs) | false ↦ 0 ]) < suc (length bs) → (leading f bs < length bs → f (get_or bs (leading f bs) 0) ≡ false)
        → f (get_or (b ∷ bs) (elim t as (λ _. ℕ) [ true ↦ suc (leading f bs) | false ↦ 0 ]) 0) ≡ false
    go true e l ih = ih (omega arith)
    go false e l ih = e

begins_at : (xs bs : List ℕ) (i : ℕ) → begins xs bs ≡ true → i < length xs → get_or bs i 0 ≡ get_or xs i 0
unfolding begins
begins_at [] bs i h l = absurd (omega arith)
begins_at (x ∷ xs) [] i h l = absurd (true≢false (sym h))
begins_at (x ∷ xs) (b ∷ bs) i h l = go (eqb x b) refl h (λ j. begins_at xs bs j) i l
  where
    go : (t : Bool) → eqb x b ≡ t → ◌≡◌ {A = Bool} (elim t [ true ↦ begins xs bs | false ↦ false ]) true → ((j : ℕ) → begins xs bs ≡ true → j < length xs → get_or bs j 0 ≡ get_or xs j 0)
        → (j : ℕ) → j < suc (length xs) → get_or (b ∷ bs) j 0 ≡ get_or (x ∷ xs) j 0
    go true e q ih zero k = sym (eqb-true x b e)
    go true e q ih (suc j) k = ih j q (omega arith)
    go false e q ih j k = absurd (true≢false (sym q))

less : (n : ℕ) → n ≡ suc n - 1
less n = omega arith

abbrev Closes : ℕ → List ℕ → Lexeme → Type 0
Closes b bs (gap m) = Unit {0}
Closes b bs (piece κ m) = closer_kind κ ≡ closer (get_or (b ∷ bs) (m - 1) 0)
Closes b bs (fault f) = Unit {0}

word_closes : (b : ℕ) (bs w : List ℕ) → letter b ≡ true → Closes b bs (word w (suc (leading name_byte bs)))
unfolding word every
word_closes b bs w h = go (eqb E.1 99) refl ∙ sym (plain_byte name_byte refl refl (get_or (b ∷ bs) (leading name_byte bs) 0) (leading_last name_byte b bs name_byte (letters b h) (λ c e. e)))
    ∙ ap (λ (i : ℕ). closer (get_or (b ∷ bs) i 0)) (less (leading name_byte bs))
  where
    E : String × ℕ
    E = entry (λ s. same (bytes s) w) keywords

    letters : (c : ℕ) → letter c ≡ true → name_byte c ≡ true
    letters c e = ap (λ (t : Bool). t || digit c || eqb c 95) e

    go : (t : Bool) → eqb E.1 99 ≡ t → closer_kind (if t then 1 else E.1) ≡ false
    go true e = refl
    go false e = negated (closer_kind E.1) (entry_every (λ (x : String × ℕ). not (closer_kind x.1)) (λ s. same (bytes s) w) keywords tt e)
      where
        negated : (t : Bool) → not t ≡ true → t ≡ false
        negated true q = sym q
        negated false q = refl

numeral_closes : (b : ℕ) (bs w : List ℕ) → digit b ≡ true → Closes b bs (numeral w (suc (leading number_byte bs)))
unfolding numeral
numeral_closes b bs w h = go (eqb (number_fault w) 0)
  where
    go : (t : Bool) → Closes b bs (if t then piece 2 (suc (leading number_byte bs)) else fault (number_fault w))
    go true = sym (plain_byte number_byte refl refl (get_or (b ∷ bs) (leading number_byte bs) 0) (leading_last number_byte b bs number_byte (ap (λ (t : Bool). t || eqb b 46) h) (λ c e. e)))
        ∙ ap (λ (i : ℕ). closer (get_or (b ∷ bs) i 0)) (less (leading number_byte bs))
    go false = tt

quoted_closes : (b : ℕ) (bs : List ℕ) → Closes b bs (quoted bs (leading (λ c. not (eqb c 34)) bs))
unfolding quoted
quoted_closes b bs = go (ltb n (length bs)) refl
  where
    n : ℕ
    n = leading (λ c. not (eqb c 34)) bs

    quote : (c : ℕ) → not (eqb c 34) ≡ false → closer c ≡ false
    quote c e = plain_byte (λ x. eqb x 34) refl refl c (same_not (eqb c 34) e)
      where
        same_not : (t : Bool) → not t ≡ false → t ≡ true
        same_not true q = refl
        same_not false q = absurd (true≢false q)

    go : (t : Bool) → ltb n (length bs) ≡ t → Closes b bs (if t then piece 5 (suc (suc n)) else fault 4)
    go true e = sym (quote (get_or bs n 0) (leading_stops (λ c. not (eqb c 34)) bs (ltb-true n (length bs) e))) ∙ ap (λ (i : ℕ). closer (get_or (b ∷ bs) i 0)) (less (suc n))
    go false e = tt

abbrev agree : Bool → Bool → Bool
agree true b = b
agree false b = not b

agree_eq : (a b : Bool) → agree a b ≡ true → a ≡ b
agree_eq true b h = sym h
agree_eq false true h = h
agree_eq false false h = refl

sign_closes : (b : ℕ) (bs : List ℕ) → Closes b bs (sign (b ∷ bs))
unfolding sign every bytes
sign_closes b bs = go (eqb E.1 99) refl
  where
    E : String × ℕ
    E = entry (λ s. begins (bytes s) (b ∷ bs)) signs

    some : (t : Bool) → leb 1 (length (bytes E.0)) ≡ t → t ≡ true → length (bytes E.0) - 1 < length (bytes E.0)
    some true e q = omega (arith, borrow.Author.Tests.leb-true 1 (length (bytes E.0)) e)
    some false e q = absurd (true≢false (sym q))

    go : (t : Bool) → eqb E.1 99 ≡ t → Closes b bs (if t then fault 3 else piece E.1 (length (bytes E.0)))
    go true e = tt
    go false e =
        agree_eq (closer_kind E.1) (closer (get_or (bytes E.0) (length (bytes E.0) - 1) 0))
        (entry_every (λ (x : String × ℕ). agree (closer_kind x.1) (closer (get_or (bytes x.0) (length (bytes x.0) - 1) 0))) (λ s. begins (bytes s) (b ∷ bs)) signs tt e)
        ∙ ap closer (sym (begins_at (bytes E.0) (b ∷ bs) (length (bytes E.0) - 1) (entry_found (λ s. begins (bytes s) (b ∷ bs)) signs e)
        (some (leb 1 (length (bytes E.0))) refl (entry_every (λ (x : String × ℕ). leb 1 (length (bytes x.0))) (λ s. begins (bytes s) (b ∷ bs)) signs tt e))))

pub lexeme_closes : (b : ℕ) (bs : List ℕ) → Closes b bs (lexeme b bs)
unfolding lexeme body code
lexeme_closes b bs = go (blank b) (eqb b 10) refl (eqb b 35 || begins (bytes "//") (b ∷ bs)) (letter b) refl (digit b) refl (eqb b 34)
  where
    go : (t₁ t₂ : Bool) → eqb b 10 ≡ t₂ → (t₃ t₄ : Bool) → letter b ≡ t₄ → (t₅ : Bool) → digit b ≡ t₅ → (t₆ : Bool) → Closes b bs (body t₁ t₂ t₃ t₄ t₅ t₆ b bs)
    go true t₂ e₂ t₃ t₄ e₄ t₅ e₅ t₆ = tt
    go false true e₂ t₃ t₄ e₄ t₅ e₅ t₆ = sym (plain_byte (λ x. eqb x 10) refl refl b e₂)
    go false false e₂ true t₄ e₄ t₅ e₅ t₆ = tt
    go false false e₂ false true e₄ t₅ e₅ t₆ = word_closes b bs (take (suc (leading name_byte bs)) (b ∷ bs)) e₄
    go false false e₂ false false e₄ true e₅ t₆ = numeral_closes b bs (take (suc (leading number_byte bs)) (b ∷ bs)) e₅
    go false false e₂ false false e₄ false e₅ true = quoted_closes b bs
    go false false e₂ false false e₄ false e₅ false = sign_closes b bs

first_closes : (i : ℕ) (bs : List ℕ) (w : Token) (ys : List Token) → w.from ≡ i → scan 0 i bs ≡ lexed (w ∷ ys) → closer_kind w.kind ≡ closer (get_or bs (length w.text - 1) 0)
unfolding scan
first_closes i [] w ys p h = absurd (let z : ◌≡◌ {A = ℕ} 0 1 = cc in omega arith)
first_closes i (b ∷ bs) w ys p h = go (lexeme b bs) (lexeme_wide b bs) (sound b bs) (lexeme_closes b bs) h
  where
    pieced : (κ m : ℕ) → m ≤ suc (length bs) → Closes b bs (piece κ m) → (o : Lexed) → before (record { kind = κ; from = i; text = take m (b ∷ bs) }) o ≡ lexed (w ∷ ys)
        → closer_kind w.kind ≡ closer (get_or (b ∷ bs) (length w.text - 1) 0)
    pieced κ m l c (lexed us) v =
        let z : record { kind = κ; from = i; text = take m (b ∷ bs) } ≡ w = cc in
        let n : length w.text ≡ m = ap (λ (x : Token). length x.text) (sym z) ∙ length-take-le m (b ∷ bs) l in
        ap (λ (x : Token). closer_kind x.kind) (sym z) ∙ c ∙ ap (λ (x : ℕ). closer (get_or (b ∷ bs) (x - 1) 0)) (sym n)
    pieced κ m l c (refused f q) v = absurd (let z : ◌≡◌ {A = ℕ} 0 1 = cc in omega arith)

    go : (o : Lexeme) → Wide o → Sound b bs o → Closes b bs o → taken i (b ∷ bs) (λ m. scan (m - 1) (suc i) bs) o ≡ lexed (w ∷ ys) → closer_kind w.kind ≡ closer (get_or (b ∷ bs) (length w.text - 1) 0)
    go (gap m) l s c v = absurd (omega (arith, (scan_sorted (m - 1) (suc i) bs (w ∷ ys) v).0))
    go (piece κ m) l s c v = pieced κ m s.0 c (scan (m - 1) (suc i) bs) v
    go (fault f) l s c v = absurd (let z : ◌≡◌ {A = ℕ} 0 1 = cc in omega arith)

-- the byte before a token's end tells whether it is `;` or `}`
pub token_closes : (bs : List ℕ) (xs : List Token) (w : Token) (ys : List Token) → scan 0 0 bs ≡ lexed (xs ++ (w ∷ ys)) → 1 ≤ length w.text
    → closer_kind w.kind ≡ closer (get_or bs (w.from + length w.text - 1) 0)
token_closes bs xs w ys h l =
    let S : Start 0 0 bs xs w ys = token_start bs 0 0 xs w ys h in
    let p : length S.one + (length w.text - 1) ≡ w.from + length w.text - 1 = omega (arith, S.place) in
    first_closes (0 + length S.one) S.two w ys (sym S.place) S.right
    ∙ ap closer (sym (get_or-append-add S.one S.two (length w.text - 1) 0) ∙ ap (λ (x : List ℕ). get_or x (length S.one + (length w.text - 1)) 0) (sym S.whole) ∙ ap (λ (i : ℕ). get_or bs i 0) p)
