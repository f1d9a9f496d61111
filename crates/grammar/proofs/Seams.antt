-- Texts behind which anything may stand: the seams of an amended script.
use Rattle.std.specs.Prelude.{if◌then◌else◌}
use mathlib.Core.Path.{◌≡◌, refl, sym, ap, ◌∙◌, subst}
use mathlib.Core.Bool.{Bool, true, false, ◌||◌, not, true≢false}
use mathlib.Core.List.{List, [], ◌∷◌, ◌++◌}
use Prim.Native.Nat.{ℕ, zero, suc, ◌+◌, ◌-◌, ◌≤◌}
use native.Mathlib.Omega.{arith}
use lib.Dec.{T, leb, eqb}
use lib.Seq.{take-suc, take-length, length-take-le}
use lib.ListN.{length, take, get_or, length-append}
use borrow.Author.Tests.{eqb-true, leb-true, leb-false}
use Rattle.tokens.specs.Text.{bytes, leading, blank, count, begins, other}
use Rattle.tokens.specs.Tokens.{Token, Lexeme, gap, piece, fault, lexeme, Lexed, lexed, refused as faulty, before, taken, scan, code, counts, end_of}
use Rattle.tokens.proofs.Joins.{width, Joint, over, rest, here, firm, lexeme_inner, lexeme_firm}
use Rattle.tokens.proofs.Cuts.{Wide, lexeme_wide, Start}
use Rattle.tokens.proofs.Shapes.{Sound, sound, lexeme_fits, firm_kind}
use Rattle.grammar.specs.Readers.{is, last_of, closes}
use Rattle.grammar.proofs.SealLaws.{unsealed}

-- ---- bytes at the end

leading_stop : (f : ℕ → Bool) (bs : List ℕ) (c : ℕ) (cs : List ℕ) → leading f (bs ++ (c ∷ cs)) ≡ length bs → f c ≡ false
unfolding leading
leading_stop f [] c cs h = go (f c) h
  where
    go : (t : Bool) → ◌≡◌ {A = ℕ} (elim t [ true ↦ suc (leading f cs) | false ↦ 0 ]) 0 → t ≡ false
    go true e = absurd (omega arith)
    go false e = refl
leading_stop f (b ∷ bs) c cs h = go (f b) h (leading_stop f bs c cs)
  where
    go : (t : Bool) → ◌≡◌ {A = ℕ} (elim t [ true ↦ suc (leading f (bs ++ (c ∷ cs))) | false ↦ 0 ]) (suc (length bs)) → (leading f (bs ++ (c ∷ cs)) ≡ length bs → f c ≡ false) → f c ≡ false
    go true e ih = ih (omega arith)
    go false e ih = absurd (omega arith)

leading_line : (f : ℕ → Bool) (p : List ℕ) (c : ℕ) (cs : List ℕ) → f c ≡ false → leading f (p ++ (c ∷ cs)) ≤ length p
unfolding leading
leading_line f [] c cs h = go (f c) h
  where
    go : (t : Bool) → t ≡ false → (elim t as (λ _. ℕ) [ true ↦ suc (leading f cs) | false ↦ 0 ]) ≤ 0
    go true e = absurd (true≢false e)
    go false e = omega arith
leading_line f (b ∷ p) c cs h = go (f b) (leading_line f p c cs h)
  where
    go : (t : Bool) → leading f (p ++ (c ∷ cs)) ≤ length p → (elim t as (λ _. ℕ) [ true ↦ suc (leading f (p ++ (c ∷ cs))) | false ↦ 0 ]) ≤ suc (length p)
    go true l = omega arith
    go false l = omega arith

-- ---- no comment reaches the end, and no lexeme sticks out

pub data Calm : ℕ → List ℕ → Type 0 where
  end : Calm 0 []
  on : {k b : ℕ} {bs : List ℕ} → Calm k bs → Calm (suc k) (b ∷ bs)
  at : {b : ℕ} {bs : List ℕ} → (lexeme b bs ≡ gap (suc (length bs)) → blank b ≡ true) → Calm (width (lexeme b bs) - 1) bs → Calm 0 (b ∷ bs)

scan_all : (i : ℕ) (bs : List ℕ) → scan (length bs) i bs ≡ lexed []
unfolding scan
scan_all i [] = refl
scan_all i (b ∷ bs) = scan_all (suc i) bs

-- a gap that reaches the end, and is no blank, runs up to a line feed
comment_end : (b : ℕ) (bs : List ℕ) (m : ℕ) → lexeme b bs ≡ gap m → blank b ≡ false → m ≡ suc (leading (other 10) bs)
comment_end b bs m e n = (subst (λ (o : Lexeme). Sound b bs o) e (sound b bs)).1 n

-- the last token, Newlines aside, is `;`, `}` or a string: then anything may stand behind
firm_last : (κ i : ℕ) (w : List ℕ) (d : Token) → unsealed (last_of d (record { kind = κ; from = i; text = w } ∷ [])) ≡ false → firm_kind κ ≡ true
unfolding last_of code
firm_last κ i w d h = go (eqb 55 κ) h
  where
    t : Token
    t = record { kind = κ; from = i; text = w }

    go₁ : (a b c : Bool) → not (a || b || c) ≡ false → a || (b || (c || false)) ≡ true
    go₁ true b c e = refl
    go₁ false true c e = refl
    go₁ false false true e = refl
    go₁ false false false e = absurd (true≢false e)

    go₂ : (a b c : Bool) → a || (b || (c || true)) ≡ true
    go₂ true b c = refl
    go₂ false true c = refl
    go₂ false false true = refl
    go₂ false false false = refl

    go : (n : Bool) → unsealed (if not n then t else d) ≡ false → eqb 48 κ || (eqb 43 κ || (eqb 5 κ || n)) ≡ true
    go true e = go₂ (eqb 48 κ) (eqb 43 κ) (eqb 5 κ)
    go false e = go₁ (eqb 48 κ) (eqb 43 κ) (eqb 5 κ) e

no_gap : (κ m n : ℕ) {X : Type 0} → piece κ m ≡ gap n → X
no_gap κ m n e = absurd (let z : ◌≡◌ {A = ℕ} 0 1 = cc in omega arith)

pub calm_joint : (q : List ℕ) {k : ℕ} {bs : List ℕ} → Calm k bs → (i : ℕ) (ts : List Token) (d : Token) → scan k i bs ≡ lexed ts → unsealed (last_of d ts) ≡ false → Joint q k bs
unfolding scan last_of
calm_joint q end i ts d h l = over
calm_joint q (on c) i ts d h l = rest (calm_joint q c (suc i) ts d h l)
calm_joint q (at {b} {bs} g c) i ts d h l = go (λ us d'. calm_joint q c (suc i) us d') (lexeme b bs) refl (lexeme_wide b bs) (sound b bs) h
  where
    IH : Type 0
    IH = (us : List Token) (d' : Token) → scan (width (lexeme b bs) - 1) (suc i) bs ≡ lexed us → unsealed (last_of d' us) ≡ false → Joint q (width (lexeme b bs) - 1) bs

    inner : (m : ℕ) → width (lexeme b bs) ≡ m → 1 ≤ m → m ≤ length bs → lexeme b (bs ++ q) ≡ lexeme b bs
    inner m e p r = lexeme_inner b bs q (omega arith) (omega arith)

    firmly : (m : ℕ) → width (lexeme b bs) ≡ m → 1 ≤ m → T (firm b) → lexeme b (bs ++ q) ≡ lexeme b bs
    firmly m e p f = lexeme_firm b bs q (omega arith) f

    blank_firm : (x : Bool) → x ≡ true → T (x || (eqb b 10 || (eqb b 59 || (eqb b 125 || eqb b 34))))
    blank_firm true e = tt
    blank_firm false e = absurd (true≢false (sym e))

    gapped : IH → (m : ℕ) → lexeme b bs ≡ gap m → 1 ≤ m → m ≤ suc (length bs) → scan (m - 1) (suc i) bs ≡ lexed ts → (t : Bool) → leb m (length bs) ≡ t → Joint q 0 (b ∷ bs)
    gapped ih m e p r w true v =
        here (inner m (ap width e) p (leb-true m (length bs) v)) (ih ts d (ap (λ (x : Lexeme). scan (width x - 1) (suc i) bs) e ∙ w) l)
    gapped ih m e p r w false v =
        let n : m ≡ suc (length bs) = omega (arith, leb-false m (length bs) v) in
        here (firmly m (ap width e) p (blank_firm (blank b) (g (e ∙ ap gap n)))) (ih ts d (ap (λ (x : Lexeme). scan (width x - 1) (suc i) bs) e ∙ w) l)

    tok : ℕ → ℕ → Token
    tok κ m = record { kind = κ; from = i; text = take m (b ∷ bs) }

    next : ℕ → ℕ → Token
    next κ m = if counts (tok κ m) then tok κ m else d

    piece_by : IH → (κ m : ℕ) → lexeme b bs ≡ piece κ m → 1 ≤ m → (firm_kind κ ≡ true → T (firm b)) → m ≤ suc (length bs) → (us : List Token) → scan (m - 1) (suc i) bs ≡ lexed us
        → ts ≡ tok κ m ∷ us → (t : Bool) → leb m (length bs) ≡ t → Joint q 0 (b ∷ bs)
    piece_by ih κ m e p f r us w z true v =
        here (inner m (ap width e) p (leb-true m (length bs) v))
        (ih us (next κ m) (ap (λ (x : Lexeme). scan (width x - 1) (suc i) bs) e ∙ w) (ap (λ x. unsealed (last_of d x)) (sym z) ∙ l))
    piece_by ih κ m e p f r us w z false v =
        let n : m - 1 ≡ length bs = omega (arith, leb-false m (length bs) v) in
        let y : lexed us ≡ lexed [] = sym w ∙ ap (λ (x : ℕ). scan x (suc i) bs) n ∙ scan_all (suc i) bs in
        let y' : us ≡ [] = cc in
        here (firmly m (ap width e) p (f (firm_last κ i (take m (b ∷ bs)) d (ap (λ x. unsealed (last_of d (tok κ m ∷ x))) (sym y') ∙ ap (λ x. unsealed (last_of d x)) (sym z) ∙ l))))
        (ih us (next κ m) (ap (λ (x : Lexeme). scan (width x - 1) (suc i) bs) e ∙ w) (ap (λ x. unsealed (last_of d x)) (sym z) ∙ l))

    pieced : IH → (κ m : ℕ) → lexeme b bs ≡ piece κ m → 1 ≤ m → (firm_kind κ ≡ true → T (firm b)) → m ≤ suc (length bs) → (o : Lexed) → scan (m - 1) (suc i) bs ≡ o
        → before (tok κ m) o ≡ lexed ts → Joint q 0 (b ∷ bs)
    pieced ih κ m e p f r (lexed us) w v = piece_by ih κ m e p f r us w (cc) (leb m (length bs)) refl
    pieced ih κ m e p f r (faulty x y) w v = absurd (let z : ◌≡◌ {A = ℕ} 0 1 = cc in omega arith)

    go : IH → (o : Lexeme) → lexeme b bs ≡ o → Wide o → Sound b bs o → taken i (b ∷ bs) (λ m. scan (m - 1) (suc i) bs) o ≡ lexed ts → Joint q 0 (b ∷ bs)
    go ih (gap m) e p s w = gapped ih m e p s.0 w (leb m (length bs)) refl
    go ih (piece κ m) e p s w = pieced ih κ m e p s.2 s.0 (scan (m - 1) (suc i) bs) refl w
    go ih (fault f) e p s w = absurd (let z : ◌≡◌ {A = ℕ} 0 1 = cc in omega arith)

-- ---- calm texts: cut in front of a token that is no Newline

pub calm_front : {two : List ℕ} {k : ℕ} {bs : List ℕ} → Joint two k bs → (c : ℕ) (cs : List ℕ) → two ≡ c ∷ cs → eqb c 10 ≡ false → Calm k bs
calm_front over c cs e n = end
calm_front (rest j) c cs e n = on (calm_front j c cs e n)
calm_front {two} (here {b} {bs} h j) c cs e n = at (λ g. go g (blank b) refl) (calm_front j c cs e n)
  where
    go : lexeme b bs ≡ gap (suc (length bs)) → (t : Bool) → blank b ≡ t → t ≡ true
    go g true v = refl
    go g false v =
        let m : suc (length bs) ≡ suc (leading (other 10) (bs ++ two)) = comment_end b (bs ++ two) (suc (length bs)) (h ∙ g) v in
        let s : leading (other 10) (bs ++ (c ∷ cs)) ≡ length bs = ap (λ (l : List ℕ). leading (other 10) (bs ++ l)) (sym e) ∙ omega arith in
        absurd (true≢false (sym (ap not n) ∙ leading_stop (other 10) bs c cs s))

first_byte : (i c : ℕ) (cs : List ℕ) (u : Token) (us : List Token) → scan 0 i (c ∷ cs) ≡ lexed (u ∷ us) → is "Newline" u ≡ false → eqb c 10 ≡ false
unfolding scan lexeme code begins bytes
first_byte i c cs u us h n = go (eqb c 10) refl
  where
    line : (o : Lexed) → before (record { kind = 55; from = i; text = 10 ∷ [] }) o ≡ lexed (u ∷ us) → ⊥
    line (lexed ts) e = let z : record { kind = 55; from = i; text = 10 ∷ [] } ≡ u = cc in true≢false (ap (λ (t : Token). is "Newline" t) z ∙ n)
    line (faulty x y) e = let z : ◌≡◌ {A = ℕ} 0 1 = cc in omega arith

    go : (t : Bool) → eqb c 10 ≡ t → t ≡ false
    go false e = refl
    go true e = absurd (line (scan 0 (suc i) cs) (ap (λ (x : ℕ). scan 0 i (x ∷ cs)) (sym (eqb-true c 10 e)) ∙ h))

-- what stands before a token that is no Newline
pub front_joint : {bs : List ℕ} {xs : List Token} {u : Token} {ys : List Token} (S : Start 0 0 bs xs u ys) → is "Newline" u ≡ false → (d : Token) → unsealed (last_of d xs) ≡ false
    → (q : List ℕ) → Joint q 0 S.one
front_joint {xs = xs} {u = u} {ys = ys} S n d l q = go S.two refl
  where
    go : (t : List ℕ) → S.two ≡ t → Joint q 0 S.one
    go [] e =
        let z : lexed [] ≡ lexed (u ∷ ys) = sym (scan_all (0 + length S.one) []) ∙ ap (scan 0 (0 + length S.one)) (sym e) ∙ S.right in
        absurd (let y : ◌≡◌ {A = ℕ} 0 1 = cc in omega arith)
    go (c ∷ cs) e =
        calm_joint q (calm_front S.joint c cs e (first_byte (0 + length S.one) c cs u ys (ap (scan 0 (0 + length S.one)) (sym e) ∙ S.right) n)) 0 xs d S.left l

-- ---- calm texts: a line feed at the end

pub calm_line : (k : ℕ) (p : List ℕ) → k ≤ suc (length p) → Calm k (p ++ (10 ∷ []))
unfolding lexeme code begins bytes
calm_line zero [] h = at (λ e. no_gap 55 1 1 e) end
calm_line (suc zero) [] h = on end
calm_line (suc (suc k)) [] h = absurd (omega arith)
calm_line (suc k) (b ∷ p) h = on (calm_line k p (omega arith))
calm_line zero (b ∷ p) h =
    at (λ e. go e (blank b) refl) (calm_line (width (lexeme b (p ++ (10 ∷ []))) - 1) p (omega (arith, lexeme_fits b (p ++ (10 ∷ [])), length-append p (10 ∷ []))))
  where
    go : lexeme b (p ++ (10 ∷ [])) ≡ gap (suc (length (p ++ (10 ∷ [])))) → (t : Bool) → blank b ≡ t → t ≡ true
    go e true v = refl
    go e false v =
        absurd (omega (arith, comment_end b (p ++ (10 ∷ [])) (suc (length (p ++ (10 ∷ [])))) e v, leading_line (other 10) p 10 [] refl, length-append p (10 ∷ [])))

pub last_split : (n : List ℕ) → 1 ≤ length n → n ≡ take (length n - 1) n ++ (get_or n (length n - 1) 0 ∷ [])
last_split n h =
    let p : suc (length n - 1) ≡ length n = omega arith in
    sym (take-length n) ∙ ap (λ (x : ℕ). take x n) (sym p) ∙ take-suc n (length n - 1) 0 (omega arith)

-- ---- calm texts: the last token's last byte at the end

pub calm_end : (k i : ℕ) (bs : List ℕ) (ts : List Token) (p : ℕ) → k ≤ length bs → scan k i bs ≡ lexed ts → p ≤ i + k → end_of p ts ≡ i + length bs → Calm k bs
unfolding scan end_of
calm_end zero i [] ts p h s l e = end
calm_end (suc k) i [] ts p h s l e = absurd (omega arith)
calm_end (suc k) i (b ∷ bs) ts p h s l e = on (calm_end k (suc i) bs ts p (omega arith) s (omega arith) (omega arith))
calm_end zero i (b ∷ bs) ts p h s l e = go (λ k us p'. calm_end k (suc i) bs us p') (lexeme b bs) refl (lexeme_wide b bs) (sound b bs) s
  where
    IH : Type 0
    IH = (k : ℕ) (us : List Token) (p' : ℕ) → k ≤ length bs → scan k (suc i) bs ≡ lexed us → p' ≤ suc i + k → end_of p' us ≡ suc i + length bs → Calm k bs

    at_width : (m : ℕ) → width (lexeme b bs) ≡ m → Calm (m - 1) bs → Calm (width (lexeme b bs) - 1) bs
    at_width m w c = subst (λ (x : ℕ). Calm (x - 1) bs) (sym w) c

    tok : ℕ → ℕ → Token
    tok κ m = record { kind = κ; from = i; text = take m (b ∷ bs) }

    past : (t : Bool) (n m : ℕ) → n ≤ m → 1 ≤ m → (if t then i + n else p) ≤ suc i + (m - 1)
    past true n m x y = omega arith
    past false n m x y = omega arith

    pieced : IH → (κ m : ℕ) → lexeme b bs ≡ piece κ m → 1 ≤ m → m ≤ suc (length bs) → (o : Lexed) → scan (m - 1) (suc i) bs ≡ o → before (tok κ m) o ≡ lexed ts → Calm 0 (b ∷ bs)
    pieced ih κ m w x y (lexed us) v z =
        let y' : ts ≡ tok κ m ∷ us = cc in
        let q : end_of (if counts (tok κ m) then i + length (take m (b ∷ bs)) else p) us ≡ i + suc (length bs) = ap (end_of p) (sym y') ∙ e in
        let r : i + suc (length bs) ≡ suc i + length bs = omega arith in
        at (λ g. no_gap κ m (suc (length bs)) (sym w ∙ g))
        (at_width m (ap width w) (ih (m - 1) us (if counts (tok κ m) then i + length (take m (b ∷ bs)) else p) (omega arith) v
        (past (counts (tok κ m)) (length (take m (b ∷ bs))) m (omega (arith, length-take-le m (b ∷ bs) y)) x) (q ∙ r)))
    pieced ih κ m w x y (faulty f a) v z = absurd (let o : ◌≡◌ {A = ℕ} 0 1 = cc in omega arith)

    go : IH → (o : Lexeme) → lexeme b bs ≡ o → Wide o → Sound b bs o → taken i (b ∷ bs) (λ m. scan (m - 1) (suc i) bs) o ≡ lexed ts → Calm 0 (b ∷ bs)
    go ih (gap m) w x y v =
        at (λ g.
        let n : gap m ≡ gap (suc (length bs)) = sym w ∙ g in
        let n' : m ≡ suc (length bs) = cc in
        let n'' : m - 1 ≡ length bs = omega arith in
        let z : lexed ts ≡ lexed [] = sym v ∙ ap (λ (x : ℕ). scan x (suc i) bs) n'' ∙ scan_all (suc i) bs in
        let z' : ts ≡ [] = cc in
        absurd (omega (arith, ap (end_of p) (sym z') ∙ e)))
        (at_width m (ap width w) (ih (m - 1) ts p (omega (arith, y.0)) v (omega arith) (omega arith)))
    go ih (piece κ m) w x y v = pieced ih κ m w x y.0 (scan (m - 1) (suc i) bs) refl v
    go ih (fault f) w x y v = absurd (let o : ◌≡◌ {A = ℕ} 0 1 = cc in omega arith)

-- ---- the last token

pub none_last : (d : Token) (ts : List Token) → count counts ts ≡ 0 → last_of d ts ≡ d
unfolding count last_of
none_last d [] h = refl
none_last d (t ∷ ts) h = go (counts t) h (none_last d ts)
  where
    go : (b : Bool) → (if b then 1 else 0) + count counts ts ≡ 0 → (count counts ts ≡ 0 → last_of d ts ≡ d) → last_of (if b then t else d) ts ≡ d
    go true e ih = absurd (omega arith)
    go false e ih = ih (omega arith)

-- where the last token closes, it does so whatever stands before
pub last_any : (d d' : Token) (ts : List Token) → closes d ≡ false → closes (last_of d ts) ≡ true → closes (last_of d' ts) ≡ true
unfolding last_of
last_any d d' [] n h = absurd (true≢false (sym h ∙ n))
last_any d d' (t ∷ ts) n h = go (counts t) h (last_any d d' ts n)
  where
    go : (b : Bool) → closes (last_of (if b then t else d) ts) ≡ true → (closes (last_of d ts) ≡ true → closes (last_of d' ts) ≡ true) → closes (last_of (if b then t else d') ts) ≡ true
    go true e ih = e
    go false e ih = ih e
