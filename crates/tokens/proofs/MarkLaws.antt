-- The first token at or behind a place: gaps are passed over, and the token stands where its mark says.
use mathlib.Core.Path.{◌≡◌, refl, sym, ap, ◌∙◌, subst}
use mathlib.Core.Bool.{Bool, true, false}
use mathlib.Core.List.{List, [], ◌∷◌}
use Prim.Native.Nat.{ℕ, zero, suc, ◌+◌, ◌-◌, ◌≤◌, ◌<◌}
use native.Mathlib.Omega.{arith}
use lib.Dec.{ltb}
use borrow.Author.Tests.{ltb-true, ltb-false}
use lib.ListN.{length, get_or, drop, length-drop, drop_of_length-le}
use lib.Seq.{drop-drop}
use Rattle.tokens.specs.Tokens.{Lexeme, gap, piece, fault, lexeme}
use Rattle.tokens.specs.Lexing.{lexeme_at, gap_width, final, mark_of, marked, mark_from, mark_at}
use Rattle.tokens.specs.declared.lexing.Mark.{Mark}
use Rattle.tokens.proofs.Joins.{width}
use Rattle.tokens.proofs.Cuts.{Wide, lexeme_wide}
use Rattle.tokens.proofs.Shapes.{lexeme_fits}
use Rattle.tokens.proofs.LexLaws.{front}

drop_less : (b : ℕ) (bs : List ℕ) (n p : ℕ) → suc p ≤ n → drop (n - p) (b ∷ bs) ≡ drop (n - suc p) bs
drop_less b bs n p h = let q : n - p ≡ suc (n - suc p) = omega arith in rw q

drop_self : (bs : List ℕ) (p : ℕ) → drop (p - p) bs ≡ bs
drop_self bs p = let q : p - p ≡ 0 = omega arith in rw q

-- the bytes that a lexeme leaves
fits_gap : (b : ℕ) (bs : List ℕ) (n : ℕ) → lexeme b bs ≡ gap n → n - 1 ≤ length bs
fits_gap b bs n e = omega (arith, lexeme_fits b bs, ap width e)

-- ---- where a mark starts

start_after : (k p : ℕ) (bs : List ℕ) → k ≤ length bs → p + k ≤ (mark_from k p bs).start
unfolding mark_from
start_after zero p [] h = omega arith
start_after (suc k) p [] h = absurd (omega arith)
start_after (suc k) p (b ∷ bs) h = omega (arith, start_after k (suc p) bs (omega arith))
start_after zero p (b ∷ bs) h = go (lexeme b bs) refl (λ k l. start_after k (suc p) bs l)
  where
    go : (o : Lexeme) → lexeme b bs ≡ o → ((k : ℕ) → k ≤ length bs → suc p + k ≤ (mark_from k (suc p) bs).start)
        → p + 0 ≤ (marked p (λ n. mark_from (n - 1) (suc p) bs) o).start
    go (gap n) e ih = omega (arith, ih (n - 1) (fits_gap b bs n e))
    go (piece κ n) e ih = omega arith
    go (fault f) e ih = omega arith

start_before : (k p : ℕ) (bs : List ℕ) → k ≤ length bs → (mark_from k p bs).start ≤ p + length bs
unfolding mark_from
start_before zero p [] h = omega arith
start_before (suc k) p [] h = absurd (omega arith)
start_before (suc k) p (b ∷ bs) h = omega (arith, start_before k (suc p) bs (omega arith))
start_before zero p (b ∷ bs) h = go (lexeme b bs) refl (λ k l. start_before k (suc p) bs l)
  where
    go : (o : Lexeme) → lexeme b bs ≡ o → ((k : ℕ) → k ≤ length bs → (mark_from k (suc p) bs).start ≤ suc p + length bs)
        → (marked p (λ n. mark_from (n - 1) (suc p) bs) o).start ≤ p + suc (length bs)
    go (gap n) e ih = omega (arith, ih (n - 1) (fits_gap b bs n e))
    go (piece κ n) e ih = omega arith
    go (fault f) e ih = omega arith

pub start_within : (s : List ℕ) (at n : ℕ) → at ≤ n → length s ≤ n → (mark_at s at).start ≤ n
unfolding mark_at
start_within s at n h l = go (ltb at (length s)) refl
  where
    go : (t : Bool) → ltb at (length s) ≡ t → (mark_from 0 at (drop at s)).start ≤ n
    go true e = omega (arith, start_before 0 at (drop at s) (omega arith), length-drop at s, ltb-true at (length s) e)
    go false e = omega (arith, start_before 0 at (drop at s) (omega arith), length-drop at s, ltb-false at (length s) e)

pub start_at : (s : List ℕ) (at : ℕ) → at ≤ (mark_at s at).start
unfolding mark_at
start_at s at = omega (arith, start_after 0 at (drop at s) (omega arith))

-- ---- what reads on behind a gap reads the same from the next token on

module _ {X : Type 0} (F : ℕ → ℕ → List ℕ → X)
    (F-on : (k p b : ℕ) (bs : List ℕ) → F (suc k) p (b ∷ bs) ≡ F k (suc p) bs)
    (F-gap : (p b : ℕ) (bs : List ℕ) (n : ℕ) → lexeme b bs ≡ gap n → F 0 p (b ∷ bs) ≡ F (n - 1) (suc p) bs) where
  skip_one : (p b : ℕ) (bs : List ℕ) (k m : ℕ) → k ≤ length bs → m ≡ (mark_from k (suc p) bs).start
      → F k (suc p) bs ≡ F 0 m (drop (m - suc p) bs) → F k (suc p) bs ≡ F 0 m (drop (m - p) (b ∷ bs))
  skip_one p b bs k m h q e =
      e ∙ ap (λ (l : List ℕ). F 0 m l) (sym (drop_less b bs m p (omega (arith, start_after k (suc p) bs h))))

  skip : (k p : ℕ) (bs : List ℕ) → k ≤ length bs → F k p bs ≡ F 0 (mark_from k p bs).start (drop ((mark_from k p bs).start - p) bs)
  unfolding mark_from
  skip zero p [] h = ap (λ (l : List ℕ). F 0 p l) (sym (drop_self [] p))
  skip (suc k) p [] h = absurd (omega arith)
  skip (suc k) p (b ∷ bs) h = F-on k p b bs ∙ skip_one p b bs k _ (omega arith) refl (skip k (suc p) bs (omega arith))
  skip zero p (b ∷ bs) h = go (lexeme b bs) refl (λ k l. skip k (suc p) bs l)
    where
      M : Lexeme → Mark
      M o = marked p (λ n. mark_from (n - 1) (suc p) bs) o

      go : (o : Lexeme) → lexeme b bs ≡ o
          → ((k : ℕ) → k ≤ length bs → F k (suc p) bs ≡ F 0 (mark_from k (suc p) bs).start (drop ((mark_from k (suc p) bs).start - suc p) bs))
          → F 0 p (b ∷ bs) ≡ F 0 (M o).start (drop ((M o).start - p) (b ∷ bs))
      go (gap n) e ih = F-gap p b bs n e ∙ skip_one p b bs (n - 1) _ (fits_gap b bs n e) refl (ih (n - 1) (fits_gap b bs n e))
      go (piece κ n) e ih = ap (λ (l : List ℕ). F 0 p l) (sym (drop_self (b ∷ bs) p))
      go (fault f) e ih = ap (λ (l : List ℕ). F 0 p l) (sym (drop_self (b ∷ bs) p))

  pub skip_at : (s : List ℕ) (at : ℕ) → F 0 at (drop at s) ≡ F 0 (mark_at s at).start (drop (mark_at s at).start s)
  unfolding mark_at
  skip_at s at =
      let m = (mark_from 0 at (drop at s)).start in
      let q : at + (m - at) ≡ m = omega (arith, start_after 0 at (drop at s) (omega arith)) in
      skip 0 at (drop at s) (omega arith) ∙ (rw (drop-drop (m - at) at s, q))

-- ---- the loop of the code

mark_drop : (k p : ℕ) (bs : List ℕ) → k ≤ length bs → mark_from k p bs ≡ mark_from 0 (p + k) (drop k bs)
unfolding mark_from
mark_drop zero p bs h = let q : p ≡ p + 0 = omega arith in ap (λ (x : ℕ). mark_from 0 x bs) q
mark_drop (suc k) p [] h = absurd (omega arith)
mark_drop (suc k) p (b ∷ bs) h =
    let q : suc p + k ≡ p + suc k = omega arith in mark_drop k (suc p) bs (omega arith) ∙ ap (λ (x : ℕ). mark_from 0 x (drop k bs)) q

module _ (s : List ℕ) (at : ℕ) where
  pub mark_over : length s ≤ at → mark_at s at ≡ final at
  unfolding mark_at mark_from
  mark_over h = rw (drop_of_length-le s h)

  mark_front : at < length s → mark_at s at ≡ marked at (λ n. mark_from (n - 1) (suc at) (drop (at + 1) s)) (lexeme_at s at)
  unfolding mark_at mark_from
  mark_front h = rw (front s at h)

  mark_further : at < length s → (n : ℕ) → lexeme_at s at ≡ gap n → mark_at s at ≡ mark_at s (at + n)
  unfolding mark_at
  mark_further h n e =
      let w : 1 ≤ n = subst Wide e (lexeme_wide (get_or s at 0) (drop (at + 1) s)) in
      let l : n - 1 ≤ length (drop (at + 1) s) = fits_gap (get_or s at 0) (drop (at + 1) s) n e in
      let p : suc at + (n - 1) ≡ at + n = omega arith in
      let q : at + 1 + (n - 1) ≡ at + n = omega arith in
      mark_front h
      ∙ ap (marked at (λ m. mark_from (m - 1) (suc at) (drop (at + 1) s))) e
      ∙ mark_drop (n - 1) (suc at) (drop (at + 1) s) l
      ∙ (rw (drop-drop (n - 1) (at + 1) s, p, q))

  pub mark_on : at < length s → (gap_width (lexeme_at s at) ≡ 0 → ⊥) → mark_at s at ≡ mark_at s (at + gap_width (lexeme_at s at))
  mark_on h no-token = go (lexeme_at s at) refl
    where
      go : (o : Lexeme) → lexeme_at s at ≡ o → mark_at s at ≡ mark_at s (at + gap_width o)
      go (gap n) e = mark_further h n e
      go (piece κ n) e = absurd (no-token (ap gap_width e))
      go (fault f) e = absurd (no-token (ap gap_width e))

  pub mark_here : at < length s → gap_width (lexeme_at s at) ≡ 0 → mark_at s at ≡ mark_of at (lexeme_at s at)
  mark_here h whole = mark_front h ∙ go (lexeme_at s at) refl
    where
      go : (o : Lexeme) → lexeme_at s at ≡ o → marked at (λ n. mark_from (n - 1) (suc at) (drop (at + 1) s)) o ≡ mark_of at o
      go (gap n) e = absurd (let w : 1 ≤ n = subst Wide e (lexeme_wide (get_or s at 0) (drop (at + 1) s)) in omega (arith, ap gap_width e, whole))
      go (piece κ n) e = refl
      go (fault f) e = refl
