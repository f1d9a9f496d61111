-- Lines and columns, one byte at a time: a line from the front, a column backwards from its place.
use Rattle.std.specs.Prelude.{if◌then◌else◌}
use mathlib.Core.Path.{◌≡◌, refl, sym, ap, ◌∙◌}
use mathlib.Core.Bool.{Bool, true, false, cond, not}
use mathlib.Core.List.{List, [], ◌∷◌, ◌++◌, reverse}
use Prim.Native.Nat.{ℕ, suc, ◌+◌, ◌≤◌, ◌<◌, min}
use native.Mathlib.Nat.{min-le_left}
use native.Mathlib.Numerals.{add-one}
use native.Mathlib.Omega.{arith}
use lib.Dec.{eqb}
use lib.ListN.{length, take, get_or, length-take}
use lib.Seq.{take_all, take-suc}
use borrow.Author.Tests.{eq-eqb, ne_eqb, eqb-true, eqb-false}
use Rattle.tokens.specs.Text.{count, continuation}
use Rattle.tokens.specs.Places.{line, since, column}
use Rattle.std.specs.List.{take_while}
use Rattle.std.proofs.lemmas.List.{reverse-reverse, take_min}
use Rattle.std.proofs.lemmas.Grind.{reverse_onto}
use Rattle.std.proofs.lemmas.List.Sums.{take_while-cons}
use Rattle.tokens.proofs.TextLaws.{count_few, count_join}

-- ---- the line

pub line_first : (s : List ℕ) → 1 ≡ line s 0
unfolding line count
line_first s = refl

module _ (s : List ℕ) (i : ℕ) (h : i < length s) where
  line_next : line s (i + 1) ≡ line s i + count (eqb 10) (get_or s i 0 ∷ [])
  unfolding line
  line_next = rw (add-one i, take-suc s i 0 h) (omega (arith, count_join (eqb 10) (take i s) (get_or s i 0 ∷ [])))

  pub line_fed : get_or s i 0 ≡ 10 → line s i + 1 ≡ line s (i + 1)
  unfolding count
  line_fed q = sym (line_next ∙ rw (eq-eqb 10 _ (sym q)) (omega arith))

  pub line_on : (get_or s i 0 ≡ 10 → ⊥) → line s i ≡ line s (i + 1)
  unfolding count
  line_on q = sym (line_next ∙ rw (ne_eqb 10 _ (λ p. q (sym p))) (omega arith))

-- the bytes before the place are passed
pub line_whole : (s : List ℕ) (at e i : ℕ) → e ≡ min at (length s) → length (take e s) ≤ i → line (take e s) i ≡ line s at
unfolding line
line_whole s at e i h l = rw (take_all i (take e s) l, h, take_min at s)

-- ---- the column

since_join : (k : ℕ) (xs ys : List ℕ) → since k (xs ++ ys) ≡ since (since k xs) ys
unfolding since
since_join k [] ys = refl
since_join k (b ∷ xs) ys = since_join (if eqb 10 b then 0 else (if continuation b then k else suc k)) xs ys

-- from the place back to the line feed: the bytes of the line, and those of them that begin a character
abbrev pub in_line : ℕ → Bool
in_line b = not (eqb b 10)

abbrev pub starts : ℕ → Bool
starts b = not (continuation b)

since_back : (t : List ℕ) → since 0 (reverse t) ≡ count starts (take_while in_line t)
unfolding since count
since_back [] = refl
since_back (b ∷ t) =
    ap (since 0) (reverse_onto t b []) ∙ since_join 0 (reverse t) (b ∷ []) ∙ go (eqb b 10) refl (continuation b) refl (since_back t)
    ∙ ap (count starts) (sym (take_while-cons in_line b t))
  where
    go : (n : Bool) → eqb b 10 ≡ n → (u : Bool) → continuation b ≡ u → since 0 (reverse t) ≡ count starts (take_while in_line t)
        → since (since 0 (reverse t)) (b ∷ []) ≡ count starts (cond (in_line b) (b ∷ take_while in_line t) [])
    go true p u q h = simp (p, eq-eqb 10 b (sym (eqb-true b 10 p)), since, count)
    go false p true q h = simp (p, ne_eqb 10 b (λ z. eqb-false b 10 p (sym z)), q, since, count) (omega arith)
    go false p false q h = simp (p, ne_eqb 10 b (λ z. eqb-false b 10 p (sym z)), q, since, count) (omega arith)

-- n characters begin on the line before the place
pub column_counted : (s : List ℕ) (at i n : ℕ) → i ≡ min at (length s) → n ≡ count starts (take_while in_line (reverse (take i s))) → 1 + n ≡ column s at
unfolding column
column_counted s at i n e h = rw (h, ← since_back (reverse (take i s)), reverse-reverse, e, take_min at s) (omega arith)

-- ---- line and column of a place are no further than the place

since_within : (k : ℕ) (s : List ℕ) → since k s ≤ k + length s
unfolding since
since_within k [] = omega arith
since_within k (b ∷ s) = go (eqb 10 b) (continuation b) (since_within 0 s) (since_within k s) (since_within (suc k) s)
  where
    go : (t u : Bool) → since 0 s ≤ 0 + length s → since k s ≤ k + length s → since (suc k) s ≤ suc k + length s
        → since (if t then 0 else (if u then k else suc k)) s ≤ k + suc (length s)
    go true u h g f = omega arith
    go false true h g f = omega arith
    go false false h g f = omega arith

pub line_within : (bs : List ℕ) (at : ℕ) → line bs at ≤ suc at
unfolding line
line_within bs at = omega (arith, count_few (eqb 10) (take at bs), length-take at bs, min-le_left at (length bs))

pub column_within : (bs : List ℕ) (at : ℕ) → column bs at ≤ suc at
unfolding column
column_within bs at = omega (arith, since_within 0 (take at bs), length-take at bs, min-le_left at (length bs))
