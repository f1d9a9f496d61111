-- A name that stands in a list leaves its first byte, its last and a line feed there, as far apart as they are in it.
use mathlib.Core.Path.{◌≡◌, refl, sym, ap, ◌∙◌}
use mathlib.Core.Bool.{Bool, true, false}
use mathlib.Core.List.{List, [], ◌∷◌}
use Prim.Native.Nat.{ℕ, zero, suc, ◌+◌, ◌-◌, ◌≤◌, ◌<◌}
use native.Mathlib.Omega.{arith}
use lib.Dec.{eqb, ltb}
use borrow.Author.Tests.{ltb-true, ltb-false, eqb-true, eqb-false}
use lib.ListN.{length, get_or, drop, take, length-drop}
use lib.Seq.{get_or-take, get_or-drop, length-take-le}
use Rattle.tokens.specs.Text.{same, leading, other}
use Rattle.tokens.specs.Names.{names, place}
use Rattle.tokens.specs.Sieve.{Sifts}
use Rattle.tokens.proofs.Shapes.{same_eq}
use Rattle.tokens.proofs.NameLaws.{line_feed, line_other, after, after_zero, place_turn, place_end}

-- a text whose last byte is a line feed has its first one inside
abbrev Stops : List ℕ → Type 0
Stops t = (leading (other 10) t < length t) × (get_or t (leading (other 10) t) 0 ≡ 10)

line_stop : (t : List ℕ) (m : ℕ) → suc m ≡ length t → get_or t m 0 ≡ 10 → Stops t
line_stop [] m p e = absurd (omega arith)
line_stop (b ∷ t) m p e = go (eqb b 10) refl t m p e (line_stop t)
  where
    go : (x : Bool) → eqb b 10 ≡ x → (t : List ℕ) (m : ℕ) → suc m ≡ suc (length t) → get_or (b ∷ t) m 0 ≡ 10 →
        ((m : ℕ) → suc m ≡ length t → get_or t m 0 ≡ 10 → Stops t) → Stops (b ∷ t)
    go true w t m p e k = rw (line_feed b t w) (omega arith, eqb-true b 10 w)
    go false w [] zero p e k = absurd (eqb-false b 10 w e)
    go false w [] (suc m) p e k = absurd (omega arith)
    go false w (d ∷ t) zero p e k = absurd (omega arith)
    go false w (d ∷ t) (suc m) p e k =
        let q = k m (omega arith) e in
        rw (line_other b (d ∷ t) w) (omega (arith, q.0), q.1)

module _ (s n : List ℕ) (h : 1 ≤ length n) (m : ℕ) (z : suc m ≡ length s) (last_is : get_or s m 0 ≡ 10) (r : ℕ) (x : r ≡ 0 → ⊥)
    (y : Sifts s (length n) (get_or n 0 0) (get_or n (length n - 1) 0) (length s - length n) r) where
  -- so none of the names is this one
  clash : (at e : ℕ) → at < length s → e ≡ at + leading (other 10) (drop at s) → same (take (e - at) (drop at s)) n ≡ true → ⊥
  clash at e l p w =
      let q : take (e - at) (drop at s) ≡ n = same_eq _ _ w in
      let back : at + (m - at) ≡ m = omega arith in
      let c : Stops (drop at s) = line_stop (drop at s) (m - at) (omega (arith, length-drop at s)) (get_or-drop at s (m - at) 0 ∙ ap (λ (i : ℕ). get_or s i 0) back ∙ last_is) in
      let g : length n ≡ e - at = ap length (sym q) ∙ length-take-le (e - at) (drop at s) (omega (arith, c.0)) in
      let f : (i : ℕ) → i < length n → get_or s (at + i) 0 ≡ get_or n i 0 =
      λ i v. sym (get_or-drop at s i 0) ∙ sym (get_or-take (e - at) (drop at s) i 0 (omega (arith, g, v))) ∙ ap (λ (t : List ℕ). get_or t i 0) q in
      let first : at ≡ at + 0 = omega arith in
      let final : at + length n - 1 ≡ at + (length n - 1) = omega arith in
      let feed : at + length n ≡ at + leading (other 10) (drop at s) = omega (arith, g) in
      x (y at (omega (arith, g, c.0, length-drop at s))
      (ap (λ (i : ℕ). get_or s i 0) first ∙ f 0 (omega arith))
      (ap (λ (i : ℕ). get_or s i 0) final ∙ f (length n - 1) (omega arith))
      (ap (λ (i : ℕ). get_or s i 0) feed ∙ sym (get_or-drop at s (leading (other 10) (drop at s)) 0) ∙ c.1))

  none_from : (f at : ℕ) → length s ≤ f + at → place (names (drop at s)) n ≡ 0
  unfolding after
  none_from zero at l = sym (after_zero _) ∙ sym (place_end s at 0 n (omega arith))
  none_from (suc f) at l = go (ltb at (length s)) refl (none_from f)
    where
      e : ℕ
      e = at + leading (other 10) (drop at s)

      turn : (t : Bool) → same (take (e - at) (drop at s)) n ≡ t → at < length s → place (names (drop (e + 1) s)) n ≡ 0 → place (names (drop at s)) n ≡ 0
      turn true w o k = absurd (clash at e o refl w)
      turn false w o k = sym (after_zero _) ∙ sym (place_turn s at e 0 n o refl w) ∙ ap (after 1) k

      go : (t : Bool) → ltb at (length s) ≡ t → ((a : ℕ) → length s ≤ f + a → place (names (drop a s)) n ≡ 0) → place (names (drop at s)) n ≡ 0
      go true o k = turn (same (take (e - at) (drop at s)) n) refl (ltb-true at (length s) o) (k (e + 1) (omega arith))
      go false o k = sym (after_zero _) ∙ sym (place_end s at 0 n (omega (arith, ltb-false at (length s) o)))

  pub sifted : place (names s) n ≡ 0
  sifted = none_from (length s) 0 (omega arith)
