-- What is kept while a literal is read, in capped counts, says what the definition says of its bytes.
use Rattle.std.specs.Prelude.{if◌then◌else◌}
use mathlib.Core.Path.{◌≡◌, refl, sym, ap₂, ◌∙◌}
use mathlib.Core.Bool.{Bool, true, false, ◌||◌}
use mathlib.Core.List.{List, [], ◌∷◌}
use Prim.Native.Nat.{ℕ, suc, ◌+◌, ◌-◌, ◌*◌, ◌≤◌, min}
use native.Mathlib.Nat.{zero-add}
use native.Mathlib.Omega.{arith}
use lib.Dec.{ltb, leb, eqb}
use lib.IntN.{pos}
use lib.Ieee.{binary64, of_int}
use borrow.Author.Tests.{lt-ltb, le-ltb, eq-eqb, ne_eqb, ltb-true, ltb-false, leb-false, eqb-true, eqb-false}
use Rattle.tokens.specs.declared.numbers.Run.{Run}
use Rattle.tokens.specs.Text.{count}
use Rattle.tokens.specs.Limits.{most_digits, most_decimals}
use Rattle.tokens.specs.Numbers.{digits, decimals, fault_of, number_fault, quotient, value, value_of}
use Rattle.tokens.specs.Runs.{up, grow, feed, feed_all, begin}

-- ---- each count, up to its cap

up_min : (n k cap : ℕ) → min cap (up n cap + k) ≡ min cap (n + (1 + k))
up_min n k cap = go (ltb n cap) refl
  where
    go : (t : Bool) → ltb n cap ≡ t → min cap (up n cap + k) ≡ min cap (n + (1 + k))
    go true e = rw e (omega arith)
    go false e = rw e (omega (arith, ltb-false n cap e))

up_pos : (n : ℕ) → ltb 0 (up n 2) ≡ true
up_pos n = go (ltb n 2) refl
  where
    go : (t : Bool) → ltb n 2 ≡ t → ltb 0 (up n 2) ≡ true
    go true e = rw e (lt-ltb 0 (n + 1) (omega arith))
    go false e = rw e (lt-ltb 0 n (omega (arith, ltb-false n 2 e)))

dots_one : (b : ℕ) (s : List ℕ) (r : Run) → min 2 ((feed r b).dots + count (eqb 46) s) ≡ min 2 (r.dots + count (eqb 46) (b ∷ s))
unfolding count
dots_one b s r = go (eqb b 46) refl
  where
    go : (t : Bool) → eqb b 46 ≡ t → min 2 ((feed r b).dots + count (eqb 46) s) ≡ min 2 (r.dots + count (eqb 46) (b ∷ s))
    go true e = simp (e, eq-eqb 46 b (sym (eqb-true b 46 e)), count) (up_min r.dots (count (eqb 46) s) 2)
    go false e = simp (e, ne_eqb 46 b (λ h. eqb-false b 46 e (sym h)), count, zero-add)

dots_are : (s : List ℕ) (r : Run) → min 2 (feed_all s r).dots ≡ min 2 (r.dots + count (eqb 46) s)
unfolding count feed_all
dots_are [] r = omega arith
dots_are (b ∷ s) r = dots_are s (feed r b) ∙ dots_one b s r

decimals_one : (b : ℕ) (s : List ℕ) (r : Run)
    → min 16 ((feed r b).decimals + decimals (ltb 0 (feed r b).dots) s) ≡ min 16 (r.decimals + decimals (ltb 0 r.dots) (b ∷ s))
unfolding decimals
decimals_one b s r = go (eqb b 46) (ltb 0 r.dots) refl refl
  where
    go : (t u : Bool) → eqb b 46 ≡ t → ltb 0 r.dots ≡ u
        → min 16 ((feed r b).decimals + decimals (ltb 0 (feed r b).dots) s) ≡ min 16 (r.decimals + decimals (ltb 0 r.dots) (b ∷ s))
    go true true e f = simp (e, f, up_pos r.dots, decimals, zero-add)
    go true false e f = simp (e, f, up_pos r.dots, decimals, zero-add)
    go false true e f = simp (e, f, decimals) (up_min r.decimals (decimals true s) 16)
    go false false e f = simp (e, f, decimals, zero-add)

decimals_are : (s : List ℕ) (r : Run) → min 16 (feed_all s r).decimals ≡ min 16 (r.decimals + decimals (ltb 0 r.dots) s)
unfolding decimals feed_all
decimals_are [] r = omega arith
decimals_are (b ∷ s) r = decimals_are s (feed r b) ∙ decimals_one b s r

digits_grow : (n : ℕ) (s : List ℕ) → n ≤ digits n s
unfolding digits
digits_grow n [] = omega arith
digits_grow n (b ∷ s) = go (eqb b 46) (digits_grow n s) (digits_grow (n * 10 + (b - 48)) s)
  where
    go : (t : Bool) → n ≤ digits n s → n * 10 + (b - 48) ≤ digits (n * 10 + (b - 48)) s → n ≤ digits (if t then n else n * 10 + (b - 48)) s
    go true h k = h
    go false h k = omega arith

grow_one : (n b : ℕ) (s : List ℕ) → min (suc most_digits) (digits (grow n b) s) ≡ min (suc most_digits) (digits (n * 10 + (b - 48)) s)
grow_one n b s = go (leb n most_digits) refl
  where
    go : (t : Bool) → leb n most_digits ≡ t → min (suc most_digits) (digits (grow n b) s) ≡ min (suc most_digits) (digits (n * 10 + (b - 48)) s)
    go true e = rw e
    go false e = rw e (omega (arith, leb-false n most_digits e, digits_grow n s, digits_grow (n * 10 + (b - 48)) s))

digits_one : (b : ℕ) (s : List ℕ) (r : Run) → min (suc most_digits) (digits (feed r b).digits s) ≡ min (suc most_digits) (digits r.digits (b ∷ s))
unfolding digits
digits_one b s r = go (eqb b 46) refl
  where
    go : (t : Bool) → eqb b 46 ≡ t → min (suc most_digits) (digits (feed r b).digits s) ≡ min (suc most_digits) (digits r.digits (b ∷ s))
    go true e = simp (e, digits)
    go false e = simp (e, digits) (grow_one r.digits b s)

digits_are : (s : List ℕ) (r : Run) → min (suc most_digits) (feed_all s r).digits ≡ min (suc most_digits) (digits r.digits s)
unfolding digits feed_all
digits_are [] r = refl
digits_are (b ∷ s) r = digits_are s (feed r b) ∙ digits_one b s r

-- ---- what is judged

-- it depends on no more than the capped counts
same_fault : (a b m n j k : ℕ) → min 2 a ≡ min 2 b → min (suc most_digits) m ≡ min (suc most_digits) n → min 16 j ≡ min 16 k → fault_of a m j ≡ fault_of b n k
same_fault a b m n j k p q r = simp (same_test 1 a b p, same_test most_digits m n q, same_test most_decimals j k r)
  where
    same_test : (cap x y : ℕ) → min (suc cap) x ≡ min (suc cap) y → ltb cap x ≡ ltb cap y
    same_test cap x y h = go (ltb cap x) refl
      where
        go : (t : Bool) → ltb cap x ≡ t → ltb cap x ≡ ltb cap y
        go true e = e ∙ sym (lt-ltb cap y (omega (arith, ltb-true cap x e)))
        go false e = e ∙ sym (le-ltb cap y (omega (arith, ltb-false cap x e)))

module _ (d n k : ℕ) where
  -- a literal that is taken is within the limits
  pub fault_none : fault_of d n k ≡ 0 → (n ≤ most_digits) × (k ≤ most_decimals)
  fault_none = go (ltb 1 d) (ltb most_digits n) (ltb most_decimals k) refl refl
    where
      go : (t u v : Bool) → ltb most_digits n ≡ u → ltb most_decimals k ≡ v → ◌≡◌ {A = ℕ} (if t then 5 else (if u || v then 6 else 0)) 0
          → (n ≤ most_digits) × (k ≤ most_decimals)
      go true u v e f h = absurd (omega arith)
      go false true v e f h = absurd (omega arith)
      go false false true e f h = absurd (omega arith)
      go false false false e f h = (ltb-false most_digits n e, ltb-false most_decimals k f)

  fault_le : fault_of d n k ≤ 6
  fault_le = go (ltb 1 d) (ltb most_digits n || ltb most_decimals k)
    where
      go : (t u : Bool) → (if t then 5 else (if u then 6 else 0)) ≤ 6
      go true u = omega arith
      go false true = omega arith
      go false false = omega arith

pub fault_small : (w : List ℕ) → number_fault w ≤ 6
unfolding number_fault
fault_small w = fault_le (count (eqb 46) w) (digits 0 w) (decimals false w)

-- what is kept at the end of the bytes w
module _ (w : List ℕ) (r : Run) (e : r ≡ feed_all w begin) where
  dots_kept : min 2 r.dots ≡ min 2 (count (eqb 46) w)
  dots_kept = rw e (dots_are w begin ∙ simp zero-add)

  digits_kept : min (suc most_digits) r.digits ≡ min (suc most_digits) (digits 0 w)
  digits_kept = rw e (digits_are w begin)

  decimals_kept : min 16 r.decimals ≡ min 16 (decimals false w)
  decimals_kept = rw e (decimals_are w begin ∙ simp zero-add)

  pub fault_said : fault_of r.dots r.digits r.decimals ≡ number_fault w
  unfolding number_fault
  fault_said = same_fault r.dots (count (eqb 46) w) r.digits (digits 0 w) r.decimals (decimals false w) dots_kept digits_kept decimals_kept

  pub value_said : fault_of r.dots r.digits r.decimals ≡ 0 → quotient r.digits r.decimals ≡ value_of w
  unfolding value_of value
  value_said h =
      let l = fault_none r.dots r.digits r.decimals h in
      let n : r.digits ≡ digits 0 w = omega (arith, digits_kept) in
      let k : r.decimals ≡ decimals false w = omega (arith, decimals_kept) in
      ap₂ quotient n k ∙ simp (eq-eqb (number_fault w) 0 (sym fault_said ∙ h))

  pub value_none : (fault_of r.dots r.digits r.decimals ≡ 0 → ⊥) → of_int binary64 (pos 0) ≡ value_of w
  unfolding value_of
  value_none h = simp (ne_eqb (number_fault w) 0 (λ z. h (fault_said ∙ z)))
