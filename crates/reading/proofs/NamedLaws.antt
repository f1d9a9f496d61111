-- Calls and methods by the length and the bytes of their names, as the arms of a match on a name tell them.
use mathlib.Core.Path.{◌≡◌, refl, sym, ap, ◌∙◌}
use mathlib.Core.Bool.{Bool, true, false, ◌&&◌}
use mathlib.Core.List.{List, [], ◌∷◌}
use Prim.Native.Nat.{ℕ, suc, ◌+◌, ◌≤◌}
use Prim.Native.String.{String}
use native.Mathlib.Omega.{arith}
use lib.Dec.{T, leb, eqb}
use borrow.Author.Tests.{eqb-true}
use lib.ListN.{length, get_or, drop, drop_of_length-le}
use lib.Seq.{drop-cons}
use Rattle.std.specs.Prelude.{if◌then◌else◌}
use Rattle.tokens.specs.Text.{bytes, same, every}
use Rattle.tokens.specs.Keys.{pack, lookup, keyed, key_of}
use Rattle.tokens.proofs.KeyLaws.{Spelled, Bytes, small, smalls, key_same}
use Rattle.tokens.proofs.Shapes.{same_eq, same_not}
use Rattle.grammar.specs.Grammar.{call_of}
use Rattle.reading.specs.Calls.{call_kind, call_by, method_kind}

spelled_from : (i : ℕ) (v w : List ℕ) → length w ≡ i + length v → Spelled i v w → drop i w ≡ v
spelled_from i [] w l h = drop_of_length-le w {i = i} (omega arith)
spelled_from i (b ∷ v) w l h = drop-cons w i 0 (omega arith) ∙ (λ j. h.0 j ∷ spelled_from (suc i) v w (omega arith) h.1 j)

-- a word that is spelled as s is s
spelled : (s : String) (w : List ℕ) → length w ≡ length (bytes s) → Spelled 0 (bytes s) w → bytes s ≡ w
spelled s w l h = sym (spelled_from 0 (bytes s) w (omega arith) h)

-- equal words have the same bytes
read : {v w : List ℕ} → v ≡ w → (i : ℕ) → get_or w i 0 ≡ get_or v i 0
read e i = ap (λ (x : List ℕ). get_or x i 0) (sym e)

-- ---- calls

pub calls_ln : (w : List ℕ) → length w ≡ 2 → get_or w 0 0 ≡ 108 → get_or w 1 0 ≡ 110 → 21 ≡ call_kind w
unfolding call_kind call_of same bytes
calls_ln w l h0 h1 = ap call_kind (spelled "ln" w l (h0, (h1, tt)))

pub calls_exp : (w : List ℕ) → length w ≡ 3 → get_or w 0 0 ≡ 101 → get_or w 1 0 ≡ 120 → get_or w 2 0 ≡ 112 → 22 ≡ call_kind w
unfolding call_kind call_of same bytes
calls_exp w l h0 h1 h2 = ap call_kind (spelled "exp" w l (h0, (h1, (h2, tt))))

pub calls_pow : (w : List ℕ) → length w ≡ 3 → get_or w 0 0 ≡ 112 → get_or w 1 0 ≡ 111 → get_or w 2 0 ≡ 119 → 12 ≡ call_kind w
unfolding call_kind call_of same bytes
calls_pow w l h0 h1 h2 = ap call_kind (spelled "pow" w l (h0, (h1, (h2, tt))))

pub calls_min : (w : List ℕ) → length w ≡ 3 → get_or w 0 0 ≡ 109 → get_or w 1 0 ≡ 105 → get_or w 2 0 ≡ 110 → 23 ≡ call_kind w
unfolding call_kind call_of same bytes
calls_min w l h0 h1 h2 = ap call_kind (spelled "min" w l (h0, (h1, (h2, tt))))

pub calls_max : (w : List ℕ) → length w ≡ 3 → get_or w 0 0 ≡ 109 → get_or w 1 0 ≡ 97 → get_or w 2 0 ≡ 120 → 24 ≡ call_kind w
unfolding call_kind call_of same bytes
calls_max w l h0 h1 h2 = ap call_kind (spelled "max" w l (h0, (h1, (h2, tt))))

pub calls_cvg : (w : List ℕ) → length w ≡ 3 → get_or w 0 0 ≡ 99 → get_or w 1 0 ≡ 118 → get_or w 2 0 ≡ 103 → 25 ≡ call_kind w
unfolding call_kind call_of same bytes
calls_cvg w l h0 h1 h2 = ap call_kind (spelled "cvg" w l (h0, (h1, (h2, tt))))

pub calls_fif : (w : List ℕ) → length w ≡ 3 → get_or w 0 0 ≡ 102 → get_or w 1 0 ≡ 105 → get_or w 2 0 ≡ 102 → 26 ≡ call_kind w
unfolding call_kind call_of same bytes
calls_fif w l h0 h1 h2 = ap call_kind (spelled "fif" w l (h0, (h1, (h2, tt))))

pub calls_range : (w : List ℕ) → length w ≡ 5 → get_or w 0 0 ≡ 114 → get_or w 1 0 ≡ 97 → get_or w 2 0 ≡ 110 → get_or w 3 0 ≡ 103 → get_or w 4 0 ≡ 101 → 27 ≡ call_kind w
unfolding call_kind call_of same bytes
calls_range w l h0 h1 h2 h3 h4 = ap call_kind (spelled "range" w l (h0, (h1, (h2, (h3, (h4, tt))))))

pub calls_Spot : (w : List ℕ) → length w ≡ 4 → get_or w 0 0 ≡ 83 → get_or w 1 0 ≡ 112 → get_or w 2 0 ≡ 111 → get_or w 3 0 ≡ 116 → 32 ≡ call_kind w
unfolding call_kind call_of same bytes
calls_Spot w l h0 h1 h2 h3 = ap call_kind (spelled "Spot" w l (h0, (h1, (h2, (h3, tt)))))

pub calls_Df : (w : List ℕ) → length w ≡ 2 → get_or w 0 0 ≡ 68 → get_or w 1 0 ≡ 102 → 34 ≡ call_kind w
unfolding call_kind call_of same bytes
calls_Df w l h0 h1 = ap call_kind (spelled "Df" w l (h0, (h1, tt)))

pub calls_RateIndex : (w : List ℕ) → length w ≡ 9 → get_or w 0 0 ≡ 82 → get_or w 1 0 ≡ 97 → get_or w 2 0 ≡ 116 → get_or w 3 0 ≡ 101 → get_or w 4 0 ≡ 73 → get_or w 5 0 ≡ 110 → get_or w 6 0 ≡ 100 → get_or w 7 0 ≡ 101 → get_or w 8 0 ≡ 120 → 35 ≡ call_kind w
unfolding call_kind call_of same bytes
calls_RateIndex w l h0 h1 h2 h3 h4 h5 h6 h7 h8 = ap call_kind (spelled "RateIndex" w l (h0, (h1, (h2, (h3, (h4, (h5, (h6, (h7, (h8, tt))))))))))

-- the definition's table, with its tests as arguments
abbrev table_by : (a b c d e f g h : Bool) → ℕ × ℕ × ℕ
table_by a b c d e f g h =
    elim a [ true ↦ (21, 1, 1) | false ↦ elim b [ true ↦ (22, 1, 1) | false ↦ elim c [ true ↦ (12, 2, 2) | false ↦ elim d [ true ↦ (23, 2, 100) | false ↦ elim e [ true ↦ (24, 2, 100) | false ↦ elim f [ true ↦ (25, 3, 3) | false ↦ elim g [ true ↦ (26, 4, 4) | false ↦ elim h [ true ↦ (27, 2, 2) | false ↦ (0, 0, 0) ] ] ] ] ] ] ] ]

abbrev kind_by : (a b c d e f g h i j k : Bool) → ℕ
kind_by a b c d e f g h i j k =
    let x = table_by a b c d e f g h in
    if leb 1 x.0 then x.0 else if i then 32 else if j then 34 else if k then 35 else 0

-- a name that is spelled as none of them is no call's
pub calls_none : (w : List ℕ)
    → (length w ≡ 2 → get_or w 0 0 ≡ 108 → get_or w 1 0 ≡ 110 → ⊥)
    → (length w ≡ 3 → get_or w 0 0 ≡ 101 → get_or w 1 0 ≡ 120 → get_or w 2 0 ≡ 112 → ⊥)
    → (length w ≡ 3 → get_or w 0 0 ≡ 112 → get_or w 1 0 ≡ 111 → get_or w 2 0 ≡ 119 → ⊥)
    → (length w ≡ 3 → get_or w 0 0 ≡ 109 → get_or w 1 0 ≡ 105 → get_or w 2 0 ≡ 110 → ⊥)
    → (length w ≡ 3 → get_or w 0 0 ≡ 109 → get_or w 1 0 ≡ 97 → get_or w 2 0 ≡ 120 → ⊥)
    → (length w ≡ 3 → get_or w 0 0 ≡ 99 → get_or w 1 0 ≡ 118 → get_or w 2 0 ≡ 103 → ⊥)
    → (length w ≡ 3 → get_or w 0 0 ≡ 102 → get_or w 1 0 ≡ 105 → get_or w 2 0 ≡ 102 → ⊥)
    → (length w ≡ 5 → get_or w 0 0 ≡ 114 → get_or w 1 0 ≡ 97 → get_or w 2 0 ≡ 110 → get_or w 3 0 ≡ 103 → get_or w 4 0 ≡ 101 → ⊥)
    → (length w ≡ 4 → get_or w 0 0 ≡ 83 → get_or w 1 0 ≡ 112 → get_or w 2 0 ≡ 111 → get_or w 3 0 ≡ 116 → ⊥)
    → (length w ≡ 2 → get_or w 0 0 ≡ 68 → get_or w 1 0 ≡ 102 → ⊥)
    → (length w ≡ 9 → get_or w 0 0 ≡ 82 → get_or w 1 0 ≡ 97 → get_or w 2 0 ≡ 116 → get_or w 3 0 ≡ 101 → get_or w 4 0 ≡ 73 → get_or w 5 0 ≡ 110 → get_or w 6 0 ≡ 100 → get_or w 7 0 ≡ 101 → get_or w 8 0 ≡ 120 → ⊥)
    → 0 ≡ call_kind w
unfolding call_kind call_of bytes
calls_none w no_ln no_exp no_pow no_min no_max no_cvg no_fif no_range no_Spot no_Df no_RateIndex =
    sym (λ x. kind_by
    (same_not (bytes "ln") w (λ e. no_ln (ap length (sym e)) (read e 0) (read e 1)) x)
    (same_not (bytes "exp") w (λ e. no_exp (ap length (sym e)) (read e 0) (read e 1) (read e 2)) x)
    (same_not (bytes "pow") w (λ e. no_pow (ap length (sym e)) (read e 0) (read e 1) (read e 2)) x)
    (same_not (bytes "min") w (λ e. no_min (ap length (sym e)) (read e 0) (read e 1) (read e 2)) x)
    (same_not (bytes "max") w (λ e. no_max (ap length (sym e)) (read e 0) (read e 1) (read e 2)) x)
    (same_not (bytes "cvg") w (λ e. no_cvg (ap length (sym e)) (read e 0) (read e 1) (read e 2)) x)
    (same_not (bytes "fif") w (λ e. no_fif (ap length (sym e)) (read e 0) (read e 1) (read e 2)) x)
    (same_not (bytes "range") w (λ e. no_range (ap length (sym e)) (read e 0) (read e 1) (read e 2) (read e 3) (read e 4)) x)
    (same_not (bytes "Spot") w (λ e. no_Spot (ap length (sym e)) (read e 0) (read e 1) (read e 2) (read e 3)) x)
    (same_not (bytes "Df") w (λ e. no_Df (ap length (sym e)) (read e 0) (read e 1)) x)
    (same_not (bytes "RateIndex") w (λ e. no_RateIndex (ap length (sym e)) (read e 0) (read e 1) (read e 2) (read e 3) (read e 4) (read e 5) (read e 6) (read e 7) (read e 8)) x))

-- what each arm of a match on a call's name leaves to show
pub ruleset called_names = (calls_ln, calls_exp, calls_pow, calls_min, calls_max, calls_cvg, calls_fif, calls_range, calls_Spot, calls_Df, calls_RateIndex, calls_none)

-- ---- calls by their keys

-- the table of keys, with its tests as arguments
abbrev short_by : (a b c d e f g h i j : Bool) → ℕ
short_by a b c d e f g h i j =
    elim a [ true ↦ 21 | false ↦ elim b [ true ↦ 22 | false ↦ elim c [ true ↦ 12 | false ↦ elim d [ true ↦ 23 | false ↦ elim e [ true ↦ 24 | false ↦ elim f [ true ↦ 25 | false ↦ elim g [ true ↦ 26 | false ↦ elim h [ true ↦ 27 | false ↦ elim i [ true ↦ 32 | false ↦ elim j [ true ↦ 34 | false ↦ 0 ] ] ] ] ] ] ] ] ] ]

kinds_meet : (a b c d e f g h i j k : Bool) → kind_by a b c d e f g h i j k ≡ (if eqb (short_by a b c d e f g h i j) 0 then (if k then 35 else 0) else short_by a b c d e f g h i j)
kinds_meet true b c d e f g h i j k = refl
kinds_meet false true c d e f g h i j k = refl
kinds_meet false false true d e f g h i j k = refl
kinds_meet false false false true e f g h i j k = refl
kinds_meet false false false false true f g h i j k = refl
kinds_meet false false false false false true g h i j k = refl
kinds_meet false false false false false false true h i j k = refl
kinds_meet false false false false false false false true i j k = refl
kinds_meet false false false false false false false false true j k = refl
kinds_meet false false false false false false false false false true k = refl
kinds_meet false false false false false false false false false false k = refl

module _ (w : List ℕ) (h : Bytes w) where
  abbrev key_is : String → Bool
  key_is s = eqb (key_of w) (pack (bytes s))

  told : (s : String) → T (every small (bytes s)) → length (bytes s) ≤ 6 → same (bytes s) w ≡ key_is s
  told s g l = key_same (bytes s) w g l (smalls w h)

  -- a name of at most six bytes is a call's by the number that its bytes make, and `RateIndex` alone is longer
  pub call_is : call_kind w ≡ (if eqb (call_by (key_of w)) 0 then (if same (bytes "RateIndex") w then 35 else 0) else call_by (key_of w))
  unfolding call_kind call_of call_by lookup keyed bytes every
  call_is =
      (λ x. kind_by (told "ln" tt (omega arith) x) (told "exp" tt (omega arith) x) (told "pow" tt (omega arith) x) (told "min" tt (omega arith) x)
      (told "max" tt (omega arith) x) (told "cvg" tt (omega arith) x) (told "fif" tt (omega arith) x) (told "range" tt (omega arith) x)
      (told "Spot" tt (omega arith) x) (told "Df" tt (omega arith) x) (same (bytes "RateIndex") w))
      ∙ kinds_meet (key_is "ln") (key_is "exp") (key_is "pow") (key_is "min") (key_is "max") (key_is "cvg") (key_is "fif") (key_is "range") (key_is "Spot") (key_is "Df") (same (bytes "RateIndex") w)

-- ---- methods

pub method_append : (w : List ℕ) (n : ℕ) → length w ≡ 6 → get_or w 0 0 ≡ 97 → get_or w 1 0 ≡ 112 → get_or w 2 0 ≡ 112 → get_or w 3 0 ≡ 101 → get_or w 4 0 ≡ 110 → get_or w 5 0 ≡ 100 → n ≡ 1 → 29 ≡ method_kind w n
unfolding method_kind same bytes
method_append w n l h0 h1 h2 h3 h4 h5 e =
    let v = spelled "append" w l (h0, (h1, (h2, (h3, (h4, (h5, tt)))))) in
    let m : 1 ≡ n = sym e in
    λ i. method_kind (v i) (m i)

pub method_mean : (w : List ℕ) (n : ℕ) → length w ≡ 4 → get_or w 0 0 ≡ 109 → get_or w 1 0 ≡ 101 → get_or w 2 0 ≡ 97 → get_or w 3 0 ≡ 110 → n ≡ 0 → 30 ≡ method_kind w n
unfolding method_kind same bytes
method_mean w n l h0 h1 h2 h3 e =
    let v = spelled "mean" w l (h0, (h1, (h2, (h3, tt)))) in
    let m : 0 ≡ n = sym e in
    λ i. method_kind (v i) (m i)

pub method_std : (w : List ℕ) (n : ℕ) → length w ≡ 3 → get_or w 0 0 ≡ 115 → get_or w 1 0 ≡ 116 → get_or w 2 0 ≡ 100 → n ≡ 0 → 31 ≡ method_kind w n
unfolding method_kind same bytes
method_std w n l h0 h1 h2 e =
    let v = spelled "std" w l (h0, (h1, (h2, tt))) in
    let m : 0 ≡ n = sym e in
    λ i. method_kind (v i) (m i)

-- another word, or another count
other : (v w : List ℕ) (n k : ℕ) → (v ≡ w → n ≡ k → ⊥) → (same v w && eqb n k) ≡ false
other v w n k h = go (same v w) refl (eqb n k) refl
  where
    go : (a : Bool) → same v w ≡ a → (b : Bool) → eqb n k ≡ b → (a && b) ≡ false
    go true e true q = absurd (h (same_eq v w e) (eqb-true n k q))
    go true e false q = refl
    go false e b q = refl

abbrev method_by : (a b c : Bool) → ℕ
method_by a b c = if a then 29 else if b then 30 else if c then 31 else 0

-- a name that is spelled as none of them, or stands before another count, is no method's
pub method_none : (w : List ℕ) (n : ℕ)
    → (length w ≡ 6 → get_or w 0 0 ≡ 97 → get_or w 1 0 ≡ 112 → get_or w 2 0 ≡ 112 → get_or w 3 0 ≡ 101 → get_or w 4 0 ≡ 110 → get_or w 5 0 ≡ 100 → n ≡ 1 → ⊥)
    → (length w ≡ 4 → get_or w 0 0 ≡ 109 → get_or w 1 0 ≡ 101 → get_or w 2 0 ≡ 97 → get_or w 3 0 ≡ 110 → n ≡ 0 → ⊥)
    → (length w ≡ 3 → get_or w 0 0 ≡ 115 → get_or w 1 0 ≡ 116 → get_or w 2 0 ≡ 100 → n ≡ 0 → ⊥)
    → 0 ≡ method_kind w n
unfolding method_kind bytes
method_none w n no_append no_mean no_std =
    sym (λ x. method_by
    (other (bytes "append") w n 1 (λ e q. no_append (ap length (sym e)) (read e 0) (read e 1) (read e 2) (read e 3) (read e 4) (read e 5) q) x)
    (other (bytes "mean") w n 0 (λ e q. no_mean (ap length (sym e)) (read e 0) (read e 1) (read e 2) (read e 3) q) x)
    (other (bytes "std") w n 0 (λ e q. no_std (ap length (sym e)) (read e 0) (read e 1) (read e 2) q) x))

-- what each arm of a match on a method's name and count leaves to show
pub ruleset called_methods = (method_append, method_mean, method_std, method_none)
