-- The names of a list, one at a time, and what holds of all of them.
use mathlib.Core.Path.{◌≡◌, refl, sym, ap, ◌∙◌}
use mathlib.Core.Bool.{Bool, true, false, not, ◌&&◌, ◌||◌, and-false, or-true, or_assoc, true≢false}
use mathlib.Core.List.{List, [], ◌∷◌, ◌++◌, append_assoc, append-nil}
use Prim.Native.Nat.{ℕ, zero, suc, ◌+◌, ◌-◌, ◌≤◌, ◌<◌}
use native.Mathlib.Nat.{zero-add, add_comm}
use native.Mathlib.Numerals.{add-one}
use native.Mathlib.Omega.{arith}
use lib.Dec.{eqb, leb, ltb}
use borrow.Author.Tests.{ltb-true, ltb-false, leb-true, eq-eqb, le-leb, not-true}
use lib.ListN.{length, drop, take, drop_of_length-le, length-drop, take-append-drop}
use lib.Seq.{drop-drop, take_all, take-add}
use Rattle.tokens.specs.Text.{same, every, leading, other}
use Rattle.std.specs.Prelude.{Some, None}
use Rattle.tokens.specs.Names.{push, names, ended, place, index_of, member, distinct, good_name, good_names, usd_first, good_list}
use Rattle.tokens.proofs.Shapes.{same_eq, leading_le}

pub and_true_both : (a b : Bool) → (a && b) ≡ true → (a ≡ true) × (b ≡ true)
and_true_both true b h = (refl, h)
and_true_both false b h = absurd (true≢false (sym h))

or_false_both : (a b : Bool) → (a || b) ≡ false → (a ≡ false) × (b ≡ false)
or_false_both true b h = absurd (true≢false h)
or_false_both false b h = (refl, h)

-- ---- no names
pub none_good : (money : Bool) (l : List ℕ) → length l ≡ 0 → good_names money (names l) ≡ true
unfolding names good_names every distinct
none_good money [] h = refl
none_good money (b ∷ l) h = absurd (omega arith)

-- ---- equal bytes
same_self : (a : List ℕ) → same a a ≡ true
unfolding same
same_self [] = refl
same_self (x ∷ a) = rw (eq-eqb x x refl, same) (same_self a)

same_swap : (a b : List ℕ) → same a b ≡ same b a
same_swap a b = go (same a b) (same b a) refl refl
  where
    go : (t u : Bool) → same a b ≡ t → same b a ≡ u → same a b ≡ same b a
    go true true d e = d ∙ sym e
    go false false d e = d ∙ sym e
    go true false d e = absurd (true≢false (sym (rw (same_eq a b d) (same_self b)) ∙ e))
    go false true d e = absurd (true≢false (sym (rw (same_eq b a e) (same_self a)) ∙ d))

-- ---- every element
module _ {A : Type 0} (f : A → Bool) where
  pub every_cons : (a : A) (xs : List A) → f a ≡ true → every f (a ∷ xs) ≡ every f xs
  unfolding every
  every_cons a xs e = rw (every, e)

  pub every_other : (a : A) (xs : List A) → f a ≡ false → every f (a ∷ xs) ≡ false
  unfolding every
  every_other a xs e = rw (every, e)

  pub every_append : (xs ys : List A) → every f (xs ++ ys) ≡ (every f xs && every f ys)
  unfolding every
  every_append [] ys = refl
  every_append (a ∷ xs) ys = go (f a) refl (every_append xs ys)
    where
      go : (t : Bool) → f a ≡ t → every f (xs ++ ys) ≡ (every f xs && every f ys) → every f (a ∷ xs ++ ys) ≡ (every f (a ∷ xs) && every f ys)
      go true e k = simp (every_cons a xs e, every_cons a (xs ++ ys) e) k
      go false e k = simp (every_other a xs e, every_other a (xs ++ ys) e)

-- ---- the first name of a list: its bytes up to the line feed, or all of them
abbrev line : List ℕ → ℕ
line s = leading (other 10) s

pub names_feed : (b : ℕ) (s : List ℕ) → eqb b 10 ≡ true → names (b ∷ s) ≡ [] ∷ names s
unfolding names
names_feed b s e = simp (names, e)

pub names_other : (b : ℕ) (s : List ℕ) → eqb b 10 ≡ false → names (b ∷ s) ≡ push b (names s)
unfolding names
names_other b s e = simp (names, e)

pub line_feed : (b : ℕ) (s : List ℕ) → eqb b 10 ≡ true → line (b ∷ s) ≡ 0
unfolding leading
line_feed b s e = simp (leading, e)

pub line_other : (b : ℕ) (s : List ℕ) → eqb b 10 ≡ false → line (b ∷ s) ≡ suc (line s)
unfolding leading
line_other b s e = simp (leading, e)

-- with its line feed it stands before other names
line_then : (s t : List ℕ) → line s < length s → names (take (suc (line s)) s ++ t) ≡ take (line s) s ∷ names t
unfolding leading push
line_then [] t h = absurd (omega arith)
line_then (b ∷ s) t h = go (eqb b 10) refl (line_then s t)
  where
    go : (x : Bool) → eqb b 10 ≡ x → (line s < length s → names (take (suc (line s)) s ++ t) ≡ take (line s) s ∷ names t) →
        names (take (suc (line (b ∷ s))) (b ∷ s) ++ t) ≡ take (line (b ∷ s)) (b ∷ s) ∷ names t
    go true e k = rw (line_feed b s e) (names_feed b t e)
    go false e k = rw (line_other b s e) (names_other b (take (suc (line s)) s ++ t) e ∙ ap (push b) (k (omega (arith, line_other b s e))))

line_last : (s : List ℕ) → 1 ≤ length s → line s ≡ length s → names s ≡ s ∷ []
unfolding leading names push
line_last [] h e = absurd (omega arith)
line_last (b ∷ s) h e = go (eqb b 10) refl s e (line_last s)
  where
    go : (x : Bool) → eqb b 10 ≡ x → (s : List ℕ) → line (b ∷ s) ≡ suc (length s) → (1 ≤ length s → line s ≡ length s → names s ≡ s ∷ []) → names (b ∷ s) ≡ (b ∷ s) ∷ []
    go true w s e k = absurd (omega (arith, line_feed b s w))
    go false w [] e k = names_other b [] w
    go false w (d ∷ s) e k = names_other b (d ∷ s) w ∙ ap (push b) (k (omega arith) (omega (arith, line_other b (d ∷ s) w)))

names_first : (s : List ℕ) → 1 ≤ length s → names s ≡ take (line s) s ∷ names (drop (suc (line s)) s)
unfolding names
names_first s h = go (ltb (line s) (length s)) refl
  where
    go : (t : Bool) → ltb (line s) (length s) ≡ t → names s ≡ take (line s) s ∷ names (drop (suc (line s)) s)
    go true e = ap names (sym (take-append-drop (suc (line s)) s)) ∙ line_then s (drop (suc (line s)) s) (ltb-true (line s) (length s) e)
    go false e =
        let l : line s ≡ length s = omega (arith, ltb-false (line s) (length s) e, leading_le (other 10) s) in
        let d : length s ≤ suc (line s) = omega arith in
        line_last s h l ∙ rw (take_all (line s) s (omega arith), drop_of_length-le s d)

-- nothing stands behind it
line_only : (s : List ℕ) → 1 ≤ length s → names (take (suc (line s)) s) ≡ take (line s) s ∷ []
unfolding names
line_only s h = go (ltb (line s) (length s)) refl
  where
    go : (t : Bool) → ltb (line s) (length s) ≡ t → names (take (suc (line s)) s) ≡ take (line s) s ∷ []
    go true e = ap names (sym (append-nil (take (suc (line s)) s))) ∙ line_then s [] (ltb-true (line s) (length s) e)
    go false e =
        let l : line s ≡ length s = omega (arith, ltb-false (line s) (length s) e, leading_le (other 10) s) in
        rw (take_all (suc (line s)) s (omega arith), take_all (line s) s (omega arith)) (line_last s h l)

-- ---- the names from a place of a list on
module _ (s : List ℕ) (at e : ℕ) (h : at < length s) (p : e ≡ at + leading (other 10) (drop at s)) where
  pub line_fits : e ≤ length s
  line_fits = omega (arith, leading_le (other 10) (drop at s), length-drop at s)

  names_step : names (drop at s) ≡ take (e - at) (drop at s) ∷ names (drop (e + 1) s)
  names_step =
      let q : e - at ≡ line (drop at s) = omega arith in
      let z : at + suc (line (drop at s)) ≡ e + 1 = omega arith in
      names_first (drop at s) (omega (arith, length-drop at s)) ∙ rw (q, drop-drop, z)

names_past : (s : List ℕ) (at : ℕ) → length s ≤ at → names (drop at s) ≡ []
unfolding names
names_past s at h = rw (drop_of_length-le s h)

-- ---- the names up to a place
-- no name stands on both sides of a place
abbrev pub Cut : List ℕ → ℕ → Type 0
Cut s at = at ≤ length s → (t : List ℕ) → names (take at s ++ t) ≡ names (take at s) ++ names t

pub cut_first : (s : List ℕ) → Cut s 0
unfolding names
cut_first s h t = refl

module _ (s : List ℕ) (at e : ℕ) (h : at < length s) (p : e ≡ at + leading (other 10) (drop at s)) (x : Cut s at) where
  cut_part : take (e + 1) s ≡ take at s ++ take (suc (line (drop at s))) (drop at s)
  cut_part =
      let z : e + 1 ≡ at + suc (line (drop at s)) = omega arith in
      rw (z, take-add)

  pub cut_all : names s ≡ names (take at s) ++ take (e - at) (drop at s) ∷ names (drop (e + 1) s)
  cut_all = ap names (sym (take-append-drop at s)) ∙ x (omega arith) (drop at s) ∙ ap (λ (r : List (List ℕ)). names (take at s) ++ r) (names_step s at e h p)

  pub cut_take : names (take (e + 1) s) ≡ names (take at s) ++ take (e - at) (drop at s) ∷ []
  cut_take =
      let q : e - at ≡ line (drop at s) = omega arith in
      ap names cut_part
      ∙ x (omega arith) (take (suc (line (drop at s))) (drop at s))
      ∙ rw q (ap (λ (r : List (List ℕ)). names (take at s) ++ r) (line_only (drop at s) (omega (arith, length-drop at s))))

  pub cut_turn : Cut s (e + 1)
  cut_turn l t =
      let q : e - at ≡ line (drop at s) = omega arith in
      let d : line (drop at s) < length (drop at s) = omega (arith, length-drop at s) in
      ap (λ (r : List ℕ). names (r ++ t)) cut_part
      ∙ ap names (append_assoc (take at s) (take (suc (line (drop at s))) (drop at s)) t)
      ∙ x (omega arith) (take (suc (line (drop at s))) (drop at s) ++ t)
      ∙ ap (λ (r : List (List ℕ)). names (take at s) ++ r) (line_then (drop at s) t d)
      ∙ sym (append_assoc (names (take at s)) (take (line (drop at s)) (drop at s) ∷ []) (names t))
      ∙ rw (← q) (ap (λ (r : List (List ℕ)). r ++ names t) (sym cut_take))

-- ---- places
-- a place after k others, where there is one
unfoldable pub after : ℕ → ℕ → ℕ
after k zero = 0
after k (suc p) = k + suc p

after_after : (k p : ℕ) → after k (after 1 p) ≡ after (k + 1) p
unfolding after
after_after k zero = refl
after_after k (suc p) = rw (add_comm 1 (suc p)) (rw (add-one) (omega arith))

pub after_zero : (p : ℕ) → after 0 p ≡ p
unfolding after
after_zero zero = refl
after_zero (suc p) = zero-add (suc p)

after_le : (p n : ℕ) → p ≤ n → after 1 p ≤ suc n
unfolding after
after_le zero n h = omega arith
after_le (suc p) n h = omega arith

place_hit : (m : List ℕ) (ms : List (List ℕ)) (n : List ℕ) → same m n ≡ true → place (m ∷ ms) n ≡ 1
unfolding place
place_hit m ms n e = simp (place, e)

place_miss : (m : List ℕ) (ms : List (List ℕ)) (n : List ℕ) → same m n ≡ false → place (m ∷ ms) n ≡ after 1 (place ms n)
unfolding place after
place_miss m ms n e = go (place ms n) refl
  where
    go : (p : ℕ) → place ms n ≡ p → place (m ∷ ms) n ≡ after 1 (place ms n)
    go zero d = simp (place, e, d)
    go (suc p) d = simp (place, e, d) (omega arith)

module _ (s : List ℕ) (at e k : ℕ) (n : List ℕ) (h : at < length s) (p : e ≡ at + leading (other 10) (drop at s)) where
  pub place_turn : same (take (e - at) (drop at s)) n ≡ false → after (k + 1) (place (names (drop (e + 1) s)) n) ≡ after k (place (names (drop at s)) n)
  place_turn x = rw (names_step s at e h p, place_miss _ (names (drop (e + 1) s)) n x) (sym (after_after k _))

  pub place_found : same (take (e - at) (drop at s)) n ≡ true → k + 1 ≡ after k (place (names (drop at s)) n)
  unfolding after
  place_found x = rw (names_step s at e h p, place_hit _ (names (drop (e + 1) s)) n x)

pub place_end : (s : List ℕ) (at k : ℕ) (n : List ℕ) → length s ≤ at → 0 ≡ after k (place (names (drop at s)) n)
unfolding after place
place_end s at k n h = rw (names_past s at h)

-- a place is at most the number of names
pub place_le : (ns : List (List ℕ)) (n : List ℕ) → place ns n ≤ length ns
unfolding place
place_le [] n = omega arith
place_le (m ∷ ms) n = go (same m n) refl (place_le ms n)
  where
    go : (t : Bool) → same m n ≡ t → place ms n ≤ length ms → place (m ∷ ms) n ≤ suc (length ms)
    go true e h = rw (place_hit m ms n e) (omega arith)
    go false e h = rw (place_miss m ms n e) (after_le (place ms n) (length ms) h)

-- ---- whether a name stands among others
member_cons : (m : List ℕ) (ms : List (List ℕ)) (n : List ℕ) → member (m ∷ ms) n ≡ (same m n || member ms n)
unfolding after
member_cons m ms n = go (same m n) refl (place ms n) refl
  where
    go : (t : Bool) → same m n ≡ t → (p : ℕ) → place ms n ≡ p → member (m ∷ ms) n ≡ (same m n || member ms n)
    go true e p d = rw (place_hit m ms n e, e)
    go false e zero d = rw (place_miss m ms n e, e, d)
    go false e (suc p) d = rw (place_miss m ms n e, e, d) (le-leb 1 (1 + suc p) (omega arith) ∙ sym (le-leb 1 (suc p) (omega arith)))

member_append : (ms ns : List (List ℕ)) (n : List ℕ) → member (ms ++ ns) n ≡ (member ms n || member ns n)
unfolding place
member_append [] ns n = refl
member_append (m ∷ ms) ns n = simp (member_cons, member_append ms ns n, or_assoc)

pub member_more : (ns : List (List ℕ)) (n m : List ℕ) → member ns m ≡ false → same n m ≡ false → member (ns ++ n ∷ []) m ≡ false
unfolding place
member_more ns n m h k = member_append ns (n ∷ []) m ∙ ap (λ (t : Bool). t || member (n ∷ []) m) h ∙ member_cons n [] m ∙ ap (λ (t : Bool). t || false) k

-- none stands twice where the last is not among the others
pub distinct_more : (ns : List (List ℕ)) (n : List ℕ) → distinct ns ≡ true → member ns n ≡ false → distinct (ns ++ n ∷ []) ≡ true
unfolding distinct place
distinct_more [] n h k = refl
distinct_more (m ∷ ns) n h k =
    let a = and_true_both (not (member ns m)) (distinct ns) h in
    let b = or_false_both (same m n) (member ns n) (sym (member_cons m ns n) ∙ k) in
    let q = member_more ns n m (not-true (member ns m) a.0) (same_swap n m ∙ b.0) in
    ap (λ (t : Bool). not t && distinct (ns ++ n ∷ [])) q ∙ distinct_more ns n a.1 b.1

-- one stands twice where it is among those before
pub distinct_double : (ns : List (List ℕ)) (n : List ℕ) (ms : List (List ℕ)) → member ns n ≡ true → distinct (ns ++ n ∷ ms) ≡ false
unfolding distinct place
distinct_double [] n ms h = absurd (true≢false (sym h))
distinct_double (m ∷ ns) n ms h = go (same m n) refl (sym (member_cons m ns n) ∙ h) (distinct_double ns n ms)
  where
    go : (t : Bool) → same m n ≡ t → (same m n || member ns n) ≡ true → (member ns n ≡ true → distinct (ns ++ n ∷ ms) ≡ false) → distinct (m ∷ ns ++ n ∷ ms) ≡ false
    go true e k r =
        let q : member (ns ++ n ∷ ms) m ≡ true =
        member_append ns (n ∷ ms) m
        ∙ ap (λ (t : Bool). member ns m || t) (member_cons n ms m ∙ ap (λ (t : Bool). t || member ms m) (same_swap n m ∙ e))
        ∙ or-true (member ns m) in
        ap (λ (t : Bool). not t && distinct (ns ++ n ∷ ms)) q
    go false e k r =
        ap (λ (t : Bool). not (member (ns ++ n ∷ ms) m) && t) (r (sym (ap (λ (t : Bool). t || member ns n) e) ∙ k))
        ∙ and-false (not (member (ns ++ n ∷ ms) m))

-- a good list has at most 256 names
pub good_few : (money : Bool) (l : List ℕ) → good_list money l ≡ true → length (names l) ≤ 256
unfolding good_list good_names
good_few money l h =
    let a = and_true_both (ended l) (good_names money (names l) && usd_first money (names l)) h in
    let b = and_true_both (good_names money (names l)) (usd_first money (names l)) a.1 in
    leb-true (length (names l)) 256 (and_true_both (leb (length (names l)) 256) (every (good_name money) (names l) && distinct (names l)) b.0).0

-- ---- a place as the code has it

pub index_some : (p k : ℕ) → index_of p ≡ Some k → p ≡ suc k
index_some zero k e = absurd (cc)
index_some (suc n) k e = cc

pub index_none : (p : ℕ) → index_of p ≡ None → p ≡ 0
index_none zero e = refl
index_none (suc n) e = absurd (cc)
