-- The slot of a name, and the slots of the names passed.
use mathlib.Core.Path.{◌≡◌, refl, sym, ap, ◌∙◌}
use mathlib.Core.Bool.{Bool, true, false, ◌&&◌, and-false, true≢false}
use mathlib.Core.List.{List, [], ◌∷◌, ◌++◌}
use Prim.Native.Nat.{ℕ, ◌+◌, ◌-◌, ◌*◌, ◌%◌, ◌≤◌, ◌<◌}
use native.Mathlib.Numerals.{add-one}
use native.Mathlib.Omega.{arith}
use borrow.Author.Tests.{le-leb, lt-leb}
use lib.ListN.{length, get_or, set, take, drop, drop_of_length-le, length-append, length-set}
use lib.Seq.{drop-cons, take_all, get_or-set_same, get_or-set_other}
use Rattle.tokens.specs.Text.{same, every, leading, other}
use Rattle.tokens.specs.Names.{names, place, member, distinct, good_name, good_names}
use Rattle.tokens.specs.Slots.{slot_from, slot_of, double_by}
use Rattle.tokens.proofs.Shapes.{same_not}
use Rattle.tokens.proofs.NameLaws.{Cut, cut_first, cut_all, cut_take, cut_turn, every_cons, every_other, every_append, member_more, distinct_more, distinct_double}

-- ---- the slot of a name
module _ (s : List ℕ) (i h : ℕ) where
  pub slot_turn : i < length s → slot_from ((h * 37 + get_or s i 0) % 2048) (drop (i + 1) s) ≡ slot_from h (drop i s)
  unfolding slot_from
  slot_turn l = rw (add-one, drop-cons s i 0 l)

  pub slot_end : length s ≤ i → h ≡ slot_from h (drop i s)
  unfolding slot_from
  slot_end l = rw (drop_of_length-le s l)

slot_apart : (n m : List ℕ) → (slot_of m ≡ slot_of n → ⊥) → same n m ≡ false
slot_apart n m h = same_not n m (λ e. h (ap slot_of (sym e)))

-- ---- a name among those passed
-- where its slot is free it is not looked for
pub double_by_lem : (v : Bool) (ns : List (List ℕ)) (n : List ℕ) → (v ≡ false → ⊥) → member ns n ≡ double_by v ns n
double_by_lem false ns n h = absurd (h refl)
double_by_lem true ns n h = refl

double_none : (v : Bool) (ns : List (List ℕ)) (n : List ℕ) → (v ≡ false → member ns n ≡ false) → double_by v ns n ≡ false → member ns n ≡ false
double_none false ns n f d = f refl
double_none true ns n f d = d

double_some : (v : Bool) (ns : List (List ℕ)) (n : List ℕ) → double_by v ns n ≡ true → member ns n ≡ true
double_some false ns n d = absurd (true≢false (sym d))
double_some true ns n d = d

-- what the walk keeps: the names passed are few, good and none twice, and a name whose slot is free is none of them
pub record Passed (money : Bool) (s : List ℕ) (slots : List Bool) (at k : ℕ) : Type 0 where
  pub few : k ≤ 256
  pub size : length slots ≡ 2048
  pub cut : Cut s at
  pub count : length (names (take at s)) ≡ k
  pub good : every (good_name money) (names (take at s)) ≡ true
  pub once : distinct (names (take at s)) ≡ true
  pub free : (n : List ℕ) → get_or slots (slot_of n) false ≡ false → member (names (take at s)) n ≡ false

pub passed_first : (money : Bool) (s : List ℕ) (slots : List Bool) → length slots ≡ 2048 → Passed money s slots 0 0
unfolding names every distinct place
passed_first money s slots h =
    record { few = omega arith; size = h; cut = cut_first s; count = refl; good = refl; once = refl; free = λ n e. refl }

pub passed_all : (money : Bool) (s : List ℕ) (slots : List Bool) (at k : ℕ) → length s ≤ at → Passed money s slots at k → good_names money (names s) ≡ true
unfolding good_names
passed_all money s slots at k h x =
    let w = take_all at s h in
    let c : length (names s) ≤ 256 = omega (arith, rw w at x.count, x.few) in
    simp (le-leb (length (names s)) 256 c, rw w at x.good, rw w at x.once)

module _ (money : Bool) (s : List ℕ) (slots : List Bool) (at e k : ℕ) (h : at < length s) (p : e ≡ at + leading (other 10) (drop at s)) (x : Passed money s slots at k) where
  pub passed_many : k ≡ 256 → good_names money (names s) ≡ false
  unfolding good_names
  passed_many j =
      let c : 256 < length (names s) = omega (arith, ap length (cut_all s at e h p x.cut), length-append (names (take at s)) (take (e - at) (drop at s) ∷ names (drop (e + 1) s)), x.count) in
      simp (lt-leb (length (names s)) 256 c)

  pub passed_bad : good_name money (take (e - at) (drop at s)) ≡ false → good_names money (names s) ≡ false
  unfolding good_names
  passed_bad g =
      let v : every (good_name money) (names s) ≡ false =
      ap (every (good_name money)) (cut_all s at e h p x.cut)
      ∙ every_append (good_name money) (names (take at s)) (take (e - at) (drop at s) ∷ names (drop (e + 1) s))
      ∙ ap (λ (t : Bool). every (good_name money) (names (take at s)) && t) (every_other (good_name money) (take (e - at) (drop at s)) (names (drop (e + 1) s)) g)
      ∙ and-false (every (good_name money) (names (take at s))) in
      simp (v, and-false)

  pub passed_double : (v : Bool) → double_by v (names (take at s)) (take (e - at) (drop at s)) ≡ true → good_names money (names s) ≡ false
  unfolding good_names
  passed_double v d =
      let w : distinct (names s) ≡ false =
      ap distinct (cut_all s at e h p x.cut)
      ∙ distinct_double (names (take at s)) (take (e - at) (drop at s)) (names (drop (e + 1) s)) (double_some v (names (take at s)) (take (e - at) (drop at s)) d) in
      simp (w, and-false)

  pub passed_turn : (j : ℕ) → j ≡ slot_of (take (e - at) (drop at s)) → j < 2048 → (k ≡ 256 → ⊥) → good_name money (take (e - at) (drop at s)) ≡ true
      → double_by (get_or slots j false) (names (take at s)) (take (e - at) (drop at s)) ≡ false
      → Passed money s (set slots j true) (e + 1) (k + 1)
  unfolding every
  passed_turn j q b u g d =
      let n = take (e - at) (drop at s) in
      let ns = names (take at s) in
      let r : names (take (e + 1) s) ≡ ns ++ n ∷ [] = cut_take s at e h p x.cut in
      let f : member ns n ≡ false = double_none (get_or slots j false) ns n (λ z. x.free n (ap (λ (i : ℕ). get_or slots i false) (sym q) ∙ z)) d in
      record {
        few = omega (arith, x.few, u);
        size = length-set slots j true ∙ x.size;
        cut = cut_turn s at e h p x.cut;
        count = ap length r ∙ length-append ns (n ∷ []) ∙ ap (λ (i : ℕ). i + 1) x.count;
        good = ap (every (good_name money)) r ∙ every_append (good_name money) ns (n ∷ []) ∙ ap (λ (t : Bool). t && every (good_name money) (n ∷ [])) x.good ∙ every_cons (good_name money) n [] g;
        once = ap distinct r ∙ distinct_more ns n x.once f;
        free = λ m z. ap (λ (l : List (List ℕ)). member l m) r ∙ still m z;
      }
    where
      still : (m : List ℕ) → get_or (set slots j true) (slot_of m) false ≡ false → member (names (take at s) ++ take (e - at) (drop at s) ∷ []) m ≡ false
      still m z =
          let taken : get_or (set slots j true) j false ≡ true = get_or-set_same slots j true false (omega (arith, x.size)) in
          let apart : slot_of m ≡ j → ⊥ = λ w. true≢false (sym taken ∙ ap (λ (i : ℕ). get_or (set slots j true) i false) (sym w) ∙ z) in
          member_more (names (take at s)) (take (e - at) (drop at s)) m (x.free m (sym (get_or-set_other slots j (slot_of m) true false apart) ∙ z)) (slot_apart (take (e - at) (drop at s)) m (λ w. apart (w ∙ sym q)))
