-- Laws of the lookup: where names stand in a list, what a currency's number says, and what a slice has to be.
use mathlib.Core.Path.{◌≡◌, refl, sym, ap, ◌∙◌}
use mathlib.Core.Bool.{Bool, true, false, ◌&&◌, true≢false}
use mathlib.Core.List.{List, [], ◌∷◌}
use Prim.Native.Nat.{ℕ, zero, suc, ◌+◌, ◌-◌, ◌*◌, ◌≤◌, ◌<◌}
use native.Mathlib.Omega.{arith}
use lib.Dec.{eqb, leb, ltb}
use lib.ListN.{length, get_or, take, drop, length-append}
use lib.Seq.{take_all, take-append_seam, drop-append-add}
use borrow.Author.Tests.{eqb-true, leb-true, ltb-true, ne_eqb, lt-ltb, le-ltb}
use denote.Ref.{Bor}
use Rattle.tokens.specs.Text.{same, every, capital}
use Rattle.tokens.specs.Names.{push, names, ended, place, good_name, good_names, good_list, usd_first, distinct}
use Rattle.tokens.proofs.Outcomes.{one_outcome}
use Rattle.tokens.proofs.NameLaws.{and_true_both, names_feed, names_other}
use Rattle.tokens.proofs.Shapes.{same_eq}
use Rattle.reading.specs.Parts.{Name, Text, Currency, Nothing, Span, span, Part, of_script, of_list, empty, text_at, lines, name_at, currency_at, part_at, part_named, name_in, placed, PartOf, HandsBack}
use Rattle.reading.specs.declared.parts.Place.{Place}

-- ---- slices

-- two slices that are the same part begin at the same place and hold the same bytes
same_part : (lent : Bor (List ℕ)) (p : Span) (r q : Bor (List ℕ)) → PartOf lent p r → PartOf lent p q → (r.ref_ptr ≡ q.ref_ptr) × (r.now ≡ q.now)
same_part lent p r q x y = (one_outcome x.begins y.begins, one_outcome x.holds y.holds)

pub parts_same : (script list : Bor (List ℕ)) (p : Part) (r q : Bor (List ℕ)) → HandsBack script list p r → HandsBack script list p q
    → (r.ref_ptr ≡ q.ref_ptr) × (r.now ≡ q.now)
parts_same script list (of_script p) r q x y = same_part script p r q x y
parts_same script list (of_list p) r q x y = same_part list p r q x y

-- ---- the names of a list

-- a list that is not empty has a name
names_some : (b : ℕ) (s : List ℕ) → 1 ≤ length (names (b ∷ s))
unfolding names push
names_some b s = go (eqb b 10) refl (names s) refl
  where
    go : (t : Bool) → eqb b 10 ≡ t → (ns : List (List ℕ)) → names s ≡ ns → 1 ≤ length (names (b ∷ s))
    go true e ns d = rw (names_feed b s e) (omega arith)
    go false e [] d = rw (names_other b s e, d) (omega arith)
    go false e (n ∷ ns) d = rw (names_other b s e, d) (omega arith)

push_lines : (b : ℕ) (ns : List (List ℕ)) → 1 ≤ length ns → lines (push b ns) ≡ b ∷ lines ns
unfolding lines push
push_lines b [] h = absurd (omega arith)
push_lines b (n ∷ ns) h = refl

ended_rest : (b d : ℕ) (s : List ℕ) → ended (b ∷ d ∷ s) ≡ ended (d ∷ s)
ended_rest b d s =
    let p : suc (suc (length s)) - 1 ≡ suc (length s) = omega arith in
    let q : suc (length s) - 1 ≡ length s = omega arith in
    rw (p, q, ne_eqb (suc (suc (length s))) 0 (λ e. omega arith), ne_eqb (suc (length s)) 0 (λ e. omega arith))

-- a list that ends in a line feed is its names, each with its line feed
pub names_lines : (l : List ℕ) → ended l ≡ true → lines (names l) ≡ l
unfolding lines names push
names_lines [] h = refl
names_lines (b ∷ []) h = rw (names_feed b [] h) (ap (λ (k : ℕ). k ∷ []) (sym (eqb-true b 10 h)))
names_lines (b ∷ d ∷ s) h = go (eqb b 10) refl (names_lines (d ∷ s) (sym (ended_rest b d s) ∙ h))
  where
    go : (t : Bool) → eqb b 10 ≡ t → lines (names (d ∷ s)) ≡ d ∷ s → lines (names (b ∷ d ∷ s)) ≡ b ∷ d ∷ s
    go true e k = rw (names_feed b (d ∷ s) e) (ap (λ (x : ℕ). x ∷ lines (names (d ∷ s))) (sym (eqb-true b 10 e)) ∙ ap (λ (r : List ℕ). b ∷ r) k)
    go false e k = rw (names_other b (d ∷ s) e) (push_lines b (names (d ∷ s)) (names_some d s) ∙ ap (λ (r : List ℕ). b ∷ r) k)

-- a name stands where it is said to stand
name_bytes : (ns : List (List ℕ)) (k : ℕ) → k < length ns → take (name_at ns k).size (drop (name_at ns k).place (lines ns)) ≡ get_or ns k []
unfolding lines name_at
name_bytes [] k h = absurd (omega arith)
name_bytes (n ∷ ns) zero h = take-append_seam n (10 ∷ lines ns)
name_bytes (n ∷ ns) (suc k) h =
    rw (length-append n (10 ∷ lines (take k ns)), drop-append-add n (10 ∷ lines ns) (suc (length (lines (take k ns))))) (name_bytes ns k (omega arith))

-- ---- currencies: each has three bytes

three : (n : List ℕ) (ns : List (List ℕ)) → every (good_name true) (n ∷ ns) ≡ true → (length n ≡ 3) × (every (good_name true) ns ≡ true)
unfolding every
three n ns h = go (good_name true n) refl h
  where
    go : (t : Bool) → good_name true n ≡ t → ◌≡◌ {A = Bool} (elim t [ true ↦ every (good_name true) ns | false ↦ false ]) true → (length n ≡ 3) × (every (good_name true) ns ≡ true)
    go true e k = (eqb-true (length n) 3 (and_true_both (eqb (length n) 3) (every capital n) e).0, k)
    go false e k = absurd (true≢false (sym k))

lines_fours : (ns : List (List ℕ)) → every (good_name true) ns ≡ true → (k : ℕ) → k ≤ length ns → length (lines (take k ns)) ≡ 4 * k
unfolding lines
lines_fours ns h zero j = refl
lines_fours [] h (suc k) j = absurd (omega arith)
lines_fours (n ∷ ns) h (suc k) j =
    let t = three n ns h in
    omega (arith, length-append n (10 ∷ lines (take k ns)), t.0, lines_fours ns t.1 k (omega arith))

name_three : (ns : List (List ℕ)) → every (good_name true) ns ≡ true → (k : ℕ) → k < length ns → length (get_or ns k []) ≡ 3
name_three [] h k j = absurd (omega arith)
name_three (n ∷ ns) h zero j = (three n ns h).0
name_three (n ∷ ns) h (suc k) j = name_three ns (three n ns h).1 k (omega arith)

module _ (l : List ℕ) (g : good_list true l ≡ true) where
  good_ended : ended l ≡ true
  unfolding good_list
  good_ended = (and_true_both (ended l) (good_names true (names l) && usd_first true (names l)) g).0

  good_every : every (good_name true) (names l) ≡ true
  unfolding good_list good_names
  good_every =
      let a = and_true_both (ended l) (good_names true (names l) && usd_first true (names l)) g in
      let b = and_true_both (good_names true (names l)) (usd_first true (names l)) a.1 in
      let c = and_true_both (leb (length (names l)) 256) (every (good_name true) (names l) && distinct (names l)) b.0 in
      (and_true_both (every (good_name true) (names l)) (distinct (names l)) c.1).0

  good_length : length l ≡ 4 * length (names l)
  good_length =
      ap length (sym (names_lines l good_ended))
      ∙ ap (λ (ns : List (List ℕ)). length (lines ns)) (sym (take_all (length (names l)) (names l) (omega arith)))
      ∙ lines_fours (names l) good_every (length (names l)) (omega arith)

  good_name_lem : (k : ℕ) → k < length (names l) → name_at (names l) k ≡ span (4 * k) 3
  unfolding name_at
  good_name_lem k j = ap (λ (p : ℕ). span p (length (get_or (names l) k []))) (lines_fours (names l) good_every k (omega arith)) ∙ ap (span (4 * k)) (name_three (names l) good_every k j)

-- ---- what a currency's number says

module _ (l : List ℕ) (n : ℕ) where
  pub currency_none : n ≡ 0 → currency_at l n ≡ of_script empty
  unfolding currency_at
  currency_none e = rw e

  pub currency_malformed : good_list true l ≡ false → currency_at l n ≡ of_script empty
  unfolding currency_at
  currency_malformed e = go n
    where
      go : (n : ℕ) → currency_at l n ≡ of_script empty
      go zero = refl
      go (suc k) = rw e

  module _ (g : good_list true l ≡ true) (h : n ≡ 0 → ⊥) where
    pub currency_is : (n - 1) * 4 < length l → currency_at l n ≡ of_list (span ((n - 1) * 4) 3)
    unfolding currency_at
    currency_is i = go n i h
      where
        go : (n : ℕ) → (n - 1) * 4 < length l → (n ≡ 0 → ⊥) → currency_at l n ≡ of_list (span ((n - 1) * 4) 3)
        go zero i h = absurd (h refl)
        go (suc k) i h =
            let j : k < length (names l) = omega (arith, good_length l g) in
            let q : 4 * k ≡ (suc k - 1) * 4 = omega arith in
            rw (g, lt-ltb k (length (names l)) j) (ap of_list (good_name_lem l g k j ∙ ap (λ (p : ℕ). span p 3) q))

    pub currency_outside : length l ≤ (n - 1) * 4 → currency_at l n ≡ of_script empty
    unfolding currency_at
    currency_outside i = go n i h
      where
        go : (n : ℕ) → length l ≤ (n - 1) * 4 → (n ≡ 0 → ⊥) → currency_at l n ≡ of_script empty
        go zero i h = absurd (h refl)
        go (suc k) i h = rw (g, le-ltb k (length (names l)) (omega (arith, good_length l g)))

-- ---- a currency that a reading found

place_name : (ns : List (List ℕ)) (n : List ℕ) (k : ℕ) → place ns n ≡ suc k → (k < length ns) × (get_or ns k [] ≡ n)
unfolding place
place_name [] n k e = absurd (omega arith)
place_name (m ∷ ms) n k e = go (same m n) refl (place ms n) refl (place_name ms n) e
  where
    go : (t : Bool) → same m n ≡ t → (p : ℕ) → place ms n ≡ p → ((j : ℕ) → place ms n ≡ suc j → (j < length ms) × (get_or ms j [] ≡ n))
        → ◌≡◌ {A = ℕ} (elim t [ true ↦ 1 | false ↦ elim p [ zero ↦ 0 | suc j ↦ suc (suc j) ] ]) (suc k) → (k < length (m ∷ ms)) × (get_or (m ∷ ms) k [] ≡ n)
    go true s p q ih e = let z : k ≡ 0 = omega arith in (omega arith, rw z (same_eq m n s))
    go false s zero q ih e = absurd (omega arith)
    go false s (suc j) q ih e =
        let z : k ≡ suc j = omega arith in
        let h = ih j q in
        (omega (arith, h.0), rw z h.1)

-- looked up by the number that its record has, it is handed back
pub currency_back : (script list r : Bor (List ℕ)) → good_list true list.now ≡ true → (n : List ℕ) → 1 ≤ place (names list.now) n
    → HandsBack script list (currency_at list.now (place (names list.now) n)) r → r.now ≡ n
unfolding currency_at
currency_back script list r g n h x = go (place (names list.now) n) refl h x
  where
    go : (p : ℕ) → place (names list.now) n ≡ p → 1 ≤ p → HandsBack script list (currency_at list.now p) r → r.now ≡ n
    go zero e h x = absurd (omega arith)
    go (suc k) e h x =
        let f = place_name (names list.now) n k e in
        let y : HandsBack script list (of_list (name_at (names list.now) k)) r = rw (g, lt-ltb k (length (names list.now)) f.0) at x in
        y.holds ∙ ap (λ (l : List ℕ). take (name_at (names list.now) k).size (drop (name_at (names list.now) k).place l)) (sym (names_lines list.now (good_ended list.now g)))
        ∙ name_bytes (names list.now) k f.0 ∙ f.1

-- ---- every part is inside what it is a part of

-- a part of a script of n bytes, or of a list of m
unfoldable Inside : ℕ → ℕ → Part → Type 0
Inside n m (of_script p) = p.place + p.size ≤ n
Inside n m (of_list p) = p.place + p.size ≤ m

text_within : (n start at size : ℕ) → (text_at n start at size).place + (text_at n start at size).size ≤ n
unfolding text_at
text_within n start at size = go (leb (start + at + size) n) refl
  where
    go : (t : Bool) → leb (start + at + size) n ≡ t → (text_at n start at size).place + (text_at n start at size).size ≤ n
    go true e = rw e (leb-true (start + at + size) n e)
    go false e = rw e (omega arith)

currency_within : (n : ℕ) (l : List ℕ) (k : ℕ) → Inside n (length l) (currency_at l k)
unfolding currency_at Inside
currency_within n l zero = omega arith
currency_within n l (suc k) = go (good_list true l) refl (ltb k (length (names l))) refl
  where
    go : (g : Bool) → good_list true l ≡ g → (t : Bool) → ltb k (length (names l)) ≡ t → Inside n (length l) (currency_at l (suc k))
    go false e t d = rw e (omega arith)
    go true e false d = rw (e, d) (omega arith)
    go true e true d =
        let j = ltb-true k (length (names l)) d in
        rw (e, d, good_name_lem l e k j) (omega (arith, j, good_length l e))

named_inside : (s l ws : List ℕ) (start : ℕ) (second : Bool) → Inside (length s) (length l) (part_named s l ws start second)
unfolding part_at Inside
named_inside s l ws start second = go (name_in ws second)
  where
    go : (n : Name) → Inside (length s) (length l) (part_at s l start n)
    go (Text at size) = text_within (length s) start at size
    go (Currency k) = currency_within (length s) l k
    go Nothing = omega arith

inside_script : (s l : ℕ) (n : Place) (p : Part) → Inside s l p → n ≡ placed p → n.in_list ≡ false → n.from + n.size ≤ s
unfolding Inside
inside_script s l n (of_script p) h e t = rw e h
inside_script s l n (of_list p) h e t = absurd (true≢false (sym (ap (λ (q : Place). q.in_list) e) ∙ t))

inside_list : (s l : ℕ) (n : Place) (p : Part) → Inside s l p → n ≡ placed p → n.in_list ≡ true → n.from + n.size ≤ l
unfolding Inside
inside_list s l n (of_script p) h e t = absurd (true≢false (sym t ∙ ap (λ (q : Place). q.in_list) e))
inside_list s l n (of_list p) h e t = rw e h

module _ (s l ws : List ℕ) (start : ℕ) (second : Bool) (n : Place) (e : n ≡ placed (part_named s l ws start second)) where
  pub ends_in_script : n.in_list ≡ false → n.from + n.size ≤ length s
  ends_in_script = inside_script (length s) (length l) n (part_named s l ws start second) (named_inside s l ws start second) e

  pub ends_in_list : n.in_list ≡ true → n.from + n.size ≤ length l
  ends_in_list = inside_list (length s) (length l) n (part_named s l ws start second) (named_inside s l ws start second) e
