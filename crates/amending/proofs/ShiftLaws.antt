-- Laws of a directory whose places are moved: one turn of the loop, the rows of the moved words, and where a place is moved plainly.
use mathlib.Core.Path.{◌≡◌, refl, sym, ap, ◌∙◌}
use mathlib.Core.Bool.{true}
use mathlib.Core.List.{List, [], ◌∷◌, ◌++◌, append_assoc, map}
use Prim.Native.Nat.{ℕ, zero, suc, ◌+◌, ◌-◌, ◌*◌, ◌^◌, ◌≤◌, ◌<◌}
use native.Mathlib.Nat.{suc-add}
use native.Mathlib.Numerals.{towards_suc}
use native.Mathlib.Omega.{arith}
use lib.ListN.{length, take, drop, get_or, set, length-append, take-append-drop}
use lib.Seq.{drop-cons, take_at, drop_at, take-append-add, drop-append-add, length-take-le, get_or-set_other}
use Rattle.std.proofs.lemmas.Bool.Decides.{nat_tests}
use borrow.Author.Tests.{le-leb}
use Rattle.grammar.specs.Sizes.{entry_width}
use Rattle.grammar.specs.Words.{Row, rows_words}
use Rattle.grammar.proofs.WordLaws.{rows_length}
use Rattle.amending.specs.Lent.{ascending, moved_row, between_row}
use Rattle.amending.specs.Entries.{moved_place, shifted_row, moved_words, shifted}
use Rattle.amending.proofs.OrderLaws.{Ascends, ascends, ascending_le}

-- ---- one place

-- moved plainly, where it lies at or past `old` and stays a word
moved_yes : (old new w : ℕ) → old ≤ w → w - old + new < 2 ^ 32 → moved_place old new w ≡ w - old + new
moved_yes old new w h k = grind (arith, nat_tests)

-- ---- one turn of the loop

-- the five words of an entry
five : (s : List ℕ) (at : ℕ) → at + 5 ≤ length s
    → drop at s ≡ get_or s at 0 ∷ get_or s (at + 1) 0 ∷ get_or s (at + 2) 0 ∷ get_or s (at + 3) 0 ∷ get_or s (at + 4) 0 ∷ drop (at + 5) s
five s at h =
    let h₁ : suc at ≤ length s = omega arith in
    let h₂ : suc (suc at) ≤ length s = omega arith in
    let h₃ : suc (suc (suc at)) ≤ length s = omega arith in
    let h₄ : suc (suc (suc (suc at))) ≤ length s = omega arith in
    let h₅ : suc (suc (suc (suc (suc at)))) ≤ length s = omega arith in
    simp towards_suc (rw (drop-cons s at 0 h₁, drop-cons s (suc at) 0 h₂, drop-cons s (suc (suc at)) 0 h₃, drop-cons s (suc (suc (suc at))) 0 h₄, drop-cons s (suc (suc (suc (suc at)))) 0 h₅))

-- two stores, one after the other
put_two : (p rest : List ℕ) (a b x y : ℕ) → set (set (p ++ a ∷ b ∷ rest) (length p) x) (length p + 1) y ≡ p ++ x ∷ y ∷ rest
put_two [] rest a b x y = refl
put_two (q ∷ p) rest a b x y = rw suc-add (ap (λ (l : List ℕ). q ∷ l) (put_two p rest a b x y))

shift_at : (p rest : List ℕ) (a b r t x old new n : ℕ)
    → let s : List ℕ = p ++ (moved_place old new a ∷ moved_place old new b ∷ r ∷ t ∷ x ∷ rest) in
    take (length p + 5) s ++ moved_words old new n (drop (length p + 5) s) ≡ p ++ moved_words old new (suc n) (a ∷ b ∷ r ∷ t ∷ x ∷ rest)
unfolding moved_words
shift_at p rest a b r t x old new n =
    let ys : List ℕ = moved_place old new a ∷ moved_place old new b ∷ r ∷ t ∷ x ∷ rest in
    rw (take-append-add p ys 5, drop-append-add p ys 5) (append_assoc p (take 5 ys) (moved_words old new n rest))

-- one entry's two places, moved where it stands
shift_one : (s : List ℕ) (at n old new u v : ℕ) → 0 < n → at + 5 ≤ length s → u ≡ moved_place old new (get_or s at 0) → v ≡ moved_place old new (get_or (set s at u) (at + 1) 0)
    → let s' : List ℕ = set (set s at u) (at + 1) v in
    take at s ++ moved_words old new n (drop at s) ≡ take (at + 5) s' ++ moved_words old new (n - 1) (drop (at + 5) s')
shift_one s at n old new u v some room eu ev =
    let p : List ℕ = take at s in
    let lp : length p ≡ at = length-take-le at s (omega arith) in
    let k : n ≡ suc (n - 1) = omega arith in
    let a : ℕ = get_or s at 0 in
    let b : ℕ = get_or s (at + 1) 0 in
    let r : ℕ = get_or s (at + 2) 0 in
    let t : ℕ = get_or s (at + 3) 0 in
    let x : ℕ = get_or s (at + 4) 0 in
    let rest : List ℕ = drop (at + 5) s in
    let f : drop at s ≡ a ∷ b ∷ r ∷ t ∷ x ∷ rest = five s at room in
    let split : s ≡ p ++ a ∷ b ∷ r ∷ t ∷ x ∷ rest = sym (take-append-drop at s) ∙ ap (λ (l : List ℕ). p ++ l) f in
    let eb : get_or (set s at u) (at + 1) 0 ≡ b = get_or-set_other s at (at + 1) u 0 (λ e. omega arith) in
    let stored : set (set s at u) (at + 1) v ≡ p ++ (moved_place old new a ∷ moved_place old new b ∷ r ∷ t ∷ x ∷ rest) =
    ap (λ (l : List ℕ). set (set l at u) (at + 1) v) split
    ∙ ap (λ (i : ℕ). set (set (p ++ a ∷ b ∷ r ∷ t ∷ x ∷ rest) i u) (i + 1) v) (sym lp)
    ∙ put_two p (r ∷ t ∷ x ∷ rest) a b u v
    ∙ ap (λ (w : ℕ). p ++ w ∷ v ∷ r ∷ t ∷ x ∷ rest) eu
    ∙ ap (λ (w : ℕ). p ++ moved_place old new a ∷ w ∷ r ∷ t ∷ x ∷ rest) (ev ∙ ap (moved_place old new) eb) in
    ap (λ (l : List ℕ). p ++ moved_words old new n l) f
    ∙ ap (λ (m : ℕ). p ++ moved_words old new m (a ∷ b ∷ r ∷ t ∷ x ∷ rest)) k
    ∙ sym (shift_at p rest a b r t x old new (n - 1))
    ∙ ap (λ (i : ℕ). take (i + 5) (p ++ (moved_place old new a ∷ moved_place old new b ∷ r ∷ t ∷ x ∷ rest)) ++ moved_words old new (n - 1) (drop (i + 5) (p ++ (moved_place old new a ∷ moved_place old new b ∷ r ∷ t ∷ x ∷ rest)))) lp
    ∙ sym (ap (λ (l : List ℕ). take (at + 5) l ++ moved_words old new (n - 1) (drop (at + 5) l)) stored)

-- what is still to be moved, moved in what is there, comes to the same before and after the entry k of those up to number `to`
pub shift_turn : (s : List ℕ) (k to old new u v : ℕ) → k < to → entry_width * k + 5 ≤ length s → u ≡ moved_place old new (get_or s (entry_width * k) 0)
    → v ≡ moved_place old new (get_or (set s (entry_width * k) u) (entry_width * k + 1) 0)
    → let s' : List ℕ = set (set s (entry_width * k) u) (entry_width * k + 1) v in
    take (entry_width * k) s ++ moved_words old new (to - k) (drop (entry_width * k) s)
    ≡ take (entry_width * (k + 1)) s' ++ moved_words old new (to - (k + 1)) (drop (entry_width * (k + 1)) s')
shift_turn s k to old new u v some room eu ev =
    let on : entry_width * (k + 1) ≡ entry_width * k + 5 = omega arith in
    let less : to - (k + 1) ≡ to - k - 1 = omega arith in
    rw (on, less) (shift_one s (entry_width * k) (to - k) old new u v (omega arith) room eu ev)

pub shift_none : (s : List ℕ) (old new n at : ℕ) → n ≡ 0 → take at s ++ moved_words old new n (drop at s) ≡ s
unfolding moved_words
shift_none s old new n at h = rw h (take-append-drop at s)

-- places that stay where they are
moved_same : (old w : ℕ) → moved_place old old w ≡ w
moved_same old w = grind (arith, nat_tests)

words_same : (old k : ℕ) (d : List ℕ) → moved_words old old k d ≡ d
unfolding moved_words
words_same old zero d = refl
words_same old (suc k) [] = refl
words_same old (suc k) (a ∷ []) = refl
words_same old (suc k) (a ∷ b ∷ []) = refl
words_same old (suc k) (a ∷ b ∷ r ∷ []) = refl
words_same old (suc k) (a ∷ b ∷ r ∷ t ∷ []) = refl
words_same old (suc k) (a ∷ b ∷ r ∷ t ∷ x ∷ d) = λ i. moved_same old a i ∷ moved_same old b i ∷ r ∷ t ∷ x ∷ words_same old k d i

pub shift_same : (s : List ℕ) (old new n at : ℕ) → old ≡ new → take at s ++ moved_words old new n (drop at s) ≡ s
shift_same s old new n at e = rw (sym e) (ap (λ (d : List ℕ). take at s ++ d) (words_same old n (drop at s)) ∙ take-append-drop at s)

-- ---- in rows

module _ (old new : ℕ) where
  moved_rows : (rs : List Row) (t : List ℕ) → moved_words old new (length rs) (rows_words rs ++ t) ≡ rows_words (map (shifted_row old new) rs) ++ t
  unfolding moved_words
  moved_rows [] t = refl
  moved_rows (r ∷ rs) t = ap (λ (l : List ℕ). moved_place old new r.start ∷ moved_place old new r.end ∷ r.records ∷ r.tokens ∷ r.latest ∷ l) (moved_rows rs t)

  -- the words of the rows xs and ys, of which those of ys are moved
  pub shifted_words : (xs ys : List Row) (t : List ℕ) (from to : ℕ) → length xs ≡ from → from + length ys ≡ to
      → shifted (rows_words xs ++ (rows_words ys ++ t)) from to old new ≡ rows_words xs ++ (rows_words (map (shifted_row old new) ys) ++ t)
  shifted_words xs ys t from to a b =
      let d : List ℕ = rows_words xs ++ (rows_words ys ++ t) in
      let room : entry_width * to ≤ length d =
      omega (arith, length-append (rows_words xs) (rows_words ys ++ t), length-append (rows_words ys) t, rows_length xs, rows_length ys) in
      let front : length (rows_words xs) ≡ entry_width * from = omega (arith, rows_length xs) in
      let k : to - from ≡ length ys = omega arith in
      rw (le-leb (entry_width * to) (length d) room, take_at (rows_words xs) (rows_words ys ++ t) (entry_width * from) front, drop_at (rows_words xs) (rows_words ys ++ t) (entry_width * from) front, k, moved_rows ys t)

-- ---- moved plainly

-- a row with both places by g
abbrev placed : (ℕ → ℕ) → Row → Row
placed g r = record { start = g r.start; end = g r.end; records = r.records; tokens = r.tokens; latest = r.latest }

-- entries in order between the bytes i and j, none before `old`, and none past the words
plainly : (old new i j : ℕ) (g : ℕ → ℕ) → ((w : ℕ) → old ≤ w → w - old + new ≡ g w) → old ≤ i → j - old + new < 2 ^ 32
    → (rs : List Row) → ascending i j rs ≡ true → map (shifted_row old new) rs ≡ map (placed g) rs
plainly old new i j g same h k [] b = refl
plainly old new i j g same h k (r ∷ rs) b =
    let f : Ascends i j r rs = ascends i j r rs b in
    let e : r.end ≤ j = ascending_le r.end j rs f.rest in
    let s : moved_place old new r.start ≡ g r.start = moved_yes old new r.start (omega arith) (omega arith) ∙ same r.start (omega arith) in
    let t : moved_place old new r.end ≡ g r.end = moved_yes old new r.end (omega arith) (omega arith) ∙ same r.end (omega arith) in
    let z : map (shifted_row old new) rs ≡ map (placed g) rs = plainly old new r.end j g same (omega arith) k rs f.rest in
    λ x. record { start = s x; end = t x; records = r.records; tokens = r.tokens; latest = r.latest } ∷ z x

-- from the front: as far as `new`
pub moved_plainly : (new j : ℕ) (rs : List Row) → ascending 0 j rs ≡ true → j + new < 2 ^ 32 → map (shifted_row 0 new) rs ≡ map (moved_row new) rs
moved_plainly new j rs b k = plainly 0 new 0 j (λ w. w + new) (λ w h. omega arith) (omega arith) (omega arith) rs b

-- from the end of the entry e, whose text is replaced by one of n bytes
pub between_plainly : (e : Row) (n j : ℕ) (rs : List Row) → e.start ≤ e.end → ascending e.end j rs ≡ true → j + n < 2 ^ 32
    → map (shifted_row e.end (e.start + n)) rs ≡ map (between_row n (e.end - e.start)) rs
between_plainly e n j rs o b k =
    let l : e.end ≤ j = ascending_le e.end j rs b in
    plainly e.end (e.start + n) e.end j (λ w. w + n - (e.end - e.start)) (λ w h. omega arith) (omega arith) (omega arith) rs b
