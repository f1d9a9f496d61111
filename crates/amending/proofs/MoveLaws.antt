-- Laws of a part that gets another length or other elements in place, and of the memory that is left.
use mathlib.Core.Path.{◌≡◌, refl, sym, ap, ◌∙◌}
use mathlib.Core.List.{List, ◌++◌, append_assoc}
use Prim.Native.Nat.{ℕ, ◌+◌, ◌-◌, ◌≤◌, ◌<◌, max}
use native.Mathlib.Numerals.{add-one}
use native.Mathlib.Omega.{arith}
use lib.ListN.{length, get_or, set, take, drop, replicate, length-drop, length-append, length-replicate, take-append-drop}
use lib.Seq.{paste, paste-suc, length-take-le, take_all, take-length, take-take, take-append-le, drop_at, take-paste, drop-paste, drop-drop}
use Rattle.std.proofs.lemmas.Slice.{between_is}
use Rattle.amending.specs.Moves.{part, used_after, resized, spliced, leave}

-- ---- a part that is given another size

module _ {A : Type 0} (clear : A) (l : List A) (used from to k : ℕ) (ordered : to ≤ used) (within : used ≤ length l) (room : from + k + (used - to) ≤ length l) where
  -- the part keeps its size: nothing moves
  pub kept : to ≡ from + k → l ≡ resized clear l used from to k
  unfolding resized
  kept h =
      let z : used - used_after used from to k ≡ 0 = omega arith in
      let m : max used (used_after used from to k) ≡ used = omega arith in
      let p : take to l ≡ take to (take used l) = sym (take-take to used l ordered) in
      sym (rw (z, m, sym h, p) (sym (append_assoc (take to (take used l)) (drop to (take used l)) (drop used l)) ∙ ap (λ (x : List A). x ++ drop used l) (take-append-drop to (take used l)) ∙ take-append-drop used l))

  -- the part grows: the move is all
  pub grown : to ≤ from + k → paste l (from + k) (drop to l) (used - to) ≡ resized clear l used from to k
  unfolding resized
  grown h =
      let z : used - used_after used from to k ≡ 0 = omega arith in
      let m : max used (used_after used from to k) ≡ from + k + (used - to) = omega arith in
      rw (z, m, between_is l to used) (append_assoc (take (from + k) l) (part to used l) (drop (from + k + (used - to)) l))

  -- it shrinks: what the move leaves behind is cleared
  pub shrunk : from + k < to
      → paste (paste l (from + k) (drop to l) (used - to)) (used_after used from to k) (replicate (used - used_after used from to k) clear) (used - used_after used from to k) ≡ resized clear l used from to k
  unfolding resized
  shrunk h =
      let n : ℕ = used - to in
      let u : ℕ = used_after used from to k in
      let f : ℕ = used - u in
      let ld : length (drop to l) ≡ length l - to = length-drop to l in
      let lr : length (replicate f clear) ≡ f = length-replicate f clear in
      let m : max used u ≡ u + f = omega arith in
      let moved : List A = paste l (from + k) (drop to l) n in
      let t : take u moved ≡ take (from + k) l ++ take n (drop to l) = take-paste l (from + k) (drop to l) n (omega arith) (omega arith) in
      let d : drop (u + f) moved ≡ drop (u + f) l =
      sym (drop-drop f u moved) ∙ ap (drop f) (drop-paste l (from + k) (drop to l) n (omega arith) (omega arith)) ∙ drop-drop f u l in
      rw (t, d, m, between_is l to used, take_all f (replicate f clear) (omega arith)) (simp append_assoc)

-- ---- copy

pub copy_turn : (l s m : List ℕ) (at i : ℕ) → at + i < length l → i < length m → s ≡ paste l at m i → set s (at + i) (get_or m i 0) ≡ paste l at m (i + 1)
copy_turn l s m at i room more e = rw (e, add-one) (paste-suc l at m i 0 room more)

-- ---- a part that is replaced

-- `text` in the gap that was made as long as it is
pub gap_filled : (l text : List ℕ) (used from to k : ℕ) → length text ≡ k → used_after used from to k ≤ length l
    → let r : List ℕ = resized 0 l used from to k in take from r ++ (text ++ drop k (drop from r)) ≡ spliced l used from to text
unfolding resized spliced
gap_filled l text used from to k size room =
    let head : List ℕ = take (from + k) l in
    let tail : List ℕ = part to used l ++ (replicate (used - used_after used from to k) 0 ++ drop (max used (used_after used from to k)) l) in
    let lh : length head ≡ from + k = length-take-le (from + k) l (omega arith) in
    let t : take from (head ++ tail) ≡ take from l = take-append-le from head tail (omega arith) ∙ take-take from (from + k) l (omega arith) in
    rw (size, t, drop-drop k from (head ++ tail), drop_at head tail (from + k) lh)

-- copied into it
pub splice_done : (l text : List ℕ) (used from to : ℕ) → used_after used from to (length text) ≤ length l
    → paste (resized 0 l used from to (length text)) from text (length text) ≡ spliced l used from to text
splice_done l text used from to room =
    let k : ℕ = length text in
    let r : List ℕ = resized 0 l used from to k in
    rw (take-length text)
    (append_assoc (take from r) text (drop (from + k) r)
    ∙ ap (λ (x : List ℕ). take from r ++ (text ++ x)) (sym (drop-drop k from r))
    ∙ gap_filled l text used from to k refl room)

-- ---- the memory that is left

-- the elements in use at the front, freed room zeroed, the rest as it was
pub spliced_leaves : (l text : List ℕ) (used from to : ℕ) → from ≤ to → to ≤ used → used ≤ length l
    → spliced l used from to text ≡ leave (take from (take used l) ++ (text ++ drop to (take used l))) used l
unfolding spliced
spliced_leaves l text used from to ordered inside within =
    let u : List ℕ = take used l in
    let lu : length u ≡ used = length-take-le used l within in
    let front : take from u ≡ take from l = take-take from used l (omega arith) in
    let size : length (take from u ++ (text ++ drop to u)) ≡ used_after used from to (length text) =
    omega (arith, length-append (take from u) (text ++ drop to u), length-append text (drop to u), length-take-le from u (omega arith), length-drop to u) in
    rw (size, front) (simp append_assoc)

-- so where `text` is put into the gap that was made as long as it is, j elements of l₁
pub gap_leaves : (l l₁ text : List ℕ) (used from to k j : ℕ) → l₁ ≡ resized 0 l used from to k → j ≡ k → length text ≡ k
    → from ≤ to → to ≤ used → used ≤ length l → used_after used from to k ≤ length l
    → take from l₁ ++ (text ++ drop j (drop from l₁)) ≡ leave (take from (take used l) ++ (text ++ drop to (take used l))) used l
gap_leaves l l₁ text used from to k j made all size ordered inside within room =
    rw (made, all) (gap_filled l text used from to k size room ∙ spliced_leaves l text used from to ordered inside within)

-- what is left has the memory's length
pub leave_length : (u : List ℕ) (old : ℕ) (l : List ℕ) → length u ≤ length l → old ≤ length l → length (leave u old l) ≡ length l
leave_length u old l h k =
    omega (
      arith,
      length-append u (replicate (old - length u) 0 ++ drop (max old (length u)) l),
      length-append (replicate {A = ℕ} (old - length u) 0) (drop (max old (length u)) l),
      length-replicate {A = ℕ} (old - length u) 0,
      length-drop (max old (length u)) l,
    )
