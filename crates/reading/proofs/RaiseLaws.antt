-- What a chain of `**` that groups right leaves in lent memory, whether it is long enough or not.
use Rattle.std.specs.Prelude.{if◌then◌else◌}
use mathlib.Core.Path.{◌≡◌, refl, sym, ap, ◌∙◌, subst}
use mathlib.Core.Bool.{Bool, true, false}
use mathlib.Core.Logic.{inl, inr}
use mathlib.Core.List.{List, [], ◌∷◌, ◌++◌, append_assoc, append-nil}
use Prim.Native.Nat.{ℕ, suc, ◌+◌, ◌-◌, ◌*◌, ◌/◌, ◌%◌, ◌≤◌, ◌<◌}
use native.Mathlib.Nat.{add-zero}
use native.Mathlib.Omega.{arith}
use lib.Dec.{ltb}
use lib.ListN.{length, length-append, length-set, set, get_or}
use lib.Seq.{get_or-set_same, get_or-set_other, set-set, set_comm}
use borrow.Author.Tests.{lt-ltb}
use Rattle.grammar.specs.Sizes.{record_width}
use Rattle.grammar.specs.Trees.{Tree, Trees, node, fields, none as unused, kind_of, parts, size, sizes, row}
use Rattle.grammar.specs.Grammar.{binary, onto}
use Rattle.grammar.proofs.TreeLaws.{size_snoc}
use Rattle.reading.specs.Rows.{rows, rows_of, put_words, put_at, put_all, put_row, put_rows, room}
use Rattle.reading.specs.Powers.{kinds, marked, held, Small, none, one, Next, Raising, Fits, nothing, fit, past}
use Rattle.reading.proofs.RowLaws.{size_some, size_two, rows_size, rows_of_size, rows_of_snoc, put_all_length, put_all_append, put_not, put_none}

-- ---- a word before what is written

pub set_words : (q : List ℕ) (i : ℕ) (ws : List ℕ) (x v : ℕ) → x < i → set (put_words q i ws) x v ≡ put_words (set q x v) i ws
unfolding put_words
set_words q i [] x v h = refl
set_words q i (w ∷ ws) x v h =
    set_words (set q i w) (i + 1) ws x v (omega arith) ∙ ap (λ l. put_words l (i + 1) ws) (set_comm q i x w v (λ e. omega arith))

pub get_words : (q : List ℕ) (i : ℕ) (ws : List ℕ) (x : ℕ) → x < i → get_or (put_words q i ws) x 0 ≡ get_or q x 0
unfolding put_words
get_words q i [] x h = refl
get_words q i (w ∷ ws) x h = get_words (set q i w) (i + 1) ws x (omega arith) ∙ get_or-set_other q i x w 0 (λ e. omega arith)

set_at : (q : List ℕ) (n : ℕ) (r : List ℕ) (x v : ℕ) → x < record_width * n → set (put_row q n r) x v ≡ put_row (set q x v) n r
unfolding put_at
set_at q n r x v h = rw (length-set q x v) (go (ltb n (length q / record_width)))
  where
    go : (b : Bool) → set (if b then put_words q (record_width * n) r else q) x v ≡ (if b then put_words (set q x v) (record_width * n) r else set q x v)
    go true = set_words q (record_width * n) r x v h
    go false = refl

get_at : (q : List ℕ) (n : ℕ) (r : List ℕ) (x : ℕ) → x < record_width * n → get_or (put_row q n r) x 0 ≡ get_or q x 0
unfolding put_at
get_at q n r x h = go (ltb n (length q / record_width))
  where
    go : (b : Bool) → get_or (if b then put_words q (record_width * n) r else q) x 0 ≡ get_or q x 0
    go true = get_words q (record_width * n) r x h
    go false = refl

pub set_all : (q : List ℕ) (n : ℕ) (rs : List (List ℕ)) (x v : ℕ) → x < record_width * n → set (put_rows q n rs) x v ≡ put_rows (set q x v) n rs
unfolding put_all
set_all q n [] x v h = refl
set_all q n (r ∷ rs) x v h = set_all (put_row q n r) (n + 1) rs x v (omega arith) ∙ ap (λ l. put_rows l (n + 1) rs) (set_at q n r x v h)

pub get_all : (q : List ℕ) (n : ℕ) (rs : List (List ℕ)) (x : ℕ) → x < record_width * n → get_or (put_rows q n rs) x 0 ≡ get_or q x 0
unfolding put_all
get_all q n [] x h = refl
get_all q n (r ∷ rs) x h = get_all (put_row q n r) (n + 1) rs x (omega arith) ∙ get_at q n r x h

-- ---- a row that fits: its first word, its second, and the first replaced

module _ (o : List ℕ) (n : ℕ) (A : List (List ℕ)) (k z : ℕ) (ws : List ℕ) (B : List (List ℕ)) where
  abbrev whole : List ℕ
  whole = put_rows o n (A ++ ((k ∷ z ∷ ws) ∷ B))

  abbrev i : ℕ
  i = n + length A

  apart : whole ≡ put_rows (put_row (put_rows o n A) i (k ∷ z ∷ ws)) (i + 1) B
  unfolding put_all
  apart = put_all_append record_width o n A ((k ∷ z ∷ ws) ∷ B)

  fits_row : i < room o → put_row (put_rows o n A) i (k ∷ z ∷ ws) ≡ put_words (set (set (put_rows o n A) (record_width * i) k) (record_width * i + 1) z) (record_width * i + 1 + 1) ws
  unfolding put_at put_words
  fits_row h = rw (put_all_length record_width o n A, lt-ltb i (room o) h)

  inside : i < room o → record_width * i + 1 < length (put_rows o n A)
  inside h = omega (arith, put_all_length record_width o n A)

  pub first_word : i < room o → get_or whole (record_width * i) 0 ≡ k
  first_word h =
      ap (λ l. get_or l (record_width * i) 0) apart ∙ get_all (put_row (put_rows o n A) i (k ∷ z ∷ ws)) (i + 1) B (record_width * i) (omega arith)
      ∙ ap (λ l. get_or l (record_width * i) 0) (fits_row h)
      ∙ get_words (set (set (put_rows o n A) (record_width * i) k) (record_width * i + 1) z) (record_width * i + 1 + 1) ws (record_width * i) (omega arith)
      ∙ get_or-set_other (set (put_rows o n A) (record_width * i) k) (record_width * i + 1) (record_width * i) z 0 (λ e. omega arith)
      ∙ get_or-set_same (put_rows o n A) (record_width * i) k 0 (omega (arith, inside h))

  pub second_word : i < room o → get_or whole (record_width * i + 1) 0 ≡ z
  second_word h =
      ap (λ l. get_or l (record_width * i + 1) 0) apart ∙ get_all (put_row (put_rows o n A) i (k ∷ z ∷ ws)) (i + 1) B (record_width * i + 1) (omega arith)
      ∙ ap (λ l. get_or l (record_width * i + 1) 0) (fits_row h)
      ∙ get_words (set (set (put_rows o n A) (record_width * i) k) (record_width * i + 1) z) (record_width * i + 1 + 1) ws (record_width * i + 1) (omega arith)
      ∙ get_or-set_same (set (put_rows o n A) (record_width * i) k) (record_width * i + 1) z 0 (omega (arith, inside h, length-set (put_rows o n A) (record_width * i) k))

  pub first_set : (k' : ℕ) → i < room o → set whole (record_width * i) k' ≡ put_rows o n (A ++ ((k' ∷ z ∷ ws) ∷ B))
  unfolding put_all put_at put_words
  first_set k' h =
      let q : List ℕ = put_rows o n A in
      let a : ℕ = record_width * (n + length A) in
      ap (λ l. set l a k') apart
      ∙ set_all (put_row q (n + length A) (k ∷ z ∷ ws)) (n + length A + 1) B a k' (omega arith)
      ∙ ap (λ l. put_rows l (n + length A + 1) B)
      (ap (λ l. set l a k') (fits_row h)
      ∙ set_words (set (set q a k) (a + 1) z) (a + 1 + 1) ws a k' (omega arith)
      ∙ ap (λ l. put_words l (a + 1 + 1) ws) (set_comm (set q a k) (a + 1) a z k' (λ e. omega arith) ∙ ap (λ l. set l (a + 1) z) (set-set q a k k'))
      ∙ (rw (put_all_length record_width o n A, lt-ltb (n + length A) (room o) h)))
      ∙ sym (put_all_append record_width o n A ((k' ∷ z ∷ ws) ∷ B))

-- ---- an operand takes the tree behind it as its right part

-- what a turn finds in the root before e, and leaves
pub record Turned (goal : Tree) (o : List ℕ) (n e j : ℕ) (q : List ℕ) : Type 0 where
  pub some : 1 ≤ get_or q (record_width * (e - 1) + 1) 0
  pub inside : get_or q (record_width * (e - 1) + 1) 0 ≤ e - n
  pub state : Raising goal o n (e - get_or q (record_width * (e - 1) + 1) 0) (j + 1)
      (put_row (set q (record_width * (e - 1)) (get_or q (record_width * (e - 1)) 0 % kinds)) j
      (row 12 (j - (e - get_or q (record_width * (e - 1) + 1) 0) + 1) 2 unused (get_or q (record_width * (e - 1)) 0 / kinds)))

size_marked : (b : ℕ) (t : Tree) → size (marked b t) ≡ size t
unfolding size
size_marked b (node k p s f ts) = refl

pub held_size_lem : (l : ℕ × Tree) (ls : List (ℕ × Tree)) → sizes (held (l ∷ ls)) ≡ sizes (held ls) + size l.1
held_size_lem l ls = size_snoc (held ls) (marked l.0 l.1) ∙ ap (λ (n : ℕ). sizes (held ls) + n) (size_marked l.0 l.1)

-- the records of a node of two parts
pub binary_rows : (b : ℕ) (l r : Tree) → rows (binary 12 b l r) ≡ rows l ++ rows r ++ (row 12 (suc (size l + size r)) 2 unused b ∷ [])
unfolding rows size
binary_rows b l r =
    let z : suc (size l + (size r + 0)) ≡ suc (size l + size r) = omega arith in
    rw (append-nil (rows r), z)

last_row : (o : List ℕ) (n : ℕ) (C : List (List ℕ)) (P : List ℕ) → put_rows o n (C ++ (P ∷ [])) ≡ put_row (put_rows o n C) (n + length C) P
unfolding put_all
last_row o n C P = put_all_append record_width o n C (P ∷ [])

module _ (o : List ℕ) (n b k p : ℕ) (s : List ℕ) (f₁ f₂ f₃ f₄ : ℕ) (ts : Trees) (ls : List (ℕ × Tree)) (tree : Tree) where
  abbrev l : Tree
  l = node k p s (fields f₁ f₂ f₃ f₄) ts

  abbrev A : List (List ℕ)
  A = rows_of (held ls) ++ rows_of ts

  abbrev rest : List ℕ
  rest = parts ts ∷ f₁ ∷ f₂ ∷ f₃ ∷ f₄ ∷ p ∷ []

  A-size : length A ≡ sizes (held ls) + sizes ts
  A-size = length-append (rows_of (held ls)) (rows_of ts) ∙ omega (arith, rows_of_size (held ls), rows_of_size ts)

  -- marked
  before : rows_of (held ((b, l) ∷ ls)) ++ rows tree ≡ A ++ (((k + kinds * b) ∷ suc (sizes ts) ∷ rest) ∷ rows tree)
  unfolding rows
  before =
      ap (λ x. x ++ rows tree) (rows_of_snoc (held ls) (marked b l) ∙ sym (append_assoc (rows_of (held ls)) (rows_of ts) (((k + kinds * b) ∷ suc (sizes ts) ∷ rest) ∷ [])))
      ∙ append_assoc A (((k + kinds * b) ∷ suc (sizes ts) ∷ rest) ∷ []) (rows tree)

  -- and not
  after : rows_of (held ls) ++ (rows l ++ rows tree) ≡ A ++ ((k ∷ suc (sizes ts) ∷ rest) ∷ rows tree)
  unfolding rows
  after =
      ap (λ x. rows_of (held ls) ++ x) (append_assoc (rows_of ts) ((k ∷ suc (sizes ts) ∷ rest) ∷ []) (rows tree))
      ∙ sym (append_assoc (rows_of (held ls)) (rows_of ts) ((k ∷ suc (sizes ts) ∷ rest) ∷ rows tree))

  done : rows_of (held ls) ++ rows (binary 12 b l tree) ≡ rows_of (held ls) ++ (rows l ++ rows tree) ++ (row 12 (suc (size l + size tree)) 2 unused b ∷ [])
  done =
      ap (λ x. rows_of (held ls) ++ x) (binary_rows b l tree)
      ∙ sym (append_assoc (rows_of (held ls)) (rows l ++ rows tree) (row 12 (suc (size l + size tree)) 2 unused b ∷ []))

  l_size : size l ≡ suc (sizes ts)
  unfolding size
  l_size = refl

  C-size : length (rows_of (held ls) ++ (rows l ++ rows tree)) ≡ sizes (held ls) + (size l + size tree)
  C-size =
      length-append (rows_of (held ls)) (rows l ++ rows tree)
      ∙ omega (arith, length-append (rows l) (rows tree), rows_of_size (held ls), rows_size l, rows_size tree)

  pub turn_at : (goal : Tree) (e j : ℕ) (q : List ℕ) → onto tree ((b, l) ∷ ls) ≡ goal → k < kinds → Small ls → q ≡ put_rows o n (rows_of (held ((b, l) ∷ ls)) ++ rows tree)
      → e ≡ n + sizes (held ((b, l) ∷ ls)) → Next o j (e + size tree) → e ≤ room o → Turned goal o n e j q
  turn_at goal e j q g small smalls is ends next fits =
      let i_is : n + length A ≡ e - 1 = omega (arith, A-size, ends, held_size_lem (b, l) ls, l_size) in
      let in_room : n + length A < room o = omega (arith, ends, held_size_lem (b, l) ls, l_size) in
      let q_is : q ≡ put_rows o n (A ++ (((k + kinds * b) ∷ suc (sizes ts) ∷ rest) ∷ rows tree)) = is ∙ ap (λ x. put_rows o n x) before in
      let word : get_or q (record_width * (e - 1)) 0 ≡ k + kinds * b
      = (λ t. get_or (q_is t) (record_width * sym i_is t) 0) ∙ first_word o n A (k + kinds * b) (suc (sizes ts)) rest (rows tree) in_room in
      let size_is : get_or q (record_width * (e - 1) + 1) 0 ≡ suc (sizes ts)
      = (λ t. get_or (q_is t) (record_width * sym i_is t + 1) 0) ∙ second_word o n A (k + kinds * b) (suc (sizes ts)) rest (rows tree) in_room in
      let low : get_or q (record_width * (e - 1)) 0 % kinds ≡ k = ap (λ (x : ℕ). x % kinds) word ∙ omega arith in
      let high : get_or q (record_width * (e - 1)) 0 / kinds ≡ b = ap (λ (x : ℕ). x / kinds) word ∙ omega arith in
      let start : e - get_or q (record_width * (e - 1) + 1) 0 ≡ n + sizes (held ls) = omega (arith, size_is, ends, held_size_lem (b, l) ls, l_size) in
      let q₁ : set q (record_width * (e - 1)) (get_or q (record_width * (e - 1)) 0 % kinds) ≡ put_rows o n (rows_of (held ls) ++ (rows l ++ rows tree))
      = (λ t. set (q_is t) (record_width * sym i_is t) (low t)) ∙ first_set o n A (k + kinds * b) (suc (sizes ts)) rest (rows tree) k in_room ∙ ap (λ x. put_rows o n x) (sym after) in
      record {
        some = omega (arith, size_is);
        inside = omega (arith, size_is, ends, held_size_lem (b, l) ls, l_size);
        state = record {
          ls = ls;
          tree = binary 12 b l tree;
          goal_is = g;
          small = smalls;
          is = (λ t. put_row (q₁ t) j (row 12 (j - start t + 1) 2 unused (high t))) ∙ go next ∙ sym (ap (λ x. put_rows o n x) done ∙ last_row o n (rows_of (held ls) ++ (rows l ++ rows tree)) (row 12 (suc (size l + size tree)) 2 unused b));
          ends = start;
          next = on next start;
        };
      }
    where
      C : List (List ℕ)
      C = rows_of (held ls) ++ (rows l ++ rows tree)

      go : Next o j (e + size tree)
          → put_row (put_rows o n (rows_of (held ls) ++ (rows l ++ rows tree))) j (row 12 (j - (n + sizes (held ls)) + 1) 2 unused b)
          ≡ put_row (put_rows o n (rows_of (held ls) ++ (rows l ++ rows tree))) (n + length (rows_of (held ls) ++ (rows l ++ rows tree))) (row 12 (suc (size l + size tree)) 2 unused b)
      go (inl h) =
          let x : j ≡ n + length (rows_of (held ls) ++ (rows l ++ rows tree)) = omega (arith, h, ends, C-size, held_size_lem (b, l) ls) in
          let y : j - (n + sizes (held ls)) + 1 ≡ suc (size l + size tree) = omega (arith, h, ends, held_size_lem (b, l) ls) in
          λ t. put_row (put_rows o n (rows_of (held ls) ++ (rows l ++ rows tree))) (x t) (row 12 (y t) 2 unused b)
      go (inr h) =
          let len : length (put_rows o n (rows_of (held ls) ++ (rows l ++ rows tree))) ≡ length o = put_all_length record_width o n (rows_of (held ls) ++ (rows l ++ rows tree)) in
          put_not record_width (put_rows o n (rows_of (held ls) ++ (rows l ++ rows tree))) j (row 12 (j - (n + sizes (held ls)) + 1) 2 unused b) (rw len h.0)
          ∙ sym (put_not record_width (put_rows o n (rows_of (held ls) ++ (rows l ++ rows tree))) (n + length (rows_of (held ls) ++ (rows l ++ rows tree))) (row 12 (suc (size l + size tree)) 2 unused b)
          (rw len (omega (arith, h.1, ends, C-size, held_size_lem (b, l) ls))))

      on : Next o j (e + size tree) → e - get_or q (record_width * (e - 1) + 1) 0 ≡ n + sizes (held ls) → Next o (j + 1) (e - get_or q (record_width * (e - 1) + 1) 0 + size (binary 12 b l tree))
      on (inl h) st = inl (omega (arith, h, st, ends, held_size_lem (b, l) ls, size_two 12 b [] unused l tree))
      on (inr h) st = inr (omega (arith, h.0), omega (arith, h.1, st, ends, held_size_lem (b, l) ls, size_two 12 b [] unused l tree))

-- ---- the walk

pub turn : {goal : Tree} {o : List ℕ} {n e j : ℕ} {q : List ℕ} → Raising goal o n e j q → n < e → e ≤ room o → Turned goal o n e j q
unfolding size
turn {goal} {o} {n} {e} {j} {q} R more fits = go R.ls R.goal_is R.small R.is R.ends
  where
    go : (ls : List (ℕ × Tree)) → onto R.tree ls ≡ goal → Small ls → q ≡ put_rows o n (rows_of (held ls) ++ rows R.tree) → e ≡ n + sizes (held ls) → Turned goal o n e j q
    go [] g s i d = absurd (omega (arith, d))
    go (l ∷ ls) g (one k s) i d = at l.0 l.1 g k i d
      where
        at : (b : ℕ) (t : Tree) → onto R.tree ((b, t) ∷ ls) ≡ goal → kind_of t < kinds → q ≡ put_rows o n (rows_of (held ((b, t) ∷ ls)) ++ rows R.tree) → e ≡ n + sizes (held ((b, t) ∷ ls)) → Turned goal o n e j q
        at b (node k p x (fields f₁ f₂ f₃ f₄) ts) g' small i' d' = turn_at o n b k p x f₁ f₂ f₃ f₄ ts ls R.tree goal e j q g' small s i' d' R.next fits

-- where no operand waits, the goal stands there
pub raised_is : {goal : Tree} {o : List ℕ} {n e j : ℕ} {q : List ℕ} → Raising goal o n e j q → e ≤ n → q ≡ put_rows o n (rows goal)
unfolding rows
raised_is {goal} {o} {n} {e} {j} {q} R h = go R.ls R.goal_is R.is R.ends
  where
    go : (ls : List (ℕ × Tree)) → onto R.tree ls ≡ goal → q ≡ put_rows o n (rows_of (held ls) ++ rows R.tree) → e ≡ n + sizes (held ls) → q ≡ put_rows o n (rows goal)
    go [] g i d = i ∙ ap (λ t. put_rows o n (rows t)) g
    go (l ∷ ls) g i d = absurd (omega (arith, d, held_size_lem l ls, size_some l.1))

-- ---- where the walk begins: behind the last root that fits

past_at : (o : List ℕ) (n b : ℕ) (t : Tree) (ls : List (ℕ × Tree)) (tree : Tree) → room o < n + sizes (held ((b, t) ∷ ls))
    → put_rows o n (rows_of (held ((b, t) ∷ ls)) ++ rows tree) ≡ put_rows o n (rows_of (held ls) ++ rows (binary 12 b t tree))
past_at o n b (node k p s (fields f₁ f₂ f₃ f₄) ts) ls tree h =
    let l : Tree = node k p s (fields f₁ f₂ f₃ f₄) ts in
    let X : List (List ℕ) = rows_of (held ls) ++ rows_of ts in
    let R : List ℕ = parts ts ∷ f₁ ∷ f₂ ∷ f₃ ∷ f₄ ∷ p ∷ [] in
    let P : List (List ℕ) = row 12 (suc (size l + size tree)) 2 unused b ∷ [] in
    let out : room o ≤ n + length X = omega (arith, A-size o n b k p s f₁ f₂ f₃ f₄ ts ls tree, held_size_lem (b, l) ls, l_size o n b k p s f₁ f₂ f₃ f₄ ts ls tree) in
    let none_in : (Y : List (List ℕ)) → put_rows o n (X ++ Y) ≡ put_rows o n X
    = λ Y. put_all_append record_width o n X Y ∙ put_none record_width (put_rows o n X) (n + length X) Y (rw (put_all_length record_width o n X) out) in
    ap (λ x. put_rows o n x) (before o n b k p s f₁ f₂ f₃ f₄ ts ls tree) ∙ none_in (((k + kinds * b) ∷ suc (sizes ts) ∷ R) ∷ rows tree)
    ∙ sym (ap (λ x. put_rows o n x) (done o n b k p s f₁ f₂ f₃ f₄ ts ls tree ∙ ap (λ x. x ++ P) (after o n b k p s f₁ f₂ f₃ f₄ ts ls tree) ∙ append_assoc X ((k ∷ suc (sizes ts) ∷ R) ∷ rows tree) P)
    ∙ none_in (((k ∷ suc (sizes ts) ∷ R) ∷ rows tree) ++ P))

pub begin : {o : List ℕ} {n : ℕ} (ls : List (ℕ × Tree)) (tree : Tree) {e : ℕ} → Fits o n ls e → Small ls → (j : ℕ) (q : List ℕ) → q ≡ put_rows o n (rows_of (held ls) ++ rows tree)
    → Next o j (n + sizes (held ls) + size tree) → Raising (onto tree ls) o n e j q
unfolding size
begin {o} {n} [] tree nothing s j q i m = record { ls = []; tree = tree; goal_is = refl; small = none; is = i; ends = omega arith; next = subst (λ (x : ℕ). Next o j (x + size tree)) (add-zero n) m }
begin {o} {n} (l ∷ ls) tree (fit d h) s j q i m = record { ls = l ∷ ls; tree = tree; goal_is = refl; small = s; is = i; ends = d; next = subst (λ (x : ℕ). Next o j (x + size tree)) (sym d) m }
begin {o} {n} (l ∷ ls) tree (past h F) (one k s) j q i m =
    begin ls (binary 12 l.0 l.1 tree) F s j q (i ∙ past_at o n l.0 l.1 ls tree h)
    (inr (go m, omega (arith, h, held_size_lem l ls, size_two 12 l.0 [] unused l.1 tree)))
  where
    go : Next o j (n + sizes (held (l ∷ ls)) + size tree) → room o ≤ j
    go (inl e) = omega (arith, e, h)
    go (inr e) = e.0

-- ---- an operand that waits

mark_at : (o : List ℕ) (n b k p : ℕ) (s : List ℕ) (f₁ f₂ f₃ f₄ : ℕ) (ts : Trees) (ls : List (ℕ × Tree)) → k < kinds
    → (m : ℕ) (q : List ℕ) → q ≡ put_rows o n (rows_of (held ls) ++ rows (node k p s (fields f₁ f₂ f₃ f₄) ts)) → m ≡ n + sizes (held ls) + size (node k p s (fields f₁ f₂ f₃ f₄) ts)
    → (m ≤ room o → set q (record_width * (m - 1)) (get_or q (record_width * (m - 1)) 0 % kinds + kinds * b) ≡ put_rows o n (rows_of (held ((b, node k p s (fields f₁ f₂ f₃ f₄) ts) ∷ ls))))
    × (room o < m → q ≡ put_rows o n (rows_of (held ((b, node k p s (fields f₁ f₂ f₃ f₄) ts) ∷ ls))))
unfolding rows size
mark_at o n b k p s f₁ f₂ f₃ f₄ ts ls small m q is counts =
    let l : Tree = node k p s (fields f₁ f₂ f₃ f₄) ts in
    let X : List (List ℕ) = rows_of (held ls) ++ rows_of ts in
    let R : List ℕ = parts ts ∷ f₁ ∷ f₂ ∷ f₃ ∷ f₄ ∷ p ∷ [] in
    let x_size : length X ≡ sizes (held ls) + sizes ts = length-append (rows_of (held ls)) (rows_of ts) ∙ omega (arith, rows_of_size (held ls), rows_of_size ts) in
    let i_is : n + length X ≡ m - 1 = omega (arith, x_size, counts) in
    let new : rows_of (held ((b, l) ∷ ls)) ≡ X ++ (((k + kinds * b) ∷ suc (sizes ts) ∷ R) ∷ [])
    = rows_of_snoc (held ls) (marked b l) ∙ sym (append_assoc (rows_of (held ls)) (rows_of ts) (((k + kinds * b) ∷ suc (sizes ts) ∷ R) ∷ [])) in
    let old : q ≡ put_rows o n (X ++ ((k ∷ suc (sizes ts) ∷ R) ∷ []))
    = is ∙ ap (λ x. put_rows o n x) (sym (append_assoc (rows_of (held ls)) (rows_of ts) ((k ∷ suc (sizes ts) ∷ R) ∷ []))) in
    let none_in : room o < m → (Y : List (List ℕ)) → put_rows o n (X ++ Y) ≡ put_rows o n X
    = λ h Y. put_all_append record_width o n X Y ∙ put_none record_width (put_rows o n X) (n + length X) Y (rw (put_all_length record_width o n X) (omega (arith, h, i_is))) in (
      λ h.
          let in_room : n + length X < room o = omega (arith, h, i_is, counts) in
          let word : get_or q (record_width * (m - 1)) 0 ≡ k
          = (λ t. get_or (old t) (record_width * sym i_is t) 0) ∙ first_word o n X k (suc (sizes ts)) R [] in_room in
          let packed : get_or q (record_width * (m - 1)) 0 % kinds + kinds * b ≡ k + kinds * b = ap (λ (x : ℕ). x % kinds + kinds * b) word ∙ omega (arith, small) in
          (λ t. set (old t) (record_width * sym i_is t) (packed t)) ∙ first_set o n X k (suc (sizes ts)) R [] (k + kinds * b) in_room ∙ ap (λ x. put_rows o n x) (sym new),
      λ h. old ∙ none_in h ((k ∷ suc (sizes ts) ∷ R) ∷ []) ∙ sym (ap (λ x. put_rows o n x) new ∙ none_in h (((k + kinds * b) ∷ suc (sizes ts) ∷ R) ∷ [])),
    )

-- an operand behind those that wait, and m records then: its root is marked where it fits, and need not be where it does not
pub mark_law : (o : List ℕ) (n b : ℕ) (t : Tree) (ls : List (ℕ × Tree)) → kind_of t < kinds
    → (m : ℕ) (q : List ℕ) → q ≡ put_rows o n (rows_of (held ls) ++ rows t) → m ≡ n + sizes (held ls) + size t
    → (m ≤ room o → set q (record_width * (m - 1)) (get_or q (record_width * (m - 1)) 0 % kinds + kinds * b) ≡ put_rows o n (rows_of (held ((b, t) ∷ ls))))
    × (room o < m → q ≡ put_rows o n (rows_of (held ((b, t) ∷ ls))))
mark_law o n b (node k p s (fields f₁ f₂ f₃ f₄) ts) ls small m q is counts = mark_at o n b k p s f₁ f₂ f₃ f₄ ts ls small m q is counts

-- and the last root that fits is this one, or the one before
pub fits_more : {o : List ℕ} {n e : ℕ} (b : ℕ) (t : Tree) {ls : List (ℕ × Tree)} → Fits o n ls e → (m : ℕ) → m ≡ n + sizes (held ls) + size t
    → (m ≤ room o → Fits o n ((b, t) ∷ ls) m) × (room o < m → Fits o n ((b, t) ∷ ls) e)
fits_more {o} {n} b t {ls} F m c =
    let d : m ≡ n + sizes (held ((b, t) ∷ ls)) = omega (arith, c, held_size_lem (b, t) ls) in
    (λ h. fit d h, λ h. past (subst (λ (x : ℕ). room o < x) d h) F)

-- what waits begins the walk within the room, or there is none
pub within : {o : List ℕ} {n e : ℕ} {ls : List (ℕ × Tree)} → Fits o n ls e → n < e → e ≤ room o
within nothing h = absurd (omega arith)
within (fit d g) h = g
within (past g F) h = within F h

-- ---- the walk in code: what waits where it begins waits here

abbrev pub Walks : List ℕ → ℕ → ℕ → ℕ → List ℕ → ℕ → ℕ → Type 0
Walks q₀ n e₀ j₀ q e j =
    (goal : Tree) (o : List ℕ) → (n < e₀ → e₀ ≤ room o) → Raising goal o n e₀ j₀ q₀ → (n < e → e ≤ room o) × Raising goal o n e j q

pub walk_more : {q₀ : List ℕ} {n e₀ j₀ : ℕ} {q : List ℕ} {e j : ℕ} (q' : List ℕ) (e' j' : ℕ) → Walks q₀ n e₀ j₀ q e j → n < e
    → e' ≡ e - get_or q (record_width * (e - 1) + 1) 0 → j' ≡ j + 1
    → q' ≡ put_row (set q (record_width * (e - 1)) (get_or q (record_width * (e - 1)) 0 % kinds)) j (row 12 (j - e' + 1) 2 unused (get_or q (record_width * (e - 1)) 0 / kinds))
    → Walks q₀ n e₀ j₀ q' e' j'
walk_more {q₀} {n} {e₀} {j₀} {q} {e} {j} q' e' j' w more p r i goal o h R =
    let S = w goal o h R in
    let T : Turned goal o n e j q = turn S.1 more (S.0 more) in
    let z : q' ≡ put_row (set q (record_width * (e - 1)) (get_or q (record_width * (e - 1)) 0 % kinds)) j (row 12 (j - (e - get_or q (record_width * (e - 1) + 1) 0) + 1) 2 unused (get_or q (record_width * (e - 1)) 0 / kinds))
    = i ∙ ap (λ (x : ℕ). put_row (set q (record_width * (e - 1)) (get_or q (record_width * (e - 1)) 0 % kinds)) j (row 12 (j - x + 1) 2 unused (get_or q (record_width * (e - 1)) 0 / kinds))) p in
    (λ g. omega (arith, S.0 more, p), subst (λ (x : ℕ). Raising goal o n x j' q') (sym p) (subst (λ (x : ℕ). Raising goal o n (e - get_or q (record_width * (e - 1) + 1) 0) x q') (sym r) (subst (λ x. Raising goal o n (e - get_or q (record_width * (e - 1) + 1) 0) (j + 1) x) (sym z) T.state)))

-- the ends that are never met
pub walk_in : {q₀ : List ℕ} {n e₀ j₀ : ℕ} {q : List ℕ} {e j : ℕ} → Walks q₀ n e₀ j₀ q e j → n < e → (goal : Tree) (o : List ℕ) → (n < e₀ → e₀ ≤ room o) → Raising goal o n e₀ j₀ q₀
    → (e ≤ room q) × (1 ≤ get_or q (record_width * (e - 1) + 1) 0) × (get_or q (record_width * (e - 1) + 1) 0 ≤ e - n)
walk_in {q₀} {n} {e₀} {j₀} {q} {e} {j} w more goal o h R =
    let S = w goal o h R in
    let T : Turned goal o n e j q = turn S.1 more (S.0 more) in
    let len : length q ≡ length o = ap length S.1.is ∙ put_all_length record_width o n (rows_of (held S.1.ls) ++ rows S.1.tree) in
    (subst (λ (x : ℕ). e ≤ x / record_width) (sym len) (S.0 more), T.some, T.inside)

-- and its end
pub walk_done : {q₀ : List ℕ} {n e₀ j₀ : ℕ} {q : List ℕ} {e j : ℕ} → Walks q₀ n e₀ j₀ q e j → e ≤ n → (goal : Tree) (o : List ℕ) → (n < e₀ → e₀ ≤ room o) → Raising goal o n e₀ j₀ q₀ → q ≡ put_rows o n (rows goal)
walk_done w h goal o k R = raised_is (w goal o k R).1 h
