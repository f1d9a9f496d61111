-- Laws of records in lent memory: what stands there after a node's parts and the node, and after all.
use Rattle.std.specs.Prelude.{if◌then◌else◌}
use mathlib.Core.Path.{◌≡◌, refl, sym, ap, ◌∙◌}
use mathlib.Core.Bool.{Bool, true, false}
use mathlib.Core.List.{List, [], ◌∷◌, ◌++◌, append_assoc, append-nil}
use Prim.Native.Nat.{ℕ, suc, ◌+◌, ◌*◌, ◌/◌, ◌≤◌, ◌<◌}
use native.Mathlib.Nat.{add-zero, zero-add, mul-zero, mul-add, mul_comm, le_trans, le-div_iff_mul-le}
use native.Mathlib.Numerals.{add-one}
use native.Mathlib.Omega.{arith}
use lib.Dec.{ltb}
use lib.ListN.{length, length-append, length-set, set, take, drop, take-append-drop}
use lib.Seq.{sets, sets-eq, length-take-le, take_all, take_at, drop_at, drop-append-add, drop-drop}
use borrow.Author.Tests.{lt-ltb, le-ltb}
use Rattle.grammar.specs.Sizes.{record_width}
use Rattle.grammar.specs.Trees.{Tree, Trees, node, nil, ◌▹◌, Fields, fields, snoc, join, parts, size, sizes, row, records, records_of}
use Rattle.reading.specs.Rows.{rows, rows_of, put_words, put_at, put_all, put_row, put_rows}
use Rattle.reading.specs.Meets.{Before}
use Rattle.grammar.proofs.TreeLaws.{size_snoc}

-- ---- how many

pub size_node : (k y : ℕ) (x : List ℕ) (f : Fields) (ts : Trees) → size (node k y x f ts) ≡ suc (sizes ts)
unfolding size
size_node k y x f ts = refl

pub sizes_nil : sizes nil ≡ 0
unfolding size
sizes_nil = refl

pub sizes_front : (t : Tree) (ts : Trees) → sizes (t ▹ ts) ≡ size t + sizes ts
unfolding size
sizes_front t ts = refl

pub size_leaf : (k y : ℕ) (x : List ℕ) (f : Fields) → size (node k y x f nil) ≡ 1
unfolding size
size_leaf k y x f = refl

pub size_one : (k y : ℕ) (x : List ℕ) (f : Fields) (a : Tree) → size (node k y x f (a ▹ nil)) ≡ suc (size a)
unfolding size
size_one k y x f a = ap suc (add-zero (size a))

pub size_two : (k y : ℕ) (x : List ℕ) (f : Fields) (a b : Tree) → size (node k y x f (a ▹ b ▹ nil)) ≡ suc (size a + size b)
unfolding size
size_two k y x f a b = ap (λ n. suc (size a + n)) (add-zero (size b))

pub size_some : (t : Tree) → 1 ≤ size t
size_some (node k y x f ts) = omega (arith, size_node k y x f ts)

pub parts_few : (ts : Trees) → parts ts ≤ sizes ts
parts_few nil = omega arith
parts_few (t ▹ ts) = omega (arith, sizes_front t ts, size_some t, parts_few ts)

mutual
  unfolding rows size

  pub rows_size : (t : Tree) → length (rows t) ≡ size t
  rows_size (node k y x f ts) = length-append (rows_of ts) (row k (suc (sizes ts)) (parts ts) f y ∷ []) ∙ omega (arith, rows_of_size ts)

  pub rows_of_size : (ts : Trees) → length (rows_of ts) ≡ sizes ts
  rows_of_size nil = refl
  rows_of_size (t ▹ ts) = length-append (rows t) (rows_of ts) ∙ omega (arith, rows_size t, rows_of_size ts)

-- ---- the rows of one more part

pub rows_node : (k y : ℕ) (x : List ℕ) (f : Fields) (ts : Trees) → rows (node k y x f ts) ≡ rows_of ts ++ (row k (suc (sizes ts)) (parts ts) f y ∷ [])
unfolding rows
rows_node k y x f ts = refl

pub rows_of_front : (t : Tree) (ts : Trees) → rows_of (t ▹ ts) ≡ rows t ++ rows_of ts
unfolding rows
rows_of_front t ts = refl

pub rows_of_snoc : (ts : Trees) (t : Tree) → rows_of (snoc ts t) ≡ rows_of ts ++ rows t
unfolding rows
rows_of_snoc nil t = append-nil (rows t)
rows_of_snoc (u ▹ us) t = ap (λ l. rows u ++ l) (rows_of_snoc us t) ∙ sym (append_assoc (rows u) (rows_of us) (rows t))

pub rows_of_join : (ts us : Trees) → rows_of (join ts us) ≡ rows_of ts ++ rows_of us
unfolding rows
rows_of_join nil us = refl
rows_of_join (t ▹ ts) us = ap (λ l. rows t ++ l) (rows_of_join ts us) ∙ sym (append_assoc (rows t) (rows_of ts) (rows_of us))

-- ---- the length stays

pub put_words_length : (o : List ℕ) (i : ℕ) (ws : List ℕ) → length (put_words o i ws) ≡ length o
unfolding put_words
put_words_length o i [] = refl
put_words_length o i (w ∷ ws) = put_words_length (set o i w) (i + 1) ws ∙ length-set o i w

either_length : (b : Bool) (o o' : List ℕ) → length o' ≡ length o → length (if b then o' else o) ≡ length o
either_length true o o' e = e
either_length false o o' e = refl

module _ (w : ℕ) where
  pub put_at_length : (o : List ℕ) (n : ℕ) (r : List ℕ) → length (put_at w o n r) ≡ length o
  unfolding put_at
  put_at_length o n r = either_length (ltb n (length o / w)) o (put_words o (w * n) r) (put_words_length o (w * n) r)

  pub put_all_length : (o : List ℕ) (n : ℕ) (rs : List (List ℕ)) → length (put_all w o n rs) ≡ length o
  unfolding put_all
  put_all_length o n [] = refl
  put_all_length o n (r ∷ rs) = put_all_length (put_at w o n r) (n + 1) rs ∙ put_at_length o n r

  -- ---- the memory, by the rows

  pub put_all_one : (o : List ℕ) (n : ℕ) (r : List ℕ) → put_all w o n (r ∷ []) ≡ put_at w o n r
  unfolding put_all
  put_all_one o n r = refl

  pub put_all_append : (o : List ℕ) (n : ℕ) (xs ys : List (List ℕ)) → put_all w o n (xs ++ ys) ≡ put_all w (put_all w o n xs) (n + length xs) ys
  unfolding put_all
  put_all_append o n [] ys = rw add-zero
  put_all_append o n (x ∷ xs) ys =
      put_all_append (put_at w o n x) (n + 1) xs ys
      ∙ (let q : n + 1 + length xs ≡ n + suc (length xs) = omega arith in rw q)

-- equal arguments, equal memory
pub put_same : {o₁ o₂ : List ℕ} {n₁ n₂ : ℕ} {r₁ r₂ : List ℕ} → o₁ ≡ o₂ → n₁ ≡ n₂ → r₁ ≡ r₂ → put_row o₁ n₁ r₁ ≡ put_row o₂ n₂ r₂
put_same p q r = cc

pub row_same : (k : ℕ) (f : Fields) (y : ℕ) {n₁ n₂ m₁ m₂ : ℕ} → n₁ ≡ n₂ → m₁ ≡ m₂ → row k n₁ m₁ f y ≡ row k n₂ m₂ f y
row_same k f y p q = rw (p, q)

pub put_rows_same : {o₁ o₂ : List ℕ} {n₁ n₂ : ℕ} {rs₁ rs₂ : List (List ℕ)} → o₁ ≡ o₂ → n₁ ≡ n₂ → rs₁ ≡ rs₂ → put_rows o₁ n₁ rs₁ ≡ put_rows o₂ n₂ rs₂
put_rows_same p q r = cc

-- ---- the memory, by the parts of a tree

pub put_nil : (o : List ℕ) (n : ℕ) → put_rows o n (rows_of nil) ≡ o
unfolding rows put_all
put_nil o n = refl

pub put_front : (o : List ℕ) (n : ℕ) (a : Tree) (ts : Trees) → put_rows o n (rows_of (a ▹ ts)) ≡ put_rows (put_rows o n (rows a)) (n + size a) (rows_of ts)
put_front o n a ts = rw (rows_of_front a ts, put_all_append record_width o n (rows a) (rows_of ts), rows_size a)

pub put_snoc : (o : List ℕ) (n : ℕ) (ts : Trees) (t : Tree) → put_rows o n (rows_of (snoc ts t)) ≡ put_rows (put_rows o n (rows_of ts)) (n + sizes ts) (rows t)
put_snoc o n ts t = rw (rows_of_snoc ts t, put_all_append record_width o n (rows_of ts) (rows t), rows_of_size ts)

pub put_join : (o : List ℕ) (n : ℕ) (ts us : Trees) → put_rows o n (rows_of (join ts us)) ≡ put_rows (put_rows o n (rows_of ts)) (n + sizes ts) (rows_of us)
put_join o n ts us = rw (rows_of_join ts us, put_all_append record_width o n (rows_of ts) (rows_of us), rows_of_size ts)

pub put_single : (o : List ℕ) (n : ℕ) (a : Tree) → put_rows o n (rows_of (a ▹ nil)) ≡ put_rows o n (rows a)
unfolding rows
put_single o n a = rw append-nil

pub put_pair : (o : List ℕ) (n : ℕ) (a b : Tree) → put_rows o n (rows_of (a ▹ b ▹ nil)) ≡ put_rows (put_rows o n (rows a)) (n + size a) (rows b)
put_pair o n a b = put_front o n a (b ▹ nil) ∙ put_single (put_rows o n (rows a)) (n + size a) b

pub put_node : (o : List ℕ) (n k y : ℕ) (x : List ℕ) (f : Fields) (ts : Trees)
    → put_rows o n (rows (node k y x f ts)) ≡ put_row (put_rows o n (rows_of ts)) (n + sizes ts) (row k (suc (sizes ts)) (parts ts) f y)
put_node o n k y x f ts =
    rw (rows_node k y x f ts, put_all_append record_width o n (rows_of ts) (row k (suc (sizes ts)) (parts ts) f y ∷ []), put_all_one, rows_of_size ts)

pub put_leaf : (o : List ℕ) (n k y : ℕ) (x : List ℕ) (f : Fields) → put_rows o n (rows (node k y x f nil)) ≡ put_row o n (row k 1 0 f y)
put_leaf o n k y x f = put_node o n k y x f nil ∙ rw (put_nil, sizes_nil, add-zero)

pub put_one_part : (o : List ℕ) (n k y : ℕ) (x : List ℕ) (f : Fields) (a : Tree)
    → put_rows o n (rows (node k y x f (a ▹ nil))) ≡ put_row (put_rows o n (rows a)) (n + size a) (row k (suc (size a)) 1 f y)
put_one_part o n k y x f a =
    let q : sizes (a ▹ nil) ≡ size a = omega (arith, sizes_front a nil, sizes_nil) in
    put_node o n k y x f (a ▹ nil) ∙ rw (put_single, q)

pub put_two : (o : List ℕ) (n k y : ℕ) (x : List ℕ) (f : Fields) (a b : Tree)
    → put_rows o n (rows (node k y x f (a ▹ b ▹ nil)))
    ≡ put_row (put_rows (put_rows o n (rows a)) (n + size a) (rows b)) (n + size a + size b) (row k (suc (size a + size b)) 2 f y)
put_two o n k y x f a b =
    let q : sizes (a ▹ b ▹ nil) ≡ size a + size b = omega (arith, sizes_front a (b ▹ nil), sizes_front b nil, sizes_nil) in
    let p : n + (size a + size b) ≡ n + size a + size b = omega arith in
    put_node o n k y x f (a ▹ b ▹ nil) ∙ rw (put_pair, q, p)

-- ---- the memory o₂ after a node, from the memory after its parts

module _ (o : List ℕ) (n k y : ℕ) (x : List ℕ) (f : Fields) {o₂ : List ℕ} where
  pub after_leaf : o₂ ≡ put_row o n (row k 1 0 f y) → o₂ ≡ put_rows o n (rows (node k y x f nil))
  after_leaf e = e ∙ sym (put_leaf o n k y x f)

  pub after_one : {m w : ℕ} {o₁ : List ℕ} (a : Tree) → m ≡ n + size a → o₁ ≡ put_rows o n (rows a) → w ≡ suc (size a)
      → o₂ ≡ put_row o₁ m (row k w 1 f y) → o₂ ≡ put_rows o n (rows (node k y x f (a ▹ nil)))
  after_one a p q r e = e ∙ put_same q p (row_same k f y r refl) ∙ sym (put_one_part o n k y x f a)

  pub after_two : {l m w : ℕ} {o₀ o₁ : List ℕ} (a b : Tree) → l ≡ n + size a → o₀ ≡ put_rows o n (rows a) → m ≡ l + size b → o₁ ≡ put_rows o₀ l (rows b)
      → w ≡ suc (size a + size b) → o₂ ≡ put_row o₁ m (row k w 2 f y) → o₂ ≡ put_rows o n (rows (node k y x f (a ▹ b ▹ nil)))
  after_two {l} a b p q r s u e =
      let m_is : l + size b ≡ n + size a + size b = omega arith in
      e ∙ put_same (s ∙ put_rows_same q p refl) (r ∙ m_is) (row_same k f y u refl) ∙ sym (put_two o n k y x f a b)

-- ---- the parts that stand before

pub before_none : (n : ℕ) (o : List ℕ) → Before n o nil n o
before_none n o = record { counts = omega (arith, sizes_nil); writes = sym (put_nil o n) }

pub before_more : {n m m' : ℕ} {o o₁ o₂ : List ℕ} {ts : Trees} (t : Tree) → Before n o ts m o₁ → m' ≡ m + size t → o₂ ≡ put_rows o₁ m (rows t)
    → Before n o (snoc ts t) m' o₂
before_more {n} {o} {ts} t h e w =
    record {
      counts = omega (arith, h.counts, size_snoc ts t);
      writes = w ∙ put_rows_same h.writes h.counts refl ∙ sym (put_snoc o n ts t);
    }

-- the node of the parts before it
pub before_node : {n m w v : ℕ} {o o₁ o₂ : List ℕ} {ts : Trees} (k y : ℕ) (x : List ℕ) (f : Fields) → Before n o ts m o₁ → w ≡ suc (sizes ts) → v ≡ parts ts
    → o₂ ≡ put_row o₁ m (row k w v f y) → o₂ ≡ put_rows o n (rows (node k y x f ts))
before_node {n} {o} {ts} k y x f h p q e = e ∙ put_same h.writes h.counts (row_same k f y p q) ∙ sym (put_node o n k y x f ts)

-- ---- the words of the records

abbrev pub flat : List (List ℕ) → List ℕ
flat [] = []
flat (r ∷ rs) = r ++ flat rs

pub flat_append : (rs ss : List (List ℕ)) → flat (rs ++ ss) ≡ flat rs ++ flat ss
flat_append [] ss = refl
flat_append (r ∷ rs) ss = ap (λ l. r ++ l) (flat_append rs ss) ∙ sym (append_assoc r (flat rs) (flat ss))

mutual
  unfolding rows records

  pub rows_flat : (t : Tree) → flat (rows t) ≡ records t
  rows_flat (node k y x f ts) =
      flat_append (rows_of ts) (row k (suc (sizes ts)) (parts ts) f y ∷ [])
      ∙ ap (λ l. l ++ (row k (suc (sizes ts)) (parts ts) f y ++ [])) (rows_of_flat ts)
      ∙ ap (λ l. records_of ts ++ l) (append-nil (row k (suc (sizes ts)) (parts ts) f y))

  pub rows_of_flat : (ts : Trees) → flat (rows_of ts) ≡ records_of ts
  rows_of_flat nil = refl
  rows_of_flat (t ▹ ts) =
      flat_append (rows t) (rows_of ts) ∙ ap (λ l. l ++ flat (rows_of ts)) (rows_flat t) ∙ ap (λ l. records t ++ l) (rows_of_flat ts)

-- each row has as many words as are its width
pub data Wide (w : ℕ) : List (List ℕ) → Type 0 where
  none : Wide w []
  more : {r : List ℕ} {rs : List (List ℕ)} → length r ≡ w → Wide w rs → Wide w (r ∷ rs)

pub row_length : (k n m : ℕ) (f : Fields) (y : ℕ) → length (row k n m f y) ≡ record_width
row_length k n m (fields a b c d) y = refl

pub wide_append : {w : ℕ} {rs ss : List (List ℕ)} → Wide w rs → Wide w ss → Wide w (rs ++ ss)
wide_append none v = v
wide_append (more e u) v = more e (wide_append u v)

mutual
  unfolding rows

  pub rows_wide : (t : Tree) → Wide record_width (rows t)
  rows_wide (node k y x f ts) = wide_append (rows_of_wide ts) (more (row_length k (suc (sizes ts)) (parts ts) f y) none)

  pub rows_of_wide : (ts : Trees) → Wide record_width (rows_of ts)
  rows_of_wide nil = none
  rows_of_wide (t ▹ ts) = wide_append (rows_wide t) (rows_of_wide ts)

-- ---- the memory after all

pub put_words_sets : (o : List ℕ) (i : ℕ) (ws : List ℕ) → put_words o i ws ≡ sets o i ws
unfolding put_words
put_words_sets o i [] = refl
put_words_sets o i (w ∷ ws) = put_words_sets (set o i w) (i + 1) ws ∙ rw add-one

-- one that does not fit
pub put_not : (w : ℕ) (o : List ℕ) (n : ℕ) (r : List ℕ) → length o / w ≤ n → put_at w o n r ≡ o
unfolding put_at
put_not w o n r h = rw (le-ltb n (length o / w) h)

-- nothing is written where nothing fits
pub put_none : (w : ℕ) (o : List ℕ) (n : ℕ) (rs : List (List ℕ)) → length o / w ≤ n → put_all w o n rs ≡ o
unfolding put_all
put_none w o n [] h = refl
put_none w o n (r ∷ rs) h =
    let l : length o / w ≤ n + 1 = le_trans h (omega arith) in
    rw (put_not w o n r h) (put_none w o (n + 1) rs l)

module _ (w : ℕ) (some : 0 < w) where
  -- one that fits
  put_fits : (o : List ℕ) (n : ℕ) (r : List ℕ) → w * n + w ≤ length o → length r ≡ w → put_at w o n r ≡ take (w * n) o ++ r ++ drop (w * n + w) o
  unfolding put_at
  put_fits o n r h e =
      let fits : n < length o / w = (le-div_iff_mul-le some).1 (omega (arith, mul_comm (suc n) w)) in
      let room : w * n + length r ≤ length o = rw e h in
      rw (lt-ltb n (length o / w) fits) (put_words_sets o (w * n) r ∙ sets-eq r o (w * n) room ∙ rw e)

  -- as a part of the memory that is written
  pub put_part : (o : List ℕ) (n : ℕ) (r : List ℕ) → n < length o / w → length r ≡ w → take (w * n) o ++ take w r ++ drop (w * n + w) o ≡ put_at w o n r
  put_part o n r fits e =
      let room : w * n + w ≤ length o = omega (arith, (le-div_iff_mul-le some).0 fits, mul_comm (suc n) w) in
      rw (take_all w r (omega (arith, e))) (sym (put_fits o n r room e))

  pub put_all_lem : (o : List ℕ) (n : ℕ) (rs : List (List ℕ)) → w * n + w * length rs ≤ length o → Wide w rs
      → put_all w o n rs ≡ take (w * n) o ++ (flat rs ++ drop (w * n + w * length rs) o)
  unfolding put_all
  put_all_lem o n [] h v = sym (rw (mul-zero, add-zero) (take-append-drop (w * n) o))
  put_all_lem o n (r ∷ rs) h (more e v) =
      let next : w * (n + 1) ≡ w * n + w = mul-add w n 1 ∙ omega arith in
      let room : w * n + w ≤ length o = omega arith in
      let front : length (take (w * n) o ++ r) ≡ w * n + w = length-append (take (w * n) o) r ∙ omega (arith, length-take-le (w * n) o (omega arith)) in
      let is : put_at w o n r ≡ take (w * n) o ++ r ++ drop (w * n + w) o = put_fits o n r room e in
      let more_room : w * (n + 1) + w * length rs ≤ length (put_at w o n r) = omega (arith, put_at_length w o n r) in
      let before : take (w * (n + 1)) (put_at w o n r) ≡ take (w * n) o ++ r =
      rw (next, is) (take_at (take (w * n) o ++ r) (drop (w * n + w) o) (w * n + w) front) in
      let past : w * (n + 1) + w * length rs ≡ length (take (w * n) o ++ r) + w * length rs = omega arith in
      let sum : w * n + w + w * length rs ≡ w * n + w * suc (length rs) = omega arith in
      let behind : drop (w * (n + 1) + w * length rs) (put_at w o n r) ≡ drop (w * n + w * suc (length rs)) o =
      rw (is, past)
      (drop-append-add (take (w * n) o ++ r) (drop (w * n + w) o) (w * length rs)
      ∙ drop-drop (w * length rs) (w * n + w) o ∙ ap (λ i. drop i o) sum) in
      put_all_lem (put_at w o n r) (n + 1) rs more_room v
      ∙ rw (before, behind) (append_assoc (take (w * n) o) r _ ∙ ap (λ l. take (w * n) o ++ l) (sym (append_assoc r _ _)))

  -- from where they stand on
  pub put_behind : (o : List ℕ) (n : ℕ) (rs : List (List ℕ)) → w * n + w * length rs ≤ length o → Wide w rs
      → drop (w * n) (put_all w o n rs) ≡ flat rs ++ drop (w * n + w * length rs) o
  put_behind o n rs h v =
      ap (drop (w * n)) (put_all_lem o n rs h v)
      ∙ drop_at (take (w * n) o) (flat rs ++ drop (w * n + w * length rs) o) (w * n) (length-take-le (w * n) o (omega arith))

  -- from the front of the memory
  pub put_first : (o : List ℕ) (rs : List (List ℕ)) → w * length rs ≤ length o → Wide w rs → put_all w o 0 rs ≡ flat rs ++ drop (w * length rs) o
  put_first o rs h v = put_all_lem o 0 rs (omega arith) v ∙ rw (mul-zero, zero-add)
