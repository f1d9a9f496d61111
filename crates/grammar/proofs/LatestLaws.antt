-- The latest date: over records' words put together, over the nodes of a tree, over the entries of a directory.
use Rattle.std.specs.Prelude.{if◌then◌else◌}
use mathlib.Core.Path.{◌≡◌, refl, sym, ap, ap₂, subst, ◌∙◌}
use mathlib.Core.Bool.{Bool, true, false, ◌||◌}
use mathlib.Core.Logic.{◌⊎◌, inl, inr, ⊎_map}
use mathlib.Core.List.{List, [], ◌∷◌, ◌++◌, map, Memᴰ}
use Prim.Native.Nat.{ℕ, zero, suc, ◌+◌, ◌-◌, ◌*◌, ◌≤◌, ◌<◌, max}
use native.Mathlib.Nat.{zero-add, add-zero, suc-add, max-eq_left, max-eq_right}
use native.Mathlib.Numerals.{add-one}
use native.Mathlib.Decide.{dec_le}
use native.Mathlib.Omega.{arith}
use lib.Dec.{eqb}
use borrow.Author.Tests.{eqb-true}
use lib.ListN.{length, length-drop, drop, get_or, get_or-append}
use lib.Seq.{drop-drop, drop-append-le, drop_at, get_or-drop}
use Rattle.grammar.specs.Sizes.{record_width}
use Rattle.grammar.specs.Trees.{Tree, Trees, node, nil, ◌▹◌, Fields, fields, row, parts, size, sizes, records, records_of}
use Rattle.grammar.specs.Latest.{date_of, date_at, latest_in, Date, spot, equity, df, from, to, pays, Has, here, below, HasPart, this, other}
use Rattle.grammar.specs.Words.{Row, latest_of}
use Rattle.grammar.proofs.WordLaws.{records_length, all_length}

-- ---- over words put together

-- n records, and m more behind them
pub latest_split : (n m : ℕ) (ws : List ℕ) → latest_in (n + m) ws ≡ max (latest_in n ws) (latest_in m (drop (record_width * n) ws))
unfolding latest_in
latest_split zero m ws = rw zero-add (omega arith)
latest_split (suc n) m ws =
    let one_more : record_width + record_width * n ≡ record_width * suc n = omega arith in
    let behind : drop (record_width * n) (drop record_width ws) ≡ drop (record_width * suc n) ws =
    drop-drop (record_width * n) record_width ws ∙ ap (λ (k : ℕ). drop k ws) one_more in
    rw suc-add (omega (arith, latest_split n m (drop record_width ws), ap (latest_in m) behind))

-- the date of the record that stands first is that of its own words, whatever stands behind them
date_at_append : (ws vs : List ℕ) → record_width ≤ length ws → date_at (ws ++ vs) ≡ date_at ws
date_at_append ws vs h = cc (word 0 (omega arith), word 3 (omega arith), word 5 (omega arith), word 6 (omega arith))
  where
    word : (i : ℕ) → i < record_width → get_or (ws ++ vs) i 0 ≡ get_or ws i 0
    word i l = get_or-append ws vs 0 i (omega arith)

-- only the first n records count
pub latest_first : (n : ℕ) (ws vs : List ℕ) → record_width * n ≤ length ws → latest_in n (ws ++ vs) ≡ latest_in n ws
unfolding latest_in
latest_first zero ws vs h = refl
latest_first (suc n) ws vs h =
    let whole : record_width ≤ length ws = omega arith in
    let behind : latest_in n (drop record_width ws ++ vs) ≡ latest_in n (drop record_width ws) =
    latest_first n (drop record_width ws) vs (omega (arith, length-drop record_width ws)) in
    cc (date_at_append ws vs whole, drop-append-le record_width ws vs whole)

-- of no record
pub latest_none : (n : ℕ) (ws : List ℕ) → n ≡ 0 → latest_in n ws ≡ 0
unfolding latest_in
latest_none n ws h = rw h

-- the record i, then those behind it
pub latest_turn : (ws : List ℕ) (i m : ℕ) → i < m
    → latest_in (m - i) (drop (record_width * i) ws)
    ≡ max (date_of (get_or ws (record_width * i) 0) (get_or ws (record_width * i + 3) 0) (get_or ws (record_width * i + 5) 0) (get_or ws (record_width * i + 6) 0)) (latest_in (m - (i + 1)) (drop (record_width * (i + 1)) ws))
unfolding latest_in
latest_turn ws i m h =
    let one_less : m - i ≡ suc (m - (i + 1)) = omega arith in
    let next : record_width * i + record_width ≡ record_width * (i + 1) = omega arith in
    let behind : drop record_width (drop (record_width * i) ws) ≡ drop (record_width * (i + 1)) ws =
    drop-drop record_width (record_width * i) ws ∙ ap (λ (k : ℕ). drop k ws) next in
    let word : (j : ℕ) → get_or (drop (record_width * i) ws) j 0 ≡ get_or ws (record_width * i + j) 0 = λ j. get_or-drop (record_width * i) ws j 0 in
    rw one_less (cc (behind, word 0, word 3, word 5, word 6, add-zero (record_width * i)))

-- of words put together, the later of those of both
pub latest_append : (n m : ℕ) (ws vs : List ℕ) → length ws ≡ record_width * n → latest_in (n + m) (ws ++ vs) ≡ max (latest_in n ws) (latest_in m vs)
latest_append n m ws vs h =
    latest_split n m (ws ++ vs) ∙ ap₂ max (latest_first n ws vs (omega arith)) (ap (latest_in m) (drop_at ws vs (record_width * n) h))

-- ---- over trees: the greatest of their dates

-- 0, which is none, or what passes a test
abbrev pub NoneOr : (ℕ → Type 0) → ℕ → Type 0
NoneOr P x = (x ≡ 0) ⊎ P x

-- of two such numbers the greater is one, too
none_or_max : (P : ℕ → Type 0) {x y : ℕ} → NoneOr P x → NoneOr P y → NoneOr P (max x y)
none_or_max P {x} {y} h g = go (dec_le y x)
  where
    go : Dec (y ≤ x) → NoneOr P (max x y)
    go (yes l) = rw max-eq_left h
    go (no n) = let l : x ≤ y = omega arith in rw max-eq_right g

-- the date of a node's record: no date of the node is later, and it is 0 or one of them
abbrev date_in : ℕ → Fields → ℕ
date_in k (fields a b c d) = date_of k a c d

date_greatest : {k x : ℕ} {f : Fields} → Date k f x → x ≤ date_in k f
date_greatest spot = omega arith
date_greatest equity = omega arith
date_greatest df = omega arith
date_greatest from = omega arith
date_greatest to = omega arith
date_greatest pays = omega arith

date_had : (k : ℕ) (f : Fields) → NoneOr (Date k f) (date_in k f)
date_had k (fields a b c d) = go (eqb k 32) (eqb k 33) (eqb k 34) (eqb k 36) (eqb k 35) refl refl refl refl refl
  where
    of_kind : {x : ℕ} (j : ℕ) → eqb k j ≡ true → Date j (fields a b c d) x → Date k (fields a b c d) x
    of_kind {x} j e h = subst (λ i. Date i (fields a b c d) x) (sym (eqb-true k j e)) h

    go : (s e f p r : Bool) → eqb k 32 ≡ s → eqb k 33 ≡ e → eqb k 34 ≡ f → eqb k 36 ≡ p → eqb k 35 ≡ r
        → NoneOr (Date k (fields a b c d)) (if s || e then c else if f || p then a else if r then max c d else 0)
    go true e f p r hs he hf hp hr = inr (of_kind 32 hs spot)
    go false true f p r hs he hf hp hr = inr (of_kind 33 he equity)
    go false false true p r hs he hf hp hr = inr (of_kind 34 hf df)
    go false false false true r hs he hf hp hr = inr (of_kind 36 hp pays)
    go false false false false true hs he hf hp hr = none_or_max (Date k (fields a b c d)) (inr (of_kind 35 hr from)) (inr (of_kind 35 hr to))
    go false false false false false hs he hf hp hr = inl refl

-- of the records of a tree, and of several
abbrev in_tree : Tree → ℕ
in_tree t = latest_in (size t) (records t)

abbrev in_trees : Trees → ℕ
in_trees ts = latest_in (sizes ts) (records_of ts)

-- a node's record stands behind those of its parts, which stand one after the other
row_latest : (k n m : ℕ) (f : Fields) (p : ℕ) → latest_in 1 (row k n m f p) ≡ date_in k f
unfolding latest_in
row_latest k n m (fields a b c d) p = omega arith

nil_latest : in_trees nil ≡ 0
unfolding size records latest_in
nil_latest = refl

node_latest : (k p : ℕ) (s : List ℕ) (f : Fields) (ts : Trees) → in_tree (node k p s f ts) ≡ max (in_trees ts) (date_in k f)
unfolding size records
node_latest k p s f ts =
    let last : List ℕ = row k (suc (sizes ts)) (parts ts) f p in
    ap (λ (n : ℕ). latest_in n (records_of ts ++ last)) (sym (add-one (sizes ts)))
    ∙ latest_append (sizes ts) 1 (records_of ts) last (all_length ts) ∙ ap (max (in_trees ts)) (row_latest k (suc (sizes ts)) (parts ts) f p)

more_latest : (t : Tree) (ts : Trees) → in_trees (t ▹ ts) ≡ max (in_tree t) (in_trees ts)
unfolding size records
more_latest t ts = latest_append (size t) (sizes ts) (records t) (records_of ts) (records_length t)

mutual
  -- no date of the tree is later
  pub latest_greatest : (t : Tree) (x : ℕ) → Has x t → x ≤ latest_in (size t) (records t)
  latest_greatest (node k p s f ts) x (here d) = omega (arith, node_latest k p s f ts, date_greatest d)
  latest_greatest (node k p s f ts) x (below h) = omega (arith, node_latest k p s f ts, latest_greatest_of ts x h)

  latest_greatest_of : (ts : Trees) (x : ℕ) → HasPart x ts → x ≤ in_trees ts
  latest_greatest_of nil x h = elim h [ ]
  latest_greatest_of (t ▹ ts) x (this h) = omega (arith, more_latest t ts, latest_greatest t x h)
  latest_greatest_of (t ▹ ts) x (other p) = omega (arith, more_latest t ts, latest_greatest_of ts x p)

mutual
  -- it is 0, or a date of the tree
  pub latest_had : (t : Tree) → (latest_in (size t) (records t) ≡ 0) ⊎ Has (latest_in (size t) (records t)) t
  latest_had (node k p s f ts) =
      subst (NoneOr (λ x. Has x (node k p s f ts))) (sym (node_latest k p s f ts))
      (none_or_max (λ x. Has x (node k p s f ts)) (⊎_map (λ z. z) below (latest_had_of ts)) (⊎_map (λ z. z) here (date_had k f)))

  latest_had_of : (ts : Trees) → NoneOr (λ x. HasPart x ts) (in_trees ts)
  latest_had_of nil = inl nil_latest
  latest_had_of (t ▹ ts) =
      subst (NoneOr (λ x. HasPart x (t ▹ ts))) (sym (more_latest t ts))
      (none_or_max (λ x. HasPart x (t ▹ ts)) (⊎_map (λ z. z) this (latest_had t)) (⊎_map (λ z. z) other (latest_had_of ts)))

-- ---- over entries

-- each entry's is at most the script's
pub latest_of_each : (r : Row) (rs : List Row) → Memᴰ r rs → r.latest ≤ latest_of rs
unfolding latest_of
latest_of_each r [] m = elim m [ ]
latest_of_each r (s ∷ rs) (Memᴰ.head e) = omega (arith, ap (λ (x : Row). x.latest) e)
latest_of_each r (s ∷ rs) (Memᴰ.tail m) = omega (arith, latest_of_each r rs m)

-- one of the rows has it
abbrev pub RowHas : List Row → ℕ → Type 0
RowHas rs x = (r : Row) × Memᴰ r rs × (r.latest ≡ x)

-- the script's is 0, or one of theirs
pub latest_of_had : (rs : List Row) → NoneOr (RowHas rs) (latest_of rs)
unfolding latest_of
latest_of_had [] = inl refl
latest_of_had (s ∷ rs) =
    none_or_max (RowHas (s ∷ rs)) (inr (s, Memᴰ.head refl, refl)) (⊎_map (λ z. z) (λ h. (h.0, Memᴰ.tail h.1, h.2)) (latest_of_had rs))

-- of rows put together it is the later of those of both
pub latest_of_append : (xs ys : List Row) → latest_of (xs ++ ys) ≡ max (latest_of xs) (latest_of ys)
unfolding latest_of
latest_of_append [] ys = omega arith
latest_of_append (r ∷ xs) ys = omega (arith, latest_of_append xs ys)

-- it stays where each row keeps its own
pub latest_of_map : (f : Row → Row) → ((r : Row) → (f r).latest ≡ r.latest) → (rs : List Row) → latest_of (map f rs) ≡ latest_of rs
unfolding latest_of
latest_of_map f same [] = refl
latest_of_map f same (r ∷ rs) = ap₂ max (same r) (latest_of_map f same rs)
