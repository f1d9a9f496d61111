-- Rows and the words of a directory are the same in two forms; the entries one after the other, and the one that is picked.
use mathlib.Core.Path.{◌≡◌, refl, ap, ◌∙◌}
use mathlib.Core.List.{List, [], ◌∷◌, ◌++◌}
use mathlib.Core.Option.{none, some}
use Prim.Native.Nat.{ℕ, zero, suc, ◌+◌, ◌-◌, ◌*◌, ◌≤◌, ◌<◌, max}
use native.Mathlib.Nat.{add-zero, add_assoc}
use native.Mathlib.Omega.{arith}
use lib.ListN.{length, take, drop, get_or}
use lib.Seq.{get_or-drop, drop-drop}
use Rattle.grammar.specs.Sizes.{entry_width}
use Rattle.grammar.specs.Words.{Row, rows_words, latest_of}
use Rattle.amending.specs.Amending.{Pick, onto, pick}
use Rattle.amending.specs.Lent.{sum_records}
use Rattle.amending.specs.Entries.{row_at, rows_from, pick_at}
use Rattle.amending.proofs.AmendingLaws.{pick_is}

-- ---- rows and words

-- the rows of the words of rows
pub rows_of_words : (rs : List Row) (t : List ℕ) → rows_from (length rs) (rows_words rs ++ t) ≡ rs
unfolding rows_from
rows_of_words [] t = refl
rows_of_words (r ∷ rs) t = ap (λ (l : List Row). r ∷ l) (rows_of_words rs t)

-- the words of the rows of words
pub words_of_rows : (k : ℕ) (d : List ℕ) → entry_width * k ≤ length d → rows_words (rows_from k d) ≡ take (entry_width * k) d
unfolding rows_from
words_of_rows zero d h = refl
words_of_rows (suc k) [] h = absurd (omega arith)
words_of_rows (suc k) (a ∷ []) h = absurd (omega arith)
words_of_rows (suc k) (a ∷ b ∷ []) h = absurd (omega arith)
words_of_rows (suc k) (a ∷ b ∷ r ∷ []) h = absurd (omega arith)
words_of_rows (suc k) (a ∷ b ∷ r ∷ t ∷ []) h = absurd (omega arith)
words_of_rows (suc k) (a ∷ b ∷ r ∷ t ∷ x ∷ d) h =
    let e : entry_width * suc k ≡ suc (suc (suc (suc (suc (entry_width * k))))) = omega arith in
    rw e (ap (λ (l : List ℕ). a ∷ b ∷ r ∷ t ∷ x ∷ l) (words_of_rows k d (omega arith)))

pub rows_count : (k : ℕ) (d : List ℕ) → length (rows_from k d) ≡ k
unfolding rows_from
rows_count zero d = refl
rows_count (suc k) d = ap suc (rows_count k (drop entry_width d))

-- ---- one entry after the other

-- of n entries those from number k on: the first stands at its words, the rest an entry's words on
pub rows_turn : (d : List ℕ) (k n : ℕ) → k < n
    → rows_from (n - k) (drop (entry_width * k) d) ≡ row_at d (entry_width * k) ∷ rows_from (n - (k + 1)) (drop (entry_width * (k + 1)) d)
unfolding rows_from
rows_turn d k n h =
    let one : n - k ≡ suc (n - (k + 1)) = omega arith in
    let on : entry_width * (k + 1) ≡ entry_width * k + entry_width = omega arith in
    rw (one, on) (simp (get_or-drop, add-zero, drop-drop))

pub rows_none : (d : List ℕ) (left : ℕ) → left ≡ 0 → rows_from left d ≡ []
unfolding rows_from
rows_none d left h = rw h

pub records_turn : (d : List ℕ) (k n : ℕ) → k < n
    → sum_records (rows_from (n - k) (drop (entry_width * k) d)) ≡ get_or d (entry_width * k + 2) 0 + sum_records (rows_from (n - (k + 1)) (drop (entry_width * (k + 1)) d))
records_turn d k n h = ap sum_records (rows_turn d k n h)

pub records_none : (d : List ℕ) (left : ℕ) → left ≡ 0 → sum_records (rows_from left d) ≡ 0
records_none d left h = ap sum_records (rows_none d left h)

pub latest_turn : (d : List ℕ) (k n : ℕ) → k < n
    → latest_of (rows_from (n - k) (drop (entry_width * k) d)) ≡ max (get_or d (entry_width * k + 4) 0) (latest_of (rows_from (n - (k + 1)) (drop (entry_width * (k + 1)) d)))
unfolding latest_of
latest_turn d k n h = ap latest_of (rows_turn d k n h)

pub latest_none : (d : List ℕ) (left : ℕ) → left ≡ 0 → latest_of (rows_from left d) ≡ 0
unfolding latest_of
latest_none d left h = ap latest_of (rows_none d left h)

-- ---- the entry that is picked

pub pick_here : (k n : ℕ) (d : List ℕ) → k < n → pick k (rows_from n d) ≡ some (pick_at k n d)
unfolding pick rows_from
pick_here zero zero d h = absurd (omega arith)
pick_here zero (suc n) d h =
    let e : suc n - 1 - 0 ≡ n = omega arith in
    rw e
pick_here (suc k) zero d h = absurd (omega arith)
pick_here (suc k) (suc n) d h =
    let e : suc n - 1 - suc k ≡ n - 1 - k = omega arith in
    let a : entry_width * suc k ≡ entry_width + entry_width * k = omega arith in
    ap (onto (row_at d 0)) (pick_here k n (drop entry_width d) (omega arith)) ∙ rw (e, a) (simp (get_or-drop, drop-drop, add_assoc))

pub pick_past : (k n : ℕ) (d : List ℕ) → n ≤ k → pick k (rows_from n d) ≡ none
unfolding pick rows_from
pick_past k zero d h = refl
pick_past zero (suc n) d h = absurd (omega arith)
pick_past (suc k) (suc n) d h = ap (onto (row_at d 0)) (pick_past k n (drop entry_width d) (omega arith))

-- the entries are those before it, it, and those behind it
pub rows_split : (k n : ℕ) (d : List ℕ) → k < n → let p : Pick Row = pick_at k n d in rows_from n d ≡ p.before ++ (p.one ∷ p.behind)
rows_split k n d h = (pick_is k (rows_from n d) (pick_at k n d) (pick_here k n d h)).0
